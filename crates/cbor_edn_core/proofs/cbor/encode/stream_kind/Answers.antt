use Rattle.std.proofs.Common.{◌≡◌, ◌&&◌, true, false, map, sym, ap, ◌∙◌}
use Rattle.cbor_edn_parts.specs.Leaves.{list_end_bytes}
use Rattle.cbor_edn_core.specs.declared.tree.StringsOf.{out-StringsOf}
use Rattle.cbor_edn_model.specs.tree.Trees.{items}
use Rattle.cbor_edn_core.specs.tree.View.{view_string, seen_string}
use Rattle.cbor_edn_model.specs.tree.TreeLeaves.{texts}
use Rattle.cbor_edn_model.specs.cbor.Meaning.{same_kind}
use Rattle.cbor_edn_model.specs.internal.Encoding.{first_kind, form_kind, kinds_are, row_items}
use Rattle.cbor_edn_model.proofs.lemmas.cbor.StringEncodes.{kind_told, both_are}
use Rattle.cbor_edn_core.proofs.lemmas.tree.Views.{view_strings_is}
use Rattle.cbor_edn_core.proofs.cbor.encode.stream_kind.Goals as goal
use Rattle.cbor_edn_core.proofs.cbor.encode.stream_kind.Goals.{else-are_of_kind-via-then-are_of_kind+else-same_kind, else-are_of_kind-via-else-are_of_kind}

pub returns-then-same_kind : goal.returns-then-same_kind
returns-then-same_kind c =
    let f = out-StringsOf _ _ _ _ _ _ _ c.args.strings.now in
    let is = view_strings_is texts c.args.strings.now in
    let k = c.first_kind-kind.result in
    let row = kinds_are k (row_items (map (seen_string texts) f.row.items)) in
    let last = same_kind k (form_kind (items (view_string texts f.last))) in
    let a : row ≡ true = ap (λ xs. kinds_are k (row_items (map (seen_string texts) xs))) (sym c.deref.ensures.value) ∙ sym c.are_of_kind.ensures ∙ c.if-are_of_kind.true in
    let b : last ≡ true = ap (same_kind k) (sym c.form_kind.ensures) ∙ sym c.same_kind.ensures ∙ c.if-same_kind.true in
    rw is (kind_told (map (seen_string texts) f.row.items) (view_string texts f.last) (list_end_bytes f.end) k true (c.first_kind-kind.ensures ∙ ap (λ w. first_kind (items w)) is) (both_are row last true true a b))

pub returns-else-are_of_kind : goal.returns-else-are_of_kind
returns-else-are_of_kind c =
    let f = out-StringsOf _ _ _ _ _ _ _ c.args.strings.now in
    let is = view_strings_is texts c.args.strings.now in
    let k = c.first_kind-kind.result in
    let row = kinds_are k (row_items (map (seen_string texts) f.row.items)) in
    let last = same_kind k (form_kind (items (view_string texts f.last))) in
    let a : row ≡ c.are_of_kind.result = ap (λ xs. kinds_are k (row_items (map (seen_string texts) xs))) (sym c.deref.ensures.value) ∙ sym c.are_of_kind.ensures in
    let mixed : (row && last) ≡ false = elim c.else-are_of_kind.branch [
      | else-are_of_kind-via-then-are_of_kind+else-same_kind w ↦
          (let b : last ≡ false = ap (same_kind k) (sym w.form_kind.ensures) ∙ sym w.same_kind.ensures ∙ w.if-same_kind.false in
          both_are row last true false (a ∙ w.if-are_of_kind.true) b)
      | else-are_of_kind-via-else-are_of_kind w ↦ ap (λ b. b && last) (a ∙ w.if-are_of_kind.false)
    ] in
    rw is (kind_told (map (seen_string texts) f.row.items) (view_string texts f.last) (list_end_bytes f.end) k false (c.first_kind-kind.ensures ∙ ap (λ w. first_kind (items w)) is) mixed)
