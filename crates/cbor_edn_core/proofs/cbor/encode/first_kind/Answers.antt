use Rattle.std.proofs.Common.{◌≡◌, ◌<◌, ◌≤◌, length, map, get_or, subst, ◌∙◌, ap, sym}
use Rattle.std.proofs.lemmas.List.{length-map}
use Rattle.cbor_edn_parts.specs.Leaves.{separator_bytes, list_end_bytes}
use Rattle.cbor_edn_core.specs.declared.tree.StringsOf.{out-StringsOf}
use Rattle.cbor_edn_model.specs.tree.Trees.{items, ChunkTree, LastTree}
use Rattle.cbor_edn_core.specs.tree.View.{view_string, seen_string}
use Rattle.cbor_edn_model.specs.tree.TreeLeaves.{texts}
use Rattle.cbor_edn_model.specs.internal.Encoding.{form_kind}
use Rattle.cbor_edn_model.proofs.lemmas.cbor.StringEncodes.{first_of_none, first_of_some}
use Rattle.cbor_edn_core.proofs.lemmas.tree.Views.{view_strings_is}
use Rattle.cbor_edn_core.proofs.cbor.encode.first_kind.Goals as goal

pub returns-in-empty : goal.returns-in-empty
returns-in-empty c =
    let f = out-StringsOf _ _ _ _ _ _ _ c.args.strings.now in
    let empty : length f.row.items < 1 = subst (λ xs. length xs < 1) c.as_slice.ensures.value c.in-empty.len_below in
    rw (view_strings_is texts c.args.strings.now)
    (c.form_kind.ensures ∙ sym (first_of_none (map (seen_string texts) f.row.items) (view_string texts f.last) (list_end_bytes f.end) (simp length-map empty)))

pub returns-in-len1-up : goal.returns-in-len1-up
returns-in-len1-up c =
    let f = out-StringsOf _ _ _ _ _ _ _ c.args.strings.now in
    let x = c.index-string-0.result in
    let first : x ≡ get_or f.row.items 0 x = subst (λ xs. x ≡ get_or xs 0 x) c.as_slice.ensures.value c.index-string-0.is in
    let some : 1 ≤ length f.row.items = subst (λ xs. 1 ≤ length xs) c.as_slice.ensures.value c.in-len1-up.len_at_least in
    rw (view_strings_is texts c.args.strings.now)
    (c.form_kind-in-len1-up.ensures ∙ ap (λ x. form_kind (items (view_string texts x.0))) (sym c.index-string-0.is) ∙ sym (first_of_some (λ p. view_string texts p.0) (λ p. separator_bytes p.1) f.row.items x (LastTree (ChunkTree (view_string texts f.last)) (list_end_bytes f.end)) some first))
