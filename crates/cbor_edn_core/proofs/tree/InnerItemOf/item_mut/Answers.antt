use Rattle.std.proofs.Common.{◌≡◌, ◌∙◌, refl, sym, ap, slice_get}
use Rattle.std.proofs.lemmas.Bool.{false≢true}
use Rattle.std.specs.Box.{with_value}
use Rattle.cbor_edn_model.specs.tree.Items as kind
use Rattle.cbor_edn_model.specs.access.Paths.{items_in, with_item}
use Rattle.cbor_edn_model.specs.tree.Trees.{EnclosedTree, ListTree, StringTree}
use Rattle.cbor_edn_model.specs.internal.Counted.{is_simple_item}
use Rattle.cbor_edn_model.proofs.lemmas.access.ReplacedItems.{nothing_below, tag_items, tag_with}
use Rattle.cbor_edn_core.specs.tree.View.{view_inner, view_item, view_list, view_pair_list, view_string, view_stream, view_standalone}
use Rattle.cbor_edn_core.specs.declared.tree.InnerItemOf.TheVariants.{Enclosed, Array, Map, String, Stream, outs-Enclosed, outs-Array, outs-Map, outs-String, outs-Stream}
use Rattle.cbor_edn_core.proofs.lemmas.access.Replaced.{then_some, viewed}
use Rattle.cbor_edn_core.proofs.lemmas.tree.Views.{view_string_is}
use Rattle.cbor_edn_core.proofs.tree.InnerItemOf.item_mut.Goals as goal

pub returns-then-is_simple_item : goal.returns-then-is_simple_item
returns-then-is_simple_item g c =
    ((refl, λ w. tt, λ leaves. refl), record { lent = tt; value = λ leaves. nothing_below (view_inner leaves c.args.self.now) c.args.i (sym (c.is_simple_item.ensures leaves) ∙ c.if-is_simple_item.true) })

pub returns-in-Enclosed : goal.returns-in-Enclosed
returns-in-Enclosed g c =
    let b = c.in-Enclosed.content in
    let read : c.deref_mut.result.now ≡ b.value = c.deref_mut.ensures.value ∙ ap (λ b. b.value) c.in-Enclosed.content-is in (
      (
        refl,
        λ w. then_some c.item_mut.result (c.item_mut.follows.holds w) (λ h leaves. viewed (view_inner leaves) (Enclosed c.in-Enclosed.field-0 (with_value b (c.item_mut.follows.lender w))) (rw (c.in-Enclosed.is, outs-Enclosed c.in-Enclosed.field-0 c.in-Enclosed.content) refl)
            (ap (EnclosedTree c.in-Enclosed.field-0.kind) (h leaves ∙ ap (λ x. with_item c.args.i (view_item leaves w) (view_standalone leaves x)) read) ∙ sym (tag_with c.in-Enclosed.field-0.kind (view_standalone leaves b.value) (λ e. false≢true (sym c.if-is_simple_item.false ∙ c.is_simple_item.ensures leaves ∙ ap (λ x. is_simple_item (view_inner leaves x)) c.in-Enclosed.is ∙ e)) c.args.i (view_item leaves w)) ∙ sym (ap (λ x. with_item c.args.i (view_item leaves w) (view_inner leaves x)) c.in-Enclosed.is))),
        λ leaves. viewed (view_inner leaves) (Enclosed c.in-Enclosed.field-0 (with_value b c.item_mut.follows.lender-at-none)) (rw (c.in-Enclosed.is, outs-Enclosed c.in-Enclosed.field-0 c.in-Enclosed.content) refl)
            (ap (EnclosedTree c.in-Enclosed.field-0.kind) (c.item_mut.follows.holds-at-none leaves ∙ ap (view_standalone leaves) read) ∙ sym (ap (view_inner leaves) c.in-Enclosed.is)),
      ),
      record { lent = tt; value = λ leaves. c.item_mut.ensures.value leaves ∙ ap (λ s. slice_get (items_in (view_standalone leaves s)) c.args.i) read ∙ sym (ap (λ l. slice_get l c.args.i) (tag_items c.in-Enclosed.field-0.kind (view_standalone leaves b.value) (λ e. false≢true (sym c.if-is_simple_item.false ∙ c.is_simple_item.ensures leaves ∙ ap (λ x. is_simple_item (view_inner leaves x)) c.in-Enclosed.is ∙ e)))) ∙ sym (ap (λ x. slice_get (items_in (view_inner leaves x)) c.args.i) c.in-Enclosed.is) },
    )

pub returns-in-Array : goal.returns-in-Array
returns-in-Array g c =
    let b = c.in-Array.list in
    let read : c.deref_mut-in-Array.result.now ≡ b.value = c.deref_mut-in-Array.ensures.value ∙ ap (λ b. b.value) c.in-Array.list-is in (
      (
        refl,
        λ w. then_some c.item_mut-in-Array.result (c.item_mut-in-Array.follows.holds w) (λ h leaves. viewed (view_inner leaves) (Array (with_value b (c.item_mut-in-Array.follows.lender w))) (rw (c.in-Array.is, outs-Array c.in-Array.list) refl)
            (ap (ListTree kind.Array) (h leaves ∙ ap (λ x. with_item c.args.i (view_item leaves w) (view_list leaves x)) read) ∙ sym (ap (λ x. with_item c.args.i (view_item leaves w) (view_inner leaves x)) c.in-Array.is))),
        λ leaves. viewed (view_inner leaves) (Array (with_value b c.item_mut-in-Array.follows.lender-at-none)) (rw (c.in-Array.is, outs-Array c.in-Array.list) refl)
            (ap (ListTree kind.Array) (c.item_mut-in-Array.follows.holds-at-none leaves ∙ ap (view_list leaves) read) ∙ sym (ap (view_inner leaves) c.in-Array.is)),
      ),
      record { lent = tt; value = λ leaves. c.item_mut-in-Array.ensures.value leaves ∙ ap (λ s. slice_get (items_in (view_list leaves s)) c.args.i) read ∙ sym (ap (λ x. slice_get (items_in (view_inner leaves x)) c.args.i) c.in-Array.is) },
    )

pub returns-in-Map : goal.returns-in-Map
returns-in-Map g c =
    let b = c.in-Map.list in
    let read : c.deref_mut-in-Map.result.now ≡ b.value = c.deref_mut-in-Map.ensures.value ∙ ap (λ b. b.value) c.in-Map.list-is in (
      (
        refl,
        λ w. then_some c.item_mut-in-Map.result (c.item_mut-in-Map.follows.holds w) (λ h leaves. viewed (view_inner leaves) (Map (with_value b (c.item_mut-in-Map.follows.lender w))) (rw (c.in-Map.is, outs-Map c.in-Map.list) refl)
            (ap (ListTree kind.Map) (h leaves ∙ ap (λ x. with_item c.args.i (view_item leaves w) (view_pair_list leaves x)) read) ∙ sym (ap (λ x. with_item c.args.i (view_item leaves w) (view_inner leaves x)) c.in-Map.is))),
        λ leaves. viewed (view_inner leaves) (Map (with_value b c.item_mut-in-Map.follows.lender-at-none)) (rw (c.in-Map.is, outs-Map c.in-Map.list) refl)
            (ap (ListTree kind.Map) (c.item_mut-in-Map.follows.holds-at-none leaves ∙ ap (view_pair_list leaves) read) ∙ sym (ap (view_inner leaves) c.in-Map.is)),
      ),
      record { lent = tt; value = λ leaves. c.item_mut-in-Map.ensures.value leaves ∙ ap (λ s. slice_get (items_in (view_pair_list leaves s)) c.args.i) read ∙ sym (ap (λ x. slice_get (items_in (view_inner leaves x)) c.args.i) c.in-Map.is) },
    )

pub returns-in-String : goal.returns-in-String
returns-in-String g c =
    let b = c.in-String.string in
    let read : c.deref_mut-in-String.result.now ≡ b.value = c.deref_mut-in-String.ensures.value ∙ ap (λ b. b.value) c.in-String.string-is in (
      (
        refl,
        λ w. then_some c.item_mut-in-String.result (c.item_mut-in-String.follows.holds w) (λ h leaves. viewed (view_inner leaves) (String (with_value b (c.item_mut-in-String.follows.lender w))) (rw (c.in-String.is, outs-String c.in-String.string) refl)
            (view_string_is leaves (with_value b (c.item_mut-in-String.follows.lender w)) ∙ ap StringTree (h leaves ∙ ap (λ x. with_item c.args.i (view_item leaves w) (view_string leaves x)) read) ∙ sym (ap (λ t. with_item c.args.i (view_item leaves w) t) (view_string_is leaves b)) ∙ sym (ap (λ x. with_item c.args.i (view_item leaves w) (view_inner leaves x)) c.in-String.is))),
        λ leaves. viewed (view_inner leaves) (String (with_value b c.item_mut-in-String.follows.lender-at-none)) (rw (c.in-String.is, outs-String c.in-String.string) refl)
            (view_string_is leaves (with_value b c.item_mut-in-String.follows.lender-at-none) ∙ ap StringTree (c.item_mut-in-String.follows.holds-at-none leaves ∙ ap (view_string leaves) read) ∙ sym (view_string_is leaves b) ∙ sym (ap (view_inner leaves) c.in-String.is)),
      ),
      record { lent = tt; value = λ leaves. c.item_mut-in-String.ensures.value leaves ∙ ap (λ s. slice_get (items_in (view_string leaves s)) c.args.i) read ∙ sym (ap (λ t. slice_get (items_in t) c.args.i) (view_string_is leaves b)) ∙ sym (ap (λ x. slice_get (items_in (view_inner leaves x)) c.args.i) c.in-String.is) },
    )

pub returns-in-Stream : goal.returns-in-Stream
returns-in-Stream g c =
    let b = c.in-Stream.stream in
    let read : c.deref_mut-in-Stream.result.now ≡ b.value = c.deref_mut-in-Stream.ensures.value ∙ ap (λ b. b.value) c.in-Stream.stream-is in (
      (
        refl,
        λ w. then_some c.item_mut-in-Stream.result (c.item_mut-in-Stream.follows.holds w) (λ h leaves. viewed (view_inner leaves) (Stream (with_value b (c.item_mut-in-Stream.follows.lender w))) (rw (c.in-Stream.is, outs-Stream c.in-Stream.stream) refl)
            (h leaves ∙ ap (λ x. with_item c.args.i (view_item leaves w) (view_stream leaves x)) read ∙ sym (ap (λ x. with_item c.args.i (view_item leaves w) (view_inner leaves x)) c.in-Stream.is))),
        λ leaves. viewed (view_inner leaves) (Stream (with_value b c.item_mut-in-Stream.follows.lender-at-none)) (rw (c.in-Stream.is, outs-Stream c.in-Stream.stream) refl)
            (c.item_mut-in-Stream.follows.holds-at-none leaves ∙ ap (view_stream leaves) read ∙ sym (ap (view_inner leaves) c.in-Stream.is)),
      ),
      record { lent = tt; value = λ leaves. c.item_mut-in-Stream.ensures.value leaves ∙ ap (λ s. slice_get (items_in (view_stream leaves s)) c.args.i) read ∙ sym (ap (λ x. slice_get (items_in (view_inner leaves x)) c.args.i) c.in-Stream.is) },
    )
