use Rattle.std.proofs.Common.{◌≡◌, ◌∙◌, refl, sym, ap, slice_get}
use Rattle.std.specs.Box.{with_value}
use Rattle.cbor_edn_model.specs.access.Paths.{items_in, with_item}
use Rattle.cbor_edn_model.specs.tree.Trees.{EmbeddedTree}
use Rattle.cbor_edn_core.specs.tree.View.{view_item, view_piece, view_sequence}
use Rattle.cbor_edn_core.specs.declared.tree.PieceOf.TheVariants.{Embedded}
use Rattle.cbor_edn_core.proofs.lemmas.access.Replaced.{then_some, viewed}
use Rattle.cbor_edn_core.proofs.tree.PieceOf.item_mut.Goals as goal

pub returns-in-Embedded : goal.returns-in-Embedded
returns-in-Embedded g c =
    let b = c.in-Embedded.sequence in
    let read : c.deref_mut.result.now ≡ b.value = c.deref_mut.ensures.value ∙ ap (λ b. b.value) c.in-Embedded.sequence-is in (
      (
        refl,
        λ w. then_some c.item_mut.result (c.item_mut.follows.holds w) (λ h leaves. viewed (view_piece leaves) (Embedded c.in-Embedded.field-0 (with_value b (c.item_mut.follows.lender w))) (rw c.in-Embedded.is refl)
            (ap (λ t. EmbeddedTree t c.in-Embedded.field-0) (h leaves ∙ ap (λ x. with_item c.args.i (view_item leaves w) (view_sequence leaves x)) read) ∙ sym (ap (λ x. with_item c.args.i (view_item leaves w) (view_piece leaves x)) c.in-Embedded.is))),
        λ leaves. viewed (view_piece leaves) (Embedded c.in-Embedded.field-0 (with_value b c.item_mut.follows.lender-at-none)) (rw c.in-Embedded.is refl)
            (ap (λ t. EmbeddedTree t c.in-Embedded.field-0) (c.item_mut.follows.holds-at-none leaves ∙ ap (view_sequence leaves) read) ∙ sym (ap (view_piece leaves) c.in-Embedded.is)),
      ),
      record { lent = tt; value = λ leaves. c.item_mut.ensures.value leaves ∙ ap (λ s. slice_get (items_in (view_sequence leaves s)) c.args.i) read ∙ sym (ap (λ x. slice_get (items_in (view_piece leaves x)) c.args.i) c.in-Embedded.is) },
    )
