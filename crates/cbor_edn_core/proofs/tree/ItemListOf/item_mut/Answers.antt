use Rattle.std.proofs.Common.{◌∙◌, refl, sym, ap, slice_get}
use Rattle.cbor_edn_model.specs.text.ListHeads.{view_list_head}
use Rattle.cbor_edn_model.specs.access.Paths.{items_in, with_item}
use Rattle.cbor_edn_model.specs.tree.Trees.{FullTree}
use Rattle.cbor_edn_core.specs.tree.View.{view_item, view_items, view_list}
use Rattle.cbor_edn_core.specs.declared.tree.ItemListOf.TheVariants.{Present}
use Rattle.cbor_edn_core.proofs.lemmas.access.Replaced.{then_some, viewed}
use Rattle.cbor_edn_core.proofs.tree.ItemListOf.item_mut.Goals as goal

pub returns-in-Present : goal.returns-in-Present
returns-in-Present g c =
    let head = c.in-Present.head in
    let s = c.in-Present.space in (
      (
        refl,
        λ w. then_some c.item_mut.result (c.item_mut.follows.holds w) (λ h leaves. viewed (view_list leaves) (Present head s (c.item_mut.follows.lender w)) (rw c.in-Present.is refl)
            (ap (FullTree (view_list_head leaves head) (leaves.space s)) (h leaves ∙ ap (λ x. with_item c.args.i (view_item leaves w) (view_items leaves x)) c.in-Present.items-is) ∙ sym (ap (λ x. with_item c.args.i (view_item leaves w) (view_list leaves x)) c.in-Present.is))),
        λ leaves. viewed (view_list leaves) (Present head s c.item_mut.follows.lender-at-none) (rw c.in-Present.is refl)
            (ap (FullTree (view_list_head leaves head) (leaves.space s)) (c.item_mut.follows.holds-at-none leaves ∙ ap (view_items leaves) c.in-Present.items-is) ∙ sym (ap (view_list leaves) c.in-Present.is)),
      ),
      record { lent = tt; value = λ leaves. c.item_mut.ensures.value leaves ∙ ap (λ x. slice_get (items_in (view_items leaves x)) c.args.i) c.in-Present.items-is ∙ sym (ap (λ x. slice_get (items_in (view_list leaves x)) c.args.i) c.in-Present.is) },
    )
