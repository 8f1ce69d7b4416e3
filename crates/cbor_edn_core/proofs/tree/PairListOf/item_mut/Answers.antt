use borrow.Enum.Total.{values_o}
use denote.Param.{param}
use Rattle.std.proofs.Common.{◌∙◌, refl, sym, ap, slice_get}
use Rattle.cbor_edn_model.specs.text.ListHeads.{view_list_head}
use Rattle.cbor_edn_model.specs.access.Paths.{items_in, with_item}
use Rattle.cbor_edn_model.specs.tree.Trees.{FullTree}
use Rattle.cbor_edn_core.specs.tree.View.{view_item, view_pairs, view_pair_list}
use Rattle.cbor_edn_core.specs.contracts.tree.PairListOf as pair_list
use Rattle.cbor_edn_core.specs.declared.tree.PairListOf.TheVariants.{Present}
use Rattle.cbor_edn_core.proofs.lemmas.access.Replaced.{then_some, viewed, with_part_of}
use Rattle.cbor_edn_core.proofs.tree.PairListOf.item_mut.Goals as goal

pub returns-in-Present : goal.returns-in-Present
returns-in-Present g c =
    let head = c.in-Present.head in
    let s = c.in-Present.space in
    let read = values_o (pair_list.enum (param 0 g.row.O) (param 1 g.row.M) (param 2 g.row.C) (param 3 g.row.E) (param 4 g.row.N) (param 5 g.row.L) (param 6 g.row.D)) 0 in (
      (
        refl,
        λ w. then_some c.item_mut.result (c.item_mut.follows.holds w) (λ h leaves. viewed (view_pair_list leaves) (Present head s (c.item_mut.follows.lender w)) (with_part_of read (λ v m. Present v.0 v.1.0 m) (c.item_mut.follows.lender w) c.in-Present.is refl)
            (ap (FullTree (view_list_head leaves head) (leaves.space s)) (h leaves ∙ ap (λ x. with_item c.args.i (view_item leaves w) (view_pairs leaves x)) c.in-Present.pairs-is) ∙ sym (ap (λ x. with_item c.args.i (view_item leaves w) (view_pair_list leaves x)) c.in-Present.is))),
        λ leaves. viewed (view_pair_list leaves) (Present head s c.item_mut.follows.lender-at-none) (with_part_of read (λ v m. Present v.0 v.1.0 m) c.item_mut.follows.lender-at-none c.in-Present.is refl)
            (ap (FullTree (view_list_head leaves head) (leaves.space s)) (c.item_mut.follows.holds-at-none leaves ∙ ap (view_pairs leaves) c.in-Present.pairs-is) ∙ sym (ap (view_pair_list leaves) c.in-Present.is)),
      ),
      record { lent = tt; value = λ leaves. c.item_mut.ensures.value leaves ∙ ap (λ x. slice_get (items_in (view_pairs leaves x)) c.args.i) c.in-Present.pairs-is ∙ sym (ap (λ x. slice_get (items_in (view_pair_list leaves x)) c.args.i) c.in-Present.is) },
    )
