use Rattle.std.proofs.Common.{◌∙◌, ◌∷◌, [], refl, sym, ap, slice_get, Option, Some}
use borrow.Enum.Known.{at}
use borrow.Enum.Total.{values_o}
use denote.Param.{param}
use denote.Struct.At.{put_at}
use denote.Struct.Field.{row_field}
use Rattle.std.specs.contracts.option.Option as option
use Rattle.cbor_edn_core.specs.contracts.tree.ItemsOf.{the_row}
use Rattle.cbor_edn_model.specs.access.Paths.{items_in}
use Rattle.cbor_edn_core.specs.declared.tree.ItemsOf.{ItemsOf}
use Rattle.cbor_edn_core.specs.declared.tree.SequenceOf.{out-SequenceOf, roll-SequenceOf}
use Rattle.cbor_edn_core.specs.tree.View.{view_sequence, view_some}
use Rattle.cbor_edn_core.proofs.lemmas.tree.Views.{view_sequence_is}
use Rattle.cbor_edn_core.proofs.lemmas.access.Replaced.{on_some, viewed, with_part_of, in_sequence_replaced, sequence_kept}
use Rattle.cbor_edn_core.proofs.tree.SequenceOf.item_mut.Goals as goal

pub returns-in-Some : goal.returns-in-Some
returns-in-Some g c =
    let x = c.args.self.now in
    let items = c.in-Some.items in
    let Items : Type 0 = ItemsOf g.row.O.Denot g.row.M.Denot g.row.C.Denot g.row.E.Denot g.row.N.Denot g.row.L.Denot g.row.D.Denot in
    let row = the_row (param 0 g.row.O) (param 1 g.row.M) (param 2 g.row.C) (param 3 g.row.E) (param 4 g.row.N) (param 5 g.row.L) (param 6 g.row.D) in
    let read = values_o (option.enum row) 1 in
    let sequence = out-SequenceOf g.row.O.Denot g.row.M.Denot g.row.C.Denot g.row.E.Denot g.row.N.Denot g.row.L.Denot g.row.D.Denot x in
    let roll = roll-SequenceOf g.row.O.Denot g.row.M.Denot g.row.C.Denot g.row.E.Denot g.row.N.Denot g.row.L.Denot g.row.D.Denot in (
      (
        refl,
        λ w. on_some c.item_mut.result (λ h leaves. viewed (λ (held : Option Items). view_sequence leaves (roll (record sequence { items = held }))) (Some (c.item_mut.follows.lender w)) (with_part_of read (λ v m. at (option.enum row) 1 (put_at (row_field row ∷ []) 0 m v)) (c.item_mut.follows.lender w) c.in-Some.is refl) (in_sequence_replaced leaves w c.args.i x items (c.item_mut.follows.lender w) c.in-Some.is (rw c.in-Some.is at (h leaves)))) (c.item_mut.follows.holds w),
        λ leaves. viewed (λ (held : Option Items). view_sequence leaves (roll (record sequence { items = held }))) (Some c.item_mut.follows.lender-at-none) (with_part_of read (λ v m. at (option.enum row) 1 (put_at (row_field row ∷ []) 0 m v)) c.item_mut.follows.lender-at-none c.in-Some.is refl) (sequence_kept leaves x items c.item_mut.follows.lender-at-none c.in-Some.is (rw c.in-Some.is at (c.item_mut.follows.holds-at-none leaves))),
      ),
      record { lent = tt; value = λ leaves. rw c.in-Some.is at (c.item_mut.ensures.value leaves) ∙ sym (ap (λ w. slice_get (items_in w) c.args.i) (view_sequence_is leaves x ∙ ap (view_some leaves _) c.in-Some.is)) },
    )
