use Rattle.std.proofs.Common.{◌∙◌, ◌<◌, ◌≤◌, length, map, refl, sym, ap, subst, arith}
use Rattle.std.proofs.lemmas.Option.{slice_get_read}
use Rattle.cbor_edn_model.specs.tree.TreeLeaves.{Ghosts}
use Rattle.cbor_edn_model.specs.access.Paths.{items_in}
use Rattle.cbor_edn_model.specs.tree.Trees.{LastPieceTree}
use Rattle.cbor_edn_model.specs.tree.Rows.{pieces_onto}
use Rattle.cbor_edn_model.specs.internal.Counted.{IsCounted}
use Rattle.cbor_edn_core.specs.tree.View.{seen_piece, view_piece}
use Rattle.cbor_edn_core.proofs.lemmas.access.ItemNumbers.{item_in_piece, item_in_last}
use Rattle.cbor_edn_core.proofs.lemmas.access.Replaced.{on_some, in_piece_replaced, in_last_piece_replaced, piece_kept}
use Rattle.cbor_edn_core.proofs.tree.CborStringOf.item_mut.Goals as goal

pub returns-then-place-len : goal.returns-then-place-len
returns-then-place-len g c =
    let x = c.args.self.now in
    let at = c.piece_at-place.result in
    let d = c.index_mut-entry.result.now in
    let e = c.index_mut-entry.ensures.value in
    let less : at.0 < length x.row.items = omega (arith, c.if-place-len.true, c.len.ensures, x.row.ok.0) in
    let counted : (leaves : Ghosts _ _ _ _ _ _ _) → IsCounted (map (λ p. length (items_in (view_piece leaves p.0))) x.row.items) c.args.i at = λ leaves. subst (λ ps. IsCounted (map (λ p. length (items_in (view_piece leaves p.0))) ps) c.args.i at) c.deref.ensures.value (c.piece_at-place.ensures leaves) in (
      (
        refl,
        λ w. on_some c.item_mut.result (λ h leaves. in_piece_replaced leaves w c.args.i x at.0 at.1 d _ (counted leaves) less e (h leaves)) (c.item_mut.follows.holds w),
        λ leaves. piece_kept leaves x at.0 d _ e (c.item_mut.follows.holds-at-none leaves),
      ),
      record { lent = tt; value = λ leaves. c.item_mut.ensures.value leaves ∙ sym (item_in_piece leaves x c.args.i at.0 at.1 d (counted leaves) (slice_get_read x.row.items (length x.row.items) at.0 d refl less e)) },
    )

pub returns : goal.returns
returns g c =
    let x = c.args.self.now in
    let at = c.piece_at-place.result in
    let more : length x.row.items ≤ at.0 = omega (arith, c.if-place-len.false, c.len.ensures, x.row.ok.0) in
    let counted : (leaves : Ghosts _ _ _ _ _ _ _) → IsCounted (map (λ p. length (items_in (view_piece leaves p.0))) x.row.items) c.args.i at = λ leaves. subst (λ ps. IsCounted (map (λ p. length (items_in (view_piece leaves p.0))) ps) c.args.i at) c.deref.ensures.value (c.piece_at-place.ensures leaves) in (
      (
        refl,
        λ w. on_some c.item_mut-2.result (λ h leaves. in_last_piece_replaced leaves w c.args.i x at.0 at.1 _ (counted leaves) more (h leaves)) (c.item_mut-2.follows.holds w),
        λ leaves. ap (λ t. pieces_onto (map (seen_piece leaves) x.row.items) (LastPieceTree t)) (c.item_mut-2.follows.holds-at-none leaves),
      ),
      record { lent = tt; value = λ leaves. c.item_mut-2.ensures.value leaves ∙ sym (item_in_last leaves x c.args.i at.0 at.1 (counted leaves) more) },
    )
