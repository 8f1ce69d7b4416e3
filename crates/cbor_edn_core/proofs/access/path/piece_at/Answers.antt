use Rattle.std.proofs.Common.{◌≡◌, length, Some, None, subst, sym}
use Rattle.cbor_edn_model.specs.access.Paths.{items_in}
use Rattle.cbor_edn_model.specs.internal.Counted.{past_of}
use Rattle.cbor_edn_model.proofs.lemmas.access.CountedItems.{further, found_here, found_behind}
use Rattle.cbor_edn_core.specs.tree.View.{view_piece}
use Rattle.cbor_edn_core.proofs.access.path.piece_at.Goals as goal

pub returns-in-None : goal.returns-in-None
returns-in-None g c = λ leaves.
    found_here (λ p. length (items_in (view_piece leaves p.0))) c.args.row.now c.args.i c.pieces.place c.pieces.left c.index-row-place.result c.pieces-test.true c.index-row-place.is (c.pieces.invariant leaves).1
    (subst (λ z. None ≡ past_of (length (items_in (view_piece leaves z.0))) c.pieces.left) (sym c.index-row-place.is) (c.in-None.ensures leaves))

pub pieces-preserved : goal.pieces-preserved
pieces-preserved g c = λ leaves.
    further (λ p. length (items_in (view_piece leaves p.0))) c.args.row.now c.args.i c.pieces.place c.pieces.left c.index-row-place.result c.pieces-test.true c.index-row-place.is (c.pieces.invariant leaves).1
    c.in-Some.rest (subst (λ z. Some c.in-Some.rest ≡ past_of (length (items_in (view_piece leaves z.0))) c.pieces.left) (sym c.index-row-place.is) (c.in-Some.ensures leaves))

pub returns : goal.returns
returns g c = λ leaves.
    found_behind (λ p. length (items_in (view_piece leaves p.0))) c.args.row.now c.args.i c.pieces.place c.pieces.left (c.pieces.invariant leaves).0 c.pieces-test.false (c.pieces.invariant leaves).1
