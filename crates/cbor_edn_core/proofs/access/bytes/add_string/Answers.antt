use Rattle.std.proofs.Common.{ℕ, ◌+◌, List, Option, map, drop, subst, arith}
use Rattle.std.proofs.lemmas.List.{drop_all}
use Rattle.std.proofs.lemmas.Result.{err_from_is_err_and}
use Rattle.cbor_edn_core.specs.tree.View.{seen_piece, view_piece}
use Rattle.cbor_edn_core.specs.declared.access.TypeMismatch.TheVariants.{Bytes}
use Rattle.cbor_edn_model.specs.access.Accessed.{piece_bytes}
use Rattle.cbor_edn_model.specs.tree.TreeLeaves.{texts}
use Rattle.cbor_edn_model.specs.tree.Trees.{Tree, OnePiece}
use Rattle.cbor_edn_model.proofs.lemmas.access.AddedBytes.{AddsLeft, none_added, next_added, next_stops, last_added, string_made}
use Rattle.cbor_edn_model.proofs.lemmas.cbor.CborEncodes.{rest_at}
use Rattle.cbor_edn_core.proofs.access.bytes.add_string.Goals as goal

abbrev bytes : Tree OnePiece × List ℕ × List ℕ → Option (List ℕ)
bytes q = piece_bytes q.0

pub loop-piece-init : goal.loop-piece-init
loop-piece-init c = none_added Bytes bytes (piece_bytes (view_piece texts c.args.string.now.last)) (map (seen_piece texts) c.deref-piece-items.result.now) c.args.out.now.items

pub returns-in_err-add_piece : goal.returns-in_err-add_piece
returns-in_err-add_piece c =
    let row = c.deref-piece-items.result.now in
    let x = c.loop-piece-item.result in
    let i = c.loop-piece.piece-index in
    let last = piece_bytes (view_piece texts c.args.string.now.last) in
    let p = err_from_is_err_and c.from_residual.result c.from_residual.ensures.1 in
    rw (p.1, p.2, string_made (map (seen_piece texts) c.args.string.now.row.items) (view_piece texts c.args.string.now.last), ← c.deref-piece-items.ensures.value)
    (next_stops Bytes bytes last (seen_piece texts x) (map (seen_piece texts) (drop (i + 1) row)) (map (seen_piece texts) row) c.args.out.now.items c.loop-piece.out.items c.add_piece.new.out.items c.in_err-add_piece.field-0.0 c.in_err-add_piece.ensures
    (subst (λ left. AddsLeft Bytes bytes last left (map (seen_piece texts) row) c.loop-piece.out.items c.args.out.now.items) (rest_at (seen_piece texts) row i x c.loop-piece-test.true c.loop-piece-item.is) c.loop-piece.invariant))

pub loop-piece-preserved : goal.loop-piece-preserved
loop-piece-preserved c =
    let row = c.deref-piece-items.result.now in
    let x = c.loop-piece-item.result in
    let i = c.loop-piece.piece-index in
    let last = piece_bytes (view_piece texts c.args.string.now.last) in
    next_added Bytes bytes last (seen_piece texts x) (map (seen_piece texts) (drop (i + 1) row)) (map (seen_piece texts) row) c.args.out.now.items c.loop-piece.out.items c.add_piece.new.out.items c.in_ok-add_piece.ensures
    (subst (λ left. AddsLeft Bytes bytes last left (map (seen_piece texts) row) c.loop-piece.out.items c.args.out.now.items) (rest_at (seen_piece texts) row i x c.loop-piece-test.true c.loop-piece-item.is) c.loop-piece.invariant)

pub returns : goal.returns
returns c =
    let row = c.deref-piece-items.result.now in
    let last = piece_bytes (view_piece texts c.args.string.now.last) in
    rw (string_made (map (seen_piece texts) c.args.string.now.row.items) (view_piece texts c.args.string.now.last), ← c.deref-piece-items.ensures.value)
    (last_added Bytes bytes last (map (seen_piece texts) row) c.args.out.now.items c.loop-piece.out.items c.add_piece-2.new.out.items c.add_piece-2.result c.add_piece-2.ensures
    (subst (λ left. AddsLeft Bytes bytes last (map (seen_piece texts) left) (map (seen_piece texts) row) c.loop-piece.out.items c.args.out.now.items) (drop_all c.loop-piece.piece-index row (omega arith)) c.loop-piece.invariant))
