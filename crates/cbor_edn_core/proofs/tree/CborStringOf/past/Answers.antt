use Rattle.std.proofs.Common.{◌∙◌, length, map, subst, arith}
use Rattle.cbor_edn_model.specs.access.Paths.{items_in}
use Rattle.cbor_edn_model.specs.internal.Counted.{IsCounted}
use Rattle.cbor_edn_core.specs.tree.View.{view_piece}
use Rattle.cbor_edn_core.proofs.lemmas.access.ItemNumbers.{before_last, past_last}
use Rattle.cbor_edn_core.proofs.tree.CborStringOf.past.Goals as goal

pub returns-then-place-len : goal.returns-then-place-len
returns-then-place-len g c = λ leaves.
    let row = c.args.self.now.row in
    let counted = subst (λ ps. IsCounted (map (λ p. length (items_in (view_piece leaves p.0))) ps) c.args.i c.piece_at-place.result) c.deref.ensures.value (c.piece_at-place.ensures leaves) in
    before_last leaves c.args.self.now c.args.i c.piece_at-place.result.0 c.piece_at-place.result.1 counted (omega (arith, c.if-place-len.true, c.len.ensures, row.ok.0))

pub returns : goal.returns
returns g c = λ leaves.
    let row = c.args.self.now.row in
    let counted = subst (λ ps. IsCounted (map (λ p. length (items_in (view_piece leaves p.0))) ps) c.args.i c.piece_at-place.result) c.deref.ensures.value (c.piece_at-place.ensures leaves) in
    c.past.ensures leaves ∙ past_last leaves c.args.self.now c.args.i c.piece_at-place.result.0 c.piece_at-place.result.1 counted (omega (arith, c.if-place-len.false, c.len.ensures, row.ok.0))
