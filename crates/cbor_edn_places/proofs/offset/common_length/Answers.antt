use Rattle.std.proofs.Common.{◌≡◌, ◌<◌, ◌+◌, suc, length, drop, arith, sym, subst}
use Rattle.cbor_edn_places.specs.internal.Common.{common}
use Rattle.cbor_edn_places.proofs.Offsets.{at_end, at_own_end, at_other, at_same}
use Rattle.cbor_edn_places.proofs.offset.common_length.Goals as goal

pub returns-then-at-other : goal.returns-then-at-other
returns-then-at-other c =
    let none = at_end c.args.one.now c.args.other.now c.loop-at.at (omega arith) in
    omega (arith, none, c.loop-at.invariant)

pub returns-then-other-at : goal.returns-then-other-at
returns-then-other-at c =
    let lt : c.loop-at.at < length c.args.one.now = omega arith in
    let less : c.loop-at.at < length c.args.other.now = omega arith in
    let none = at_other c.args.one.now c.args.other.now c.loop-at.at lt less (λ e. c.if-other-at.true (sym e)) in
    omega (arith, none, c.loop-at.invariant)

pub loop-at-preserved : goal.loop-at-preserved
loop-at-preserved c =
    let lt : c.loop-at.at < length c.args.one.now = omega arith in
    let less : c.loop-at.at < length c.args.other.now = omega arith in
    let one = at_same c.args.one.now c.args.other.now c.loop-at.at lt less (sym c.if-other-at.false) in
    let next : c.loop-at.at + 1 ≡ suc c.loop-at.at = omega arith in
    let whole : common c.args.one.now c.args.other.now ≡ suc c.loop-at.at + common (drop (suc c.loop-at.at) c.args.one.now) (drop (suc c.loop-at.at) c.args.other.now) = omega (arith, one, c.loop-at.invariant) in
    subst (λ k. common c.args.one.now c.args.other.now ≡ k + common (drop k c.args.one.now) (drop k c.args.other.now)) (sym next) whole

pub returns : goal.returns
returns c =
    let none = at_own_end c.args.one.now c.args.other.now c.loop-at.at (omega arith) in
    omega (arith, none, c.loop-at.invariant)
