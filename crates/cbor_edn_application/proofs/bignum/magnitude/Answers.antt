use Rattle.std.proofs.Common.{ℕ, List, Fits, w8, get_or, arith, ◌+◌, ◌*◌, sym, subst}
use Rattle.cbor_edn_application.proofs.Magnitudes.{AreBelow, HasRead, read_more, next_fits}
use Rattle.cbor_edn_application.proofs.bignum.magnitude.Goals as goal

below : (bs : List ℕ) → ((i : ℕ) → Fits w8 (get_or bs i 0)) → AreBelow bs
below bs fits i = omega (arith, fits i)

pub overflow_mul-number : goal.overflow_mul-number
overflow_mul-number c =
    let l = c.loop-byte in
    omega (arith, next_fits c.args.bytes.now l.byte-index l.number (below c.args.bytes.now c.type_inv.bytes) c.requires c.loop-byte-test.true l.invariant)

pub overflow_add-number : goal.overflow_add-number
overflow_add-number c =
    let l = c.loop-byte in
    omega (arith, next_fits c.args.bytes.now l.byte-index l.number (below c.args.bytes.now c.type_inv.bytes) c.requires c.loop-byte-test.true l.invariant, c.from.ensures)

pub loop-byte-preserved : goal.loop-byte-preserved
loop-byte-preserved c =
    let l = c.loop-byte in
    subst (λ b. HasRead c.args.bytes.now (l.byte-index + 1) (l.number * 256 + b)) (sym c.from.ensures) (read_more c.args.bytes.now l.byte-index l.number c.loop-byte-test.true l.invariant)
