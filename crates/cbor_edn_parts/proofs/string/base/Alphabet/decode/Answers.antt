use Rattle.std.proofs.Common.{◌≡◌, false, eqb, sym, ⊎_elim, arith}
use Rattle.std.proofs.lemmas.Bool.Decides.{nat_tests}
use Rattle.cbor_edn_parts.specs.internal.Alphabets.{alphabet}
use Rattle.cbor_edn_parts.specs.internal.ContentReading.{base_bytes}
use Rattle.cbor_edn_parts.proofs.lemmas.string.ByteLoops.{after_none, going, pushed, refused, ended, unended}
use Rattle.cbor_edn_parts.proofs.lemmas.string.Bases.{bits_bounds, base_ignored, base_no_symbol, base_end, base_too_many, base_left_over, joined_below, byte_fits, left_below, fewer, byte}
use Rattle.cbor_edn_parts.proofs.string.base.Alphabet.decode.Goals as goal
use Rattle.cbor_edn_parts.proofs.string.base.Alphabet.decode.Goals.{then-count-ge8+in_ok-push, else-count-ge8}

pub loop-byte-init : goal.loop-byte-init
loop-byte-init c = record { few = omega arith; below = omega arith; reads = rw c.new-bytes.ensures.items (after_none _) }

pub loop-byte-preserved-then-byte-eq61 : goal.loop-byte-preserved-then-byte-eq61
loop-byte-preserved-then-byte-eq61 c = record {
  few = c.loop-byte.invariant.few;
  below = c.loop-byte.invariant.below;
  reads = going (base_bytes (alphabet c.args.self) c.loop-byte.count c.loop-byte.number) _ _ _ _ c.loop-byte.invariant.reads c.loop-byte-test.true _ (base_ignored _ _ _ _ _ c.if-byte-eq61.true);
}

pub returns-in_default-clause-none : goal.returns-in_default-clause-none
returns-in_default-clause-none c =
    let other : eqb _ 61 ≡ false = grind (arith, nat_tests, c.if-byte-eq61.false) in
    refused (base_bytes (alphabet c.args.self) c.loop-byte.count c.loop-byte.number) _ _ _ _ c.loop-byte.invariant.reads c.loop-byte-test.true (base_no_symbol _ _ _ _ _ other (sym c.in_default.ensures))

pub overflow_cast-number : goal.overflow_cast-number
overflow_cast-number c =
    omega (arith, byte_fits c.args.self c.loop-byte.count c.loop-byte.number _ _ _ c.loop-byte.invariant.few c.loop-byte.invariant.below c.width-width.ensures c.if-byte-eq61.false c.in-Some.ensures c.if-count-ge8.true)

pub loop-byte-preserved : goal.loop-byte-preserved
loop-byte-preserved c =
    let few = c.loop-byte.invariant.few in
    let below = c.loop-byte.invariant.below in
    let width = c.width-width.ensures in
    elim c.if-count-ge8.branch [
      | then-count-ge8+in_ok-push w ↦ rw (w.bytes-is, w.in_ok-push.ensures.items, w.count-is, w.number-is) (record {
        few = omega (arith, width, bits_bounds c.args.self);
        below = left_below c.args.self _ _ _ _ _ few below width c.if-byte-eq61.false c.in-Some.ensures;
        reads = pushed (base_bytes (alphabet c.args.self) c.loop-byte.count c.loop-byte.number) _ _ _ _ c.loop-byte.invariant.reads c.loop-byte-test.true _ _
            (byte c.args.self _ _ _ _ _ few below width c.if-byte-eq61.false c.in-Some.ensures _ w.if-count-ge8.true);
      })
      | else-count-ge8 w ↦ rw (w.bytes-is, w.count-is, w.number-is) (record {
        few = w.if-count-ge8.false;
        below = joined_below c.args.self _ _ _ _ _ few below width c.if-byte-eq61.false c.in-Some.ensures;
        reads = going (base_bytes (alphabet c.args.self) c.loop-byte.count c.loop-byte.number) _ _ _ _ c.loop-byte.invariant.reads c.loop-byte-test.true _
            (fewer c.args.self _ _ _ _ _ few below width c.if-byte-eq61.false c.in-Some.ensures _ w.if-count-ge8.false);
      })
    ]

pub returns-then-number-eq0-clause-bytes : goal.returns-then-number-eq0-clause-bytes
returns-then-number-eq0-clause-bytes c =
    ended (base_bytes (alphabet c.args.self) c.loop-byte.count c.loop-byte.number) _ _ _ _ c.loop-byte.invariant.reads c.loop-byte-test.false (base_end _ _ _ (omega (arith, c.width-width.ensures)) c.if-number-eq0.true)

pub returns-else-count-width-clause-none : goal.returns-else-count-width-clause-none
returns-else-count-width-clause-none c =
    unended (base_bytes (alphabet c.args.self) c.loop-byte.count c.loop-byte.number) _ _ _ _ c.loop-byte.invariant.reads c.loop-byte-test.false
    (⊎_elim (λ h. base_left_over _ _ _ h.1) (λ h. base_too_many _ _ _ (omega (arith, c.width-width.ensures))) c.else-count-width.either)
