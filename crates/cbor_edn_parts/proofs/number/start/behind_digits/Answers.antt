use Rattle.std.proofs.Common.{◌≡◌, true, refl, arith}
use Rattle.cbor_edn_parts.specs.declared.number.NumberState.TheVariants.{DecimalDigits}
use Rattle.cbor_edn_parts.specs.internal.NumberTokens as tokens
use Rattle.cbor_edn_parts.specs.internal.StateLaws.{number_stays, number_inside}
use Rattle.cbor_edn_parts.proofs.lemmas.number.FirstDigits.{digits_on}
use Rattle.cbor_edn_parts.proofs.lemmas.base.ScanLoops.{onward}
use Rattle.cbor_edn_parts.proofs.lemmas.base.ScanEnds.{standing}
use Rattle.cbor_edn_parts.proofs.number.start.behind_digits.Goals as goal

pub digits-init : goal.digits-init
digits-init c = standing tokens.number DecimalDigits _ _ _ _ _ (record { place = c.requires; here = c.byte-next.ensures.value; behind = c.byte-next.ensures.behind }) c.byte-next.ensures.count

pub digits-preserved : goal.digits-preserved
digits-preserved c =
    let kept : c.is_digit.result ≡ true = cc in
    let read = c.is_digit.ensures.digit kept in
    onward tokens.number number_stays _ _ _ _ _ _ _ _ _ _ _ _ c.digits.invariant read.1 (omega (arith, read.3)) (digits_on read.0 read.2 read.3) c.byte-next-in-digits.ensures.value c.byte-next-in-digits.ensures.behind c.byte-next-in-digits.ensures.count

pub returns-clause-comes : goal.returns-clause-comes
returns-clause-comes c = record { order = c.digits.invariant.order; reads = c.digits.invariant.reads }

-- Digits may end there, so a character begins.
pub returns-clause-read : goal.returns-clause-read
returns-clause-read c =
    let stands = c.digits.invariant in
    record {
      place = stands.place 128 (omega arith, omega arith) (number_inside 128 (omega arith, omega arith) DecimalDigits refl);
      here = stands.here;
      behind = stands.behind;
    }
