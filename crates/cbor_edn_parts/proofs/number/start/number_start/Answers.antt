use Rattle.std.proofs.Common.{arith}
use Rattle.cbor_edn_parts.specs.declared.number.NumberState.TheVariants.{Start, Signed}
use Rattle.cbor_edn_parts.specs.internal.NumberTokens as tokens
use Rattle.cbor_edn_parts.specs.internal.Input.{text_bytes}
use Rattle.cbor_edn_parts.proofs.lemmas.number.FirstDigits.{sign_from_start, zero_from_start, zero_from_sign, digits_from_start, digits_from_sign}
use Rattle.cbor_edn_parts.proofs.lemmas.base.ScanEnds.{comes_byte, comes_on}
use Rattle.cbor_edn_parts.proofs.number.start.number_start.Goals as goal

pub unsigned_start-requires-clause-zero : goal.unsigned_start-requires-clause-zero
unsigned_start-requires-clause-zero c = zero_from_sign

pub unsigned_start-requires-clause-digits : goal.unsigned_start-requires-clause-digits
unsigned_start-requires-clause-digits c = digits_from_sign

pub unsigned_start-requires-clause-begins : goal.unsigned_start-requires-clause-begins
unsigned_start-requires-clause-begins c = record { place = c.in-Some-eq45.ensures.behind (omega (arith, c.in-Some-eq45.field-0-test)); here = c.byte-next.ensures.value; behind = c.byte-next.ensures.behind }

-- behind the minus sign
pub returns-in-Some-eq45-clause-start : goal.returns-in-Some-eq45-clause-start
returns-in-Some-eq45-clause-start c = record {
  comes = comes_on _ _ _ _ _ _ _ _ (comes_byte tokens.number (text_bytes c.args.text.now) Start Signed c.args.from _ c.in-Some-eq45.ensures.value.0 (sign_from_start _ c.in-Some-eq45.field-0-test)) c.unsigned_start.ensures.comes;
  read = c.unsigned_start.ensures.read;
}

pub unsigned_start-requires-in_default-clause-zero : goal.unsigned_start-requires-in_default-clause-zero
unsigned_start-requires-in_default-clause-zero c = zero_from_start

pub unsigned_start-requires-in_default-clause-digits : goal.unsigned_start-requires-in_default-clause-digits
unsigned_start-requires-in_default-clause-digits c = digits_from_start
