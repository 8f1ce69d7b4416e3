use Rattle.std.proofs.Common.{arith}
use Rattle.cbor_edn_parts.specs.internal.NumberTokens as tokens
use Rattle.cbor_edn_parts.specs.internal.Input.{text_bytes}
use Rattle.cbor_edn_parts.specs.declared.number.NumberState.TheVariants.{AfterZero, DecimalDigits}
use Rattle.cbor_edn_parts.proofs.lemmas.base.ScanEnds.{comes_nowhere, comes_byte, comes_on}
use Rattle.cbor_edn_parts.proofs.number.start.unsigned_start.Goals as goal

pub behind_digits-requires : goal.behind_digits-requires
behind_digits-requires c =
    let first = c.is_leading_digit.ensures.digit c.if-is_leading_digit.true in
    let behind = rw first.1 at c.requires.begins.behind in
    behind (omega (arith, first.3))

pub returns-then-is_leading_digit-clause-comes : goal.returns-then-is_leading_digit-clause-comes
returns-then-is_leading_digit-clause-comes c =
    let first = c.is_leading_digit.ensures.digit c.if-is_leading_digit.true in
    let here = rw first.1 at c.requires.begins.here in
    comes_on _ _ _ _ _ _ _ _ (comes_byte tokens.number (text_bytes c.args.text.now) c.args.state DecimalDigits c.args.from first.0 here.0 (c.requires.digits _ first.2 first.3)) c.behind_digits.ensures.comes

pub returns-then-is_zero-clause-comes : goal.returns-then-is_zero-clause-comes
returns-then-is_zero-clause-comes c =
    let here = rw (c.is_zero.ensures.zero c.if-is_zero.true) at c.requires.begins.here in
    comes_byte tokens.number (text_bytes c.args.text.now) c.args.state AfterZero c.args.from 48 here.0 c.requires.zero

pub returns-then-is_zero-clause-read : goal.returns-then-is_zero-clause-read
returns-then-is_zero-clause-read c =
    let behind = rw (c.is_zero.ensures.zero c.if-is_zero.true) at c.requires.begins.behind in
    record { place = behind (omega arith); here = c.byte-next.ensures.value; behind = c.byte-next.ensures.behind }

pub returns-clause-comes : goal.returns-clause-comes
returns-clause-comes c = comes_nowhere tokens.number (text_bytes c.args.text.now) c.args.state c.args.from
