use Rattle.std.proofs.Common.{arith}
use Rattle.std.proofs.lemmas.Result.{err_from_is_err_and}
use Rattle.cbor_edn.proofs.ElementTexts.{lines_read}
use Rattle.cbor_edn.proofs.EntriesRead.{array_fault, among_fault}
use Rattle.cbor_edn.proofs.LongArrays.{array_front}
use Rattle.cbor_edn.proofs.elements.front_text.Goals as goal

pub returns-in_err-text-clause-refused : goal.returns-in_err-text-clause-refused
returns-in_err-text-clause-refused c =
    let p = err_from_is_err_and c.from_residual.result c.from_residual.ensures.1 in
    let h = c.in-Some.ensures in
    rw (p.1, p.2) (array_fault (Unit {0}) (Unit {0}) c.args.options.now.limit c.in-Some.width c.in-Some.count c.args.bytes.now c.in-Some.elements.now c.in_err-text.field-0.0 h.1 h.2 c.in_err-text.ensures.refused)

pub returns-in-Some-clause-text : goal.returns-in-Some-clause-text
returns-in-Some-clause-text c =
    let h = c.in-Some.ensures in
    array_front c.args.options.now c.in-Some.width c.in-Some.count c.args.bytes.now c.in-Some.elements.now c.in_ok-text.text.items c.in_ok-with_line.field-0.items c.in_ok-text.behind.now c.is_empty.result h c.in_ok-text.ensures.text
    (omega (arith, h.4, c.in_ok-text.ensures.shorter)) c.is_empty.ensures c.in_ok-with_line.ensures

pub returns-in-Some-clause-shorter : goal.returns-in-Some-clause-shorter
returns-in-Some-clause-shorter c = λ some. omega (arith, c.in-Some.ensures.4, c.in_ok-text.ensures.shorter)

pub returns-in_err-items-clause-refused : goal.returns-in_err-items-clause-refused
returns-in_err-items-clause-refused c =
    let p = err_from_is_err_and c.from_residual-in_err-items.result c.from_residual-in_err-items.ensures.1 in
    rw (p.1, p.2) (among_fault (Unit {0}) c.args.options.now.limit 18446744073709551615 c.args.bytes.now c.in_err-items.field-0.0 c.in_err-items.ensures.refused)

pub text_of-requires : goal.text_of-requires
text_of-requires c = lines_read c.args.options.now.limit c.args.bytes.now c.in_ok-items.behind.now _ c.in_ok-items.ensures.read

pub text_in_front-requires : goal.text_in_front-requires
text_in_front-requires c = lines_read c.args.options.now.limit c.args.bytes.now c.in_ok-items.behind.now _ c.in_ok-items.ensures.read
