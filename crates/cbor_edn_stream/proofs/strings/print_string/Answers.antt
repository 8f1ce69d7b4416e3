use Rattle.std.proofs.Common.{arith}
use Rattle.std.proofs.lemmas.Result.{err_from_is_err_and}
use Rattle.cbor_edn_parts.specs.base.Buffer.{buffer_bytes}
use Rattle.cbor_edn_parts.specs.Leaves.{literal_bytes}
use Rattle.cbor_edn_stream.proofs.lemmas.Turns.{string_written, string_fails}
use Rattle.cbor_edn_stream.proofs.strings.print_string.Goals as goal

pub returns-in_err-literal-clause-value : goal.returns-in_err-literal-clause-value
returns-in_err-literal-clause-value c =
    let p = err_from_is_err_and c.from_residual.result c.from_residual.ensures.1 in
    rw (p.1, p.2) (string_fails c.args.kind c.args.width c.args.count c.args.bytes.now c.in_err-literal.field-0.0 c.in_err-literal.ensures.value)

pub returns-clause-value : goal.returns-clause-value
returns-clause-value c =
    string_written c.args.kind c.args.width c.args.count c.args.bytes.now (literal_bytes c.in_ok-literal.literal) c.in_ok-literal.rest.now (buffer_bytes c.args.out.now) (buffer_bytes c.print.new.out) (buffer_bytes c.print_indicator.new.out)
    c.in_ok-literal.ensures.value (grind arith) (grind arith)
