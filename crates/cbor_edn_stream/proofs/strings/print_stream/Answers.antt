use Rattle.std.proofs.Common.{arith}
use Rattle.std.proofs.lemmas.Result.{err_from_is_err_and}
use Rattle.cbor_edn_parts.specs.base.Buffer.{buffer_bytes}
use Rattle.cbor_edn_stream.proofs.lemmas.Chunks.{stream_printed, stream_fails, none_printed}
use Rattle.cbor_edn_stream.proofs.strings.print_stream.Goals as goal

pub returns-in-Some-clause-value : goal.returns-in-Some-clause-value
returns-in-Some-clause-value c =
    none_printed c.args.layout c.args.kind c.args.bytes.now c.in-Some.rest.now (buffer_bytes c.args.out.now) (buffer_bytes c.print_empty.new.out) (grind arith) (grind arith)

pub returns-in_err-rest-clause-value : goal.returns-in_err-rest-clause-value
returns-in_err-rest-clause-value c =
    let p = err_from_is_err_and c.from_residual-in_err-rest.result c.from_residual-in_err-rest.ensures.1 in
    rw (p.1, p.2) (stream_fails c.args.kind c.args.bytes.now c.in_err-rest.field-0.0 c.in_err-rest.ensures.value)

pub returns-clause-value : goal.returns-clause-value
returns-clause-value c =
    let p = c.in_ok-rest.ensures.value in
    stream_printed c.args.layout c.in_ok-parts.parts c.args.kind c.args.bytes.now c.in_ok-rest.rest.now (buffer_bytes c.args.out.now) (buffer_bytes c.push_str.new.self) (buffer_bytes c.print_mandatory.new.out) (buffer_bytes c.print_chunks.new.out) (buffer_bytes c.push_str-2.new.self)
    p.0 c.in_ok-parts.ensures p.1 (grind arith) (grind arith) p.2 (grind arith)
