use Rattle.std.proofs.Common.{Some, None}
use Rattle.std.proofs.lemmas.Result.{err_from_is_err_and}
use Rattle.cbor_edn_parts.specs.base.Buffer.{buffer_bytes}
use Rattle.cbor_edn_model.specs.internal.CborReading.{trees}
use Rattle.cbor_edn_model.proofs.lemmas.cbor.CborTurns.{item_fails}
use Rattle.cbor_edn_stream.specs.Printed.{Writes, WritesAnyhow}
use Rattle.cbor_edn_stream.proofs.lemmas.Turns.{head_is, unsigned_written, negative_written, bytes_at, text_at, prints_as}
use Rattle.cbor_edn_stream.proofs.print.print_leaf.Goals as goal

pub returns-in_ok-print_integer-in-0-Some-clause-value : goal.returns-in_ok-print_integer-in-0-Some-clause-value
returns-in_ok-print_integer-in-0-Some-clause-value c =
    unsigned_written c.args.layout c.args.limit c.in-0-Some.width c.in-0-Some.number c.args.bytes.now c.in_ok-major.behind.now (buffer_bytes c.args.out.now) (buffer_bytes c.print_integer.new.out)
    (head_is c.args.bytes.now c.in_ok-major.behind.now c.in_ok-major.major 0 c.in_ok-major.argument (Some (c.in-0-Some.width, c.in-0-Some.number)) c.in_ok-major.ensures.value c.in-0-Some.is-0 c.in-0-Some.is-1)
    c.in_ok-print_integer-in-0-Some.ensures

pub returns-in_ok-print_integer-in-1-Some-clause-value : goal.returns-in_ok-print_integer-in-1-Some-clause-value
returns-in_ok-print_integer-in-1-Some-clause-value c =
    negative_written c.args.layout c.args.limit c.in-1-Some.width c.in-1-Some.number c.args.bytes.now c.in_ok-major.behind.now (buffer_bytes c.args.out.now) (buffer_bytes c.print_integer-in-1-Some.new.out)
    (head_is c.args.bytes.now c.in_ok-major.behind.now c.in_ok-major.major 1 c.in_ok-major.argument (Some (c.in-1-Some.width, c.in-1-Some.number)) c.in_ok-major.ensures.value c.in-1-Some.is-0 c.in-1-Some.is-1)
    c.in_ok-print_integer-in-1-Some.ensures

pub returns-in-2-Some-clause-value : goal.returns-in-2-Some-clause-value
returns-in-2-Some-clause-value c =
    rw (bytes_at c.args.limit (Some (c.in-2-Some.width, c.in-2-Some.count)) c.args.bytes.now c.in_ok-major.behind.now
    (head_is c.args.bytes.now c.in_ok-major.behind.now c.in_ok-major.major 2 c.in_ok-major.argument (Some (c.in-2-Some.width, c.in-2-Some.count)) c.in_ok-major.ensures.value c.in-2-Some.is-0 c.in-2-Some.is-1))
    (prints_as WritesAnyhow (λ t. Writes c.args.layout t) (λ r. r.now) (buffer_bytes c.args.out.now) (buffer_bytes c.print_string.new.out) c.print_string.result _ (λ a written. written c.args.layout) c.print_string.ensures.value)

pub returns-in-3-Some-clause-value : goal.returns-in-3-Some-clause-value
returns-in-3-Some-clause-value c =
    rw (text_at c.args.limit (Some (c.in-3-Some.width, c.in-3-Some.count)) c.args.bytes.now c.in_ok-major.behind.now
    (head_is c.args.bytes.now c.in_ok-major.behind.now c.in_ok-major.major 3 c.in_ok-major.argument (Some (c.in-3-Some.width, c.in-3-Some.count)) c.in_ok-major.ensures.value c.in-3-Some.is-0 c.in-3-Some.is-1))
    (prints_as WritesAnyhow (λ t. Writes c.args.layout t) (λ r. r.now) (buffer_bytes c.args.out.now) (buffer_bytes c.print_string-in-3-Some.new.out) c.print_string-in-3-Some.result _ (λ a written. written c.args.layout) c.print_string-in-3-Some.ensures.value)

pub returns-in_err-major-clause-value : goal.returns-in_err-major-clause-value
returns-in_err-major-clause-value c =
    let p = err_from_is_err_and c.from_residual.result c.from_residual.ensures.1 in
    rw (p.1, p.2) (item_fails trees c.in_err-major.field-0.0 c.args.limit c.args.bytes.now c.in_err-major.ensures.value)

pub returns-in-2-None-clause-value : goal.returns-in-2-None-clause-value
returns-in-2-None-clause-value c =
    rw (bytes_at c.args.limit None c.args.bytes.now c.in_ok-major.behind.now
    (head_is c.args.bytes.now c.in_ok-major.behind.now c.in_ok-major.major 2 c.in_ok-major.argument None c.in_ok-major.ensures.value c.in-2-None.is-0 c.in-2-None.is-1)) c.print_stream.ensures.value

pub returns-in-3-None-clause-value : goal.returns-in-3-None-clause-value
returns-in-3-None-clause-value c =
    rw (text_at c.args.limit None c.args.bytes.now c.in_ok-major.behind.now
    (head_is c.args.bytes.now c.in_ok-major.behind.now c.in_ok-major.major 3 c.in_ok-major.argument None c.in_ok-major.ensures.value c.in-3-None.is-0 c.in-3-None.is-1)) c.print_stream-in-3-None.ensures.value
