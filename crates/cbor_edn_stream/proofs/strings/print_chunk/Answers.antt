use Rattle.std.proofs.Common.{◌≡◌, true, false, eqb, ap, arith}
use Rattle.std.proofs.lemmas.Result.{err_from_is_err_and}
use Rattle.cbor_edn_parts.specs.base.Buffer.{buffer_bytes}
use Rattle.cbor_edn_model.specs.cbor.Value.{string_major}
use Rattle.cbor_edn_model.specs.tree.Trees.{ChunkTree}
use Rattle.cbor_edn_model.specs.internal.CborReading.{shown, chunk_at, definite_tree}
use Rattle.cbor_edn_model.proofs.lemmas.cbor.CborStrings.{chunk_fails, other_chunk, open_chunk}
use Rattle.cbor_edn_model.proofs.lemmas.cbor.CborTurns.{shown_fails}
use Rattle.cbor_edn_stream.proofs.lemmas.Chunks.{chunk_printed}
use Rattle.cbor_edn_stream.proofs.strings.print_chunk.Goals as goal

pub returns-in_err-major-clause-value : goal.returns-in_err-major-clause-value
returns-in_err-major-clause-value c =
    let p = err_from_is_err_and c.from_residual.result c.from_residual.ensures.1 in
    rw (p.1, p.2) (shown_fails ChunkTree c.in_err-major.field-0.0 (shown (definite_tree c.args.kind) (chunk_at c.args.kind c.args.bytes.now)) (chunk_fails c.args.kind c.in_err-major.field-0.0 c.args.bytes.now c.in_err-major.ensures.value))

pub returns-then-major-string_major-clause-value : goal.returns-then-major-string_major-clause-value
returns-then-major-string_major-clause-value c =
    let other : eqb c.in_ok-major.major (string_major c.args.kind) ≡ false = grind arith in
    ap (shown ChunkTree) (other_chunk c.args.kind c.args.bytes.now c.in_ok-major.rest.now c.in_ok-major.major c.in_ok-major.argument c.in_ok-major.ensures.value other)

pub returns-in-Some-clause-value : goal.returns-in-Some-clause-value
returns-in-Some-clause-value c =
    let same : eqb c.in_ok-major.major (string_major c.args.kind) ≡ true = grind arith in
    chunk_printed (λ r. r.now) c.args.kind c.in_ok-major.major c.in_ok-major.argument c.in-Some.width c.in-Some.count c.args.bytes.now c.in_ok-major.rest.now (buffer_bytes c.args.out.now) (buffer_bytes c.print_string.new.out) c.print_string.result
    same c.in_ok-major.ensures.value c.in-Some.is c.print_string.ensures.value

pub returns-in-None-clause-value : goal.returns-in-None-clause-value
returns-in-None-clause-value c =
    let same : eqb c.in_ok-major.major (string_major c.args.kind) ≡ true = grind arith in
    ap (shown ChunkTree) (open_chunk c.args.kind c.args.bytes.now c.in_ok-major.rest.now c.in_ok-major.major c.in_ok-major.argument c.in_ok-major.ensures.value same c.in-None.is)
