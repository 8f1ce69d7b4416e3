use Rattle.std.proofs.Common.{◌≡◌, true, false, eqb, arith}
use Rattle.std.proofs.lemmas.Result.{err_from_is_err_and}
use Rattle.cbor_edn_model.specs.cbor.Value.{string_major}
use Rattle.cbor_edn_model.proofs.lemmas.cbor.CborStrings.{chunk_fails, other_chunk, open_chunk, chunk_found}
use Rattle.cbor_edn_core.proofs.cbor.decode.strings.decode_chunk.Goals as goal

pub returns-in_err-major-clause-value : goal.returns-in_err-major-clause-value
returns-in_err-major-clause-value c =
    let p = err_from_is_err_and c.from_residual.result c.from_residual.ensures.1 in
    rw (p.1, p.2) (chunk_fails c.args.kind c.in_err-major.field-0.0 c.args.bytes.now c.in_err-major.ensures.value)

pub returns-then-major-string_major-clause-value : goal.returns-then-major-string_major-clause-value
returns-then-major-string_major-clause-value c =
    let other : eqb c.in_ok-major.major (string_major c.args.kind) ≡ false = grind arith in
    other_chunk c.args.kind c.args.bytes.now c.in_ok-major.rest.now c.in_ok-major.major c.in_ok-major.argument c.in_ok-major.ensures.value other

pub returns-in-Some-clause-value : goal.returns-in-Some-clause-value
returns-in-Some-clause-value c =
    let same : eqb c.in_ok-major.major (string_major c.args.kind) ≡ true = grind arith in
    rw (chunk_found c.args.kind c.args.bytes.now c.in_ok-major.rest.now c.in_ok-major.major c.in_ok-major.argument c.in_ok-major.ensures.value c.in-Some.width c.in-Some.count same c.in-Some.is) c.definite.ensures.value

pub returns-in-None-clause-value : goal.returns-in-None-clause-value
returns-in-None-clause-value c =
    let same : eqb c.in_ok-major.major (string_major c.args.kind) ≡ true = grind arith in
    open_chunk c.args.kind c.args.bytes.now c.in_ok-major.rest.now c.in_ok-major.major c.in_ok-major.argument c.in_ok-major.ensures.value same c.in-None.is
