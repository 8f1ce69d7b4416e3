use Rattle.std.proofs.Common.{suc, length, map}
use Rattle.std.proofs.lemmas.Result.{err_from_is_err_and}
use Rattle.cbor_edn_parts.specs.Leaves.{literal_bytes}
use Rattle.cbor_edn_core.specs.tree.View.{view_string}
use Rattle.cbor_edn_model.specs.tree.TreeLeaves.{texts}
use Rattle.cbor_edn_core.specs.internal.RowBuilder.{grown}
use Rattle.cbor_edn_model.proofs.lemmas.cbor.CborStrings.{alone_read, definite_read, chunks_read, chunks_fail}
use Rattle.cbor_edn_core.proofs.cbor.decode.strings.decode_string.Goals as goal

pub returns-in_err-found-in-None-clause-value : goal.returns-in_err-found-in-None-clause-value
returns-in_err-found-in-None-clause-value c =
    let p = err_from_is_err_and c.from_residual-in_err-found-in-None.result c.from_residual-in_err-found-in-None.ensures.1 in
    rw (p.1, p.2, c.in-None.is) (chunks_fail c.args.kind c.in_err-found-in-None.field-0.0 (suc (length c.args.bytes.now)) c.args.bytes.now c.in_err-found-in-None.ensures.value)

pub returns-in_ok-literal-in-Some-clause-value : goal.returns-in_ok-literal-in-Some-clause-value
returns-in_ok-literal-in-Some-clause-value c =
    let literal = c.in_ok-literal-in-Some.literal in
    let rest = c.in_ok-literal-in-Some.rest.now in
    let width = c.in-Some.width in
    let count = c.in-Some.count in
    rw (c.literal.ensures.view, c.indicator_of.ensures, c.in-Some.is)
    (alone_read c.args.kind width count c.args.bytes.now rest _ (definite_read c.args.kind width count c.args.bytes.now (literal_bytes literal) rest c.in_ok-literal-in-Some.ensures.value))

pub returns-in_ok-item-in-None-clause-value : goal.returns-in_ok-item-in-None-clause-value
returns-in_ok-item-in-None-clause-value c =
    let found = map (view_string texts) (grown c.in_ok-found-in-None.found) in
    let rest = c.in_ok-found-in-None.rest.now in
    rw (c.in-None.is, c.in_ok-item-in-None.ensures, c.finish_strings-strings.ensures) (chunks_read c.args.kind (suc (length c.args.bytes.now)) c.args.bytes.now rest found c.in_ok-found-in-None.ensures.value)
