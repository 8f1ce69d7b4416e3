use Rattle.std.proofs.Common.{arith}
use Rattle.std.proofs.lemmas.Result.{err_from_is_err_and}
use Rattle.cbor_edn_parts.specs.internal.SpaceTokens.{separator}
use Rattle.cbor_edn_core.proofs.lemmas.text.Turns.{scan_fails, scan_read, token_end}
use Rattle.cbor_edn_core.proofs.text.grammar.entries.with_separator.Goals as goal

pub returns-in_err-list_end-clause-value : goal.returns-in_err-list_end-clause-value
returns-in_err-list_end-clause-value g c =
    let p = err_from_is_err_and c.from_residual.result c.from_residual.ensures.1 in
    rw (p.1, p.2) (scan_fails separator _ c.in_err-list_end.field-0.0 c.in_err-list_end.ensures.value)

pub returns-clause-value : goal.returns-clause-value
returns-clause-value g c = scan_read separator _ _ _ c.in_ok-list_end.ensures.value

pub returns-clause-place : goal.returns-clause-place
returns-clause-place g c =
    let end = token_end separator _ _ c.args.read.1.at c.in_ok-list_end.next c.in_ok-list_end.ensures.value c.requires.0.0 c.in_ok-list_end.ensures.place.1.0 in
    (omega (arith, end), c.in_ok-list_end.ensures.place.1)
