use Rattle.std.proofs.lemmas.Result.{err_from_is_err_and}
use Rattle.cbor_edn_parts.specs.internal.NumberTokens as tokens
use Rattle.cbor_edn_parts.proofs.lemmas.base.ScanEnds.{comes_some, comes_none}
use Rattle.cbor_edn_parts.proofs.lemmas.base.Tokens.{taken}
use Rattle.cbor_edn_parts.proofs.number.start.NumberStart.number.Goals as goal

pub invariant_of-result : goal.invariant_of-result
invariant_of-result c = record { spelled = rw c.slice.ensures (taken tokens.number _ _ _ (comes_some _ _ _ _ _ _ _ c.requires.start.comes c.in_ok-to.ensures.place.0 c.in_ok-to.ensures.value.1)) }

pub returns-in_err-to-clause-value : goal.returns-in_err-to-clause-value
returns-in_err-to-clause-value c =
    let p = err_from_is_err_and c.from_residual.result c.from_residual.ensures.1 in
    rw (p.1, p.2) (comes_none _ _ _ _ _ _ c.requires.start.comes c.in_err-to.ensures.value.0, c.in_err-to.ensures.value.1)

pub returns-clause-value : goal.returns-clause-value
returns-clause-value c = rw c.slice.ensures (comes_some _ _ _ _ _ _ _ c.requires.start.comes c.in_ok-to.ensures.place.0 c.in_ok-to.ensures.value.1)
