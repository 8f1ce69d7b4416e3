use Rattle.std.proofs.Common.{◌∙◌, sym, arith}
use Rattle.cbor_edn_times_and_addresses.proofs.EndZeros.{without_last, without_same}
use Rattle.cbor_edn_times_and_addresses.proofs.address.without_end_zeros.Goals as goal

pub loop-kept-preserved : goal.loop-kept-preserved
loop-kept-preserved c = without_last c.loop-kept.kept.now c.in-0.len_at_least (omega arith) ∙ c.loop-kept.invariant

pub returns-in_default-2 : goal.returns-in_default-2
returns-in_default-2 c = sym (without_same c.loop-kept.kept.now c.in_default.len_at_least (omega arith)) ∙ c.loop-kept.invariant
