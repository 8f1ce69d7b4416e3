-- The law of `visits_resolve`, as a lemma has it.
use Rattle.cbor_edn_application.proofs.ResolvedAgain.{resolved_in_turn}
use Rattle.cbor_edn_application.proofs.laws.visits_resolve.Goals as goal

pub returns : goal.returns
returns c = resolved_in_turn
