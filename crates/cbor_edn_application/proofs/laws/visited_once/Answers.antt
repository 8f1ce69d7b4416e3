-- The laws of `visited_once`, as lemmas have them.
use Rattle.cbor_edn_application.proofs.ResolvedAgain.{tags_once, literals_once}
use Rattle.cbor_edn_application.proofs.laws.visited_once.Goals as goal

pub returns-clause-tags : goal.returns-clause-tags
returns-clause-tags c = tags_once

pub returns-clause-literals : goal.returns-clause-literals
returns-clause-literals c = literals_once
