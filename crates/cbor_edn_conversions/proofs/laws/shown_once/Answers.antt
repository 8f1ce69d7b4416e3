-- The laws of `shown_once`, as lemmas have them.
use Rattle.cbor_edn_conversions.proofs.embedded.ShownVisits.{shown_at_once, show_given}
use Rattle.cbor_edn_conversions.proofs.embedded.ShownNestings.{shown_nests, shown_within}
use Rattle.cbor_edn_conversions.proofs.laws.shown_once.Goals as goal

pub returns-clause-given : goal.returns-clause-given
returns-clause-given c = show_given

pub returns-clause-at_once : goal.returns-clause-at_once
returns-clause-at_once c = shown_at_once

pub returns-clause-nests : goal.returns-clause-nests
returns-clause-nests c = shown_nests

pub returns-clause-within : goal.returns-clause-within
returns-clause-within c = shown_within
