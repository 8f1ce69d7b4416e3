-- Which element of an array comes, as far as the third.
use Rattle.cbor_edn_model.specs.tree.Trees.{Tree, OneItem}
use Rattle.cbor_edn_model.specs.visit.Visits.{Answer, fine}
use Rattle.cbor_edn_conversions.specs.Annotations.{direction}
use Rattle.cbor_edn_application.specs.declared.language.Ordinal.{Ordinal}
use Rattle.cbor_edn_application.specs.declared.language.Ordinal.TheVariants.{First, Second, Third, Later}

abbrev pub next_ordinal : Ordinal → Ordinal
next_ordinal First = Second
next_ordinal Second = Third
next_ordinal Third = Later
next_ordinal Later = Later

abbrev pub direction_in : Ordinal → Tree OneItem → Answer
direction_in Third w = direction w
direction_in _ w = fine
