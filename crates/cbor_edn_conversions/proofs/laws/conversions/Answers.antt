-- The laws of `conversions`, as lemmas have them.
use Rattle.cbor_edn_conversions.proofs.conversions.SameValues.{encodings_computed}
use Rattle.cbor_edn_conversions.proofs.conversions.OneLine.{on_one_line}
use Rattle.cbor_edn_conversions.proofs.conversions.TimesKept.{stamps_tested, times_read_back}
use Rattle.cbor_edn_conversions.proofs.conversions.ConversionsKept.{literals_of_items}
use Rattle.cbor_edn_conversions.proofs.laws.conversions.Goals as goal

pub returns-clause-encodings : goal.returns-clause-encodings
returns-clause-encodings c = encodings_computed

pub returns-clause-spaces : goal.returns-clause-spaces
returns-clause-spaces c = on_one_line

pub returns-clause-instants : goal.returns-clause-instants
returns-clause-instants c = times_read_back

pub returns-clause-items : goal.returns-clause-items
returns-clause-items c = literals_of_items

pub returns-clause-stamps : goal.returns-clause-stamps
returns-clause-stamps c = stamps_tested
