use Rattle.cbor_edn_model.proofs.lemmas.layout.WithoutIndicators.{without_indicators_is_bare, without_indicators_stays_valid}
use Rattle.cbor_edn_model.proofs.lemmas.layout.BareItems.{bare_items_mean, fewer_mean}
use Rattle.cbor_edn_model.proofs.laws.bare_items.Goals as goal

pub returns : goal.returns
returns c = record {
  items = without_indicators_is_bare;
  valid = without_indicators_stays_valid;
  meaning = bare_items_mean;
  stopped = fewer_mean;
}
