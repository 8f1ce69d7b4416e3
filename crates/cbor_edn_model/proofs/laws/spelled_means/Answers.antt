use Rattle.std.proofs.Common.{ap, ◌∙◌}
use Rattle.cbor_edn_model.specs.cbor.Decoded.{item_of, items_of}
use Rattle.cbor_edn_model.specs.cbor.Meaning.{means}
use Rattle.cbor_edn_model.proofs.lemmas.cbor.Decoding.{item_means, items_mean}
use Rattle.cbor_edn_model.proofs.lemmas.text.GrammarLaws.{unique_items}
use Rattle.cbor_edn_model.proofs.laws.spelled_means.Goals as goal

pub returns : goal.returns
returns c = (
  λ v x t fit a b. ap means (unique_items.1 x (item_of v) t b a) ∙ item_means v fit,
  λ vs x t fit a b. ap means (unique_items.0 x (items_of vs) t b a) ∙ items_mean vs fit,
)
