use Rattle.cbor_edn_parts.proofs.lemmas.base.Indicators.{spec-found, spec-again}
use Rattle.cbor_edn_parts.proofs.laws.indicator_texts.Goals as goal

pub returns : goal.returns
returns c = λ text. record {
  found = spec-found text;
  again = λ i h. spec-again i text h;
}
