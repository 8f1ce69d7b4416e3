use Rattle.cbor_edn_parts.proofs.lemmas.string.StringLiterals.{hex_stands, text_stands, hex_is_literal, text_is_literal}
use Rattle.cbor_edn_parts.proofs.laws.decoded_literals.Goals as goal

pub returns : goal.returns
returns c = λ bytes all. record {
  hex = hex_stands bytes all;
  text = text_stands bytes all;
  hex_test = hex_is_literal bytes all;
  text_test = text_is_literal bytes all;
}
