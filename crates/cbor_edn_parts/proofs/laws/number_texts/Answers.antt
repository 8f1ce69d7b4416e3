use Rattle.cbor_edn_parts.proofs.lemmas.number.NumberTexts as numbers
use Rattle.cbor_edn_parts.proofs.lemmas.number.NumberTexts.{number-is, number-from}
use Rattle.cbor_edn_parts.proofs.lemmas.number.NumberParts.{integer_texts}
use Rattle.cbor_edn_parts.proofs.laws.number_texts.Goals as goal

pub returns : goal.returns
returns c = λ text. record {
  test = numbers.number_texts text;
  automaton = (number-is, number-from text);
  integer = integer_texts text;
}
