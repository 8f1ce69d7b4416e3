use Rattle.cbor_edn_parts.proofs.lemmas.string.ContentTexts.{content_texts, kind_is, supported_texts}
use Rattle.cbor_edn_parts.proofs.lemmas.string.EllipsisTexts.{ellipsis_test, ellipsis_automaton}
use Rattle.cbor_edn_parts.proofs.lemmas.string.LiteralTexts.{literal_test, literal_automaton}
use Rattle.cbor_edn_parts.proofs.laws.literal_texts.Goals as goal

pub returns : goal.returns
returns c = λ text. record {
  test = literal_test text;
  automaton = literal_automaton text;
  ellipsis_test = ellipsis_test text;
  ellipsis_automaton = ellipsis_automaton text;
  content = content_texts text;
  kind = kind_is text;
  supported = supported_texts text;
}
