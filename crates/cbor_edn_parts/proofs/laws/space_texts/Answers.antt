use Rattle.cbor_edn_parts.proofs.lemmas.space.SpaceTexts.{optional_texts, mandatory_texts, at_end_texts, separating_texts, s-is, s-from, list_end-is, list_end-from}
use Rattle.cbor_edn_parts.proofs.laws.space_texts.Goals as goal

pub returns : goal.returns
returns c = λ text. record {
  optional = optional_texts text;
  mandatory = mandatory_texts text;
  at_end = at_end_texts text;
  separating = separating_texts text;
  optional_automaton = (s-is, s-from text);
  at_end_automaton = (list_end-is, list_end-from text);
}
