-- What is read so far goes on as the whole.
use Rattle.std.proofs.Common.{◌≡◌, ◌+◌, ◌-◌, take, drop}
use Rattle.cbor_edn_parts.specs.internal.Input.{text_bytes}
use Rattle.cbor_edn_model.specs.internal.Reading.{tag_number}
use Rattle.cbor_edn_model.proofs.lemmas.text.TagDigits.{tag_after}
use Rattle.cbor_edn_model.proofs.text.lookahead.tag_number.Given as goal

abbrev pub invariant-loop-at : goal.invariant-loop-at
invariant-loop-at l = record {
  value : tag_number (take (l.to - l.from) (drop l.from (text_bytes l.text))) ≡ tag_after l.number (take (l.to - l.at) (drop l.at (text_bytes l.text)));
  looked : l.looks.count + l.from ≡ l.fn.looks.count + l.at;
}
