use Rattle.cbor_edn_times_and_addresses.proofs.ReadAddresses.{spelled_one, one_answer, computed, reads_computed}
use Rattle.cbor_edn_times_and_addresses.proofs.laws.address_texts.Goals as goal

pub returns : goal.returns
returns c = λ text. record {
  spelled = spelled_one text;
  one = one_answer text;
  computed = λ r. (computed text r, reads_computed text r);
}
