use Rattle.cbor_edn_model.proofs.lemmas.layout.Policies.{means_the_same}
use Rattle.cbor_edn_model.proofs.lemmas.layout.RegularTrees.{decoded_stays, one_single_line}
use Rattle.cbor_edn_model.proofs.laws.decoded_layout.Goals as goal

pub returns : goal.returns
returns c = record {
  meaning = means_the_same;
  itself = decoded_stays;
  one_tree = one_single_line;
}
