use Rattle.cbor_edn_model.proofs.lemmas.layout.Layouts.{forgets_layout, same_twice}
use Rattle.cbor_edn_model.proofs.laws.layouts_forget.Goals as goal

pub returns : goal.returns
returns c = record {
  earlier = forgets_layout;
  twice = same_twice;
}
