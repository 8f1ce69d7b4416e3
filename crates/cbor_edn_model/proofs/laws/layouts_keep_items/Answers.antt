use Rattle.cbor_edn_model.proofs.lemmas.layout.Layouts.{keeps_items, stays_valid, spells_the_same}
use Rattle.cbor_edn_model.proofs.lemmas.layout.CommentedItems.{comment_keeps_items, comment_stays_valid}
use Rattle.cbor_edn_model.proofs.laws.layouts_keep_items.Goals as goal

pub returns : goal.returns
returns c = record {
  items = keeps_items;
  valid = stays_valid;
  spelled = spells_the_same;
  comment = comment_keeps_items;
  comment_valid = comment_stays_valid;
}
