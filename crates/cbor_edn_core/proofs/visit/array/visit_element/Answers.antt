use Rattle.cbor_edn_core.specs.tree.View.{item_tree}
use Rattle.cbor_edn_core.specs.visit.Callbacks.{answer_of}
use Rattle.cbor_edn_core.proofs.lemmas.visit.ElementVisits.{element_visited}
use Rattle.cbor_edn_core.proofs.visit.array.visit_element.Goals as goal

pub returns : goal.returns
returns g c =
    let put = c.put_answer.ensures in
    record { visited = (_, c.call-answer.ensures.called, element_visited (item_tree c.args.item.now) (item_tree c.call-answer.new.item) (answer_of c.call-answer.result) _ _ c.put_answer.result put.had_memory put.put put.had_comment put.out_of_memory) }
