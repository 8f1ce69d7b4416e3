use Rattle.std.proofs.Common.{rules, ◌≡◌, map, ◌∙◌}
use Rattle.std.proofs.lemmas.Result.{IfOk-weaker}
use Rattle.cbor_edn.specs.Constructed.{comma_sequence}
use Rattle.cbor_edn.specs.Made.{element_tree}
use Rattle.cbor_edn.specs.View.{sequence_tree}
use Rattle.cbor_edn.proofs.Lists.{all_of_vec}
use Rattle.cbor_edn_examples.proofs.made.in_sequence.Goals as goal

pub returns : goal.returns
returns c = IfOk-weaker c.new.result _ _
    (λ t h. let holds = h.2 in all_of_vec (λ xs. sequence_tree t ≡ comma_sequence (map element_tree xs)) c.args.items.items h.1 h.0 holds.0 (holds.1 ∙ search rules) h.3 h.4)
    c.new.ensures
