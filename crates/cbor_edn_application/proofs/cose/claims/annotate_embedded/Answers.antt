use Rattle.std.proofs.Common.{sym, ◌∙◌}
use Rattle.std.proofs.lemmas.Result.{on_ok_weaker, on_err_weaker}
use Rattle.cbor_edn_core.specs.tree.View.{item_tree, standalone_tree}
use Rattle.cbor_edn_conversions.specs.Cose.{in_item}
use Rattle.cbor_edn_conversions.specs.MessageClaims.{claims_and_keys}
use Rattle.cbor_edn_application.proofs.CoseParts.{in_structure, in_text, exchanged, exchanged_same}
use Rattle.cbor_edn_application.proofs.cose.claims.annotate_embedded.Goals as goal

pub returns-then-is_structure-clause-claims : goal.returns-then-is_structure-clause-claims
returns-then-is_structure-clause-claims c = in_structure claims_and_keys (item_tree c.args.payload.now) (sym c.is_structure.ensures ∙ c.if-is_structure.true)

pub returns-clause-claims : goal.returns-clause-claims
returns-clause-claims c =
    let w = item_tree c.args.payload.now in
    on_ok_weaker c.annotate_first-answer.result
    (λ done. in_text claims_and_keys w (item_tree c.exchange-2.new.item) (sym c.is_structure.ensures ∙ c.if-is_structure.false)
    (exchanged (in_item 0 claims_and_keys) w (item_tree c.exchange-2.new.item) (standalone_tree c.from-string.result) (standalone_tree c.exchange.new.alone) (standalone_tree c.annotate_first-answer.new.string) c.exchange.ensures.alone c.exchange-2.ensures.item done))
    c.annotate_first-answer.ensures.claims

pub returns-clause-out_of_memory : goal.returns-clause-out_of_memory
returns-clause-out_of_memory c =
    on_err_weaker c.annotate_first-answer.result
    (λ same. exchanged_same (item_tree c.args.payload.now) (item_tree c.exchange-2.new.item) (standalone_tree c.from-string.result) (standalone_tree c.exchange.new.alone) (standalone_tree c.annotate_first-answer.new.string) c.exchange.ensures.alone c.exchange-2.ensures.item same)
    c.annotate_first-answer.ensures.out_of_memory
