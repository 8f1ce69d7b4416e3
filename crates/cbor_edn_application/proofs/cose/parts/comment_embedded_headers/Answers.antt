use Rattle.std.proofs.Common.{sym, ◌∙◌}
use Rattle.std.proofs.lemmas.Result.{on_ok_weaker}
use Rattle.cbor_edn_core.specs.tree.View.{item_tree, standalone_tree}
use Rattle.cbor_edn_conversions.specs.Cose.{in_item, with_headers}
use Rattle.cbor_edn_application.proofs.CoseParts.{in_structure, in_text, exchanged, exchanged_kept}
use Rattle.cbor_edn_application.proofs.cose.parts.comment_embedded_headers.Goals as goal

pub returns-then-is_structure-clause-headers : goal.returns-then-is_structure-clause-headers
returns-then-is_structure-clause-headers c = in_structure with_headers (item_tree c.args.item.now) (sym c.is_structure.ensures ∙ c.if-is_structure.true)

pub returns-clause-headers : goal.returns-clause-headers
returns-clause-headers c =
    let w = item_tree c.args.item.now in
    on_ok_weaker c.comment_first_headers-answer.result
    (λ done. in_text with_headers w (item_tree c.exchange-2.new.item) (sym c.is_structure.ensures ∙ c.if-is_structure.false)
    (exchanged (in_item 0 with_headers) w (item_tree c.exchange-2.new.item) (standalone_tree c.from-string.result) (standalone_tree c.exchange.new.alone) (standalone_tree c.comment_first_headers-answer.new.string) c.exchange.ensures.alone c.exchange-2.ensures.item done))
    c.comment_first_headers-answer.ensures.headers

pub returns-clause-items : goal.returns-clause-items
returns-clause-items c =
    exchanged_kept (item_tree c.args.item.now) (item_tree c.exchange-2.new.item) (standalone_tree c.from-string.result) (standalone_tree c.exchange.new.alone) (standalone_tree c.comment_first_headers-answer.new.string) c.exchange.ensures.alone c.exchange-2.ensures.item c.comment_first_headers-answer.ensures.items
