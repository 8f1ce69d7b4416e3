use Rattle.std.proofs.Common.{arith, [], ◌≡◌, sym, ◌∙◌}
use Rattle.std.proofs.lemmas.Result.{err_from_is_err_and}
use Rattle.cbor_edn_core.specs.tree.View.{Item, item_tree}
use Rattle.cbor_edn_core.proofs.lemmas.cbor.Decodes.{is_empty, not_empty, found_whole, refused_behind, fails_refused, fails_deep}
use Rattle.cbor_edn_core.proofs.cbor.decode.Item.from_cbor_within.Goals as goal

pub returns-in_err-item-clause-refused : goal.returns-in_err-item-clause-refused
returns-in_err-item-clause-refused c =
    let p = err_from_is_err_and c.from_residual.result c.from_residual.ensures.1 in
    rw (p.1, p.2) (fails_refused c.args.limit c.args.bytes.now Item c.in_err-item.field-0.0 c.in_err-item.ensures.value)

pub returns-in_err-item-clause-too_deep : goal.returns-in_err-item-clause-too_deep
returns-in_err-item-clause-too_deep c =
    let p = err_from_is_err_and c.from_residual.result c.from_residual.ensures.1 in
    rw (p.1, p.2) (fails_deep c.args.limit c.args.bytes.now Item c.in_err-item.field-0.0 (λ i. omega (arith, c.type_inv.bytes i)) c.in_err-item.ensures.value)

pub returns-then-is_empty-clause-accepted : goal.returns-then-is_empty-clause-accepted
returns-then-is_empty-clause-accepted c =
    let ends : c.in_ok-item.rest.now ≡ [] = is_empty c.in_ok-item.rest.now (sym c.is_empty.ensures ∙ c.if-is_empty.true) in
    found_whole c.args.limit c.args.bytes.now (item_tree c.in_ok-item.item, c.in_ok-item.rest.now) (λ i. omega (arith, c.type_inv.bytes i)) c.in_ok-item.ensures.value ends

pub returns-clause-refused : goal.returns-clause-refused
returns-clause-refused c = λ _. refused_behind c.args.limit c.args.bytes.now (item_tree c.in_ok-item.item, c.in_ok-item.rest.now) c.in_ok-item.ensures.value (not_empty c.in_ok-item.rest.now (sym c.is_empty.ensures ∙ c.if-is_empty.false))
