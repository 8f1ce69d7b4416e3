use Rattle.std.proofs.Common.{arith}
use Rattle.cbor_edn_core.specs.tree.View.{item_tree}
use Rattle.cbor_edn_core.proofs.lemmas.cbor.Decodes.{gives_accepted, gives_refused, gives_deep}
use Rattle.cbor_edn_core.proofs.cbor.decode.Item.from_cbor_with_rest_within.Goals as goal

pub returns-clause-accepted : goal.returns-clause-accepted
returns-clause-accepted c = gives_accepted c.args.limit c.args.bytes.now (λ x. (item_tree x.0, x.1.now)) c.decode_item.result (λ i. omega (arith, c.type_inv.bytes i)) c.decode_item.ensures.value

pub returns-clause-refused : goal.returns-clause-refused
returns-clause-refused c = gives_refused c.args.limit c.args.bytes.now (λ x. (item_tree x.0, x.1.now)) c.decode_item.result c.decode_item.ensures.value

pub returns-clause-too_deep : goal.returns-clause-too_deep
returns-clause-too_deep c = gives_deep c.args.limit c.args.bytes.now (λ x. (item_tree x.0, x.1.now)) c.decode_item.result (λ i. omega (arith, c.type_inv.bytes i)) c.decode_item.ensures.value
