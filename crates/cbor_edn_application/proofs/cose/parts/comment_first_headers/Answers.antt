use Rattle.std.proofs.Common.{ap, ◌∙◌}
use Rattle.std.proofs.lemmas.Result.{on_ok_weaker}
use Rattle.cbor_edn_core.specs.tree.View.{item_tree, standalone_tree}
use Rattle.cbor_edn_model.specs.tree.TreeLeaves.{texts}
use Rattle.cbor_edn_model.specs.tree.Trees.{items}
use Rattle.cbor_edn_conversions.specs.Cose.{with_headers}
use Rattle.cbor_edn_application.proofs.CoseParts.{first_done, first_kept, no_first_done}
use Rattle.cbor_edn_application.proofs.KnownResults.{on_some}
use Rattle.cbor_edn_application.proofs.cose.parts.comment_first_headers.Goals as goal

pub returns-in-Some-clause-headers : goal.returns-in-Some-clause-headers
returns-in-Some-clause-headers c =
    on_ok_weaker c.comment_headers.result
    (λ done. first_done with_headers (standalone_tree c.args.string.now) _ (item_tree c.in-Some.header.now) (item_tree c.comment_headers.new.item) (c.in-Some.ensures.value texts)
    (on_some c.at_mut.result _ c.in-Some.is (c.at_mut.follows.holds c.comment_headers.new.item) texts) done)
    c.comment_headers.ensures.headers

pub returns-in-Some-clause-items : goal.returns-in-Some-clause-items
returns-in-Some-clause-items c =
    first_kept (standalone_tree c.args.string.now) _ (item_tree c.in-Some.header.now) (item_tree c.comment_headers.new.item) (c.in-Some.ensures.value texts)
    (on_some c.at_mut.result _ c.in-Some.is (c.at_mut.follows.holds c.comment_headers.new.item) texts) c.comment_headers.ensures.items

pub returns-in-None-clause-headers : goal.returns-in-None-clause-headers
returns-in-None-clause-headers c = c.at_mut.follows.holds-at-none texts ∙ no_first_done with_headers (standalone_tree c.args.string.now) (c.in-None.ensures.value texts)

pub returns-in-None-clause-items : goal.returns-in-None-clause-items
returns-in-None-clause-items c = ap (λ x. items x) (c.at_mut.follows.holds-at-none texts)
