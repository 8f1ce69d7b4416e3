use Rattle.std.proofs.Common.{◌∙◌}
use Rattle.std.proofs.lemmas.Result.{on_ok_weaker, on_err_weaker}
use Rattle.cbor_edn_core.specs.tree.View.{item_tree, standalone_tree}
use Rattle.cbor_edn_model.specs.tree.TreeLeaves.{texts}
use Rattle.cbor_edn_conversions.specs.MessageClaims.{claims_and_keys}
use Rattle.cbor_edn_application.proofs.CoseParts.{first_done, first_same, no_first_done}
use Rattle.cbor_edn_application.proofs.KnownResults.{on_some}
use Rattle.cbor_edn_application.proofs.cose.claims.annotate_first.Goals as goal

pub returns-in-Some-clause-claims : goal.returns-in-Some-clause-claims
returns-in-Some-clause-claims c =
    on_ok_weaker c.annotate_copy.result
    (λ done. first_done claims_and_keys (standalone_tree c.args.string.now) _ (item_tree c.in-Some.claims.now) (item_tree c.annotate_copy.new.claims) (c.in-Some.ensures.value texts)
    (on_some c.at_mut.result _ c.in-Some.is (c.at_mut.follows.holds c.annotate_copy.new.claims) texts) done)
    c.annotate_copy.ensures.claims

pub returns-in-Some-clause-out_of_memory : goal.returns-in-Some-clause-out_of_memory
returns-in-Some-clause-out_of_memory c =
    on_err_weaker c.annotate_copy.result
    (λ same. first_same (standalone_tree c.args.string.now) _ (item_tree c.in-Some.claims.now) (item_tree c.annotate_copy.new.claims) (c.in-Some.ensures.value texts)
    (on_some c.at_mut.result _ c.in-Some.is (c.at_mut.follows.holds c.annotate_copy.new.claims) texts) same)
    c.annotate_copy.ensures.out_of_memory

pub returns-in-None-clause-claims : goal.returns-in-None-clause-claims
returns-in-None-clause-claims c = c.at_mut.follows.holds-at-none texts ∙ no_first_done claims_and_keys (standalone_tree c.args.string.now) (c.in-None.ensures.value texts)
