use Rattle.std.proofs.Common.{sym, ap, ◌∙◌}
use Rattle.std.proofs.lemmas.Result.{on_ok_weaker, on_err_weaker}
use Rattle.std.specs.Prelude.{is_some}
use Rattle.cbor_edn_core.specs.tree.View.{item_tree, standalone_tree}
use Rattle.cbor_edn_model.specs.access.Accessed.{array_items}
use Rattle.cbor_edn_model.specs.tree.TreeLeaves.{texts}
use Rattle.cbor_edn_conversions.specs.MessageClaims.{claims_and_keys}
use Rattle.cbor_edn_application.proofs.CoseClaims.{payload_done, payload_same, without_payload, inside_no_array}
use Rattle.cbor_edn_application.proofs.KnownResults.{on_some}
use Rattle.cbor_edn_application.proofs.cose.claims.annotate_content.Goals as goal

pub returns-then-not-is_array-clause-claims : goal.returns-then-not-is_array-clause-claims
returns-then-not-is_array-clause-claims c =
    inside_no_array claims_and_keys (standalone_tree c.args.content.now) (sym (ap (λ w. is_some (array_items w)) c.item.ensures) ∙ (sym c.is_array.ensures ∙ c.if-not-is_array.true))

pub returns-in-Some-clause-claims : goal.returns-in-Some-clause-claims
returns-in-Some-clause-claims c =
    on_ok_weaker c.annotate_embedded.result
    (λ done. payload_done claims_and_keys (standalone_tree c.args.content.now) _ (item_tree c.in-Some.payload.now) (item_tree c.annotate_embedded.new.payload)
    (sym (ap (λ w. is_some (array_items w)) c.item.ensures) ∙ (sym c.is_array.ensures ∙ c.if-not-is_array.false)) (c.in-Some.ensures.value texts)
    (on_some c.at_mut.result _ c.in-Some.is (c.at_mut.follows.holds c.annotate_embedded.new.payload) texts) done)
    c.annotate_embedded.ensures.claims

pub returns-in-Some-clause-out_of_memory : goal.returns-in-Some-clause-out_of_memory
returns-in-Some-clause-out_of_memory c =
    on_err_weaker c.annotate_embedded.result
    (λ same. payload_same (standalone_tree c.args.content.now) _ (item_tree c.in-Some.payload.now) (item_tree c.annotate_embedded.new.payload) (c.in-Some.ensures.value texts)
    (on_some c.at_mut.result _ c.in-Some.is (c.at_mut.follows.holds c.annotate_embedded.new.payload) texts) same)
    c.annotate_embedded.ensures.out_of_memory

pub returns-in-None-clause-claims : goal.returns-in-None-clause-claims
returns-in-None-clause-claims c =
    c.at_mut.follows.holds-at-none texts
    ∙ without_payload claims_and_keys (standalone_tree c.args.content.now) (sym (ap (λ w. is_some (array_items w)) c.item.ensures) ∙ (sym c.is_array.ensures ∙ c.if-not-is_array.false)) (c.in-None.ensures.value texts)
