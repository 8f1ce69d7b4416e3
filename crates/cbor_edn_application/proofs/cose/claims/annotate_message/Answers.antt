use Rattle.std.proofs.Common.{rules, sym, ap, ◌∙◌}
use Rattle.std.specs.Prelude.{option_map}
use Rattle.cbor_edn_core.specs.tree.View.{item_tree, standalone_tree}
use Rattle.cbor_edn_core.specs.visit.Sought.{sought_answer}
use Rattle.cbor_edn_model.specs.tree.TreeLeaves.{texts}
use Rattle.cbor_edn_model.specs.visit.Seeking.{number}
use Rattle.cbor_edn_application.proofs.CoseCalls.{message_content}
use Rattle.cbor_edn_application.proofs.CoseClaims.{no_claims, no_payload, claims_done, claims_refused}
use Rattle.cbor_edn_application.proofs.KnownResults.{ok_is}
use Rattle.cbor_edn_application.proofs.cose.claims.annotate_message.Goals as goal

pub returns-in_default : goal.returns-in_default
returns-in_default c = no_claims (number c.args.tag) (item_tree c.args.item.now) (sym c.called_message.ensures ∙ ap (option_map _) c.in_default.is)

pub returns-then-not-has_payload : goal.returns-then-not-has_payload
returns-then-not-has_payload c =
    no_payload (number c.args.tag) (item_tree c.args.item.now) (c.in-Some._name.now, c.in-Some.structure) (sym c.called_message.ensures ∙ ap (option_map _) c.in-Some.is) (sym c.has_payload.ensures ∙ c.if-not-has_payload.true)

pub returns-in-Err : goal.returns-in-Err
returns-in-Err c = absurd (message_content (number c.args.tag) (item_tree c.args.item.now) (c.in-Some._name.now, c.in-Some.structure) (sym c.called_message.ensures ∙ ap (option_map _) c.in-Some.is) (c.in-Err.ensures.refused.1 texts))

pub returns-in_ok-annotate_content-in-Ok : goal.returns-in_ok-annotate_content-in-Ok
returns-in_ok-annotate_content-in-Ok c =
    claims_done (number c.args.tag) (item_tree c.args.item.now) (c.in-Some._name.now, c.in-Some.structure) _ (standalone_tree c.in-Ok.content.now) (standalone_tree c.annotate_content.new.content)
    (sym c.called_message.ensures ∙ ap (option_map _) c.in-Some.is) (sym c.has_payload.ensures ∙ c.if-not-has_payload.false) (c.in-Ok.ensures.found texts)
    (c.get_tagged_mut.follows.holds c.annotate_content.new.content (ok_is c.get_tagged_mut.result _ c.in-Ok.is) texts) c.in_ok-annotate_content-in-Ok.ensures.claims

pub returns-in_err-annotate_content-in-Ok : goal.returns-in_err-annotate_content-in-Ok
returns-in_err-annotate_content-in-Ok c =
    claims_refused (number c.args.tag) (item_tree c.args.item.now) _ (standalone_tree c.in-Ok.content.now) (standalone_tree c.annotate_content.new.content) (sought_answer c.from_residual.result) (search rules)
    (c.in-Ok.ensures.found texts) (c.get_tagged_mut.follows.holds c.annotate_content.new.content (ok_is c.get_tagged_mut.result _ c.in-Ok.is) texts) c.in_err-annotate_content-in-Ok.ensures.out_of_memory
