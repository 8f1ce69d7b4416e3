use Rattle.std.proofs.Common.{rules, arith, subst, ◌≡◌, Some, Ok, Err, IfOk}
use Rattle.std.proofs.lemmas.Grind.{common_steps}
use Rattle.std.proofs.lemmas.Result.{IfOk-weaker}
use Rattle.std.specs.Int.{w128}
use Rattle.std.specs.String.{string_bytes}
use Rattle.std.proofs.Math.Facts.{to_z-of_z}
use mir.Val.{SFits}
use Rattle.cbor_edn_parts.specs.base.Refusals.{IfTold}
use Rattle.cbor_edn_core.specs.tree.View.{item_tree}
use Rattle.cbor_edn_model.specs.access.Accessed.{item_bytes}
use Rattle.cbor_edn_conversions.specs.Addresses.{prefix_text}
use Rattle.cbor_edn_conversions.specs.Integers.{item_integer}
use Rattle.cbor_edn_application.proofs.AddressCalls.{no_length, no_second, length_text_is}
use Rattle.cbor_edn_application.proofs.Told.{told_weaker}
use Rattle.cbor_edn_application.proofs.address.literals.pair_text.Goals as goal

pub returns-in_default-clause-refused : goal.returns-in_default-clause-refused
returns-in_default-clause-refused c = λ wrap w. no_length c.args.version wrap w (item_integer (item_tree c.args.first.now)) (item_bytes (item_tree c.args.second.now)) (search rules)

pub returns-in_default-2-clause-refused : goal.returns-in_default-2-clause-refused
returns-in_default-2-clause-refused c = λ wrap w. no_second c.args.version wrap w (item_integer (item_tree c.args.first.now)) (item_bytes (item_tree c.args.second.now)) _ c.in-Some.ensures (search rules)

pub returns-clause-text : goal.returns-clause-text
returns-clause-text c =
    let z = c.in-Some.prefix_length in
    let bytes = c.deref.result.now in
    let fits : SFits w128 z = search rules in
    let are : Some bytes ≡ item_bytes (item_tree c.args.second.now) = first_of (search rules, grind (arith, common_steps), cc) in
    let text = subst (λ z. IfOk c.address_prefix_text.result (λ s. prefix_text c.args.version z bytes ≡ Ok (string_bytes s))) (to_z-of_z fits) c.address_prefix_text.ensures.text in
    IfOk-weaker c.address_prefix_text.result _ _ (λ s h wrap w. length_text_is c.args.version wrap w (item_integer (item_tree c.args.first.now)) (item_bytes (item_tree c.args.second.now)) z bytes (Ok (string_bytes s)) c.in-Some.ensures are h) text

pub returns-clause-refused : goal.returns-clause-refused
returns-clause-refused c =
    let z = c.in-Some.prefix_length in
    let bytes = c.deref.result.now in
    let fits : SFits w128 z = search rules in
    let are : Some bytes ≡ item_bytes (item_tree c.args.second.now) = first_of (search rules, grind (arith, common_steps), cc) in
    let refused = subst (λ z. IfTold c.address_prefix_text.result (λ e. prefix_text c.args.version z bytes ≡ Err e.now)) (to_z-of_z fits) c.address_prefix_text.ensures.refused in
    told_weaker c.address_prefix_text.result _ _ (λ e h wrap w. length_text_is c.args.version wrap w (item_integer (item_tree c.args.first.now)) (item_bytes (item_tree c.args.second.now)) z bytes (Err e.now) c.in-Some.ensures are h) refused
