use Rattle.std.proofs.Common.{rules, subst, ◌≡◌, Ok, Err, IfOk}
use Rattle.std.specs.Int.{w128}
use Rattle.std.specs.String.{string_bytes}
use Rattle.std.proofs.Math.Facts.{to_z-of_z}
use mir.Val.{SFits}
use Rattle.cbor_edn_parts.specs.base.Refusals.{IfTold}
use Rattle.cbor_edn_conversions.specs.Addresses.{prefix_text}
use Rattle.cbor_edn_application.proofs.address.literals.address_prefix_text.Goals as goal

pub returns-clause-text : goal.returns-clause-text
returns-clause-text c =
    let fits : SFits w128 c.args.prefix_length = search rules in
    subst (λ z. IfOk c.with_message.result (λ s. prefix_text c.args.version z c.args.bytes.now ≡ Ok (string_bytes s))) (to_z-of_z fits) (c.with_message.ensures.text _ c.prefix_text.ensures.text)

pub returns-clause-refused : goal.returns-clause-refused
returns-clause-refused c =
    let fits : SFits w128 c.args.prefix_length = search rules in
    subst (λ z. IfTold c.with_message.result (λ e. prefix_text c.args.version z c.args.bytes.now ≡ Err e.now)) (to_z-of_z fits) (c.with_message.ensures.refused _ c.prefix_text.ensures.refused)
