use Rattle.std.proofs.Common.{rules, pos, sym, ap, ◌≡◌, ◌∙◌}
use Rattle.std.proofs.Math.Facts.{to_z-of_z}
use Rattle.std.specs.Int.{w128}
use Rattle.std.specs.Prelude.{option_map}
use mir.Val.{SFits}
use Rattle.cbor_edn_core.specs.tree.View.{item_tree}
use Rattle.cbor_edn_conversions.specs.CoseTables.{messages}
use Rattle.cbor_edn_conversions.specs.Tables.{found}
use Rattle.cbor_edn_application.proofs.CoseCalls.{called_none, called_other, called_of}
use Rattle.cbor_edn_application.proofs.cose.called_message.Goals as goal

pub returns-in_err-number : goal.returns-in_err-number
returns-in_err-number c = ap (option_map _) c.from_residual.ensures ∙ called_none c.args.tag (item_tree c.args.item.now) (sym c.in_err-number.ensures)

pub returns-then-number-tag : goal.returns-then-number-tag
returns-then-number-tag c = called_other c.args.tag c.in_ok-number.number _ (item_tree c.args.item.now) (sym c.in_ok-number.ensures) c.if-number-tag.true

pub returns : goal.returns
returns c =
    let same : c.in_ok-number.number ≡ c.args.tag = search rules in
    let fits : SFits w128 c.from.result = search rules in
    let number : c.from.result ≡ pos c.args.tag = search rules in
    c.message.ensures ∙ (ap (found messages) (to_z-of_z fits ∙ number) ∙ called_of c.args.tag c.in_ok-number.number _ (item_tree c.args.item.now) (sym c.in_ok-number.ensures) same)
