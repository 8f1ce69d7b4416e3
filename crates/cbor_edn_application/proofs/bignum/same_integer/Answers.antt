use Rattle.std.proofs.Common.{◌∙◌, Some, None, Ok, cond, Option, Bool, ap}
use Rattle.cbor_edn_core.specs.tree.View.{item_tree}
use Rattle.cbor_edn_model.specs.tree.Trees.{Tree, OneItem}
use Rattle.cbor_edn_conversions.specs.Conversions.{Conversion}
use Rattle.cbor_edn_application.proofs.BignumBytes.{at_test}
use Rattle.cbor_edn_application.proofs.Magnitudes.{some_holds}
use Rattle.cbor_edn_application.proofs.bignum.same_integer.Goals as goal

abbrev if_same : Tree OneItem → Bool → Option Conversion
if_same t b = cond b (Some (Ok t)) None

pub returns-then-branch : goal.returns-then-branch
returns-then-branch c =
    at_test (item_tree c.args.item.now) (item_tree c.in-Some.content.now) (item_tree c.in-Some-3.integer) c.args.tag c.in-Some-2.number c.in_ok-mean_the_same.field-0
    (record { told = c.in-Some.ensures.some }) (some_holds _ c.in_ok-number.field-0 c.in-Some-2.number c.in-Some-2.is c.in_ok-number.ensures.some)
    (some_holds _ c.in_ok-integer.field-0 c.in-Some-3.integer c.in-Some-3.is c.in_ok-integer.ensures.some) c.in_ok-mean_the_same.ensures ∙ ap (if_same (item_tree c.in-Some-3.integer)) c.if-branch.true

pub returns : goal.returns
returns c =
    at_test (item_tree c.args.item.now) (item_tree c.in-Some.content.now) (item_tree c.in-Some-3.integer) c.args.tag c.in-Some-2.number c.in_ok-mean_the_same.field-0
    (record { told = c.in-Some.ensures.some }) (some_holds _ c.in_ok-number.field-0 c.in-Some-2.number c.in-Some-2.is c.in_ok-number.ensures.some)
    (some_holds _ c.in_ok-integer.field-0 c.in-Some-3.integer c.in-Some-3.is c.in_ok-integer.ensures.some) c.in_ok-mean_the_same.ensures ∙ ap (if_same (item_tree c.in-Some-3.integer)) c.if-branch.false
