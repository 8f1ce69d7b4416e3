use Rattle.std.proofs.Common.{rules, sym}
use Rattle.std.specs.Int.{w128}
use Rattle.std.proofs.Math.Facts.{to_z-of_z}
use mir.Val.{SFits}
use Rattle.cbor_edn_core.specs.tree.View.{item_tree}
use Rattle.cbor_edn_application.proofs.ItemIntegers.{integer_found, integer_missed}
use Rattle.cbor_edn_application.proofs.integers.integer_of.Goals as goal

pub returns-in-Ok : goal.returns-in-Ok
returns-in-Ok c =
    let fits : SFits w128 c.in-Ok.integer = search rules in
    rw (to_z-of_z fits) (sym (integer_found (item_tree c.args.item.now) c.in-Ok.integer fits c.in-Ok.ensures.found))

pub returns-in-Err : goal.returns-in-Err
returns-in-Err c = sym (integer_missed (item_tree c.args.item.now) c.in-Err.ensures.refused)
