use Rattle.std.proofs.Common.{rules, sym}
use Rattle.std.specs.Int.{w128}
use Rattle.std.proofs.Math.Facts.{to_z-of_z}
use mir.Val.{SFits}
use Rattle.cbor_edn_parts.specs.Leaves.{number_bytes}
use Rattle.cbor_edn_core.proofs.access.Item.get_integer.Goals as goal

pub returns-in-Some-to_i128-clause-found : goal.returns-in-Some-to_i128-clause-found
returns-in-Some-to_i128-clause-found c =
    let fits : SFits w128 c.in-Some-to_i128.integer = search rules in
    (number_bytes c.in-Some.number.now, sym c.in-Some.ensures, rw (to_z-of_z fits) c.in-Some-to_i128.ensures.some)
