use Rattle.std.proofs.Common.{rules, ◌≡◌, Some, None, subst}
use Rattle.std.specs.Int.{w128}
use Rattle.std.proofs.Math.Facts.{to_z-of_z}
use mir.Val.{SFits}
use Rattle.cbor_edn_conversions.specs.Tables.{found}
use Rattle.cbor_edn_conversions.specs.CoseTables.{key_types}
use Rattle.cbor_edn_conversions.proofs.tables.key_type.Goals as goal

pub returns-in-Some : goal.returns-in-Some
unfolding key_types
returns-in-Some c =
    let fits : SFits w128 c.args.number = search rules in
    subst (λ z. Some (c.in-Some.row.now.1.now, c.in-Some.row.now.2) ≡ found key_types z) (to_z-of_z fits) c.in-Some.ensures

pub returns-in-None : goal.returns-in-None
unfolding key_types
returns-in-None c =
    let fits : SFits w128 c.args.number = search rules in
    subst (λ z. None ≡ found key_types z) (to_z-of_z fits) c.in-None.ensures
