use Rattle.std.proofs.Common.{rules, ◌≡◌, Some, None, option_map, subst}
use Rattle.std.specs.Int.{w128}
use Rattle.std.proofs.Math.Facts.{to_z-of_z}
use mir.Val.{SFits}
use Rattle.cbor_edn_conversions.specs.CoseTables.{cose_algorithms, further_algorithms}
use Rattle.cbor_edn_conversions.specs.Tables.{found, algorithms}
use Rattle.cbor_edn_conversions.proofs.TablesInTurn.{found_first, found_second}
use Rattle.cbor_edn_conversions.proofs.tables.cose_algorithm.Goals as goal

pub returns-in-Some : goal.returns-in-Some
unfolding cose_algorithms
returns-in-Some c =
    let fits : SFits w128 c.args.number = search rules in
    found_first algorithms further_algorithms c.args.number c.in-Some.name.now (subst (λ z. Some c.in-Some.name.now ≡ found algorithms z) (to_z-of_z fits) c.in-Some.ensures)

pub returns-in-None : goal.returns-in-None
unfolding cose_algorithms
returns-in-None c =
    let fits : SFits w128 c.args.number = search rules in
    found_second algorithms further_algorithms c.args.number _ (subst (λ z. None ≡ found algorithms z) (to_z-of_z fits) c.in-None.ensures)
    (subst (λ z. option_map (λ name. name.now) c.further_algorithm.result ≡ found further_algorithms z) (to_z-of_z fits) c.further_algorithm.ensures)
