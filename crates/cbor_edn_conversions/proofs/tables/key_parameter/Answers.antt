use Rattle.std.proofs.Common.{rules, ◌≡◌, Some, None, option_map, subst}
use Rattle.std.specs.Int.{w128}
use Rattle.std.proofs.Math.Facts.{to_z-of_z}
use mir.Val.{SFits}
use Rattle.cbor_edn_conversions.specs.CoseTables.{key_parameters, typed_parameters}
use Rattle.cbor_edn_conversions.specs.Tables.{found}
use Rattle.cbor_edn_conversions.proofs.TablesInTurn.{found_first, found_second}
use Rattle.cbor_edn_conversions.proofs.tables.key_parameter.Goals as goal

pub returns-in-Some : goal.returns-in-Some
unfolding key_parameters
returns-in-Some c =
    let fits : SFits w128 c.args.number = search rules in
    found_first key_parameters (typed_parameters c.args.key_type) c.args.number _
    (subst (λ z. Some (c.in-Some.row.now.1.now, c.in-Some.row.now.2) ≡ found key_parameters z) (to_z-of_z fits) c.in-Some.ensures)

pub returns-in-None : goal.returns-in-None
unfolding key_parameters
returns-in-None c =
    let fits : SFits w128 c.args.number = search rules in
    found_second key_parameters (typed_parameters c.args.key_type) c.args.number _ (subst (λ z. None ≡ found key_parameters z) (to_z-of_z fits) c.in-None.ensures)
    (subst (λ z. option_map (λ p. (p.0.now, p.1)) c.typed_parameter.result ≡ found (typed_parameters c.args.key_type) z) (to_z-of_z fits) c.typed_parameter.ensures)
