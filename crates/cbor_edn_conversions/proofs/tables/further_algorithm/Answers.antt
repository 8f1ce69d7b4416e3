use Rattle.std.proofs.Common.{rules, ◌≡◌, option_map, subst}
use Rattle.std.specs.Int.{w128}
use Rattle.std.proofs.Math.Facts.{to_z-of_z}
use mir.Val.{SFits}
use Rattle.cbor_edn_conversions.specs.Tables.{found}
use Rattle.cbor_edn_conversions.specs.CoseTables.{further_algorithms}
use Rattle.cbor_edn_conversions.proofs.tables.further_algorithm.Goals as goal

pub returns : goal.returns
unfolding further_algorithms
returns c =
    let fits : SFits w128 c.args.number = search rules in
    subst (λ z. option_map (λ name. name.now) c.find_name.result ≡ found further_algorithms z) (to_z-of_z fits) c.find_name.ensures
