use Rattle.std.proofs.Common.{rules, ◌≡◌, Ok, None}
use Rattle.cbor_edn_findings.proofs.ToldPlaces.{none_placed, found_placed}
use Rattle.cbor_edn_findings.proofs.finding.in_input.Goals as goal
use Rattle.cbor_edn_findings.proofs.finding.in_input.Goals.{in-Ok, in-Err}

pub returns-clause-placed : goal.returns-clause-placed
returns-clause-placed c =
    elim c.match-converted.branch [
      | in-Ok w ↦ (let is : c.match-converted.result ≡ Ok None = search (rules, w.result-is) in none_placed c.args.options.now c.args.input.now c.match-converted.result is)
      | in-Err w ↦ (
          let is : c.match-converted.result ≡ w.found.result = search (rules, w.result-is) in
          found_placed c.args.options.now c.args.input.now c.match-converted.result w.found.result w.in-Err.fault is w.in-Err.ensures.err w.found.ensures.found
          )
    ]
