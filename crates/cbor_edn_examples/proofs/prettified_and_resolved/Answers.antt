use Rattle.std.proofs.Common.{refl}
use Rattle.cbor_edn.specs.View.{sequence_tree}
use Rattle.cbor_edn.specs.Visits.{whole}
use Rattle.cbor_edn_examples.proofs.prettified_and_resolved.Goals as goal

pub returns-clause-visits : goal.returns-clause-visits
returns-clause-visits c = (sequence_tree c.prettify.new.sequence, c.in_ok-prettify.ensures, c.in_ok-resolve.ensures)

-- the law, for these two visits
pub returns-clause-meant : goal.returns-clause-meant
returns-clause-meant c =
    let before = sequence_tree c.args.sequence.now in
    let pretty = sequence_tree c.prettify.new.sequence in
    let after = sequence_tree c.resolve.new.sequence in
    λ vs fit is. c.calls_resolve_again.ensures.sequences vs fit before pretty pretty after whole is c.in_ok-prettify.ensures refl c.in_ok-resolve.ensures
