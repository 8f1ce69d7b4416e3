use Rattle.cbor_edn.specs.TreeLeaves.{texts}
use Rattle.cbor_edn_examples.proofs.LoanExamples.{where_lent}
use Rattle.cbor_edn_examples.proofs.replaced.Goals as goal

pub returns-in-Some-clause-placed : goal.returns-in-Some-clause-placed
returns-in-Some-clause-placed c = where_lent c.in-Some.is (c.at_mut.follows.holds c.args.item) texts
