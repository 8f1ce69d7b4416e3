use Rattle.cbor_edn_application.proofs.TimeCalls.{of_other}
use Rattle.cbor_edn_application.proofs.time.is_tag_wanted.Goals as goal

pub returns-in_default-clause-other : goal.returns-in_default-clause-other
returns-in_default-clause-other c = λ t. of_other c.args.prefix.now t c.in_default.not-dt c.in_default.not-DT
