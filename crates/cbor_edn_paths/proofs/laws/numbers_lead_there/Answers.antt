use Rattle.cbor_edn_paths.proofs.Leads.{numbers_lead_there}
use Rattle.cbor_edn_paths.proofs.laws.numbers_lead_there.Goals as goal

pub returns : goal.returns
returns c = numbers_lead_there
