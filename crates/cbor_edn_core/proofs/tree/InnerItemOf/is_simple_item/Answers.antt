use Rattle.cbor_edn_core.proofs.lemmas.access.Loans.{not_simple}
use Rattle.cbor_edn_core.proofs.tree.InnerItemOf.is_simple_item.Goals as goal

pub returns-in_default : goal.returns-in_default
returns-in_default g c = λ leaves. not_simple leaves c.args.self.now c.in_default.not-Enclosed
