use Rattle.std.proofs.Common.{ap}
use Rattle.std.specs.Option.{is_some}
use Rattle.cbor_edn_core.proofs.lemmas.access.Loans.{no_tag}
use Rattle.cbor_edn_core.proofs.tree.InnerItemOf.is_tag.Goals as goal

pub returns-in_default : goal.returns-in_default
returns-in_default g c = λ leaves. ap is_some (no_tag leaves c.args.self.now c.in_default.not-Enclosed)
