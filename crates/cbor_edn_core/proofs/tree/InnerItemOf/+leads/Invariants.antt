use Rattle.std.proofs.Common.{◌-◌, length}
use Rattle.cbor_edn_core.proofs.tree.InnerItemOf.+leads.Given as goal

abbrev pub decreases-leads : goal.decreases-leads
decreases-leads g l = length l.path.now - l.at
