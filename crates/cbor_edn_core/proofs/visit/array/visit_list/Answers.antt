use Rattle.std.proofs.Common.{[]}
use Rattle.cbor_edn_model.specs.visit.Visits.{no_calls, full, empty}
use Rattle.cbor_edn_core.proofs.visit.array.visit_list.Goals as goal

pub returns-in-Present : goal.returns-in-Present
returns-in-Present g c =
    let v = c.visit_items.ensures.visited in
    record { visited = (v.0, v.1, rw c.in-Present.is (full v.2)) }

pub returns-in-Absent : goal.returns-in-Absent
returns-in-Absent g c = record { visited = ([], no_calls, rw c.in-Absent.is empty) }
