use Rattle.std.proofs.Common.{refl, rules, ap, ◌∙◌}
use Rattle.cbor_edn_model.specs.tree.TreeLeaves.{texts}
use Rattle.cbor_edn_core.proofs.lemmas.visit.ElementVisits.{no_map, map_visited}
use Rattle.cbor_edn_core.proofs.visit.map.Item.visit_map_elements.Goals as goal

pub returns-in_default : goal.returns-in_default
returns-in_default g c = record { visited = tt; refused = (refl, no_map texts c.args.self.now.inner c.in_default.not-Map, search (rules), refl) }

pub returns-in-Ok-clause-visited : goal.returns-in-Ok-clause-visited
returns-in-Ok-clause-visited g c =
    let b = c.in-Map.list in
    let v = c.in-Ok.ensures.visited in
    (v.0, v.1, map_visited c.args.self.now.inner _ b (record { ptr = b.ptr; alloc = b.alloc; value = c.visit_list.new.list }) c.deref_mut.result.now v.0 _ c.in-Map.is (c.deref_mut.ensures.value ∙ ap (λ b. b.value) c.in-Map.list-is) (search (rules)) v.2)

pub returns-in-Err-clause-visited : goal.returns-in-Err-clause-visited
returns-in-Err-clause-visited g c =
    let b = c.in-Map.list in
    let v = c.in-Err.ensures.visited in
    (v.0, v.1, map_visited c.args.self.now.inner _ b (record { ptr = b.ptr; alloc = b.alloc; value = c.visit_list.new.list }) c.deref_mut.result.now v.0 _ c.in-Map.is (c.deref_mut.ensures.value ∙ ap (λ b. b.value) c.in-Map.list-is) (search (rules)) v.2)
