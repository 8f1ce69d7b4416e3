use Rattle.std.proofs.Common.{rules, ◌≡◌, ◌++◌, ◌∷◌, []}
use Rattle.cbor_edn_core.specs.tree.View.{sequence_tree}
use Rattle.cbor_edn_places.proofs.FirstPlaces.{none_behind, end_found}
use Rattle.cbor_edn_places.proofs.path.first_beside.Goals as goal

pub returns-in-Nowhere-clause-found : goal.returns-in-Nowhere-clause-found
returns-in-Nowhere-clause-found c =
    let path : c.deref.result.now ≡ c.args.path.now.items ++ (c.loop-number.number ∷ []) = search (rules, c.deref.ensures.value, c.in_ok-push.ensures.items, c.loop-number.invariant.path) in
    none_behind c.args.path.now.items c.loop-number.number (sequence_tree c.args.sequence.now) c.loop-number.invariant.before (end_found c.deref.result.now (c.args.path.now.items ++ (c.loop-number.number ∷ [])) (sequence_tree c.loop-number.sequence) (sequence_tree c.args.sequence.now) _ c.in_ok-found.ensures.found c.in-Nowhere.is path c.loop-number.invariant.same)
