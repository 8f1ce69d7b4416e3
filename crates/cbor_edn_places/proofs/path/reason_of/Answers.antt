use Rattle.std.proofs.Common.{◌≡◌, ◌≢◌, [], rules, arith}
use Rattle.std.proofs.lemmas.Grind.{common_steps}
use Rattle.cbor_edn_core.specs.tree.View.{sequence_tree}
use Rattle.cbor_edn_places.proofs.KnownPaths.{from_top_by, first_and_rest, where_true}
use Rattle.cbor_edn_places.proofs.path.reason_of.Goals as goal

pub returns-then-branch : goal.returns-then-branch
returns-then-branch c =
    let some : c.args.path.now ≢ [] = grind (arith, common_steps) in
    let copied : sequence_tree c.deref_mut.result.now ≡ sequence_tree c.args.sequence.now = search rules in
    let lent : sequence_tree c.deref_mut-then-branch.result.now ≡ sequence_tree c.enter.new.sequence = search rules in
    from_top_by c.reason_in.result c.args.path.now c.new-place.result.items _ _ (sequence_tree c.args.sequence.now) (sequence_tree c.deref_mut.result.now) (sequence_tree c.enter.new.sequence)
    (sequence_tree c.deref_mut-then-branch.result.now) (first_and_rest c.args.path.now some) c.new-place.ensures.items copied lent (where_true c.in_ok-enter.field-0 c.if-branch.true c.in_ok-enter.ensures) c.reason_in.ensures
