use Rattle.std.proofs.Common.{◌≡◌, ◌≢◌, ◌∙◌, ◌++◌, ◌∷◌, [], ap, arith}
use Rattle.std.proofs.lemmas.Grind.{common_steps}
use Rattle.cbor_edn_core.specs.tree.View.{sequence_tree}
use Rattle.cbor_edn_places.proofs.KnownPaths.{deeper_by, first_and_rest, where_true}
use Rattle.cbor_edn_places.proofs.path.+reason_in.Goals as goal

pub returns-then-branch : goal.returns-then-branch
returns-then-branch t c =
    let some : c.args.path.now ≢ [] = grind (arith, common_steps) in
    let place : c.push.new.self.items ≡ 0 ∷ [] = c.in_ok-push.ensures.items ∙ ap (λ q. q ++ (0 ∷ [])) c.new-place.ensures.items in
    deeper_by c.reason_in.result c.args.path.now c.push.new.self.items _ _ (sequence_tree c.args.sequence.now) (sequence_tree c.enter.new.sequence) (first_and_rest c.args.path.now some) place
    (where_true c.in_ok-enter.field-0 c.if-branch.true c.in_ok-enter.ensures) c.reason_in.ensures
