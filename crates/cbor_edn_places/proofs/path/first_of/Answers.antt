use Rattle.std.proofs.Common.{◌∙◌, sym}
use Rattle.cbor_edn_core.specs.tree.View.{sequence_tree}
use Rattle.cbor_edn_places.proofs.FirstPlaces.{first_places, no_place}
use Rattle.cbor_edn_places.proofs.path.first_of.Goals as goal

pub returns-then-branch-clause-found : goal.returns-then-branch-clause-found
returns-then-branch-clause-found c =
    first_places c.is_open.new.path.items c.args.path.now.items (sequence_tree c.is_open.new.sequence) (sequence_tree c.args.sequence.now) c.first_beside.result c.in_ok-is_open.ensures.path c.in_ok-is_open.ensures.same
    (sym c.if-branch.true ∙ c.in_ok-is_open.ensures.open) c.first_beside.ensures.found

pub returns-else-branch-clause-found : goal.returns-else-branch-clause-found
returns-else-branch-clause-found c = no_place c.args.path.now.items (sequence_tree c.args.sequence.now) (sym c.if-branch.false ∙ c.in_ok-is_open.ensures.open)
