use Rattle.std.proofs.Common.{◌≡◌, vec_len}
use Rattle.cbor_edn_core.specs.tree.View.{sequence_tree}
use Rattle.cbor_edn_places.specs.Places.{IsCut}
use Rattle.cbor_edn_places.proofs.path.cut_to_item.Given as goal

-- no longer front leads to an item, and nothing changed but the path
abbrev pub invariant-numbers : goal.invariant-numbers
invariant-numbers l = record {
  same : sequence_tree l.sequence ≡ sequence_tree l.fn.sequence;
  cut : IsCut (sequence_tree l.fn.sequence) l.fn.path.items l.path.items;
}

abbrev pub decreases-numbers : goal.decreases-numbers
decreases-numbers l = vec_len l.path
