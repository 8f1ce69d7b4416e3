use Rattle.std.proofs.Common.{◌≡◌, ℕ, suc, ◌+◌, ◌-◌, ◌*◌, ◌≤◌, ◌<◌, length, map}
use Rattle.cbor_edn_model.specs.declared.cbor.decode.head.Stop.TheVariants.{Break}
use Rattle.cbor_edn_core.specs.tree.View.{item_tree, view_pair}
use Rattle.cbor_edn_model.specs.tree.TreeLeaves.{texts}
use Rattle.cbor_edn_core.specs.internal.RowBuilder.{grown}
use Rattle.cbor_edn_model.specs.internal.CborReading.{many, until, item_at, pair_at, trees}
use Rattle.cbor_edn_model.proofs.lemmas.cbor.CborTurns.{with_front}
use Rattle.cbor_edn_core.proofs.cbor.decode.reader.+item.Given as goal

abbrev pub decreases-decode_array : goal.decreases-decode_array
decreases-decode_array l = 6 * l.limit + 3

abbrev pub decreases-decode_behind_head : goal.decreases-decode_behind_head
decreases-decode_behind_head l = 6 * l.limit + 4

abbrev pub decreases-decode_item : goal.decreases-decode_item
decreases-decode_item l = 6 * l.limit + 5

abbrev pub decreases-decode_items : goal.decreases-decode_items
decreases-decode_items l = 6 * l.limit + 6

abbrev pub decreases-decode_items_until : goal.decreases-decode_items_until
decreases-decode_items_until l = 6 * l.limit + 6

abbrev pub decreases-decode_map : goal.decreases-decode_map
decreases-decode_map l = 6 * l.limit + 3

abbrev pub decreases-decode_pair : goal.decreases-decode_pair
decreases-decode_pair l = 6 * l.limit + 6

abbrev pub decreases-decode_pairs : goal.decreases-decode_pairs
decreases-decode_pairs l = 6 * l.limit + 8

abbrev pub decreases-decode_pairs_until : goal.decreases-decode_pairs_until
decreases-decode_pairs_until l = 6 * l.limit + 8

abbrev pub decreases-decode_tag : goal.decreases-decode_tag
decreases-decode_tag l = 6 * l.limit + 3

abbrev pub invariant-decode_items-loop : goal.invariant-decode_items-loop
invariant-decode_items-loop l = record {
  read : with_front (map item_tree (grown l.found)) (many (item_at trees l.limit) (l.count - l.counter) l.rest) ≡ many (item_at trees l.limit) l.count l.bytes;
  shorter : length l.rest ≤ length l.bytes;
}

abbrev pub invariant-decode_items_until-turns : goal.invariant-decode_items_until-turns
invariant-decode_items_until-turns l = record {
  read : (n : ℕ) × (length l.rest < n) × (with_front (map item_tree (grown l.found)) (until l.stop (item_at trees l.limit) n l.rest) ≡ until l.stop (item_at trees l.limit) (suc (length l.bytes)) l.bytes);
  shorter : length l.rest ≤ length l.bytes;
}

abbrev pub decreases-decode_items_until-turns : goal.decreases-decode_items_until-turns
decreases-decode_items_until-turns l = length l.rest

abbrev pub invariant-decode_pairs-loop : goal.invariant-decode_pairs-loop
invariant-decode_pairs-loop l = record {
  read : with_front (map (view_pair texts) (grown l.found)) (many (pair_at trees (item_at trees l.limit)) (l.count - l.counter) l.rest) ≡ many (pair_at trees (item_at trees l.limit)) l.count l.bytes;
  shorter : length l.rest ≤ length l.bytes;
}

abbrev pub invariant-decode_pairs_until-turns : goal.invariant-decode_pairs_until-turns
invariant-decode_pairs_until-turns l = record {
  read : (n : ℕ) × (length l.rest < n) × (with_front (map (view_pair texts) (grown l.found)) (until Break (pair_at trees (item_at trees l.limit)) n l.rest) ≡ until Break (pair_at trees (item_at trees l.limit)) (suc (length l.bytes)) l.bytes);
  shorter : length l.rest ≤ length l.bytes;
}

abbrev pub decreases-decode_pairs_until-turns : goal.decreases-decode_pairs_until-turns
decreases-decode_pairs_until-turns l = length l.rest
