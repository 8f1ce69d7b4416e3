use Rattle.std.proofs.Common.{◌≤◌, ◌<◌, length, map}
use Rattle.cbor_edn_core.specs.tree.View.{item_tree}
use Rattle.cbor_edn.specs.Elements.{AreRead}
use Rattle.cbor_edn.proofs.elements.front_items.Given as goal

abbrev pub invariant-items : goal.invariant-items
invariant-items l = record {
  read : AreRead l.limit l.bytes (map item_tree l.items.items) l.rest;
  left : length l.rest ≤ length l.bytes;
  most : length l.items.items ≤ l.most;
  moved : 0 < length l.items.items → length l.rest < length l.bytes;
}

abbrev pub decreases-items : goal.decreases-items
decreases-items l = length l.rest
