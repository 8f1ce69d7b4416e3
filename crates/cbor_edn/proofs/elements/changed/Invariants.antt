use Rattle.std.proofs.Common.{◌<◌, length, List}
use Rattle.cbor_edn_model.specs.tree.Trees.{Tree, OneItem}
use Rattle.cbor_edn.specs.Elements.{AreRead, IsTextInFront}
use Rattle.cbor_edn.proofs.elements.changed.Given as goal

-- so many items are read, and their text is printed
abbrev pub invariant-turns : goal.invariant-turns
invariant-turns l = record {
  done : (ws : List (Tree OneItem)) × AreRead l.options.limit l.bytes ws l.rest × IsTextInFront l.options ws l.out.items;
  some : 0 < length l.rest;
}

abbrev pub decreases-turns : goal.decreases-turns
decreases-turns l = length l.rest
