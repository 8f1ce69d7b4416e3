use Rattle.std.proofs.Common.{◌≡◌, map, drop}
use Rattle.cbor_edn_core.specs.tree.View.{seen_string}
use Rattle.cbor_edn_model.specs.tree.TreeLeaves.{texts}
use Rattle.cbor_edn_model.specs.internal.Encoding.{kinds_are, row_items}
use Rattle.cbor_edn_core.proofs.cbor.encode.are_of_kind.Given as goal

abbrev pub invariant-loop-string : goal.invariant-loop-string
invariant-loop-string l = kinds_are l.kind (row_items (map (seen_string texts) l.row)) ≡ kinds_are l.kind (row_items (map (seen_string texts) (drop l.string-index l.row)))
