use Rattle.std.proofs.Common.{◌≡◌, map}
use Rattle.cbor_edn_core.specs.tree.View.{seen_string}
use Rattle.cbor_edn_model.specs.tree.TreeLeaves.{texts}
use Rattle.cbor_edn_model.specs.internal.LayoutRows.{entry_without_indicators}
use Rattle.cbor_edn_model.proofs.lemmas.layout.Begun.{begun}
use Rattle.cbor_edn_core.proofs.layout.indicators.remove_string_row_indicators.Given as goal

abbrev pub invariant-loop-string : goal.invariant-loop-string
invariant-loop-string l = map (seen_string texts) l.string-items ≡ begun entry_without_indicators l.string-index (map (seen_string texts) l.fn.row.items)
