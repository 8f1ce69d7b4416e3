use Rattle.std.proofs.Common.{refl}
use Rattle.cbor_edn_model.specs.tree.TreeLeaves.{texts}
use Rattle.cbor_edn_core.proofs.lemmas.layout.ViewsWithoutIndicators.{string_without_indicators}
use Rattle.cbor_edn_core.proofs.layout.indicators.remove_string_indicators.Goals as goal

pub returns : goal.returns
returns c = string_without_indicators texts c.args.string.now _ (record { row = c.remove_piece_row_indicators.new.row; last = c.remove_piece_indicators.new.piece }) refl c.remove_piece_row_indicators.ensures c.remove_piece_indicators.ensures
