use Rattle.std.proofs.Common.{refl}
use Rattle.cbor_edn_model.specs.tree.TreeLeaves.{texts}
use Rattle.cbor_edn_model.proofs.lemmas.layout.Begun.{on_ok}
use Rattle.cbor_edn_core.proofs.lemmas.layout.LaidStrings.{string_laid, string_same}
use Rattle.cbor_edn_core.proofs.layout.strings.lay_string.Goals as goal

pub returns-clause-laid : goal.returns-clause-laid
returns-clause-laid c = on_ok c.lay_piece_row.result (λ e. string_laid texts c.args.layout c.args.string.now _ (record { row = c.lay_piece_row.new.row; last = c.args.string.now.last }) refl refl e) c.lay_piece_row.ensures.laid

pub returns-clause-items : goal.returns-clause-items
returns-clause-items c = string_same texts c.args.string.now _ (record { row = c.lay_piece_row.new.row; last = c.args.string.now.last }) refl refl c.lay_piece_row.ensures.items
