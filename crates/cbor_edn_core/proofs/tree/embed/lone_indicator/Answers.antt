use Rattle.std.proofs.Common.{◌≡◌, true, false, None, Option, refl, sym, ap, ◌∙◌}
use Rattle.std.proofs.lemmas.Bool.{false≢true}
use Rattle.cbor_edn_parts.specs.declared.base.indicator.Indicator.{Indicator}
use Rattle.cbor_edn_model.specs.access.Accessed.{are_several}
use Rattle.cbor_edn_model.specs.tree.TreeLeaves.{texts}
use Rattle.cbor_edn_model.specs.tree.Trees.{Tree, OneString, LastPieceTree, PlusTree}
use Rattle.cbor_edn_core.specs.tree.Embedding.{lone_indicator}
use Rattle.cbor_edn_core.specs.tree.View.{seen_piece, view_piece, view_string}
use Rattle.cbor_edn_model.proofs.lemmas.access.Pieces.{alone_is}
use Rattle.cbor_edn_core.proofs.tree.embed.lone_indicator.Goals as goal

several_none : (w : Tree OneString) → true ≡ are_several w → None ≡ lone_indicator w
several_none (LastPieceTree p) e = absurd (false≢true (sym e))
several_none (PlusTree p s t w) e = refl

pub returns-then-has_several_pieces : goal.returns-then-has_several_pieces
returns-then-has_several_pieces c = several_none (view_string texts c.args.string.now) c.if-has_several_pieces.ensures

pub returns : goal.returns
returns c =
    let string = c.args.string.now in
    c.piece_indicator.ensures ∙ ap lone_indicator (sym (alone_is (seen_piece texts) string.row.items (view_piece texts string.last) c.if-has_several_pieces.ensures))
