use Rattle.std.proofs.Common.{sym, ap, ◌∙◌}
use Rattle.cbor_edn_parts.specs.Leaves.{literal_bytes}
use Rattle.cbor_edn_model.specs.internal.Same.{same_tree}
use Rattle.cbor_edn_model.specs.tree.Trees.{LastPieceTree, LiteralTree}
use Rattle.cbor_edn_model.specs.tree.TreeLeaves.{texts}
use Rattle.cbor_edn_core.specs.tree.View.{seen_piece, view_piece, view_string}
use Rattle.cbor_edn_model.proofs.lemmas.access.Pieces.{alone_is, several_differ}
use Rattle.cbor_edn_core.proofs.tree.equal.is_literal.Goals as goal

pub returns-then-has_several_pieces : goal.returns-then-has_several_pieces
returns-then-has_several_pieces c = several_differ (view_string texts c.args.string.now) _ c.if-has_several_pieces.ensures

pub returns : goal.returns
returns c =
    let string = c.args.string.now in
    c.is_literal_piece.ensures ∙ ap (λ w. same_tree w (LastPieceTree (LiteralTree (literal_bytes c.args.literal.now) c.args.indicator))) (sym (alone_is (seen_piece texts) string.row.items (view_piece texts string.last) c.if-has_several_pieces.ensures))
