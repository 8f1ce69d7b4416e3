use Rattle.std.proofs.Common.{Some, sym, ap, ◌∙◌}
use Rattle.cbor_edn_parts.specs.Leaves.{literal_bytes}
use Rattle.cbor_edn_model.specs.access.Accessed.{are_several, string_tree}
use Rattle.cbor_edn_model.specs.tree.TreeLeaves.{texts}
use Rattle.cbor_edn_model.specs.tree.Trees.{LiteralTree}
use Rattle.cbor_edn_core.specs.tree.View.{item_tree, seen_piece, view_inner, view_piece, view_string}
use Rattle.cbor_edn_model.proofs.lemmas.access.Pieces.{alone_is, alone_same, alone_literal, alone_none, several_no_literal}
use Rattle.cbor_edn_core.proofs.lemmas.tree.Views.{view_string_at}
use Rattle.cbor_edn_core.proofs.access.application.lone_literal.Goals as goal

pub returns-then-has_several_pieces-clause-other :
    goal.returns-then-has_several_pieces-clause-other
returns-then-has_several_pieces-clause-other c =
    let string = c.deref.result.now in
    rw (view_string_at texts c.args.item.now.inner c.in-String.string string c.in-String.is c.deref.ensures) (several_no_literal (view_string texts string) c.if-has_several_pieces.ensures)

pub returns-in-Literal-clause-literal : goal.returns-in-Literal-clause-literal
returns-in-Literal-clause-literal c = alone_same (string_tree (item_tree c.args.item.now)) (LiteralTree (literal_bytes c.in-Literal.literal) c.in-Literal.field-0) (ap (λ y. string_tree (view_inner texts y)) c.in-Literal.is)

pub returns-else-has_several_pieces-clause-literal :
    goal.returns-else-has_several_pieces-clause-literal
returns-else-has_several_pieces-clause-literal c =
    let string = c.deref-in-String.result.now in
    let one = c.if-has_several_pieces.ensures ∙ ap (λ s. are_several (view_string texts s)) (c.deref.ensures ∙ sym c.deref-in-String.ensures) in
    let alone = alone_is (seen_piece texts) string.row.items (view_piece texts string.last) one in
    alone_literal (string_tree (item_tree c.args.item.now)) (view_piece texts string.last) (ap string_tree (view_string_at texts c.args.item.now.inner c.in-String.string string c.in-String.is c.deref-in-String.ensures) ∙ ap Some alone) (λ l. literal_bytes l.now) c.piece_literal.result c.piece_literal.ensures.literal

pub returns-else-has_several_pieces-clause-other :
    goal.returns-else-has_several_pieces-clause-other
returns-else-has_several_pieces-clause-other c =
    let string = c.deref-in-String.result.now in
    let one = c.if-has_several_pieces.ensures ∙ ap (λ s. are_several (view_string texts s)) (c.deref.ensures ∙ sym c.deref-in-String.ensures) in
    let alone = alone_is (seen_piece texts) string.row.items (view_piece texts string.last) one in
    alone_none (string_tree (item_tree c.args.item.now)) (view_piece texts string.last) (ap string_tree (view_string_at texts c.args.item.now.inner c.in-String.string string c.in-String.is c.deref-in-String.ensures) ∙ ap Some alone) c.piece_literal.result c.piece_literal.ensures.other
