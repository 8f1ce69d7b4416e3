use Rattle.std.proofs.Common.{◌≡◌, ◌<◌, ◌≤◌, length, map, get_or, subst, ap, ◌∙◌, sym}
use Rattle.std.proofs.lemmas.List.{length-map}
use Rattle.cbor_edn_parts.specs.Leaves.{space_bytes}
use Rattle.cbor_edn_core.specs.tree.View.{view_piece, seen_piece}
use Rattle.cbor_edn_model.specs.tree.TreeLeaves.{texts}
use Rattle.cbor_edn_model.specs.tree.Trees.{items, LastPieceTree}
use Rattle.cbor_edn_model.specs.internal.Encoding.{piece_kind}
use Rattle.cbor_edn_model.proofs.lemmas.cbor.StringEncodes.{form_of_none, form_of_some}
use Rattle.cbor_edn_core.proofs.cbor.encode.form_kind.Goals as goal

pub returns-in-empty : goal.returns-in-empty
returns-in-empty c =
    let row = c.args.string.now.row.items in
    let last = view_piece texts c.args.string.now.last in
    let empty : length row < 1 = subst (λ xs. length xs < 1) c.as_slice.ensures.value c.in-empty.len_below in
    c.piece_kind.ensures ∙ sym (form_of_none (map (seen_piece texts) row) last (simp length-map empty))

pub returns-in-len1-up : goal.returns-in-len1-up
returns-in-len1-up c =
    let row = c.args.string.now.row.items in
    let x = c.index-piece-0.result in
    let first : x ≡ get_or row 0 x = subst (λ xs. x ≡ get_or xs 0 x) c.as_slice.ensures.value c.index-piece-0.is in
    let some : 1 ≤ length row = subst (λ xs. 1 ≤ length xs) c.as_slice.ensures.value c.in-len1-up.len_at_least in
    c.piece_kind-in-len1-up.ensures ∙ ap (λ x. piece_kind (items (view_piece texts x.0))) (sym c.index-piece-0.is) ∙ sym (form_of_some (λ p. view_piece texts p.0) (λ p. space_bytes p.1) (λ p. space_bytes p.2) row x (LastPieceTree (view_piece texts c.args.string.now.last)) some first)
