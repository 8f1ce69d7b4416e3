use Rattle.std.proofs.Common.{rules, ◌≡◌, ℕ, List, true, Option, Some, None, Result, Ok, Err, IfOk, IfSome, string_bytes, refl, sym, ap, ◌∙◌}
use Rattle.std.proofs.lemmas.Bool.{false≢true}
use Rattle.cbor_edn_parts.specs.declared.base.error.Fault.{Fault}
use Rattle.cbor_edn_parts.specs.declared.base.error.Fault.TheVariants.{Memory, Told}
use Rattle.cbor_edn_parts.specs.Leaves.{literal_bytes}
use Rattle.std.specs.Option.{ok_or}
use Rattle.cbor_edn_parts.specs.base.Refusals.{IfTold, OnMemory}
use Rattle.cbor_edn_model.specs.access.Accessed.{IsApplicationPiece, are_several, string_tree}
use Rattle.cbor_edn_model.specs.tree.TreeLeaves.{texts}
use Rattle.cbor_edn_model.specs.tree.Trees.{Tree, OnePiece, OneString, LastPieceTree, PlusTree, LiteralTree}
use Rattle.cbor_edn_core.specs.declared.access.TypeMismatch.TheVariants.{ApplicationLiteral, SingleApplicationLiteral}
use Rattle.cbor_edn_core.specs.access.Mismatch.{literal_mismatch}
use Rattle.cbor_edn_core.specs.tree.View.{item_tree, seen_piece, view_inner, view_piece, view_string}
use Rattle.cbor_edn_model.proofs.lemmas.access.Pieces.{alone_is, no_application, no_other, several_no_literal}
use Rattle.cbor_edn_core.proofs.lemmas.tree.Views.{view_stream_is, view_string_at}
use Rattle.cbor_edn_core.proofs.access.application.Item.get_application_literal.Goals as goal

on_memory : {A E P : Type 0} (r : Result A (Fault E)) → P → OnMemory r P
on_memory (Ok x) h = tt
on_memory (Err (Memory e)) h = h
on_memory (Err (Told e)) h = tt

-- what the parts of a literal tell, where the item is that literal alone
found : {A : Type 0} (x y : A → List ℕ) (w : Option (Tree OneString)) (l : Tree OnePiece) → w ≡ Some (LastPieceTree l) → (o : Option A) → IfSome o (λ p. IsApplicationPiece l (x p) (y p))
    → IfOk (ok_or o (Told ApplicationLiteral)) (λ p. (m : Tree OnePiece) × (w ≡ Some (LastPieceTree m)) × IsApplicationPiece m (x p) (y p))
found x y w l only (Some p) h = (l, only, h)
found x y w l only None h = tt

refused : {A : Type 0} (w : Option (Tree OneString)) (l : Tree OnePiece) → w ≡ Some (LastPieceTree l) → (o : Option A) → (o ≡ None → (p v : List ℕ) → IsApplicationPiece l p v → ⊥)
    → IfTold (ok_or o (Told ApplicationLiteral)) (λ e. (e ≡ literal_mismatch w) × ((p v : List ℕ) → (m : Tree OnePiece) × (w ≡ Some (LastPieceTree m)) × IsApplicationPiece m p v → ⊥))
refused w l only (Some p) none = tt
refused w l only None none = (sym (ap literal_mismatch only), λ p v (m, is, h). none refl p v (no_other w l m p v only is h))

several : (w : Tree OneString) → true ≡ are_several w → (SingleApplicationLiteral ≡ literal_mismatch (Some w)) × ((p v : List ℕ) → (m : Tree OnePiece) × (Some w ≡ Some (LastPieceTree m)) × IsApplicationPiece m p v → ⊥)
several (LastPieceTree l) e = absurd (false≢true (sym e))
several (PlusTree l s t w) e = (refl, several_no_literal (PlusTree l s t w) e)

no_string : (w : Option (Tree OneString)) → w ≡ None → (ApplicationLiteral ≡ literal_mismatch w) × ((p v : List ℕ) → (m : Tree OnePiece) × (w ≡ Some (LastPieceTree m)) × IsApplicationPiece m p v → ⊥)
no_string w e = (sym (ap literal_mismatch e), no_application w e)

pub returns-in_err-application_parts-in-Literal-clause-out_of_memory :
    goal.returns-in_err-application_parts-in-Literal-clause-out_of_memory
returns-in_err-application_parts-in-Literal-clause-out_of_memory c =
    let sought = c.in_err-application_parts-in-Literal.ensures.prefixed in
    on_memory c.from_residual.result (sought.0, sought.1, (LiteralTree (literal_bytes c.in-Literal.literal) c.in-Literal.field-0, ap (λ y. string_tree (view_inner texts y)) c.in-Literal.is, sought.2))

pub returns-in_ok-application_parts-in-Literal-clause-found :
    goal.returns-in_ok-application_parts-in-Literal-clause-found
returns-in_ok-application_parts-in-Literal-clause-found c =
    rw c.ok_or.ensures.value (found (λ p. string_bytes p.0) (λ p. string_bytes p.1) (string_tree (item_tree c.args.self.now)) (LiteralTree (literal_bytes c.in-Literal.literal) c.in-Literal.field-0) (ap (λ y. string_tree (view_inner texts y)) c.in-Literal.is) c.in_ok-application_parts-in-Literal.field-0 c.in_ok-application_parts-in-Literal.ensures.found)

pub returns-in_ok-application_parts-in-Literal-clause-refused :
    goal.returns-in_ok-application_parts-in-Literal-clause-refused
returns-in_ok-application_parts-in-Literal-clause-refused c =
    rw c.ok_or.ensures.value (refused (string_tree (item_tree c.args.self.now)) (LiteralTree (literal_bytes c.in-Literal.literal) c.in-Literal.field-0) (ap (λ y. string_tree (view_inner texts y)) c.in-Literal.is) c.in_ok-application_parts-in-Literal.field-0 c.in_ok-application_parts-in-Literal.ensures.none)

pub returns-then-has_several_pieces-clause-refused :
    goal.returns-then-has_several_pieces-clause-refused
returns-then-has_several_pieces-clause-refused c =
    let string = c.deref.result.now in
    rw (view_string_at texts c.args.self.now.inner c.in-String.string string c.in-String.is c.deref.ensures) (several (view_string texts string) c.if-has_several_pieces.ensures)

pub returns-in_err-prefix_and_text_of-in-String-clause-out_of_memory :
    goal.returns-in_err-prefix_and_text_of-in-String-clause-out_of_memory
returns-in_err-prefix_and_text_of-in-String-clause-out_of_memory c =
    let string = c.deref-in-String.result.now in
    let one = c.if-has_several_pieces.ensures ∙ ap (λ s. are_several (view_string texts s)) (c.deref.ensures ∙ sym c.deref-in-String.ensures) in
    let alone = alone_is (seen_piece texts) string.row.items (view_piece texts string.last) one in
    let sought = c.in_err-prefix_and_text_of-in-String.ensures.prefixed in
    on_memory c.from_residual-in_err-prefix_and_text_of-in-String.result (sought.0, sought.1, (view_piece texts string.last, ap string_tree (view_string_at texts c.args.self.now.inner c.in-String.string string c.in-String.is c.deref-in-String.ensures) ∙ ap Some alone, sought.2))

pub returns-in_ok-prefix_and_text_of-in-String-clause-found :
    goal.returns-in_ok-prefix_and_text_of-in-String-clause-found
returns-in_ok-prefix_and_text_of-in-String-clause-found c =
    let string = c.deref-in-String.result.now in
    let one = c.if-has_several_pieces.ensures ∙ ap (λ s. are_several (view_string texts s)) (c.deref.ensures ∙ sym c.deref-in-String.ensures) in
    let alone = alone_is (seen_piece texts) string.row.items (view_piece texts string.last) one in
    rw c.ok_or-in-String.ensures.value (found (λ p. string_bytes p.0) (λ p. string_bytes p.1) (string_tree (item_tree c.args.self.now)) (view_piece texts string.last) (ap string_tree (view_string_at texts c.args.self.now.inner c.in-String.string string c.in-String.is c.deref-in-String.ensures) ∙ ap Some alone) c.in_ok-prefix_and_text_of-in-String.field-0 c.in_ok-prefix_and_text_of-in-String.ensures.found)

pub returns-in_ok-prefix_and_text_of-in-String-clause-refused :
    goal.returns-in_ok-prefix_and_text_of-in-String-clause-refused
returns-in_ok-prefix_and_text_of-in-String-clause-refused c =
    let string = c.deref-in-String.result.now in
    let one = c.if-has_several_pieces.ensures ∙ ap (λ s. are_several (view_string texts s)) (c.deref.ensures ∙ sym c.deref-in-String.ensures) in
    let alone = alone_is (seen_piece texts) string.row.items (view_piece texts string.last) one in
    rw c.ok_or-in-String.ensures.value (refused (string_tree (item_tree c.args.self.now)) (view_piece texts string.last) (ap string_tree (view_string_at texts c.args.self.now.inner c.in-String.string string c.in-String.is c.deref-in-String.ensures) ∙ ap Some alone) c.in_ok-prefix_and_text_of-in-String.field-0 c.in_ok-prefix_and_text_of-in-String.ensures.none)

pub returns-in-Number-clause-refused : goal.returns-in-Number-clause-refused
returns-in-Number-clause-refused c = no_string (string_tree (item_tree c.args.self.now)) (search (rules, view_stream_is texts))
