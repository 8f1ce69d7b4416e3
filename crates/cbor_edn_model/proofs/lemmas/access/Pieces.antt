-- Strings of one piece and of several.
use Rattle.std.proofs.Common.{◌≡◌, ℕ, Bool, List, [], ◌∷◌, true, false, length, map, Option, Some, None, IfSome, refl, sym, ap, subst, ◌∙◌, arith}
use Rattle.std.proofs.lemmas.Bool.{false≢true, ne_eqb}
use Rattle.std.specs.Prelude.{◌==◌, ◌↔◌, IfNone}
use mathlib.Core.Bool.{not}
use Rattle.cbor_edn_parts.specs.string.Literal.{IsLiteral, Prefixed}
use Rattle.cbor_edn_parts.specs.Written.{application_literal}
use Rattle.std.specs.Option.{is_some}
use Rattle.cbor_edn_parts.proofs.lemmas.string.Applications.{one_application}
use Rattle.cbor_edn_parts.proofs.lemmas.string.WrittenLiterals.{application_is}
use Rattle.cbor_edn_model.specs.access.Accessed.{are_several, IsApplicationPiece}
use Rattle.cbor_edn_model.specs.internal.Same.{same_tree}
use Rattle.cbor_edn_model.specs.tree.Rows.{pieces_onto}
use Rattle.cbor_edn_model.specs.tree.Trees.{Tree, OnePiece, OneString, LiteralTree, LastPieceTree, PlusTree}
use Rattle.cbor_edn_model.specs.tree.ConstructedLaws.{LiteralIsAnswered}

module _ {X : Type 0} (seen : X → Tree OnePiece × List ℕ × List ℕ) where
  pub several_is : (row : List X) (p : Tree OnePiece) → not (length row == 0) ≡ are_several (pieces_onto (map seen row) (LastPieceTree p))
  several_is [] p = refl
  several_is (x ∷ row) p = ap not (ne_eqb (length (x ∷ row)) 0 suc-ne-zero-of)
    where
      suc-ne-zero-of : length (x ∷ row) ≡ 0 → ⊥
      suc-ne-zero-of e = omega (arith, e)

  pub alone_is : (row : List X) (p : Tree OnePiece) → false ≡ are_several (pieces_onto (map seen row) (LastPieceTree p)) → pieces_onto (map seen row) (LastPieceTree p) ≡ LastPieceTree p
  alone_is [] p e = refl
  alone_is (x ∷ row) p e = absurd (false≢true e)

pub several_differ : (w : Tree OneString) (p : Tree OnePiece) → true ≡ are_several w → false ≡ same_tree w (LastPieceTree p)
several_differ (LastPieceTree q) p e = absurd (false≢true (sym e))
several_differ (PlusTree q s t w) p e = refl

-- what is no string
pub no_application : (w : Option (Tree OneString)) → w ≡ None → (p v : List ℕ) → (m : Tree OnePiece) × (w ≡ Some (LastPieceTree m)) × IsApplicationPiece m p v → ⊥
no_application w e p v (m, is, h) = none≢some (sym e ∙ is)
  where
    none≢some : None ≡ Some (LastPieceTree m) → ⊥
    none≢some e = false≢true (ap is_some e)

-- what is no application-oriented literal alone
pub no_other : (w : Option (Tree OneString)) (l m : Tree OnePiece) (p v : List ℕ) → w ≡ Some (LastPieceTree l) → w ≡ Some (LastPieceTree m) → IsApplicationPiece m p v → IsApplicationPiece l p v
no_other w l m p v is other h = subst (λ k. IsApplicationPiece k p v) (same (sym other ∙ is)) h
  where
    last : Option (Tree OneString) → Tree OnePiece
    last (Some (LastPieceTree k)) = k
    last _ = l

    same : Some (LastPieceTree m) ≡ Some (LastPieceTree l) → m ≡ l
    same e = ap last e

-- where an item is one piece, it is what that piece is
module _ (w : Option (Tree OneString)) (l : Tree OnePiece) (is : w ≡ Some (LastPieceTree l)) where
  pub alone_same : (p v : List ℕ) → ((m : Tree OnePiece) × (w ≡ Some (LastPieceTree m)) × IsApplicationPiece m p v) ↔ IsApplicationPiece l p v
  alone_same p v = ((λ (m, other, h). no_other w l m p v is other h), λ h. (l, is, h))

  pub alone_literal : {X : Type 0} (written : X → List ℕ) (o : Option X) → IfSome o (λ x. (p v : List ℕ) → IsApplicationPiece l p v ↔ IsLiteral (Prefixed p) v (written x))
      → IfSome o (λ x. (p v : List ℕ) → ((m : Tree OnePiece) × (w ≡ Some (LastPieceTree m)) × IsApplicationPiece m p v) ↔ IsLiteral (Prefixed p) v (written x))
  alone_literal written (Some x) h = λ p v. let to = alone_same p v in let read = h p v in ((λ k. read.0 (to.0 k)), λ k. to.1 (read.1 k))
  alone_literal written None h = tt

  pub alone_none : {X : Type 0} (o : Option X) → IfNone o ((p v : List ℕ) → IsApplicationPiece l p v → ⊥)
      → IfNone o ((p v : List ℕ) → ((m : Tree OnePiece) × (w ≡ Some (LastPieceTree m)) × IsApplicationPiece m p v) → ⊥)
  alone_none (Some x) h = tt
  alone_none None h = λ p v k. h p v ((alone_same p v).0 k)

-- a string of several pieces is no literal
pub several_no_literal : (w : Tree OneString) → true ≡ are_several w → (p v : List ℕ) → (m : Tree OnePiece) × (Some w ≡ Some (LastPieceTree m)) × IsApplicationPiece m p v → ⊥
several_no_literal w e p v (m, is, h) = false≢true (sym (e ∙ ap several_of is))
  where
    several_of : Option (Tree OneString) → Bool
    several_of (Some u) = are_several u
    several_of None = false

pub literal_is_answered : LiteralIsAnswered
literal_is_answered p v is all q w =
    let t = application_literal p v in
    let made = application_is p v is all in (
      λ (l, e, h). one_application p v q w t made (no_other (Some (LastPieceTree (LiteralTree t None))) (LiteralTree t None) l q w refl e h),
      λ (e, f). (LiteralTree t None, refl, subst (λ q. IsLiteral (Prefixed q) w t) (sym e) (subst (λ v. IsLiteral (Prefixed p) v t) (sym f) made)),
    )
