-- Byte strings that are put one behind the other.
use Rattle.std.proofs.Common.{◌≡◌, ℕ, List, [], ◌∷◌, ◌++◌, Option, Some, Result, Ok, Err, refl, ap, ◌∙◌, append_assoc}
use Rattle.std.proofs.lemmas.List.{append-nil}
use Rattle.cbor_edn_parts.specs.declared.base.error.Fault.{Fault}
use Rattle.cbor_edn_parts.specs.declared.base.error.Fault.TheVariants.{Memory, Told}
use Rattle.cbor_edn_model.specs.access.Accessed.{both_joined, piece_bytes, pieces_bytes, chunk, strings_bytes}
use Rattle.cbor_edn_model.specs.tree.Items.{Strings}
use Rattle.cbor_edn_model.specs.tree.Rows.{pieces_onto, entries_onto}
use Rattle.cbor_edn_model.specs.tree.Trees.{Tree, OnePiece, OneEntry, LastPieceTree, LastTree}
use Rattle.cbor_edn_model.specs.internal.Adding.{Adds, with_last}

abbrev Added : Type 0 → Type 0
Added E = Result (Unit {0}) (Fault E)

module _ {E : Type 0} (refusal : E) where
  then_added : (o p : Option (List ℕ)) (old middle new : List ℕ) (r : Added E) → Adds refusal o old middle (Ok tt) → Adds refusal p middle new r → Adds refusal (both_joined o p) old new r
  then_added o p old middle new (Ok u) (xs, is, behind) (ys, others, end) =
      (xs ++ ys, ap (λ o. both_joined o p) is ∙ ap (both_joined (Some xs)) others, end ∙ ap (λ (l : List ℕ). l ++ ys) behind ∙ append_assoc old xs ys)
  then_added o p old middle new (Err (Told e)) (xs, is, behind) (says, none) = (says, ap (λ o. both_joined o p) is ∙ ap (both_joined (Some xs)) none)
  then_added o p old middle new (Err (Memory e)) one others = tt

  stops : (o p : Option (List ℕ)) (old new : List ℕ) (f : Fault E) → Adds refusal o old new (Err f) → Adds refusal (both_joined o p) old new (Err f)
  stops o p old new (Told e) (says, none) = (says, ap (λ o. both_joined o p) none)
  stops o p old new (Memory e) one = tt

  alone : (o : Option (List ℕ)) (old new : List ℕ) (r : Added E) → Adds refusal o old new r → Adds refusal (both_joined o (Some [])) old new r
  alone o old new (Ok u) (xs, is, behind) = (xs, ap (λ o. both_joined o (Some [])) is ∙ ap Some (append-nil xs), behind)
  alone o old new (Err f) one = stops o (Some []) old new f one

  module _ {Q : Type 0} (bytes : Q → Option (List ℕ)) (last : Option (List ℕ)) where
    -- What is added for those that are left is added for all.
    abbrev pub AddsLeft : List Q → List Q → List ℕ → List ℕ → Type 0
    AddsLeft left all middle old = (r : Added E) (new : List ℕ) → Adds refusal (with_last bytes left last) middle new r → Adds refusal (with_last bytes all last) old new r

    pub none_added : (all : List Q) (old : List ℕ) → AddsLeft all all old old
    none_added all old r new others = others

    pub next_added : (q : Q) (left all : List Q) (old middle after : List ℕ) → Adds refusal (bytes q) middle after (Ok tt) → AddsLeft (q ∷ left) all middle old → AddsLeft left all after old
    next_added q left all old middle after one rest r new others = rest r new (then_added (bytes q) (with_last bytes left last) middle after new r one others)

    pub next_stops : (q : Q) (left all : List Q) (old middle after : List ℕ) (f : Fault E) → Adds refusal (bytes q) middle after (Err f) → AddsLeft (q ∷ left) all middle old → Adds refusal (with_last bytes all last) old after (Err f)
    next_stops q left all old middle after f one rest = rest (Err f) after (stops (bytes q) (with_last bytes left last) middle after f one)

    pub last_added : (all : List Q) (old middle new : List ℕ) (r : Added E) → Adds refusal last middle new r → AddsLeft [] all middle old → Adds refusal (with_last bytes all last) old new r
    last_added all old middle new r one rest = rest r new (alone last middle new r one)

-- ---- strings, and the strings of a stream

pub string_made : (ps : List (Tree OnePiece × List ℕ × List ℕ)) (p : Tree OnePiece) → pieces_bytes (pieces_onto ps (LastPieceTree p)) ≡ with_last (λ q. piece_bytes q.0) ps (piece_bytes p)
string_made [] p = refl
string_made (q ∷ ps) p = ap (both_joined (piece_bytes q.0)) (string_made ps p)

pub strings_made : (ps : List (Tree (OneEntry Strings) × List ℕ)) (e : Tree (OneEntry Strings)) (s : List ℕ) → strings_bytes (entries_onto ps (LastTree e s)) ≡ with_last (λ q. pieces_bytes (chunk q.0)) ps (pieces_bytes (chunk e))
strings_made [] e s = refl
strings_made (q ∷ ps) e s = ap (both_joined (pieces_bytes (chunk q.0))) (strings_made ps e s)
