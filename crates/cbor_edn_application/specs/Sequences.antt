-- Sequences of which each item is changed by itself.
use Rattle.std.specs.Prelude.{◌≡◌, ℕ, zero, suc, Bool, true, false, [], ◌∷◌, None, Some}
use Rattle.cbor_edn_model.specs.tree.Items.{Elements}
use Rattle.cbor_edn_model.specs.access.Paths.{at_sequence, with_at_sequence}
use Rattle.cbor_edn_model.specs.tree.Trees.{Tree, OneItem, Rest, Seq, ElementTree, LastTree, MoreTree, NothingTree, SequenceTree}
use Rattle.cbor_edn_model.specs.visit.Visits.{cut}
use Rattle.cbor_edn_conversions.specs.Claims.{claim_key, with_claims}
use Rattle.cbor_edn_application.specs.Handlers.{AreKeysVisited}

-- entries of which each item is changed
abbrev pub each_item : (Tree OneItem → Tree OneItem) → Tree (Rest Elements) → Tree (Rest Elements)
each_item f (LastTree (ElementTree w) s) = LastTree (ElementTree (f w)) s
each_item f (MoreTree (ElementTree w) s m) = MoreTree (ElementTree (f w)) s (each_item f m)

-- the same of a sequence, whose spaces stay
abbrev pub with_each : (Tree OneItem → Tree OneItem) → Tree Seq → Tree Seq
with_each f (NothingTree s) = NothingTree s
with_each f (SequenceTree s m) = SequenceTree s (each_item f m)

-- A sequence in which each item that is a map has the comments of a claims set; others stay: `{1/ iss /: "a"}, 2` of `{1: "a"}, 2`.
abbrev pub with_claims_sets : Tree Seq → Tree Seq
with_claims_sets = with_each (λ w. (with_claims w).1)

-- ---- where memory is refused

-- entries of which the items of so many in front are changed
abbrev pub first_items : (Tree OneItem → Tree OneItem) → ℕ → Tree (Rest Elements) → Tree (Rest Elements)
first_items f zero m = m
first_items f (suc n) (LastTree (ElementTree w) s) = LastTree (ElementTree (f w)) s
first_items f (suc n) (MoreTree (ElementTree w) s m) = MoreTree (ElementTree (f w)) s (first_items f n m)

abbrev pub with_first_items : (Tree OneItem → Tree OneItem) → ℕ → Tree Seq → Tree Seq
with_first_items f n (NothingTree s) = NothingTree s
with_first_items f n (SequenceTree s m) = SequenceTree s (first_items f n m)

-- the claims sets among so many items in front have their comments
abbrev pub with_first_claims_sets : ℕ → Tree Seq → Tree Seq
with_first_claims_sets = with_first_items (λ w. (with_claims w).1)

-- The item at an index is as a visit of its keys left it that was cut short.
abbrev pub IsBegunAt : ℕ → Tree Seq → Tree Seq → Type 0
IsBegunAt i w v = (c : Tree OneItem) × (x : Tree OneItem) × (at_sequence (i ∷ []) w ≡ Some c) × AreKeysVisited claim_key c cut x × (v ≡ with_at_sequence (i ∷ []) x w)

-- What is left then: items in front have their comments, one may be begun, and all behind it are as before.
pub data AreClaimsBegun (w v : Tree Seq) : Type 0 where
  between : (n : ℕ) → v ≡ with_first_claims_sets n w → AreClaimsBegun w v
  within : (n : ℕ) → IsBegunAt n (with_first_claims_sets n w) v → AreClaimsBegun w v

-- ---- what a private function says of one item

-- The item at an index is changed, or there is none.
abbrev pub IsChangedAt : (Tree OneItem → Tree OneItem) → ℕ → Bool → Tree Seq → Tree Seq → Type 0
IsChangedAt f i true w v = (c : Tree OneItem) × (at_sequence (i ∷ []) w ≡ Some c) × (v ≡ with_at_sequence (i ∷ []) (f c) w)
IsChangedAt f i false w v = (at_sequence (i ∷ []) w ≡ None) × (v ≡ w)

-- it is such a claims set
abbrev pub IsAnnotatedAt : ℕ → Bool → Tree Seq → Tree Seq → Type 0
IsAnnotatedAt = IsChangedAt (λ w. (with_claims w).1)
