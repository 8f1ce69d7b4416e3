-- Numbers counted over parts that stand one behind the other, and the one form with an item in it that does not count.
use Rattle.std.specs.Prelude.{◌≡◌, ℕ, zero, suc, ◌+◌, ◌-◌, ◌<◌, ◌≤◌, ltb, if◌then◌else◌, length, slice_get, Bool, true, false, List, [], ◌∷◌, Option, Some, None}
use Rattle.cbor_edn_model.specs.declared.text.opener.OpenerKind.TheVariants as opener
use Rattle.cbor_edn_model.specs.tree.Trees.{Tree, OneItem, EnclosedTree}

-- what is left of a number behind n parts, or nothing where it is one of these
abbrev pub past_of : ℕ → ℕ → Option ℕ
past_of n i = if ltb i n then None else Some (i - n)

-- how many there are in the first k parts
abbrev pub first : ℕ → List ℕ → ℕ
first zero counts = 0
first (suc k) [] = 0
first (suc k) (n ∷ counts) = n + first k counts

-- Of parts with so many items each, the one that holds item i, or how many parts there are, and the item's number from its
-- beginning on.
pub record IsCounted (counts : List ℕ) (i : ℕ) (r : ℕ × ℕ) : Type 0 where
  pub within : r.0 ≤ length counts
  pub number : i ≡ first r.0 counts + r.1
  pub inside : r.0 < length counts → (n : ℕ) → slice_get counts r.0 ≡ Some n → r.1 < n

-- whether an item is `simple(..)`, below which nothing stands
abbrev pub is_simple_item : Tree OneItem → Bool
is_simple_item (EnclosedTree opener.Simple w) = true
is_simple_item w = false
