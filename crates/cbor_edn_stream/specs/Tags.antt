-- Whether tags of some numbers stand in values.
use Rattle.std.specs.Prelude.{ℕ, Bool, false, ◌||◌, List, nat_eq}
use Rattle.std.specs.List.{list_any}
use Rattle.cbor_edn_model.specs.cbor.Value.{Value, unsigned, negative, string, chunks, array, cbor_map, tag, simple, float, Values, no_values, value, Pairs, no_pairs, pair}

-- the number is one of some
abbrev pub among : List ℕ → ℕ → Bool
among numbers n = list_any (λ m. nat_eq m n) numbers

-- A tag of one of the numbers stands in the value, at any depth: of 52 in `[1(52(h'c0000201'))]`.
abbrev mutual
  pub value_has_tag : List ℕ → Value → Bool
  value_has_tag numbers (unsigned w n) = false
  value_has_tag numbers (negative w n) = false
  value_has_tag numbers (string k w bs) = false
  value_has_tag numbers (chunks k cs) = false
  value_has_tag numbers (array w vs) = values_have_tag numbers vs
  value_has_tag numbers (cbor_map w ps) = pairs_have_tag numbers ps
  value_has_tag numbers (tag w n v) = among numbers n || value_has_tag numbers v
  value_has_tag numbers (simple n) = false
  value_has_tag numbers (float w f) = false

  pub values_have_tag : List ℕ → Values → Bool
  values_have_tag numbers no_values = false
  values_have_tag numbers (value v vs) = value_has_tag numbers v || values_have_tag numbers vs

  pub pairs_have_tag : List ℕ → Pairs → Bool
  pairs_have_tag numbers no_pairs = false
  pairs_have_tag numbers (pair k v ps) = value_has_tag numbers k || (value_has_tag numbers v || pairs_have_tag numbers ps)
