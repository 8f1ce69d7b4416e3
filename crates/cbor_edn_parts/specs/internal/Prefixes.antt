-- The prefixes of literals as a test.
use Rattle.std.specs.Prelude.{ℕ, Bool, false, List, [], ◌∷◌, ◌||◌, if◌then◌else◌}
use Rattle.std.specs.List.{list_all}
use Rattle.cbor_edn_parts.specs.internal.LiteralTokens.{is_lower, is_upper, is_digit}

abbrev pub are_small : List ℕ → Bool
are_small t = list_all (λ c. is_lower c || is_digit c) t

abbrev pub are_large : List ℕ → Bool
are_large t = list_all (λ c. is_upper c || is_digit c) t

-- a letter, and then letters of its case and digits
abbrev pub is_prefix : List ℕ → Bool
is_prefix [] = false
is_prefix (c ∷ t) = if is_lower c then are_small t else if is_upper c then are_large t else false
