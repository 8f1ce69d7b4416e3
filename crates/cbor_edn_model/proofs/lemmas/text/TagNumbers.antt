-- The number of a tag: what is read as one are its decimal digits, and they are read as it.
use Rattle.std.proofs.Common.{ℕ, ◌<◌, ◌^◌, ◌≡◌, true, List, [], ◌∷◌, Some, None, refl, arith}
use Rattle.std.specs.Prelude.{◌&&◌, nat_lt, pos}
use Rattle.std.specs.Fmt.{decimal}
use Rattle.std.proofs.lemmas.Bool.{and_parts, cond_both, eq-eqb, ltb-true, lt-ltb}
use Rattle.cbor_edn_parts.specs.internal.ContentReading.{same}
use Rattle.cbor_edn_parts.specs.number.Number.{number_of}
use Rattle.cbor_edn_parts.specs.internal.NumberTokens.{is_number}
use Rattle.cbor_edn_parts.proofs.lemmas.number.Decimals.{decimal_number, value_is}
use Rattle.cbor_edn_parts.proofs.lemmas.string.LiteralPrefixes.{same-found}
use Rattle.cbor_edn_parts.proofs.lemmas.base.Tokens.{Holds, nothing, just}
use Rattle.cbor_edn_model.specs.internal.Reading.{tag_number}

same-again : (x : List ℕ) → same x x ≡ true
same-again [] = refl
same-again (c ∷ x) = rw (eq-eqb c c refl) (same-again x)

pub tag_number-found : (x : List ℕ) → Holds (λ n. (x ≡ decimal n) × (n < 2 ^ 64)) (tag_number x)
tag_number-found x = let n = number_of 10 x in cond_both (same x (decimal n) && nat_lt n (2 ^ 64)) (Some n) None (Holds (λ n. (x ≡ decimal n) × (n < 2 ^ 64))) (λ e. let both = and_parts (same x (decimal n)) (nat_lt n (2 ^ 64)) e in just (same-found x (decimal n) both.0, ltb-true n (2 ^ 64) both.1)) (λ e. nothing)

pub tag_number-again : (n : ℕ) → n < 2 ^ 64 → tag_number (decimal n) ≡ Some n
tag_number-again n lt = rw (value_is n (omega arith), same-again (decimal n), lt-ltb n (2 ^ 64) lt)

pub tag_digits : (n : ℕ) → n < 2 ^ 64 → is_number (decimal n) ≡ true
tag_digits n lt = decimal_number (pos n) (omega arith)
