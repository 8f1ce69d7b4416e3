-- The literals of decoded strings.
use Rattle.std.proofs.Common.{ℕ, ◌<◌, ◌≤◌, ◌≡◌, ◌≢◌, true, false, List, [], ◌∷◌, ◌++◌, length, get_or, ltb, refl, sym, ap, append_assoc, ⊎_elim, arith}
use Rattle.std.specs.Prelude.{All, encode_utf8}
use Rattle.std.specs.Fmt.{digits}
use Rattle.std.proofs.lemmas.Bool.{cases_lt, ne_eqb}
use Rattle.std.proofs.lemmas.Bool.Decides.{nat_tests}
use Rattle.std.proofs.lemmas.List.{append-nil}
use Rattle.std.proofs.lemmas.List.Elements.{All-head, All-tail, All-from_get_or}
use Rattle.std.proofs.lemmas.Fmt.{hex_one_digit, hex_two_digits}
use Rattle.std.proofs.lemmas.Str.{encode_ascii, inside_one}
use Rattle.cbor_edn_parts.specs.string.Contents.{escaped, short_hex, braced, all_escaped}

-- a character below U+0020 with no escape of its own
pub escaped_low : (c : ℕ) → c < 32 → c ≢ 13 → c ≢ 9 → c ≢ 8 → c ≢ 12 → c ≢ 10 → escaped c ≡ braced c
escaped_low c low a b d e f =
    let quote = ne_eqb c 34 (λ h. omega arith) in
    let backslash = ne_eqb c 92 (λ h. omega arith) in
    let is_low : ltb c 32 ≡ true = grind (arith, nat_tests) in
    rw (quote, backslash, ne_eqb c 13 a, ne_eqb c 9 b, ne_eqb c 8 d, ne_eqb c 12 e, ne_eqb c 10 f, is_low)

-- a byte that stands for itself
pub escaped_plain : (c : ℕ) → 32 ≤ c → c ≢ 34 → c ≢ 92 → c ≢ 39 → escaped c ≡ c ∷ []
escaped_plain c high a b d =
    let not_low : ltb c 32 ≡ false = grind (arith, nat_tests) in
    rw (ne_eqb c 34 a, ne_eqb c 92 b, ne_eqb c 13 (λ h. omega arith), ne_eqb c 9 (λ h. omega arith), ne_eqb c 8 (λ h. omega arith), ne_eqb c 12 (λ h. omega arith), ne_eqb c 10 (λ h. omega arith), not_low, ne_eqb c 39 d)

pub short_hex_is : (c : ℕ) → c < 32 → digits 16 false c ≡ short_hex c
short_hex_is c low = ⊎_elim
    (λ one. let lt : ltb c 16 ≡ true = grind (arith, nat_tests) in rw lt (hex_one_digit false c one))
    (λ two. let lt : ltb c 16 ≡ false = grind (arith, nat_tests) in let byte : c < 256 = omega (arith, low) in rw lt (hex_two_digits false c two byte))
    (cases_lt c 16)

abbrev IsPlain : ℕ → Type 0
IsPlain c = escaped c ≡ c ∷ []

-- a text of bytes that stand for themselves
pub all_plain : (xs : List ℕ) → All IsPlain xs → all_escaped xs ≡ xs
all_plain [] plain = refl
all_plain (c ∷ xs) plain = rw (All-head IsPlain c xs plain) (ap (λ ys. c ∷ ys) (all_plain xs (All-tail IsPlain c xs plain)))

long_plain : (xs : List ℕ) → ((k : ℕ) → k < length xs → 128 ≤ get_or xs k 0) → all_escaped xs ≡ xs
long_plain xs h = all_plain xs (All-from_get_or IsPlain xs 0 (λ k lt.
    let long : 128 ≤ get_or xs k 0 = h k lt in
    escaped_plain (get_or xs k 0) (omega arith) (λ e. omega arith) (λ e. omega arith) (λ e. omega arith)))

-- what a character that needs no escape is written as
pub character_plain : (c : ℕ) → 32 ≤ c → c ≢ 34 → c ≢ 92 → c ≢ 39 → all_escaped (encode_utf8 c) ≡ encode_utf8 c
character_plain c high a b d = ⊎_elim
    (λ ascii. rw (encode_ascii c ascii, escaped_plain c high a b d))
    (λ long. long_plain (encode_utf8 c) (λ k lt. ⊎_elim
    (λ small. let same = inside_one c [] (encode_utf8 c) k (sym (append-nil (encode_utf8 c))) lt small in omega arith)
    (λ large. large)
    (cases_lt (get_or (encode_utf8 c) k 0) 128)))
    (cases_lt c 128)

-- and one below U+0020
pub character_low : (c : ℕ) → c < 32 → c ≢ 13 → c ≢ 9 → c ≢ 8 → c ≢ 12 → c ≢ 10 → all_escaped (encode_utf8 c) ≡ 92 ∷ 117 ∷ 123 ∷ (digits 16 false c ++ (125 ∷ []))
character_low c low a b d e f = rw (encode_ascii c (omega arith), escaped_low c low a b d e f, append-nil, ← short_hex_is c low)

pub all_escaped-append : (xs ys : List ℕ) → all_escaped (xs ++ ys) ≡ all_escaped xs ++ all_escaped ys
all_escaped-append [] ys = refl
all_escaped-append (c ∷ xs) ys = rw (all_escaped-append xs ys, append_assoc)
