-- The literals of a prefix and a text are quoted so, and stand for this text.
use Rattle.std.proofs.Common.{ℕ, suc, ◌/◌, ◌%◌, ◌<◌, ◌≤◌, ◌≡◌, ◌≢◌, length, get_or, true, false, List, [], ◌∷◌, ◌++◌, eqb, eqb-true, ltb, ltb-true, refl, sym, ap, ◌∙◌, subst, ⊎_elim, append_assoc, arith}
use Rattle.std.specs.Prelude.{◌||◌, All, encode_utf8}
use Rattle.std.specs.Char.{digit_char, IsScalar}
use Rattle.std.proofs.lemmas.Bool.{cond_both, cond-false, cases_lt, ne_eqb, or_cases, or_parts, ltb-false, eqb-false}
use Rattle.std.proofs.lemmas.List.{append-nil}
use Rattle.std.proofs.lemmas.List.Elements.{All-head, All-tail}
use Rattle.std.proofs.lemmas.Bool.Decides.{nat_tests}
use Rattle.std.proofs.lemmas.Str.{encode_ascii, inside_one, digit_value-digit_char}
use Rattle.cbor_edn_parts.specs.number.Number.{Hexadecimal, IsDigitOf, AreDigits}
use Rattle.cbor_edn_parts.specs.string.Literal.{IsPart, raw, line_feed, quote, letter, braced, Decoded, nothing, part, IsPrefix, Prefixed, IsLiteral, hex_number}
use Rattle.cbor_edn_parts.specs.string.Contents as contents
use Rattle.cbor_edn_parts.specs.string.Contents.{escaped, all_escaped}
use Rattle.cbor_edn_parts.specs.Written.{single_escaped, all_single_escaped, application_literal}
use Rattle.cbor_edn_parts.specs.internal.LiteralTokens.{is_literal}
use Rattle.cbor_edn_parts.proofs.lemmas.base.Each.{end, next, all}
use Rattle.cbor_edn_parts.proofs.lemmas.string.LiteralTexts.{literal_test}

-- between single quotes xs is a part that stands for the byte c
abbrev Stands : ℕ → List ℕ → Type 0
Stands c xs = IsPart 39 xs (c ∷ [])

at : (xs : List ℕ) (n c : ℕ) → Stands n xs → eqb c n ≡ true → Stands c xs
at xs n c s e = subst (λ m. Stands m xs) (sym (eqb-true c n e)) s

-- a character below U+0080 by its digits
by_digits : (ds : List ℕ) (c : ℕ) → AreDigits Hexadecimal ds → hex_number ds ≡ c → c < 128 → Stands c (92 ∷ 117 ∷ 123 ∷ (ds ++ (125 ∷ [])))
by_digits ds c are is lt =
    let small : ltb c 0xD800 ≡ true = grind (arith, nat_tests) in
    let scalar : IsScalar (hex_number ds) = rw (is, small) refl in
    subst (λ bs. IsPart 39 (92 ∷ 117 ∷ 123 ∷ (ds ++ (125 ∷ []))) bs) (ap encode_utf8 is ∙ encode_ascii c lt) (braced are scalar)

is_digit : (d : ℕ) → d < 16 → IsDigitOf Hexadecimal (digit_char d)
is_digit d lt = rw (digit_value-digit_char d (omega arith)) lt

stands_braced : (c : ℕ) → c < 32 → Stands c (contents.braced c)
stands_braced c low = cond_both (ltb c 16) (digit_char c ∷ []) (digit_char (c / 16) ∷ digit_char (c % 16) ∷ []) (λ xs. Stands c (92 ∷ 117 ∷ 123 ∷ (xs ++ (125 ∷ []))))
    (λ one. let lt : c < 16 = grind (arith, nat_tests) in by_digits (digit_char c ∷ []) c (all {P = IsDigitOf Hexadecimal} (next (is_digit c lt) end), λ e. cc) (let v = digit_value-digit_char c (omega arith) in omega (arith, v)) (omega arith))
    (λ two. by_digits (digit_char (c / 16) ∷ digit_char (c % 16) ∷ []) c (all {P = IsDigitOf Hexadecimal} (next (is_digit (c / 16) (omega arith)) (next (is_digit (c % 16) (omega arith)) end)), λ e. cc) (let v = digit_value-digit_char (c / 16) (omega arith) in let w = digit_value-digit_char (c % 16) (omega arith) in omega (arith, v, w)) (omega arith))

stands : (c : ℕ) → c < 256 → eqb c 39 ≡ false → eqb c 34 ≡ false → Stands c (escaped c)
stands c byte not_single not_double =
    cond_both (eqb c 34 || eqb c 92) _ _ (Stands c) (λ e. ⊎_elim
    (λ f. absurd (cc (f, not_double)))
    (λ f. subst (λ m. Stands m (92 ∷ m ∷ [])) (sym (eqb-true c 92 f)) (letter refl))
    (or_cases (eqb c 34) (eqb c 92) e)) (λ not_either.
    cond_both (eqb c 13) _ _ (Stands c) (at _ 13 c (letter refl)) (λ not_cr.
    cond_both (eqb c 9) _ _ (Stands c) (at _ 9 c (letter refl)) (λ not_tab.
    cond_both (eqb c 8) _ _ (Stands c) (at _ 8 c (letter refl)) (λ not_bs.
    cond_both (eqb c 12) _ _ (Stands c) (at _ 12 c (letter refl)) (λ not_ff.
    cond_both (eqb c 10) _ _ (Stands c) (λ e. subst (λ m. Stands m (m ∷ [])) (sym (eqb-true c 10 e)) line_feed) (λ not_lf.
    cond_both (ltb c 32) _ _ (Stands c) (λ e. stands_braced c (ltb-true c 32 e)) (λ high.
    cond_both (eqb c 39) _ _ (Stands c) (λ e. absurd (cc (e, not_single))) (λ _.
    let either = or_parts (eqb c 34) (eqb c 92) not_either in
    raw (ltb-false c 32 high, byte) (eqb-false c 39 not_single) (eqb-false c 92 either.1)))))))))

single_stands : (c : ℕ) → c < 256 → Stands c (single_escaped c)
single_stands c byte =
    cond_both (eqb c 39) _ _ (Stands c) (λ e. subst (λ m. Stands m (92 ∷ m ∷ [])) (sym (eqb-true c 39 e)) quote) (λ not_single.
    cond_both (eqb c 34) _ _ (Stands c) (λ e. at _ 34 c (by_digits (50 ∷ 50 ∷ []) 34 (all {P = IsDigitOf Hexadecimal} (next (omega arith) (next (omega arith) end)), λ e. cc) refl (omega arith)) e) (λ not_double. stands c byte not_single not_double))

pub all_stand : (bs : List ℕ) → All (λ b. b < 256) bs → Decoded 39 (all_single_escaped bs) bs
all_stand [] all = nothing
all_stand (c ∷ bs) all = part (single_stands c (All-head (λ b. b < 256) c bs all)) (all_stand bs (All-tail (λ b. b < 256) c bs all))

pub application_is : (p v : List ℕ) → IsPrefix p → All (λ b. b < 256) v → IsLiteral (Prefixed p) v (application_literal p v)
application_is p v is all = (all_single_escaped v, is, all_stand v all, refl)

pub application_is_literal : (p v : List ℕ) → IsPrefix p → All (λ b. b < 256) v → is_literal (application_literal p v) ≡ true
application_is_literal p v is all = (literal_test (application_literal p v)).0 (Prefixed p, v, application_is p v is all)

pub all_single_escaped-append : (xs ys : List ℕ) → all_single_escaped (xs ++ ys) ≡ all_single_escaped xs ++ all_single_escaped ys
all_single_escaped-append [] ys = refl
all_single_escaped-append (c ∷ xs) ys = rw (all_single_escaped-append xs ys, append_assoc)

-- a byte that is no quote is written as between double quotes
plain : (c : ℕ) → c ≢ 39 → c ≢ 34 → single_escaped c ≡ escaped c
plain c a b = cond-false (eqb c 39) _ _ (ne_eqb c 39 a) ∙ cond-false (eqb c 34) _ _ (ne_eqb c 34 b)

-- a byte that stands for itself between double quotes does so between single quotes
plain_single : (c : ℕ) → escaped c ≡ c ∷ [] → single_escaped c ≡ c ∷ []
plain_single c h =
    let single : c ≢ 39 = λ e. let long : escaped 39 ≡ 39 ∷ [] = subst (λ c. escaped c ≡ c ∷ []) e h in absurd (cc long) in
    let double : c ≢ 34 = λ e. let long : escaped 34 ≡ 34 ∷ [] = subst (λ c. escaped c ≡ c ∷ []) e h in absurd (cc long) in
    plain c single double ∙ h

pub all_plain_single : (xs : List ℕ) → All (λ c. escaped c ≡ c ∷ []) xs → all_single_escaped xs ≡ xs
all_plain_single [] all = refl
all_plain_single (c ∷ xs) all =
    rw (plain_single c (All-head (λ c. escaped c ≡ c ∷ []) c xs all)) (ap (λ ys. c ∷ ys) (all_plain_single xs (All-tail (λ c. escaped c ≡ c ∷ []) c xs all)))

long_same : (xs : List ℕ) → ((k : ℕ) → k < length xs → 128 ≤ get_or xs k 0) → all_single_escaped xs ≡ all_escaped xs
long_same [] h = refl
long_same (c ∷ xs) h =
    let long : 128 ≤ c = h 0 (omega arith) in
    rw (plain c (λ e. omega arith) (λ e. omega arith)) (ap (λ ys. escaped c ++ ys) (long_same xs (λ k lt. h (suc k) (omega arith))))

-- and so is a character
pub character_same : (c : ℕ) → c ≢ 39 → c ≢ 34 → all_single_escaped (encode_utf8 c) ≡ all_escaped (encode_utf8 c)
character_same c a b = ⊎_elim
    (λ ascii. rw (encode_ascii c ascii, plain c a b) refl)
    (λ long. long_same (encode_utf8 c) (λ k lt. ⊎_elim
    (λ small. let same = inside_one c [] (encode_utf8 c) k (sym (append-nil (encode_utf8 c))) lt small in omega arith)
    (λ large. large)
    (cases_lt (get_or (encode_utf8 c) k 0) 128)))
    (cases_lt c 128)
