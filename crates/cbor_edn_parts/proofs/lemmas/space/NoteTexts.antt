-- What each character of a comment is written as.
use Rattle.std.proofs.Common.{ℕ, suc, ◌≡◌, ◌≢◌, ◌<◌, ◌≤◌, true, false, List, [], ◌∷◌, ◌++◌, length, get_or, refl, sym, ap, ◌∙◌, ⊎_elim, arith}
use Rattle.std.specs.Prelude.{encode_utf8, cond, eqb, ltb, not, ◌||◌, ◌&&◌, map}
use Rattle.std.specs.List.{list_any}
use Rattle.std.specs.Str.{encode_utf8_all}
use Rattle.std.proofs.lemmas.Bool.{cases_lt, ne_eqb, cond_both}
use Rattle.std.proofs.lemmas.Bool.Decides.{nat_tests}
use Rattle.std.proofs.lemmas.List.{append-nil, map-append}
use Rattle.std.proofs.lemmas.Str.{encode_ascii, encodes-append, inside_one}
use Rattle.cbor_edn_parts.specs.space.Notes.{cleaned, has_slash, hash_lines}

pub slash_found : (c : List ℕ) → list_any (λ b. eqb b 47) c ≡ has_slash c
slash_found [] = refl
slash_found (b ∷ c) = ap (λ x. eqb b 47 || x) (slash_found c)

cleaned_high : (c : ℕ) → 32 ≤ c → cleaned c ≡ c
cleaned_high c high = let is : ltb c 32 ≡ false = grind (arith, nat_tests) in rw is refl

cleaned_ascii : (c : ℕ) → c < 128 → cleaned c < 128
cleaned_ascii c small = cond_both (ltb c 32 && not (eqb c 9 || (eqb c 10 || eqb c 13))) 32 c (λ d. d < 128) (λ e. omega arith) (λ e. small)

cleaned_line : (c : ℕ) → c ≢ 10 → cleaned c ≢ 10
cleaned_line c other = cond_both (ltb c 32 && not (eqb c 9 || (eqb c 10 || eqb c 13))) 32 c (λ d. d ≢ 10) (λ e. λ q. omega arith) (λ e. other)

-- bytes of longer characters stay
long_cleaned : (xs : List ℕ) → ((k : ℕ) → k < length xs → 128 ≤ get_or xs k 0) → map cleaned xs ≡ xs
long_cleaned [] h = refl
long_cleaned (c ∷ xs) h =
    let long : 128 ≤ c = h 0 (omega arith) in
    rw (cleaned_high c (omega arith)) (ap (λ ys. c ∷ ys) (long_cleaned xs (λ k lt. h (suc k) (omega arith))))

long_lines : (xs : List ℕ) → ((k : ℕ) → k < length xs → 128 ≤ get_or xs k 0) → hash_lines xs ≡ xs
unfolding hash_lines
long_lines [] h = refl
long_lines (c ∷ xs) h =
    let long : 128 ≤ c = h 0 (omega arith) in
    rw (ne_eqb c 10 (λ e. omega arith)) (ap (λ ys. c ∷ ys) (long_lines xs (λ k lt. h (suc k) (omega arith))))

bytes_long : (c : ℕ) → 128 ≤ c → (k : ℕ) → k < length (encode_utf8 c) → 128 ≤ get_or (encode_utf8 c) k 0
bytes_long c long k lt = ⊎_elim
    (λ small. let same = inside_one c [] (encode_utf8 c) k (sym (append-nil (encode_utf8 c))) lt small in omega arith)
    (λ large. large)
    (cases_lt (get_or (encode_utf8 c) k 0) 128)

pub character_cleaned : (c : ℕ) → encode_utf8 (cleaned c) ≡ map cleaned (encode_utf8 c)
character_cleaned c = ⊎_elim
    (λ ascii. encode_ascii (cleaned c) (cleaned_ascii c ascii) ∙ sym (ap (map cleaned) (encode_ascii c ascii)))
    (λ long. ap encode_utf8 (cleaned_high c (omega arith)) ∙ sym (long_cleaned (encode_utf8 c) (bytes_long c long)))
    (cases_lt c 128)

pub character_line : (c : ℕ) → c ≢ 10 → encode_utf8 (cleaned c) ≡ hash_lines (map cleaned (encode_utf8 c))
unfolding hash_lines
character_line c other = ⊎_elim
    (λ ascii. encode_ascii (cleaned c) (cleaned_ascii c ascii) ∙ (sym (rw (ne_eqb (cleaned c) 10 (cleaned_line c other)) refl) ∙ sym (ap (λ t. hash_lines (map cleaned t)) (encode_ascii c ascii))))
    (λ long. ap encode_utf8 (cleaned_high c (omega arith)) ∙ (sym (long_lines (encode_utf8 c) (bytes_long c long)) ∙ ap hash_lines (sym (long_cleaned (encode_utf8 c) (bytes_long c long)))))
    (cases_lt c 128)

pub line_feed : hash_lines (map cleaned (encode_utf8 10)) ≡ 10 ∷ 35 ∷ 32 ∷ []
unfolding hash_lines
line_feed = ap (λ t. hash_lines (map cleaned t)) (encode_ascii 10 (omega arith))

-- ---- one more character

lines-append : (x y : List ℕ) → hash_lines (x ++ y) ≡ hash_lines x ++ hash_lines y
unfolding hash_lines
lines-append [] y = refl
lines-append (c ∷ x) y = elim (eqb c 10) as (λ b. cond b (10 ∷ 35 ∷ 32 ∷ hash_lines (x ++ y)) (c ∷ hash_lines (x ++ y)) ≡ cond b (10 ∷ 35 ∷ 32 ∷ hash_lines x) (c ∷ hash_lines x) ++ hash_lines y) [
  | true ↦ ap (λ t. 10 ∷ 35 ∷ 32 ∷ t) (lines-append x y)
  | false ↦ ap (c ∷◌) (lines-append x y)
]

encoded : (cs : List ℕ) (c : ℕ) → encode_utf8_all (cs ++ (c ∷ [])) ≡ encode_utf8_all cs ++ encode_utf8 c
encoded cs c = encodes-append cs (c ∷ []) ∙ ap (λ xs. encode_utf8_all cs ++ xs) (append-nil (encode_utf8 c))

pub cleaned_more : (cs : List ℕ) (c : ℕ) → map cleaned (encode_utf8_all (cs ++ (c ∷ []))) ≡ map cleaned (encode_utf8_all cs) ++ encode_utf8 (cleaned c)
cleaned_more cs c = ap (map cleaned) (encoded cs c) ∙ (map-append cleaned (encode_utf8_all cs) (encode_utf8 c) ∙ ap (map cleaned (encode_utf8_all cs) ++◌) (sym (character_cleaned c)))

pub lines_more : (cs : List ℕ) (c : ℕ) → hash_lines (map cleaned (encode_utf8_all (cs ++ (c ∷ [])))) ≡ hash_lines (map cleaned (encode_utf8_all cs)) ++ hash_lines (map cleaned (encode_utf8 c))
lines_more cs c = ap (λ t. hash_lines (map cleaned t)) (encoded cs c) ∙ (ap hash_lines (map-append cleaned (encode_utf8_all cs) (encode_utf8 c)) ∙ lines-append (map cleaned (encode_utf8_all cs)) (map cleaned (encode_utf8 c)))
