-- The literals of decoded strings are literals, and stand for these strings.
use Rattle.std.proofs.Common.{ℕ, suc, ◌+◌, ◌*◌, ◌/◌, ◌%◌, ◌<◌, ◌≤◌, ◌≡◌, ◌≢◌, true, false, List, [], ◌∷◌, ◌++◌, Some, None, option_map, eqb, eqb-true, ltb, ltb-true, refl, sym, ap, ◌∙◌, subst, ⊎_elim, zero-add, length, get_or, Fits, w8, arith}
use Rattle.std.specs.Prelude.{◌||◌, All, nat_le, slice_index}
use Rattle.std.specs.Char.{digit_char}
use Rattle.std.specs.List.{range_with_len}
use Rattle.std.proofs.lemmas.Bool.{cond_both, or_cases, or_parts, ltb-false, eqb-false}
use Rattle.std.proofs.lemmas.List.{get_or-map}
use Rattle.std.proofs.lemmas.List.FromFn.{get_or-range_with_len}
use Rattle.std.proofs.lemmas.List.Elements.{All-head, All-tail, All-cons}
use Rattle.std.proofs.lemmas.Bool.Decides.{nat_tests}
use Rattle.std.specs.Str.{IsUtf8}
use Rattle.std.proofs.lemmas.Str.{encode_ascii, digit_value-digit_char, IsUtf8-from_ascii}
use Rattle.std.proofs.lemmas.Str.Ascii.{IsAscii-from_reads}
use Rattle.hex.specs.Hex.{encode_lower, encode_with, lower_digits}
use Rattle.hex.proofs.HexLemmas.{IsAscii-encode_with}
use Rattle.cbor_edn_parts.specs.internal.LiteralTokens.{literal, is_literal, with_digit, whole, braced_digit, quoted_step, raw_step, prefix_of, quoted_of}
use Rattle.cbor_edn_parts.specs.string.Contents.{escaped, all_escaped, braced, text_literal, hex_literal, empty_literal}
use Rattle.cbor_edn_parts.specs.internal.ContentReading.{literal_content, hex_bytes, hex_digit_at, of_bytes}
use Rattle.cbor_edn_parts.specs.declared.space.SpaceState.TheVariants as within
use Rattle.cbor_edn_parts.specs.declared.string.Quote.TheVariants.{Single, Double}
use Rattle.cbor_edn_parts.specs.declared.string.QuotedState.TheVariants.{Between, Backslash, Unit, Brace, Braced}
use Rattle.cbor_edn_parts.specs.declared.string.LiteralState.TheVariants.{Lower, Inside}
use Rattle.cbor_edn_parts.specs.declared.string.StringKind.{StringKind}
use Rattle.cbor_edn_parts.specs.declared.string.StringKind.TheVariants.{Bytes, Text}
use Rattle.cbor_edn_parts.proofs.lemmas.base.Tokens.{token_texts}
use Rattle.cbor_edn_parts.proofs.lemmas.string.Quoted.{Passes, stay, pass, accepted, passes-append, decoded_passed, closes}
use Rattle.cbor_edn_parts.proofs.lemmas.string.Hexadecimals.{hex_first, hex_second}

-- ---- text

-- a text between double quotes stands for the byte c
abbrev Stands : ℕ → List ℕ → Type 0
Stands c xs = Passes Double Between xs Between (c ∷ [])

at : (xs : List ℕ) (n c : ℕ) → Stands n xs → eqb c n ≡ true → Stands c xs
at xs n c s e = subst (λ m. Stands m xs) (sym (eqb-true c n e)) s

with_digit_char : (n d : ℕ) → d < 16 → n ≤ 0x10FFFF → Some (16 * n + d) ≡ with_digit n (digit_char d)
with_digit_char n d lt le =
    let value = digit_value-digit_char d (omega arith) in
    let digit : ltb d 16 ≡ true = grind (arith, nat_tests) in
    let few : nat_le n 0x10FFFF ≡ true = grind (arith, nat_tests) in
    rw (value, digit, few)

whole_ascii : (c : ℕ) → c < 128 → Some (Between, c ∷ []) ≡ whole c
whole_ascii c lt = let scalar : ltb c 0xD800 ≡ true = grind (arith, nat_tests) in rw (encode_ascii c lt, scalar)

first_digit : (d : ℕ) → d < 16 → Some (Braced d, []) ≡ braced_digit (with_digit 0 (digit_char d))
first_digit d lt =
    let same : 16 * 0 + d ≡ d = omega arith in
    rw (← with_digit_char 0 d lt (omega arith), same)

next_digit : (d e : ℕ) → d < 16 → e < 16 → Some (Braced (16 * d + e), []) ≡ quoted_step 34 (digit_char e) (Braced d)
next_digit d e lt lt' =
    let other : eqb (digit_char e) 125 ≡ false = grind (arith, nat_tests) in
    rw (other, ← with_digit_char d e lt' (omega arith))

-- a byte below 128 by its digits
braced_one : (d : ℕ) → d < 16 → Stands d (92 ∷ 117 ∷ 123 ∷ digit_char d ∷ 125 ∷ [])
braced_one d lt =
    pass {k = Backslash} refl refl (pass {k = Unit 0 0} refl refl (pass {k = Brace} refl refl (pass {k = Braced d} refl (first_digit d lt) (pass refl (whole_ascii d (omega arith)) stay))))

braced_two : (d e : ℕ) → d < 8 → e < 16 → Stands (16 * d + e) (92 ∷ 117 ∷ 123 ∷ digit_char d ∷ digit_char e ∷ 125 ∷ [])
braced_two d e lt lt' =
    pass {k = Backslash} refl refl (pass {k = Unit 0 0} refl refl (pass {k = Brace} refl refl (pass {k = Braced d} refl (first_digit d (omega arith))
    (pass {k = Braced (16 * d + e)} refl (next_digit d e (omega arith) lt') (pass refl (whole_ascii (16 * d + e) (omega arith)) stay)))))

stands_braced : (c : ℕ) → c < 32 → Stands c (braced c)
stands_braced c low = cond_both (ltb c 16) (digit_char c ∷ []) (digit_char (c / 16) ∷ digit_char (c % 16) ∷ []) (λ xs. Stands c (92 ∷ 117 ∷ 123 ∷ (xs ++ (125 ∷ []))))
    (λ one. braced_one c (grind (arith, nat_tests)))
    (λ two. let parts : 16 * (c / 16) + c % 16 ≡ c = omega arith in subst (λ n. Stands n (92 ∷ 117 ∷ 123 ∷ digit_char (c / 16) ∷ digit_char (c % 16) ∷ 125 ∷ [])) parts (braced_two (c / 16) (c % 16) (omega arith) (omega arith)))

raw : (c : ℕ) → 32 ≤ c → c < 256 → c ≢ 92 → Some (Between, c ∷ []) ≡ raw_step c
raw c low high backslash =
    let a : eqb c 92 ≡ false = grind (arith, nat_tests) in
    let b : eqb c 13 ≡ false = grind (arith, nat_tests) in
    let d : nat_le 32 c ≡ true = grind (arith, nat_tests) in
    let e : ltb c 256 ≡ true = grind (arith, nat_tests) in
    let f : eqb c 10 ≡ false = grind (arith, nat_tests) in
    rw (a, b, f, d, e)

stands_raw : (c : ℕ) → 32 ≤ c → c < 256 → eqb c 34 ≡ false → c ≢ 92 → Stands c (c ∷ [])
stands_raw c low high quote backslash = pass (sym quote) (raw c low high backslash) stay

stands : (c : ℕ) → c < 256 → Stands c (escaped c)
stands c byte =
    cond_both (eqb c 34 || eqb c 92) _ _ (Stands c) (λ e. ⊎_elim
    (λ f. subst (λ m. Stands m (92 ∷ m ∷ [])) (sym (eqb-true c 34 f)) (pass refl refl (pass refl refl stay)))
    (λ f. subst (λ m. Stands m (92 ∷ m ∷ [])) (sym (eqb-true c 92 f)) (pass refl refl (pass refl refl stay)))
    (or_cases (eqb c 34) (eqb c 92) e)) (λ not_either.
    cond_both (eqb c 13) _ _ (Stands c) (at _ 13 c (pass refl refl (pass refl refl stay))) (λ not_cr.
    cond_both (eqb c 9) _ _ (Stands c) (at _ 9 c (pass refl refl (pass refl refl stay))) (λ not_tab.
    cond_both (eqb c 8) _ _ (Stands c) (at _ 8 c (pass refl refl (pass refl refl stay))) (λ not_bs.
    cond_both (eqb c 12) _ _ (Stands c) (at _ 12 c (pass refl refl (pass refl refl stay))) (λ not_ff.
    cond_both (eqb c 10) _ _ (Stands c) (λ e. subst (λ m. Stands m (m ∷ [])) (sym (eqb-true c 10 e)) (pass refl refl stay)) (λ not_lf.
    cond_both (ltb c 32) _ _ (Stands c) (λ e. stands_braced c (ltb-true c 32 e)) (λ high.
    cond_both (eqb c 39) _ _ (Stands c) (at _ 39 c (braced_two 2 7 (omega arith) (omega arith))) (λ not_single.
    let either = or_parts (eqb c 34) (eqb c 92) not_either in
    stands_raw c (ltb-false c 32 high) byte either.0 (eqb-false c 92 either.1)))))))))

all_pass : (bs : List ℕ) → All (λ b. b < 256) bs → Passes Double Between (all_escaped bs) Between bs
all_pass [] all = stay
all_pass (c ∷ bs) all = passes-append (stands c (All-head (λ b. b < 256) c bs all)) (all_pass bs (All-tail (λ b. b < 256) c bs all))

pub text_is_literal : (bs : List ℕ) → All (λ b. b < 256) bs → is_literal (text_literal bs) ≡ true
text_is_literal bs all = (token_texts literal (text_literal bs)).0 (Inside Double Between, refl, accepted (all_pass bs all) (34 ∷ []) (closes Double))

pub text_stands : (bs : List ℕ) → All (λ b. b < 256) bs → literal_content (text_literal bs) ≡ Some (Text, bs)
unfolding prefix_of quoted_of
text_stands bs all = ap (λ v. Some (Text, v)) (decoded_passed (all_pass bs all))

-- ---- bytes

digit_is : (d : ℕ) → d < 16 → slice_index lower_digits d ≡ digit_char d
digit_is d lt = get_or-map digit_char (range_with_len 0 16) d 0 0 lt ∙ ap digit_char (get_or-range_with_len 0 16 d 0 lt ∙ zero-add d)

pub digits_utf8 : (bs : List ℕ) → IsUtf8 (encode_lower bs)
digits_utf8 bs =
    let sixteen : length lower_digits ≡ 16 = refl in
    let ascii = IsAscii-from_reads lower_digits 16 (omega arith) (λ k lt. rw (digit_is k lt) (grind (arith, nat_tests))) in
    IsUtf8-from_ascii (encode_lower bs) (IsAscii-encode_with lower_digits bs ascii)

-- a hexadecimal digit stands for itself
passes_digit : (d : ℕ) {xs bs : List ℕ} → d < 16 → Passes Single Between xs Between bs → Passes Single Between (slice_index lower_digits d ∷ xs) Between (slice_index lower_digits d ∷ bs)
passes_digit d lt p =
    let e = digit_is d lt in
    let other : false ≡ eqb (digit_char d) 39 = grind (arith, nat_tests) in
    rw e (pass other (raw (digit_char d) (grind (arith, nat_tests)) (grind (arith, nat_tests)) (λ f. grind (arith, nat_tests))) p)

digits_pass : (bs : List ℕ) → All (λ b. b < 256) bs → Passes Single Between (encode_lower bs) Between (encode_lower bs)
unfolding encode_with
digits_pass [] all = stay
digits_pass (b ∷ bs) all =
    let byte = All-head (λ b. b < 256) b bs all in
    passes_digit (b / 16) (omega arith) (passes_digit (b % 16) (omega arith) (digits_pass bs (All-tail (λ b. b < 256) b bs all)))

pub hex_is_literal : (bs : List ℕ) → All (λ b. b < 256) bs → is_literal (hex_literal bs) ≡ true
hex_is_literal bs all =
    (token_texts literal (hex_literal bs)).0 (Lower, refl, (Inside Single Between, refl, accepted (digits_pass bs all) (39 ∷ []) (closes Single)))

digit_found : (d : ℕ) → d < 16 → Some d ≡ hex_digit_at within.Between (slice_index lower_digits d)
digit_found d lt =
    let value = digit_value-digit_char d (omega arith) in
    let small : ltb d 16 ≡ true = grind (arith, nat_tests) in
    rw (digit_is d lt, value, small)

digits_stand : (bs : List ℕ) → All (λ b. b < 256) bs → hex_bytes within.Between None (encode_lower bs) ≡ Some bs
unfolding encode_with hex_bytes
digits_stand [] all = refl
digits_stand (b ∷ bs) all =
    let byte = All-head (λ b. b < 256) b bs all in
    let parts : 16 * (b / 16) + b % 16 ≡ b = omega arith in
    hex_first (slice_index lower_digits (b / 16)) (slice_index lower_digits (b % 16) ∷ encode_lower bs) within.Between (b / 16) (digit_found (b / 16) (omega arith))
    ∙ hex_second (slice_index lower_digits (b % 16)) (encode_lower bs) within.Between (b / 16) (b % 16) (digit_found (b % 16) (omega arith))
    ∙ ap (λ n. option_map (◌∷◌ n) (hex_bytes within.Between None (encode_lower bs))) parts
    ∙ ap (option_map (◌∷◌ b)) (digits_stand bs (All-tail (λ b. b < 256) b bs all))

pub hex_stands : (bs : List ℕ) → All (λ b. b < 256) bs → literal_content (hex_literal bs) ≡ Some (Bytes, bs)
unfolding prefix_of quoted_of
hex_stands bs all = ap (λ v. of_bytes (hex_bytes within.Between None v)) (decoded_passed (digits_pass bs all)) ∙ ap of_bytes (digits_stand bs all)

pub empty_is_literal : (k : StringKind) → is_literal (empty_literal k) ≡ true
empty_is_literal Bytes = (token_texts literal (empty_literal Bytes)).0 (Inside Single Between, refl, closes Single)
empty_is_literal Text = (token_texts literal (empty_literal Text)).0 (Inside Double Between, refl, closes Double)

-- ---- what the code asks for

pub bytes_all : (bs : List ℕ) → ((i : ℕ) → Fits w8 (get_or bs i 0)) → All (λ b. b < 256) bs
bytes_all [] h = λ k d lt. absurd (omega arith)
bytes_all (b ∷ bs) h = All-cons (λ b. b < 256) b bs (omega (arith, h 0)) (bytes_all bs (λ i. h (suc i)))
