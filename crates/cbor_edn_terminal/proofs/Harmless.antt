-- What is told acts on nothing.
use Rattle.std.proofs.Common.{◌≡◌, ◌≤◌, ◌<◌, ℕ, ◌/◌, ◌%◌, zero, suc, Bool, true, false, List, [], ◌∷◌, refl, ap, subst, ◌∙◌, arith}
use Rattle.std.specs.Prelude.{◌&&◌, ◌||◌, ◌==◌, ◌^◌, ◌-◌, not, nat_le, encode_utf8, replicate}
use Rattle.std.specs.List.{flat_map}
use Rattle.std.specs.Int.{is_in_range}
use Rattle.std.specs.Str.{NonePass}
use Rattle.std.specs.Fmt.{digits, digits_onto, digit_glyph, format_spec, padded_integral}
use Rattle.std.proofs.lemmas.Bool.{cond_both, and_parts, leb-true, lt-leb, and_left, and_right}
use Rattle.std.proofs.lemmas.Bool.Decides.{nat_tests}
use Rattle.std.proofs.lemmas.List.{append-nil}
use Rattle.std.proofs.lemmas.Str.{NoCharPasses-nil, NoCharPasses-append, encode_ascii}
use Rattle.cbor_edn_terminal.specs.Terminal.{acting, is_in_one, acts_on_terminal, by_number, shown_character, shown_text, shown_in_lines, lines_text, acts_in_lines, IsHarmless, IsHarmlessInLines, ShownIsHarmless, LinesAreHarmless}

-- all ranges begin at n, or behind it
all_from : ℕ → List (ℕ × ℕ) → Bool
all_from n [] = true
all_from n (r ∷ rs) = nat_le n r.0 && all_from n rs

in_none : (n : ℕ) (rs : List (ℕ × ℕ)) → all_from n rs ≡ true → (c : ℕ) → c < n → is_in_one rs c ≡ false
unfolding all_from
in_none n [] from c h = refl
in_none n (r ∷ rs) from c h =
    let parts = and_parts (nat_le n r.0) _ from in
    let below : is_in_range r.0 r.1 c ≡ false = and_left (nat_le r.0 c) _ (lt-leb r.0 c (omega (arith, leb-true n r.0 parts.0))) in
    ap (λ b. b || is_in_one rs c) below ∙ in_none n rs parts.1 c h

behind_first : {A : Type 0} → List A → List A
behind_first [] = []
behind_first (x ∷ xs) = xs

-- what ASCII has beside its controls
pub plain_byte : (c : ℕ) → 32 ≤ c → c < 127 → acts_on_terminal c ≡ false
unfolding all_from behind_first
plain_byte c low high =
    let first : is_in_range 0 0x1F c ≡ false = grind (arith, nat_tests) in
    ap (λ b. b || is_in_one (behind_first acting) c) first ∙ in_none 127 (behind_first acting) refl c high

-- a character that does not act
pub harmless_one : (c : ℕ) → acts_on_terminal c ≡ false → IsHarmless (encode_utf8 c)
harmless_one c is = (c ∷ [], append-nil (encode_utf8 c), (is, tt))

pub harmless_byte : (c : ℕ) → 32 ≤ c → c < 127 → IsHarmless (c ∷ [])
harmless_byte c low high = subst IsHarmless (encode_ascii c (omega arith)) (harmless_one c (plain_byte c low high))

pub harmless_more : (c : ℕ) (text : List ℕ) → 32 ≤ c → c < 127 → IsHarmless text → IsHarmless (c ∷ text)
harmless_more c text low high more = NoCharPasses-append acts_on_terminal (c ∷ []) text (harmless_byte c low high) more

glyph : (upper : Bool) (d : ℕ) → d < 16 → (32 ≤ digit_glyph upper d) × (digit_glyph upper d < 127)
glyph true d h = grind (arith, nat_tests)
glyph false d h = grind (arith, nat_tests)

digits_on : (k base : ℕ) (upper : Bool) (n : ℕ) (text : List ℕ) → ((m : ℕ) → m % base < 16) → IsHarmless text → IsHarmless (digits_onto k base upper n text)
digits_on zero base upper n text small is = is
digits_on (suc k) base upper n text small is =
    let digit = glyph upper (n % base) (small n) in
    let more = harmless_more (digit_glyph upper (n % base)) text digit.0 digit.1 is in
    cond_both (n / base == 0) _ _ (λ t. IsHarmless t) (λ _. more) (λ _. digits_on k base upper (n / base) _ small more)

pub harmless_digits : (upper : Bool) (n : ℕ) → IsHarmless (digits 16 upper n)
unfolding digits
harmless_digits upper n = digits_on 64 16 upper n [] (λ m. omega arith) (NoCharPasses-nil acts_on_terminal)

pub harmless_decimal : (n : ℕ) → IsHarmless (digits 10 false n)
unfolding digits
harmless_decimal n = digits_on 64 10 false n [] (λ m. omega arith) (NoCharPasses-nil acts_on_terminal)

zeros : (n : ℕ) → IsHarmless (replicate n 48)
zeros zero = NoCharPasses-nil acts_on_terminal
zeros (suc n) = harmless_more 48 (replicate n 48) (omega arith) (omega arith) (zeros n)

padded : (text : List ℕ) → IsHarmless text → IsHarmless (padded_integral (format_spec 32 0 4 4 (2 ^ 64 - 1)) false [] text)
unfolding padded_integral
padded text is = NoCharPasses-append acts_on_terminal _ _ (zeros _) (NoCharPasses-append acts_on_terminal text [] is (NoCharPasses-nil acts_on_terminal))

by_number_harmless : (c : ℕ) → IsHarmless (by_number c)
by_number_harmless c =
    harmless_more 60 _ (omega arith) (omega arith) (harmless_more 85 _ (omega arith) (omega arith) (harmless_more 43 _ (omega arith) (omega arith)
    (NoCharPasses-append acts_on_terminal _ (62 ∷ []) (padded (digits 16 true c) (harmless_digits true c)) (harmless_byte 62 (omega arith) (omega arith)))))

character : (c : ℕ) → IsHarmless (shown_character c)
character c =
    cond_both (c == 9) _ _ (λ t. IsHarmless t)
    (λ _. harmless_byte 32 (omega arith) (omega arith))
    (λ _. cond_both (acts_on_terminal c) _ _ (λ t. IsHarmless t) (λ _. by_number_harmless c) (λ other. harmless_one c other))

-- any characters that are told one by one
pub harmless_all : (f : ℕ → List ℕ) → ((c : ℕ) → IsHarmless (f c)) → (cs : List ℕ) → IsHarmless (flat_map f cs)
harmless_all f each [] = NoCharPasses-nil acts_on_terminal
harmless_all f each (c ∷ cs) = NoCharPasses-append acts_on_terminal (f c) (flat_map f cs) (each c) (harmless_all f each cs)

pub shown_is_harmless : ShownIsHarmless
unfolding shown_text
shown_is_harmless cs = harmless_all shown_character character cs

-- ---- in lines

none_in_lines : (cs : List ℕ) → NonePass acts_on_terminal cs → NonePass acts_in_lines cs
none_in_lines [] h = h
none_in_lines (c ∷ cs) h = (and_right (not (c == 10)) _ h.0, none_in_lines cs h.1)

pub in_lines : (text : List ℕ) → IsHarmless text → IsHarmlessInLines text
in_lines text (cs, is, none) = (cs, is, none_in_lines cs none)

pub line_feed : IsHarmlessInLines (10 ∷ [])
line_feed = subst IsHarmlessInLines (encode_ascii 10 (omega arith)) (10 ∷ [], append-nil (encode_utf8 10), (refl, tt))

line_character : (c : ℕ) → IsHarmlessInLines (shown_in_lines c)
line_character c = cond_both (c == 10) _ _ (λ t. IsHarmlessInLines t) (λ _. line_feed) (λ _. in_lines (shown_character c) (character c))

pub lines_are_harmless : LinesAreHarmless
unfolding lines_text
lines_are_harmless [] = NoCharPasses-nil acts_in_lines
lines_are_harmless (c ∷ cs) = NoCharPasses-append acts_in_lines (shown_in_lines c) (lines_text cs) (line_character c) (lines_are_harmless cs)
