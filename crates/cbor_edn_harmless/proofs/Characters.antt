-- What is written of one character.
use Rattle.std.proofs.Common.{ℕ, ◌≡◌, ◌≢◌, ◌≤◌, ◌<◌, ◌%◌, ◌/◌, zero, suc, false, List, [], ◌∷◌, ◌++◌, ap, ◌∙◌, arith}
use Rattle.std.specs.Prelude.{◌==◌, ◌||◌, not, encode_utf8}
use Rattle.std.specs.Fmt.{digits, digits_onto, digit_glyph}
use Rattle.std.specs.List.{flat_map}
use Rattle.std.specs.Str.{chars, IsUtf8, IsAscii, encode_utf8_all}
use Rattle.std.proofs.lemmas.Bool.{and_right, cond_both, cond-false, ne_eqb, or_from}
use Rattle.std.proofs.lemmas.Bool.Decides.{nat_tests}
use Rattle.std.proofs.lemmas.Str.{encode_ascii, IsUtf8-from_ascii, chars-append, chars-IsAscii}
use Rattle.cbor_edn_parts.proofs.lemmas.base.Each.{Each, end, next}
use Rattle.cbor_edn_terminal.specs.Terminal.{acts_in_lines}
use Rattle.cbor_edn_terminal.proofs.Harmless.{plain_byte}
use Rattle.cbor_edn_harmless.specs.Harmless.{escape, escaped_character, in_space, in_quotes}

-- ---- lists

pub each_append : {P : ℕ → Type 0} {x y : List ℕ} → Each P x → Each P y → Each P (x ++ y)
each_append end rest = rest
each_append (next h more) rest = next h (each_append more rest)

pub each_front : {P : ℕ → Type 0} (x y : List ℕ) → Each P (x ++ y) → Each P x
each_front [] y e = end
each_front (c ∷ x) y (next h more) = next h (each_front x y more)

pub each_behind : {P : ℕ → Type 0} (x : List ℕ) {y : List ℕ} → Each P (x ++ y) → Each P y
each_behind [] e = e
each_behind (c ∷ x) (next h more) = each_behind x more

pub each_weaker : {P Q : ℕ → Type 0} {x : List ℕ} → ((c : ℕ) → P c → Q c) → Each P x → Each Q x
each_weaker to end = end
each_weaker to (next {c = c} h more) = next (to c h) (each_weaker to more)

-- ---- ASCII

one_ascii : (c : ℕ) → c < 128 → IsAscii (c ∷ [])
one_ascii c small zero = small
one_ascii c small (suc i) = omega arith

pub one_utf8 : (c : ℕ) → c < 128 → IsUtf8 (c ∷ [])
one_utf8 c small = IsUtf8-from_ascii (c ∷ []) (one_ascii c small)

pub chars_next : (c : ℕ) (x : List ℕ) → c < 128 → chars (c ∷ x) ≡ c ∷ chars x
chars_next c x small = chars-append (c ∷ []) x (one_utf8 c small) ∙ ap (λ l. l ++ chars x) (chars-IsAscii (c ∷ []) (one_ascii c small))

-- what ASCII has beside its controls
abbrev pub IsPlain : ℕ → Type 0
IsPlain c = (32 ≤ c) × (c < 127)

pub escaped_plain : (c : ℕ) → 32 ≤ c → c < 127 → escaped_character c ≡ c ∷ []
escaped_plain c low high =
    cond-false (acts_in_lines c) _ _ (and_right (not (c == 10)) _ (plain_byte c low high)) ∙ encode_ascii c (omega arith)

-- a line feed stays
pub space_line_feed : in_space 10 ≡ 10 ∷ []
space_line_feed = encode_ascii 10 (omega arith)

pub quotes_line_feed : in_quotes 10 ≡ 10 ∷ []
quotes_line_feed = encode_ascii 10 (omega arith)

pub space_plain : (c : ℕ) → 32 ≤ c → c < 127 → in_space c ≡ c ∷ []
space_plain c low high =
    let tab : c ≢ 9 = λ e. omega arith in
    let cr : c ≢ 13 = λ e. omega arith in
    cond-false (c == 9 || c == 13) _ _ (or_from (c == 9) (c == 13) (ne_eqb c 9 tab) (ne_eqb c 13 cr)) ∙ escaped_plain c low high

pub quotes_plain : (c : ℕ) → 32 ≤ c → c < 127 → in_quotes c ≡ c ∷ []
quotes_plain c low high =
    let cr : c ≢ 13 = λ e. omega arith in
    cond-false (c == 13) _ _ (ne_eqb c 13 cr) ∙ escaped_plain c low high

-- ---- digits

glyph : (d : ℕ) → d < 16 → (40 ≤ digit_glyph false d) × (digit_glyph false d < 127) × (digit_glyph false d ≢ 47)
glyph d h = (grind (arith, nat_tests), grind (arith, nat_tests), grind (arith, nat_tests))

-- what tokens but literals and space have: no quote, no slash and no number sign
abbrev pub IsNeutral : ℕ → Type 0
IsNeutral c = (40 ≤ c) × (c < 127) × (c ≢ 47)

digits_on : (k base n : ℕ) (text : List ℕ) → ((m : ℕ) → m % base < 16) → Each IsNeutral text → Each IsNeutral (digits_onto k base false n text)
digits_on zero base n text small is = is
digits_on (suc k) base n text small is =
    let more : Each IsNeutral (digit_glyph false (n % base) ∷ text) = next (glyph (n % base) (small n)) is in
    cond_both (n / base == 0) _ _ (λ t. Each IsNeutral t) (λ _. more) (λ _. digits_on k base (n / base) _ small more)

pub digits_neutral : (base n : ℕ) → ((m : ℕ) → m % base < 16) → Each IsNeutral (digits base false n)
unfolding digits
digits_neutral base n small = digits_on 64 base n [] small end

pub hex_neutral : (n : ℕ) → Each IsNeutral (digits 16 false n)
hex_neutral n = digits_neutral 16 n (λ m. omega arith)

pub decimal_neutral : (n : ℕ) → Each IsNeutral (digits 10 false n)
decimal_neutral n = digits_neutral 10 n (λ m. omega arith)

-- an escape is a backslash, and then neutral
pub escape_each : (P : ℕ → Type 0) → P 92 → ((c : ℕ) → IsNeutral c → P c) → (c : ℕ) → Each P (escape c)
escape_each P first rest c =
    next first (next (rest 117 (omega arith, omega arith, λ e. omega arith)) (next (rest 123 (omega arith, omega arith, λ e. omega arith))
    (each_append (each_weaker rest (hex_neutral c)) (next (rest 125 (omega arith, omega arith, λ e. omega arith)) end))))

-- ---- characters and bytes

-- a byte that no byte of a text is, is no character of it
pub none_in : (a : ℕ) → a < 128 → (cs : List ℕ) → Each (λ c. c ≢ a) (encode_utf8_all cs) → Each (λ c. c ≢ a) cs
none_in a small [] h = end
none_in a small (c ∷ cs) h =
    next (λ e. first (encode_utf8 c) (ap encode_utf8 e ∙ encode_ascii a small) (each_front (encode_utf8 c) (encode_utf8_all cs) h)) (none_in a small cs (each_behind (encode_utf8 c) h))
  where
    first : (x : List ℕ) → x ≡ a ∷ [] → Each (λ c. c ≢ a) x → ⊥
    first [] e h = absurd cc
    first (b ∷ x) e (next other more) = let same : b ≡ a = cc in other same

-- What is written in a space of characters whose bytes are of a kind, where a space, a backslash and what is neutral are.
pub inside_kept : (P : ℕ → Type 0) → P 32 → P 92 → ((c : ℕ) → IsNeutral c → P c) → (cs : List ℕ) → Each P (encode_utf8_all cs) → Each P (flat_map in_space cs)
inside_kept P blank first rest [] h = end
inside_kept P blank first rest (c ∷ cs) h = each_append (one (each_front (encode_utf8 c) (encode_utf8_all cs) h)) (inside_kept P blank first rest cs (each_behind (encode_utf8 c) h))
  where
    one : Each P (encode_utf8 c) → Each P (in_space c)
    one own =
        cond_both (c == 9 || c == 13) _ _ (λ t. Each P t)
        (λ _. next blank end)
        (λ _. cond_both (acts_in_lines c) _ _ (λ t. Each P t) (λ _. escape_each P first rest c) (λ _. own))
