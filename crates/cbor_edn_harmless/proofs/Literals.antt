-- Quoted texts stand for what they stood for.
use Rattle.std.proofs.Common.{ℕ, ◌≡◌, ◌≢◌, ◌≤◌, ◌<◌, ◌^◌, zero, suc, ⊎_elim, false, List, [], ◌∷◌, ◌++◌, length, get_or, Some, refl, sym, ap, subst, ◌∙◌, append_assoc, arith}
use Rattle.std.specs.Prelude.{◌==◌, encode_utf8}
use Rattle.std.specs.Char.{IsScalar, digit_value}
use Rattle.std.specs.List.{flat_map}
use Rattle.std.specs.Str.{chars, IsUtf8, encode_utf8_all}
use lib.Utf8.{scalar}
use Rattle.std.proofs.Math.Utf8.{scalar_cases}
use Rattle.std.proofs.lemmas.Bool.{and_parts, cases_lt, cond_both, cond-true, cond-false, eq-eqb, ne_eqb}
use Rattle.std.proofs.lemmas.Bool.Decides.{nat_tests}
use Rattle.std.proofs.lemmas.Fmt.{digits_is_IsNumeral}
use Rattle.std.proofs.lemmas.Grind.{flat_map-append}
use Rattle.std.proofs.lemmas.List.{append-nil, length-append}
use Rattle.std.proofs.lemmas.Str.{chars-append, chars-encodes, chars_from_encodes, encode_ascii, inside_one, len_utf8_bounds, length-encode}
use Rattle.std.specs.Fmt.{digits}
use Rattle.cbor_edn_parts.specs.number.Number.{Hexadecimal, IsDigitOf, AreDigits}
use Rattle.cbor_edn_parts.specs.string.Literal as literals
use Rattle.cbor_edn_parts.specs.string.Literal.{IsLower, IsUpper, IsDigit, IsPrefix, letter_escape, hex_number, IsPart, raw, line_feed, carriage_return, quote, letter, unit, pair, braced, Decoded, nothing, part, Quoting, Prefixed, IsLiteral}
use Rattle.cbor_edn_parts.proofs.lemmas.base.Each.{Each, end, next, each}
use Rattle.cbor_edn_parts.proofs.lemmas.number.NumberParts.{number_is, some_digits}
use Rattle.cbor_edn_parts.proofs.lemmas.string.Applications.{before_byte, behind_byte}
use Rattle.cbor_edn_terminal.specs.Terminal.{acts_in_lines}
use Rattle.cbor_edn_harmless.specs.declared.Place.TheVariants.{Outside, InQuotes}
use Rattle.cbor_edn_harmless.specs.Harmless.{escape, escaped_character, in_quotes, harmless_literal}
use Rattle.cbor_edn_harmless.specs.internal.Rewriting.{after, written}
use Rattle.cbor_edn_harmless.proofs.Characters.{each_append, each_weaker, chars_next, IsNeutral, space_plain, quotes_line_feed, quotes_plain}
use Rattle.cbor_edn_harmless.proofs.Spaces.{Cut, cut_behind}
use Rattle.cbor_edn_harmless.proofs.Walks.{Walks, none, step, both, neutral_after}

-- ---- bytes of long characters

abbrev pub IsLong : ℕ → Type 0
IsLong c = 128 ≤ c

long_bytes : (c : ℕ) (x : List ℕ) → ((k : ℕ) → k < length x → get_or x k 0 < 128 → ⊥) → Each IsLong x
long_bytes c [] h = end
long_bytes c (b ∷ x) h = next (⊎_elim (λ s. absurd (h 0 (omega arith) s)) (λ l. omega arith) (cases_lt b 128)) (long_bytes c x (λ k lt s. h (suc k) (omega arith) s))

pub encode_long : (c : ℕ) → 128 ≤ c → Each IsLong (encode_utf8 c)
encode_long c long = long_bytes c (encode_utf8 c) (λ k lt s. absurd (let same : c ≡ get_or (encode_utf8 c) k 0 = inside_one c [] (encode_utf8 c) k (sym (append-nil (encode_utf8 c))) lt s in omega arith))

encode_filled : (c : ℕ) → 0 < length (encode_utf8 c)
encode_filled c = omega (arith, length-encode c, len_utf8_bounds c)

-- a byte that stands for itself
abbrev IsRaw : ℕ → ℕ → Type 0
IsRaw q c = IsPart q (c ∷ []) (c ∷ [])

-- What stands for a text and begins with such a byte has the byte as it is.
long_part : (q c : ℕ) (x v t : List ℕ) → 128 ≤ c → t ≡ c ∷ x → Decoded q t v → (w : List ℕ) × (v ≡ c ∷ w) × Decoded q x w × IsRaw q c
long_part q c x v t long e nothing = absurd cc
long_part q c x v t long e (part {y = y} {c = w} (raw {c = d} p o n) more) =
    let same : d ≡ c = cc in
    let rest : y ≡ x = cc in
    (w, ap (λ b. b ∷ w) same, subst (λ l. Decoded q l w) rest more, subst (IsRaw q) same (raw p o n))
long_part q c x v t long e (part line_feed more) = let same : 10 ≡ c = cc in absurd (omega arith)
long_part q c x v t long e (part carriage_return more) = let same : 13 ≡ c = cc in absurd (omega arith)
long_part q c x v t long e (part quote more) = let same : 92 ≡ c = cc in absurd (omega arith)
long_part q c x v t long e (part (letter l) more) = let same : 92 ≡ c = cc in absurd (omega arith)
long_part q c x v t long e (part (unit u s) more) = let same : 92 ≡ c = cc in absurd (omega arith)
long_part q c x v t long e (part (pair u h l m) more) = let same : 92 ≡ c = cc in absurd (omega arith)
long_part q c x v t long e (part (braced d s) more) = let same : 92 ≡ c = cc in absurd (omega arith)

-- these bytes may stand as they are in front of any others
abbrev Again : ℕ → List ℕ → Type 0
Again q e = (x v : List ℕ) → Decoded q x v → Decoded q (e ++ x) (e ++ v)

long_parts : (q : ℕ) {e : List ℕ} (x v : List ℕ) → Each IsLong e → Decoded q (e ++ x) v → (w : List ℕ) × (v ≡ e ++ w) × Decoded q x w × Again q e
long_parts q x v end d = (v, refl, d, λ y w d. d)
long_parts q x v (next {c = c} {x = e} long more) d =
    let (w, is, rest, own) = long_part q c (e ++ x) v _ long refl d in
    let (u, also, last, again) = long_parts q x w more rest in
    (u, is ∙ ap (λ l. c ∷ l) also, last, λ y w d. part own (again y w d))

-- ---- what walks in quotes

-- a character of ASCII that stays, and ends no text
IsStill : ℕ → ℕ → Type 0
IsStill q c = (32 ≤ c) × (c < 127) × (c ≢ q) × (c ≢ 92)

module _ (q : ℕ) (low : 34 ≤ q) (high : q ≤ 39) where
  -- an ASCII part with no character that acts
  record IsKept (x : List ℕ) : Type 0 where
    ascii : Each (λ c. c < 128) x
    walks : Walks in_quotes (InQuotes q) x (InQuotes q)
    same : flat_map in_quotes x ≡ x

  still_after : (c : ℕ) → c ≢ q → c ≢ 92 → after (InQuotes q) c ≡ InQuotes q
  still_after c other plain = cond-false (c == q) _ _ (ne_eqb c q other) ∙ cond-false (c == 92) _ _ (ne_eqb c 92 plain)

  kept_still : {x : List ℕ} → Each (IsStill q) x → IsKept x
  unfolding IsStill
  kept_still end = record { ascii = end; walks = none; same = refl }
  kept_still (next {c = c} {x = x} h more) = let rest = kept_still more in record {
    ascii = next (omega arith) rest.ascii;
    walks = step (still_after c h.2 h.3) refl rest.walks;
    same = ap (λ l. l ++ flat_map in_quotes x) (quotes_plain c h.0 h.1) ∙ ap (λ l. c ∷ l) rest.same;
  }

  kept_both : (x y : List ℕ) → IsKept x → IsKept y → IsKept (x ++ y)
  kept_both x y a b = record {
    ascii = each_append a.ascii b.ascii;
    walks = both a.walks b.walks;
    same = flat_map-append in_quotes x y ∙ (ap (λ l. l ++ flat_map in_quotes y) a.same ∙ ap (λ l. x ++ l) b.same);
  }

  -- a backslash and a character
  kept_escape : (c : ℕ) → 32 ≤ c → c < 127 → IsKept (92 ∷ c ∷ [])
  kept_escape c from to =
      let other : 92 ≢ q = λ e. omega arith in record {
        ascii = next (omega arith) (next (omega arith) end);
        walks = step (cond-false (92 == q) _ _ (ne_eqb 92 q other)) refl (step refl refl none);
        same = ap (λ l. l ++ (in_quotes c ++ [])) (quotes_plain 92 (omega arith) (omega arith)) ∙ ap (λ l. 92 ∷ (l ++ [])) (quotes_plain c from to);
      }

  kept_u : IsKept (92 ∷ 117 ∷ [])
  kept_u = kept_escape 117 (omega arith) (omega arith)

  digit_bounds : (c : ℕ) → digit_value c < 16 → (48 ≤ c) × (c < 127) × (c ≢ 92)
  digit_bounds c h = (grind (arith, nat_tests), grind (arith, nat_tests), grind (arith, nat_tests))

  digit_still : (c : ℕ) → IsDigitOf Hexadecimal c → IsStill q c
  unfolding IsStill
  digit_still c h = let b = digit_bounds c h in (omega arith, omega arith, (λ e. omega arith), b.2)

  kept_digits : {ds : List ℕ} → AreDigits Hexadecimal ds → IsKept ds
  kept_digits d = kept_still (each_weaker digit_still (each d.0))

  kept_one : (c : ℕ) → 40 ≤ c → c < 127 → c ≢ 92 → IsKept (c ∷ [])
  unfolding IsStill
  kept_one c from to plain = kept_still (next (omega arith, omega arith, (λ e. omega arith), plain) end)

  letter_bounds : (c d : ℕ) → letter_escape c ≡ Some d → (32 ≤ c) × (c < 127)
  letter_bounds c d e = (grind (arith, nat_tests), grind (arith, nat_tests))

  -- ---- characters between the quotes

  -- The characters between two quotes as they are written stand for the same text.
  record IsSame (cs v : List ℕ) : Type 0 where
    walks : Walks in_quotes (InQuotes q) cs (InQuotes q)
    decoded : Decoded q (flat_map in_quotes cs) v

  front_chars : {a : List ℕ} (y : List ℕ) → Each (λ c. c < 128) a → chars (a ++ y) ≡ a ++ chars y
  front_chars y end = refl
  front_chars y (next {c = c} {x = a} small more) = chars_next c (a ++ y) small ∙ ap (λ l. c ∷ l) (front_chars y more)

  back_utf8 : {a : List ℕ} (y : List ℕ) → Each (λ c. c < 128) a → IsUtf8 (a ++ y) → IsUtf8 y
  back_utf8 y end utf8 = utf8
  back_utf8 y (next {c = c} {x = a} small more) utf8 = back_utf8 y more (behind_byte [] c (a ++ y) small utf8)

  same_kept : (a b y w : List ℕ) → IsPart q a b → IsKept a → IsSame (chars y) w → IsSame (chars (a ++ y)) (b ++ w)
  same_kept a b y w p kept rest = record {
    walks = subst (λ l. Walks in_quotes (InQuotes q) l (InQuotes q)) (sym (front_chars y kept.ascii)) (both kept.walks rest.walks);
    decoded = subst (λ l. Decoded q l (b ++ w))
        (sym (ap (flat_map in_quotes) (front_chars y kept.ascii) ∙ (flat_map-append in_quotes a (chars y) ∙ ap (λ l. l ++ flat_map in_quotes (chars y)) kept.same)))
        (part p rest.decoded);
  }

  -- a character by its number
  escape_part : (c : ℕ) → IsScalar c → IsPart q (escape c) (encode_utf8 c)
  escape_part c s =
      let small : c < 16 ^ 64 = ⊎_elim (λ h. omega arith) (λ h. omega arith) (scalar_cases c s) in
      let numeral = digits_is_IsNumeral 16 false (omega arith) (omega arith) c small in
      let number : hex_number (digits 16 false c) ≡ c = sym (number_is 16 (digits 16 false c)) ∙ numeral.1 in
      subst (λ b. IsPart q (escape c) b) (ap encode_utf8 number)
      (braced (some_digits Hexadecimal (digits 16 false c) numeral.0) (subst IsScalar (sym number) s))

  -- a character whose bytes may stand as they are
  same_raw : (c : ℕ) (cs v : List ℕ) → 32 ≤ c → c ≢ q → c ≢ 92 → IsScalar c → Again q (encode_utf8 c) → IsSame cs v → IsSame (c ∷ cs) (encode_utf8 c ++ v)
  same_raw c cs v from other plain scalar again rest = record {
    walks = step (still_after c other plain) refl rest.walks;
    decoded = subst (λ l. Decoded q (l ++ flat_map in_quotes cs) (encode_utf8 c ++ v)) (sym none_else)
        (cond_both (acts_in_lines c) _ _ (λ l. Decoded q (l ++ flat_map in_quotes cs) (encode_utf8 c ++ v))
        (λ _. part (escape_part c scalar) rest.decoded)
        (λ _. again (flat_map in_quotes cs) v rest.decoded));
  }
    where
      none_else : in_quotes c ≡ escaped_character c
      none_else = let cr : c ≢ 13 = λ e. omega arith in cond-false (c == 13) _ _ (ne_eqb c 13 cr)

  shorter : (a y : List ℕ) (n : ℕ) → 0 < length a → length (a ++ y) ≤ suc n → length y ≤ n
  shorter a y n some le = omega (arith, length-append a y)

  no_less : (x : List ℕ) → length x ≤ 0 → x ≡ []
  no_less [] le = refl
  no_less (c ∷ x) le = absurd (omega arith)

  -- the first character is long where the first byte is
  first_long : (k c : ℕ) (r y : List ℕ) → 128 ≤ c → encode_utf8 k ++ r ≡ c ∷ y → 128 ≤ k
  first_long k c r y long e =
      ⊎_elim
      (λ small. let same : k ≡ c = let one : k ∷ r ≡ c ∷ y = ap (λ l. l ++ r) (sym (encode_ascii k small)) ∙ e in cc in absurd (omega arith))
      (λ l. omega arith)
      (cases_lt k 128)

  same_empty : IsSame (chars []) []
  unfolding chars
  same_empty = record { walks = none; decoded = nothing }

  -- texts of so many bytes
  abbrev UpTo : ℕ → Type 0
  UpTo n = (x v : List ℕ) → length x ≤ n → IsUtf8 x → Decoded q x v → IsSame (chars x) v

  ascii_scalar : (c : ℕ) → c < 128 → IsScalar c
  ascii_scalar c small = grind (arith, nat_tests)

  -- a part that stays, and what follows it
  kept_text : (n : ℕ) → UpTo n → (a b y w : List ℕ) → length (a ++ y) ≤ suc n → IsUtf8 (a ++ y) → IsPart q a b → 0 < length a → IsKept a → Decoded q y w → IsSame (chars (a ++ y)) (b ++ w)
  kept_text n up a b y w le utf8 p some kept more = same_kept a b y w p kept (up y w (shorter a y n some le) (back_utf8 y kept.ascii utf8) more)

  -- a text that begins with a character of more than one byte
  long_text : (n : ℕ) → UpTo n → (c : ℕ) (y v : List ℕ) → 128 ≤ c → length (c ∷ y) ≤ suc n → IsUtf8 (c ∷ y) → Decoded q (c ∷ y) v → IsSame (chars (c ∷ y)) v
  long_text n up c y v long le ([], (ok, is)) d = absurd cc
  long_text n up c y v long le (k ∷ ks, (ok, is)) d =
      let own : 128 ≤ k = first_long k c (encode_utf8_all ks) y long is in
      let scalars = and_parts (scalar k) _ ok in
      let (w, same, rest, again) = long_parts q (encode_utf8_all ks) v (encode_long k own) (subst (λ l. Decoded q l v) (sym is) d) in
      let whole : length (encode_utf8 k ++ encode_utf8_all ks) ≤ suc n = subst (λ l. length l ≤ suc n) (sym is) le in
      let behind = up (encode_utf8_all ks) w (shorter (encode_utf8 k) (encode_utf8_all ks) n (encode_filled k) whole) (ks, (scalars.1, refl)) rest in
      let cs : chars (c ∷ y) ≡ k ∷ ks = sym (chars_from_encodes (k ∷ ks) (c ∷ y) (k ∷ ks, (ok, is)) is) in
      let after_it : IsSame ks w = subst (λ l. IsSame l w) (chars-encodes ks scalars.1) behind in
      subst (λ l. IsSame l v) (sym cs) (subst (λ l. IsSame (k ∷ ks) l) (sym same)
      (same_raw k ks w (omega arith) (λ e. omega arith) (λ e. omega arith) scalars.0 again after_it))

  parts_text : (n : ℕ) → UpTo n → (b y w : List ℕ) {a : List ℕ} → IsPart q a b → length (a ++ y) ≤ suc n → IsUtf8 (a ++ y) → Decoded q y w → IsSame (chars (a ++ y)) (b ++ w)
  parts_text n up b y w (raw {c = c} p o t) le utf8 more =
      ⊎_elim
      (λ small.
      let own : Again q (encode_utf8 c) = λ x v d. subst (λ e. Decoded q (e ++ x) (e ++ v)) (sym (encode_ascii c small)) (part (raw p o t) d) in
      let rest = up y w (shorter (c ∷ []) y n (omega arith) le) (behind_byte [] c y small utf8) more in
      subst (λ l. IsSame l (c ∷ w)) (sym (chars_next c y small))
      (subst (λ e. IsSame (c ∷ chars y) (e ++ w)) (encode_ascii c small) (same_raw c (chars y) w p.0 o t (ascii_scalar c small) own rest)))
      (λ long. long_text n up c y (c ∷ w) long le utf8 (part (raw p o t) more))
      (cases_lt c 128)
  parts_text n up b y w line_feed le utf8 more =
      let kept : IsKept (10 ∷ []) = record { ascii = next (omega arith) end; walks = step (still_after 10 (λ e. omega arith) (λ e. omega arith)) refl none; same = append-nil (in_quotes 10) ∙ quotes_line_feed } in
      kept_text n up (10 ∷ []) (10 ∷ []) y w le utf8 line_feed (omega arith) kept more
  parts_text n up b y w carriage_return le utf8 more =
      let rest = up y w (shorter (13 ∷ []) y n (omega arith) le) (behind_byte [] 13 y (omega arith) utf8) more in
      subst (λ l. IsSame l w) (sym (chars_next 13 y (omega arith))) (record {
        walks = step (still_after 13 (λ e. omega arith) (λ e. omega arith)) refl rest.walks;
        decoded = rest.decoded;
      })
  parts_text n up b y w quote le utf8 more = kept_text n up (92 ∷ q ∷ []) (q ∷ []) y w le utf8 quote (omega arith) (kept_escape q (omega arith) (omega arith)) more
  parts_text n up b y w (letter {c = c} {d = d} l) le utf8 more =
      let bounds = letter_bounds c d l in
      kept_text n up (92 ∷ c ∷ []) (d ∷ []) y w le utf8 (letter l) (omega arith) (kept_escape c bounds.0 bounds.1) more
  parts_text n up b y w (unit {ds = ds} u s) le utf8 more =
      kept_text n up (92 ∷ 117 ∷ ds) (encode_utf8 (hex_number ds)) y w le utf8 (unit u s) (omega arith) (kept_both (92 ∷ 117 ∷ []) ds kept_u (kept_digits u.0)) more
  parts_text n up b y w (pair {hs = hs} {ls = ls} u h l m) le utf8 more =
      kept_text n up (92 ∷ 117 ∷ (hs ++ (92 ∷ 117 ∷ ls))) b y w le utf8 (pair u h l m) (omega arith)
      (kept_both (92 ∷ 117 ∷ []) (hs ++ (92 ∷ 117 ∷ ls)) kept_u (kept_both hs (92 ∷ 117 ∷ ls) (kept_digits u.0) (kept_both (92 ∷ 117 ∷ []) ls kept_u (kept_digits l.0)))) more
  parts_text n up b y w (braced {ds = ds} d s) le utf8 more =
      kept_text n up (92 ∷ 117 ∷ 123 ∷ (ds ++ (125 ∷ []))) (encode_utf8 (hex_number ds)) y w le utf8 (braced d s) (omega arith)
      (kept_both (92 ∷ 117 ∷ []) (123 ∷ (ds ++ (125 ∷ []))) kept_u
      (kept_both (123 ∷ []) (ds ++ (125 ∷ [])) (kept_one 123 (omega arith) (omega arith) (λ e. omega arith))
      (kept_both ds (125 ∷ []) (kept_digits d) (kept_one 125 (omega arith) (omega arith) (λ e. omega arith))))) more

  part_filled : {a b : List ℕ} (y : List ℕ) → IsPart q a b → length (a ++ y) ≤ 0 → ⊥
  part_filled y (raw p o n) le = omega arith
  part_filled y line_feed le = omega arith
  part_filled y carriage_return le = omega arith
  part_filled y quote le = omega arith
  part_filled y (letter l) le = omega arith
  part_filled y (unit u s) le = omega arith
  part_filled y (pair u h l m) le = omega arith
  part_filled y (braced d s) le = omega arith

  same_text : (n : ℕ) → UpTo n
  same_text n x v le utf8 nothing = same_empty
  same_text zero x v le utf8 (part {y = y} p more) = absurd (part_filled y p le)
  same_text (suc n) x v le utf8 (part {b = b} {y = y} {c = w} p more) = parts_text n (same_text n) b y w p le utf8 more

  -- ---- with both quotes

  quoted_utf8 : (x : List ℕ) → IsUtf8 (q ∷ (x ++ (q ∷ []))) → IsUtf8 x
  quoted_utf8 x utf8 = before_byte x q [] (omega arith) (behind_byte [] q (x ++ (q ∷ [])) (omega arith) utf8)

  quoted_chars : (x : List ℕ) → IsUtf8 x → chars (q ∷ (x ++ (q ∷ []))) ≡ q ∷ (chars x ++ (q ∷ []))
  unfolding chars
  quoted_chars x utf8 = chars_next q (x ++ (q ∷ [])) (omega arith) ∙ ap (λ l. q ∷ l) (chars-append x (q ∷ []) utf8 ∙ ap (λ l. chars x ++ l) (chars_next q [] (omega arith)))

  -- what stands between the quotes, as it is written
  inner : {x v : List ℕ} → Decoded q x v → IsUtf8 x → IsSame (chars x) v
  inner {x} {v} d utf8 = same_text (length x) x v (omega arith) utf8 d

  quoted_same : (x : List ℕ) → IsUtf8 x → harmless_literal (q ∷ (x ++ (q ∷ []))) ≡ q ∷ (flat_map in_quotes (chars x) ++ (q ∷ []))
  unfolding harmless_literal
  quoted_same x utf8 =
      let own = quotes_plain q (omega arith) (omega arith) in
      ap (flat_map in_quotes) (quoted_chars x utf8) ∙ (ap (λ l. l ++ flat_map in_quotes (chars x ++ (q ∷ []))) own
      ∙ ap (λ l. q ∷ l) (flat_map-append in_quotes (chars x) (q ∷ []) ∙ ap (λ l. flat_map in_quotes (chars x) ++ l) (append-nil (in_quotes q) ∙ own)))

  quoted_walks : after Outside q ≡ InQuotes q → (x v : List ℕ) → Decoded q x v → IsUtf8 x → Walks in_quotes Outside (chars (q ∷ (x ++ (q ∷ [])))) Outside
  quoted_walks opens x v d utf8 =
      let first : written Outside q ≡ in_quotes q = space_plain q (omega arith) (omega arith) ∙ sym (quotes_plain q (omega arith) (omega arith)) in
      subst (λ l. Walks in_quotes Outside l Outside) (sym (quoted_chars x utf8))
      (step opens first (both (inner d utf8).walks (step (cond-true (q == q) _ _ (eq-eqb q q refl)) refl none)))

-- ---- literals

lower_neutral : (c : ℕ) → IsLower c → IsNeutral c
lower_neutral c h = (omega arith, omega arith, λ e. omega arith)

upper_neutral : (c : ℕ) → IsUpper c → IsNeutral c
upper_neutral c h = (omega arith, omega arith, λ e. omega arith)

digit_neutral : (c : ℕ) → IsDigit c → IsNeutral c
digit_neutral c h = (omega arith, omega arith, λ e. omega arith)

prefix_neutral : {p : List ℕ} → IsPrefix p → Each IsNeutral p
prefix_neutral (literals.small {c = c} h more) = next (lower_neutral c h) (each_weaker (λ d. ⊎_elim (lower_neutral d) (digit_neutral d)) (each more))
prefix_neutral (literals.large {c = c} h more) = next (upper_neutral c h) (each_weaker (λ d. ⊎_elim (upper_neutral d) (digit_neutral d)) (each more))

prefixed_walks : {p : List ℕ} (u : List ℕ) → Each IsNeutral p → Walks in_quotes Outside (chars u) Outside → Walks in_quotes Outside (chars (p ++ u)) Outside
prefixed_walks u end w = w
prefixed_walks u (next {c = c} {x = p} h more) w =
    subst (λ l. Walks in_quotes Outside l Outside) (sym (chars_next c (p ++ u) (omega arith)))
    (step (neutral_after c h) (space_plain c (omega arith) h.1 ∙ sym (quotes_plain c (omega arith) h.1)) (prefixed_walks u more w))

prefixed_same : {p : List ℕ} (u : List ℕ) → Each IsNeutral p → harmless_literal (p ++ u) ≡ p ++ harmless_literal u
unfolding harmless_literal
prefixed_same u end = refl
prefixed_same u (next {c = c} {x = p} h more) =
    ap (flat_map in_quotes) (chars_next c (p ++ u) (omega arith))
    ∙ (ap (λ l. l ++ flat_map in_quotes (chars (p ++ u))) (quotes_plain c (omega arith) h.1) ∙ ap (λ l. c ∷ l) (prefixed_same u more))

prefixed_utf8 : {p : List ℕ} (u : List ℕ) → Each IsNeutral p → IsUtf8 (p ++ u) → IsUtf8 u
prefixed_utf8 u end utf8 = utf8
prefixed_utf8 u (next {c = c} {x = p} h more) utf8 = prefixed_utf8 u more (behind_byte [] c (p ++ u) (omega arith) utf8)

-- A literal that is written so is quoted so, and stands for the same text.
pub literal_kept : (q : Quoting) (v t : List ℕ) → IsUtf8 t → IsLiteral q v t → IsLiteral q v (harmless_literal t)
literal_kept literals.Double v t utf8 (x, d, e) =
    let own = quoted_utf8 34 (omega arith) (omega arith) x (subst IsUtf8 e utf8) in
    (flat_map in_quotes (chars x), (inner 34 (omega arith) (omega arith) d own).decoded, ap harmless_literal e ∙ quoted_same 34 (omega arith) (omega arith) x own)
literal_kept literals.Single v t utf8 (x, d, e) =
    let own = quoted_utf8 39 (omega arith) (omega arith) x (subst IsUtf8 e utf8) in
    (flat_map in_quotes (chars x), (inner 39 (omega arith) (omega arith) d own).decoded, ap harmless_literal e ∙ quoted_same 39 (omega arith) (omega arith) x own)
literal_kept (Prefixed p) v t utf8 (x, is, d, e) =
    let named = prefix_neutral is in
    let own = quoted_utf8 39 (omega arith) (omega arith) x (prefixed_utf8 _ named (subst IsUtf8 e utf8)) in (
      flat_map in_quotes (chars x),
      is,
      (inner 39 (omega arith) (omega arith) d own).decoded,
      ap harmless_literal e ∙ (prefixed_same _ named ∙ ap (λ l. p ++ l) (quoted_same 39 (omega arith) (omega arith) x own)),
    )

pub literal_walks : (q : Quoting) (v t : List ℕ) → IsUtf8 t → IsLiteral q v t → Walks in_quotes Outside (chars t) Outside
literal_walks literals.Double v t utf8 (x, d, e) =
    let own = quoted_utf8 34 (omega arith) (omega arith) x (subst IsUtf8 e utf8) in
    subst (λ l. Walks in_quotes Outside (chars l) Outside) (sym e) (quoted_walks 34 (omega arith) (omega arith) refl x v d own)
literal_walks literals.Single v t utf8 (x, d, e) =
    let own = quoted_utf8 39 (omega arith) (omega arith) x (subst IsUtf8 e utf8) in
    subst (λ l. Walks in_quotes Outside (chars l) Outside) (sym e) (quoted_walks 39 (omega arith) (omega arith) refl x v d own)
literal_walks (Prefixed p) v t utf8 (x, is, d, e) =
    let named = prefix_neutral is in
    let own = quoted_utf8 39 (omega arith) (omega arith) x (prefixed_utf8 _ named (subst IsUtf8 e utf8)) in
    subst (λ l. Walks in_quotes Outside (chars l) Outside) (sym e) (prefixed_walks _ named (quoted_walks 39 (omega arith) (omega arith) refl x v d own))

-- it ends in a quote
pub literal_cut : (q : Quoting) (v t : List ℕ) → IsLiteral q v t → Cut t
literal_cut literals.Double v t (x, d, e) = subst Cut (sym e) (cut_behind (34 ∷ x) 34 (omega arith))
literal_cut literals.Single v t (x, d, e) = subst Cut (sym e) (cut_behind (39 ∷ x) 39 (omega arith))
literal_cut (Prefixed p) v t (x, is, d, e) = subst Cut (sym (e ∙ sym (append_assoc p (39 ∷ x) (39 ∷ [])))) (cut_behind (p ++ (39 ∷ x)) 39 (omega arith))
