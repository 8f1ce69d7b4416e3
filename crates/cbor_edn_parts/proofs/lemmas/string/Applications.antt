-- The prefix and the text of a literal with a prefix.
use Rattle.std.proofs.Common.{ℕ, zero, suc, ◌+◌, ◌<◌, ◌≡◌, ◌≢◌, List, [], ◌∷◌, ◌++◌, true, length, drop, get_or, Some, encode_utf8, refl, sym, ap, subst, ◌∙◌, append_assoc, arith}
use Rattle.std.specs.Char.{IsScalar, digit_value}
use Rattle.std.specs.Char.Utf16.{is_high_surrogate, is_low_surrogate, surrogate_pair_char}
use Rattle.std.specs.Str.{IsUtf8}
use Rattle.std.proofs.Math.Seq.{drop-append-add, take-append_seam}
use Rattle.std.proofs.lemmas.Bool.Decides.{nat_tests}
use Rattle.std.proofs.lemmas.List.{length-append}
use Rattle.std.proofs.lemmas.Str.{IsUtf8-nil, IsUtf8-from_ascii, IsUtf8-encode, IsUtf8-append, IsUtf8-take, IsUtf8-drop, IsCharBoundary-before_ascii, IsCharBoundary-after_ascii}
use Rattle.cbor_edn_parts.specs.string.Literal as literals
use Rattle.cbor_edn_parts.specs.string.Literal.{letter_escape, hex_number, raw, line_feed, carriage_return, quote, letter, unit, pair, braced, Decoded, nothing, part, IsPrefix, Prefixed, IsLiteral, IsQuoted}
use Rattle.cbor_edn_parts.specs.internal.ContentReading.{behind_quote}
use Rattle.cbor_edn_parts.specs.internal.LiteralTokens.{is_literal, prefix_of, decoded}
use Rattle.cbor_edn_parts.specs.declared.string.QuotedState.TheVariants.{Between}
use Rattle.cbor_edn_parts.specs.declared.string.Quote.TheVariants.{Single}
use Rattle.cbor_edn_parts.proofs.lemmas.base.Each.{Each, end, next, each}
use Rattle.cbor_edn_parts.proofs.lemmas.string.LiteralContents.{decoded_is, prefix_named, prefix_plain}
use Rattle.cbor_edn_parts.proofs.lemmas.string.LiteralTexts.{literal_test}
use Rattle.cbor_edn_parts.specs.number.Number.{Hexadecimal, IsDigitOf}

abbrev IsSmall : ℕ → Type 0
IsSmall c = c < 128

-- ---- a text is cut at an ASCII byte

seam_byte : (p : List ℕ) (c : ℕ) (y : List ℕ) → get_or (p ++ (c ∷ y)) (length p) 0 ≡ c
seam_byte [] c y = refl
seam_byte (b ∷ p) c y = seam_byte p c y

module _ (p : List ℕ) (c : ℕ) (y : List ℕ) (small : c < 128) (utf8 : IsUtf8 (p ++ (c ∷ y))) where
  within : length p < length (p ++ (c ∷ y))
  within = let e : length (p ++ (c ∷ y)) ≡ length p + suc (length y) = length-append p (c ∷ y) in omega (arith, e)

  byte : get_or (p ++ (c ∷ y)) (length p) 0 < 128
  byte = subst (λ b. b < 128) (sym (seam_byte p c y)) small

  pub before_byte : IsUtf8 p
  before_byte = subst IsUtf8 (take-append_seam p (c ∷ y)) (IsUtf8-take (p ++ (c ∷ y)) (length p) utf8 (IsCharBoundary-before_ascii (p ++ (c ∷ y)) (length p) within byte))

  pub behind_byte : IsUtf8 y
  behind_byte = subst IsUtf8 (drop-append-add p (c ∷ y) 1) (IsUtf8-drop (p ++ (c ∷ y)) (length p + 1) utf8 (IsCharBoundary-after_ascii (p ++ (c ∷ y)) (length p) utf8 within byte))

behind_bytes : {x : List ℕ} (y : List ℕ) → Each IsSmall x → IsUtf8 (x ++ y) → IsUtf8 y
behind_bytes y end utf8 = utf8
behind_bytes {x = c ∷ x} y (next small more) utf8 = behind_bytes y more (behind_byte [] c (x ++ y) small utf8)

-- ---- escapes are ASCII

digit_small : (c : ℕ) → digit_value c < 16 → c < 128
digit_small c h = grind (arith, nat_tests)

digits_small : {ds : List ℕ} → Each (IsDigitOf Hexadecimal) ds → Each IsSmall ds
digits_small end = end
digits_small (next {c = c} h more) = next (digit_small c h) (digits_small more)

letter_small : (c d : ℕ) → letter_escape c ≡ Some d → (c < 128) × (d < 128)
letter_small c d e = grind (arith, nat_tests)

-- ---- what a text stands for is a text

-- an escape, and the bytes that it stands for
IsEscape : List ℕ → List ℕ → Type 0
IsEscape x b = (c : ℕ) × (y : List ℕ) × (x ≡ c ∷ y) × (c < 128) × Each IsSmall y × IsUtf8 b

escape_utf8 : (p x b y v : List ℕ) → IsEscape x b → IsUtf8 (p ++ (x ++ y)) → (IsUtf8 y → IsUtf8 v) → IsUtf8 (p ++ (b ++ v))
unfolding IsEscape
escape_utf8 p x b y v (c, z, is, small, more, utf8) whole rest =
    let cut = subst (λ x. IsUtf8 (p ++ (x ++ y))) is whole in
    IsUtf8-append p (b ++ v) (before_byte p c (z ++ y) small cut) (IsUtf8-append b v utf8 (rest (behind_bytes y more (behind_byte p c (z ++ y) small cut))))

one_utf8 : (c : ℕ) → c < 128 → IsUtf8 (c ∷ [])
one_utf8 c small = IsUtf8-from_ascii (c ∷ []) ascii
  where
    ascii : (i : ℕ) → get_or (c ∷ []) i 0 < 128
    ascii zero = small
    ascii (suc i) = omega arith

each_append : {P : ℕ → Type 0} {x y : List ℕ} → Each P x → Each P y → Each P (x ++ y)
each_append end rest = rest
each_append (next h more) rest = next h (each_append more rest)

pair_scalar : (h l : ℕ) → is_high_surrogate h ≡ true → is_low_surrogate l ≡ true → IsScalar (surrogate_pair_char h l)
pair_scalar h l high low = grind (arith, nat_tests)

module _ (q : ℕ) (small : q < 128) where
  pub decoded_utf8 : (p : List ℕ) {x v : List ℕ} → Decoded q x v → IsUtf8 (p ++ x) → IsUtf8 (p ++ v)
  unfolding IsEscape
  decoded_utf8 p nothing utf8 = utf8
  decoded_utf8 p (part {y = y} {c = v} (raw {c = c} printable other plain) d) utf8 =
      subst IsUtf8 (append_assoc p (c ∷ []) v) (decoded_utf8 (p ++ (c ∷ [])) d (subst IsUtf8 (sym (append_assoc p (c ∷ []) y)) utf8))
  decoded_utf8 p (part {y = y} {c = v} line_feed d) utf8 =
      subst IsUtf8 (append_assoc p (10 ∷ []) v) (decoded_utf8 (p ++ (10 ∷ [])) d (subst IsUtf8 (sym (append_assoc p (10 ∷ []) y)) utf8))
  decoded_utf8 p (part {y = y} {c = v} carriage_return d) utf8 =
      escape_utf8 p (13 ∷ []) [] y v (13, [], refl, omega arith, end, IsUtf8-nil) utf8 (decoded_utf8 [] d)
  decoded_utf8 p (part {y = y} {c = v} quote d) utf8 =
      escape_utf8 p (92 ∷ q ∷ []) (q ∷ []) y v (92, q ∷ [], refl, omega arith, next small end, one_utf8 q small) utf8 (decoded_utf8 [] d)
  decoded_utf8 p (part {y = y} {c = v} (letter {c = c} {d = b} is) d) utf8 =
      let both = letter_small c b is in
      escape_utf8 p (92 ∷ c ∷ []) (b ∷ []) y v (92, c ∷ [], refl, omega arith, next both.0 end, one_utf8 b both.1) utf8 (decoded_utf8 [] d)
  decoded_utf8 p (part {y = y} {c = v} (unit {ds = ds} digits scalar) d) utf8 =
      escape_utf8 p (92 ∷ 117 ∷ ds) (encode_utf8 (hex_number ds)) y v (92, 117 ∷ ds, refl, omega arith, next (omega arith) (digits_small (each digits.0.0)), IsUtf8-encode (hex_number ds) scalar) utf8 (decoded_utf8 [] d)
  decoded_utf8 p (part {y = y} {c = v} (pair {hs = hs} {ls = ls} highs high lows low) d) utf8 =
      escape_utf8 p (92 ∷ 117 ∷ (hs ++ (92 ∷ 117 ∷ ls))) (encode_utf8 (surrogate_pair_char (hex_number hs) (hex_number ls))) y v
      (92, 117 ∷ (hs ++ (92 ∷ 117 ∷ ls)), refl, omega arith, next (omega arith) (each_append (digits_small (each highs.0.0)) (next (omega arith) (next (omega arith) (digits_small (each lows.0.0))))), IsUtf8-encode _ (pair_scalar (hex_number hs) (hex_number ls) high low)) utf8 (decoded_utf8 [] d)
  decoded_utf8 p (part {y = y} {c = v} (braced {ds = ds} digits scalar) d) utf8 =
      escape_utf8 p (92 ∷ 117 ∷ 123 ∷ (ds ++ (125 ∷ []))) (encode_utf8 (hex_number ds)) y v
      (92, 117 ∷ 123 ∷ (ds ++ (125 ∷ [])), refl, omega arith, next (omega arith) (next (omega arith) (each_append (digits_small (each digits.0)) (next (omega arith) end))), IsUtf8-encode (hex_number ds) scalar) utf8 (decoded_utf8 [] d)

pub text_utf8 : (p v t : List ℕ) → IsLiteral (Prefixed p) v t → IsUtf8 t → IsUtf8 v
text_utf8 p v t (x, is, d, e) utf8 =
    let inside = behind_byte p 39 (x ++ (39 ∷ [])) (omega arith) (subst IsUtf8 e utf8) in
    decoded_utf8 39 (omega arith) [] d (before_byte x 39 [] (omega arith) inside)

-- ---- the prefix and the text that are read

behind_prefix : (p v t : List ℕ) → IsLiteral (Prefixed p) v t → (prefix_of t ≡ p) × (decoded Single Between (behind_quote t) ≡ v)
behind_prefix p v t (x, is, d, e) =
    let named : prefix_of t ≡ p = ap prefix_of e ∙ prefix_named (x ++ (39 ∷ [])) (prefix_plain is) in
    let behind : behind_quote t ≡ x ++ (39 ∷ []) = ap (λ n. drop (length n + 1) t) named ∙ ap (drop (length p + 1)) e ∙ drop-append-add p (39 ∷ (x ++ (39 ∷ []))) 1 in
    (named, ap (decoded Single Between) behind ∙ decoded_is Single d)

-- a literal has one prefix and one text
pub one_application : (p v q w t : List ℕ) → IsLiteral (Prefixed p) v t → IsLiteral (Prefixed q) w t → (q ≡ p) × (w ≡ v)
one_application p v q w t h k =
    let one = behind_prefix p v t h in
    let other = behind_prefix q w t k in
    (sym other.0 ∙ one.0, sym other.1 ∙ one.1)

module _ (t : List ℕ) (filled : prefix_of t ≢ []) where
  by_quoting : IsQuoted t → IsLiteral (Prefixed (prefix_of t)) (decoded Single Between (behind_quote t)) t
  unfolding prefix_of
  by_quoting (literals.Double, v, (x, d, e)) = absurd (filled (ap prefix_of e))
  by_quoting (literals.Single, v, (x, d, e)) = absurd (filled (ap prefix_of e))
  by_quoting (Prefixed p, v, h) =
      let both = behind_prefix p v t h in
      subst (λ p. IsLiteral (Prefixed p) (decoded Single Between (behind_quote t)) t) (sym both.0) (subst (λ v. IsLiteral (Prefixed p) v t) (sym both.1) h)

  pub prefixed_read : is_literal t ≡ true → IsLiteral (Prefixed (prefix_of t)) (decoded Single Between (behind_quote t)) t
  prefixed_read is = by_quoting ((literal_test t).1 is)

no_prefix : (p : List ℕ) → IsPrefix p → p ≡ [] → ⊥
no_prefix p (literals.small lower more) empty = absurd cc
no_prefix p (literals.large upper more) empty = absurd cc

pub unprefixed_read : (t : List ℕ) → prefix_of t ≡ [] → (p v : List ℕ) → IsLiteral (Prefixed p) v t → ⊥
unprefixed_read t empty p v h = no_prefix p h.1 (sym (behind_prefix p v t h).0 ∙ empty)
