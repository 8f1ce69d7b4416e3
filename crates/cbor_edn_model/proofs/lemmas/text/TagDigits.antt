-- The number of a tag, digit by digit.
use Rattle.std.proofs.Common.{ℕ, zero, suc, ◌+◌, ◌-◌, ◌*◌, ◌^◌, ◌<◌, ◌≤◌, ◌≡◌, true, false, List, [], ◌∷◌, length, get_or, Option, Some, None, refl, sym, ap, ◌∙◌, arith}
use Rattle.std.specs.Prelude.{Bool, cond, eqb, nat_lt, ◌&&◌}
use Rattle.std.specs.Char.{digit_value}
use Rattle.std.specs.Fmt.{decimal}
use Rattle.std.specs.Str.Parse.{AllDigits, digits_value, digits_value_after}
use Rattle.std.proofs.lemmas.Bool.{and_parts, and_left, and_from, cond-true, cond-false, cond_both, eqb-true, eq-eqb, ne_eqb, ltb-true, ltb-false, lt-ltb, le-ltb, leb-true, le-leb, false≢true, false_from_ne_true}
use Rattle.std.proofs.lemmas.Fmt.{decimal-digits_value, decimal_digit, decimal_is_IsNumeral, first_decimal}
use Rattle.std.proofs.lemmas.Option.{same_Some}
use Rattle.std.proofs.lemmas.Str.{digit_value_digit}
use Rattle.std.proofs.lemmas.Str.Parse.{numerals_by_value, tells_digits, digit_from_value}
use Rattle.cbor_edn_parts.specs.internal.LiteralTokens.{is_digit}
use Rattle.cbor_edn_parts.proofs.lemmas.base.Tokens.{Holds, nothing, just}
use Rattle.cbor_edn_model.specs.internal.Lookahead.{digit_in_front}
use Rattle.cbor_edn_model.specs.internal.Reading.{tag_number}
use Rattle.cbor_edn_model.proofs.lemmas.text.TagNumbers.{tag_number-found, tag_number-again}

-- whether a digit may follow the digits of a number
abbrev goes_on : ℕ → ℕ → Bool
goes_on n c = nat_lt (digit_value c) 10 && nat_lt (n * 10 + digit_value c) (2 ^ 64)

-- the number that these digits write behind those of another one
unfoldable pub tag_after : ℕ → List ℕ → Option ℕ
tag_after n [] = Some n
tag_after n (c ∷ x) = cond (goes_on n c) (tag_after (n * 10 + digit_value c) x) None

-- whether a zero stands in front of other digits
abbrev leads_zero : List ℕ → Bool
leads_zero x = eqb (get_or x 0 0) 48 && nat_lt 1 (length x)

abbrev tag_digits : List ℕ → Option ℕ
tag_digits x = cond (leads_zero x) None (tag_after 0 x)

-- ---- what is found so are the digits of the number

abbrev AreOf : ℕ → List ℕ → ℕ → Type 0
AreOf n x k = AllDigits 10 x × (digits_value_after 10 n x ≡ k) × (k < 2 ^ 64)

after-found : (n : ℕ) (x : List ℕ) → n < 2 ^ 64 → Holds (AreOf n x) (tag_after n x)
unfolding tag_after
after-found n [] small = just (tt, refl, small)
after-found n (c ∷ x) small =
    let m : ℕ = n * 10 + digit_value c in
    cond_both (goes_on n c) (tag_after m x) None (Holds (AreOf n (c ∷ x)))
    (λ e. let both = and_parts (nat_lt (digit_value c) 10) (nat_lt m (2 ^ 64)) e in longer (ltb-true _ _ both.0) (tag_after m x) (after-found m x (ltb-true _ _ both.1)))
    (λ e. nothing)
  where
    longer : digit_value c < 10 → (o : Option ℕ) → Holds (AreOf (n * 10 + digit_value c) x) o → Holds (AreOf n (c ∷ x)) o
    longer d _ nothing = nothing
    longer d _ (just h) = just ((d, h.0), h.1, h.2)

no_zero : (x : List ℕ) → 0 < length x → leads_zero x ≡ false → get_or x 0 0 ≡ 48 → length x ≡ 1
no_zero x some other e = let one = ltb-false 1 (length x) (rw (eq-eqb _ 48 e) at other) in omega arith

found : (x : List ℕ) → 0 < length x → Holds (λ k. tag_number x ≡ Some k) (tag_digits x)
found x some = cond_both (leads_zero x) None (tag_after 0 x) (Holds (λ k. tag_number x ≡ Some k)) (λ e. nothing) (λ e. told e (tag_after 0 x) (after-found 0 x (omega arith)))
  where
    told : leads_zero x ≡ false → (o : Option ℕ) → Holds (AreOf 0 x) o → Holds (λ k. tag_number x ≡ Some k) o
    told e _ nothing = nothing
    told e _ (just {x = k} h) =
        let is : decimal (digits_value 10 x) ≡ x = decimal-digits_value (numerals_by_value (AllDigits 10) tells_digits) x h.0 some (no_zero x some e) (omega (arith, h.1, h.2)) in
        just (ap tag_number (sym is ∙ ap decimal h.1) ∙ tag_number-again k h.2)

-- ---- the digits of a number are found so

after-again : (n : ℕ) (x : List ℕ) → AllDigits 10 x → digits_value_after 10 n x < 2 ^ 64 → tag_after n x ≡ Some (digits_value_after 10 n x)
unfolding tag_after
after-again n [] all small = refl
after-again n (c ∷ x) all small =
    let m : ℕ = n * 10 + digit_value c in
    let within : m < 2 ^ 64 = omega (arith, grows m x) in
    rw (lt-ltb (digit_value c) 10 all.0, lt-ltb m (2 ^ 64) within) (after-again m x all.1 small)
  where
    grows : (m : ℕ) (x : List ℕ) → m ≤ digits_value_after 10 m x
    grows m [] = omega arith
    grows m (c ∷ x) = omega (arith, grows (m * 10 + digit_value c) x)

leads_no_zero : (k : ℕ) → k < 2 ^ 64 → leads_zero (decimal k) ≡ false
leads_no_zero zero small = rw (decimal_digit 0 (omega arith))
leads_no_zero (suc k) small = let above = first_decimal (suc k) (omega arith) small in and_left _ _ (ne_eqb (get_or (decimal (suc k)) 0 0) 48 (λ e. omega arith))

again : (x : List ℕ) → Holds (λ k. tag_digits x ≡ Some k) (tag_number x)
again x = told (tag_number x) (tag_number-found x)
  where
    told : (o : Option ℕ) → Holds (λ k. (x ≡ decimal k) × (k < 2 ^ 64)) o → Holds (λ k. tag_digits x ≡ Some k) o
    told _ nothing = nothing
    told _ (just {x = k} h) =
        let of = decimal_is_IsNumeral k h.1 in
        just (ap tag_digits h.0 ∙ (rw (leads_no_zero k h.1) (after-again 0 (decimal k) of.0.1 (omega (arith, of.1, h.1)) ∙ ap Some of.1)))

agree : (o p : Option ℕ) → Holds (λ k. p ≡ Some k) o → Holds (λ k. o ≡ Some k) p → o ≡ p
agree _ p (just h) g = sym h
agree _ _ nothing nothing = refl
agree _ _ nothing (just g) = g

tag_digits_are : (x : List ℕ) → 0 < length x → tag_number x ≡ tag_digits x
tag_digits_are x some = sym (agree (tag_digits x) (tag_number x) (found x some) (again x))

-- ---- digit by digit

no_digit : (c : ℕ) → None ≡ digit_in_front (c ∷ []) → 10 ≤ digit_value c
no_digit c = cond_both (is_digit c) (Some (c - 48)) None (λ o. None ≡ o → 10 ≤ digit_value c) (λ e s. absurd (cc)) (λ e s. ltb-false (digit_value c) 10 (false_from_ne_true (nat_lt (digit_value c) 10) (λ l. false≢true (sym e ∙ digit l))))
  where
    digit : nat_lt (digit_value c) 10 ≡ true → is_digit c ≡ true
    digit l = let range = digit_from_value c (ltb-true (digit_value c) 10 l) in and_from _ _ (le-leb 48 c range.0) (le-leb c 57 range.1)

pub after_none : (n c : ℕ) (x : List ℕ) → None ≡ digit_in_front (c ∷ []) → tag_after n (c ∷ x) ≡ None
unfolding tag_after
after_none n c x e = rw (le-ltb (digit_value c) 10 (no_digit c e))

pub first_none : (c : ℕ) (x : List ℕ) → None ≡ digit_in_front (c ∷ []) → tag_number (c ∷ x) ≡ None
first_none c x e = tag_digits_are (c ∷ x) (omega arith) ∙ cond_both (leads_zero (c ∷ x)) None (tag_after 0 (c ∷ x)) (λ o. o ≡ None) (λ _. refl) (λ _. after_none 0 c x e)

module _ (c d : ℕ) (x : List ℕ) (digit : Some d ≡ digit_in_front (c ∷ [])) where
  is : (c ≡ 48 + d) × (d < 10) × (digit_value c ≡ d)
  is = cond_both (is_digit c) (Some (c - 48)) None (λ o. Some d ≡ o → (c ≡ 48 + d) × (d < 10) × (digit_value c ≡ d)) value (λ e s. absurd (cc)) digit
    where
      value : is_digit c ≡ true → Some d ≡ Some (c - 48) → (c ≡ 48 + d) × (d < 10) × (digit_value c ≡ d)
      value e s =
          let both = and_parts _ _ e in
          let low : 48 ≤ c = leb-true 48 c both.0 in
          let high : c ≤ 57 = leb-true c 57 both.1 in
          let same = same_Some _ _ s in
          (omega arith, omega arith, omega (arith, digit_value_digit c (low, high)))

  pub after_wide : (n : ℕ) → 2 ^ 64 ≤ n * 10 + d → tag_after n (c ∷ x) ≡ None
  unfolding tag_after
  after_wide n wide = rw (is.2, lt-ltb d 10 is.1, le-ltb (n * 10 + d) (2 ^ 64) wide)

  pub after_next : (n : ℕ) → n * 10 + d < 2 ^ 64 → tag_after n (c ∷ x) ≡ tag_after (n * 10 + d) x
  unfolding tag_after
  after_next n small = rw (is.2, lt-ltb d 10 is.1, lt-ltb (n * 10 + d) (2 ^ 64) small)

  pub first_zero : d ≡ 0 → 0 < length x → tag_number (c ∷ x) ≡ None
  first_zero e more = tag_digits_are (c ∷ x) (omega arith) ∙ cond-true _ _ _ (and_from _ _ (eq-eqb c 48 (omega (arith, is.0, e))) (lt-ltb 1 (suc (length x)) (omega arith)))

  pub first_next : (d ≡ 0 → length x ≡ 0) → tag_number (c ∷ x) ≡ tag_after d x
  first_next alone = tag_digits_are (c ∷ x) (omega arith) ∙ cond-false _ _ _ other ∙ after_next 0 (omega (arith, is.1)) ∙ ap (λ n. tag_after n x) (omega arith)
    where
      other : leads_zero (c ∷ x) ≡ false
      other = false_from_ne_true (leads_zero (c ∷ x)) (λ e. let both = and_parts _ _ e in let first = eqb-true c 48 both.0 in let more = ltb-true 1 (suc (length x)) both.1 in omega (arith, is.0, alone))
