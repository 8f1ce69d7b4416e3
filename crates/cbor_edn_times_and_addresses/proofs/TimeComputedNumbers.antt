-- The reader of decimals and the writer of numbers that compute give what `HasDecimal` and `IsNumberOf` tell.
use Rattle.std.proofs.Common.{ℕ, zero, suc, ℤ, pos, negsuc, unsigned_abs, ◌+◌, ◌-◌, ◌*◌, ◌/◌, ◌%◌, ◌^◌, ◌<◌, ◌≤◌, ◌+ℤ◌, ◌*ℤ◌, ◌≡◌, ◌≢◌, inl, inr, Bool, true, false, ◌==◌, if◌then◌else◌, List, [], ◌∷◌, ◌++◌, length, append_assoc, Option, Some, None, refl, sym, ap, ◌∙◌, subst, arith, lt-ltb, le-leb, eq-eqb, ne_eqb}
use Rattle.std.proofs.lemmas.Bool.{and_parts, cases_eq, ltb-true, leb-true, eqb-true}
use Rattle.std.proofs.lemmas.List.{length-append}
use Rattle.std.specs.Fmt.{decimal}
use Rattle.std.specs.Str.Parse.{AllDigits}
use Rattle.std.proofs.lemmas.Str.Parse.{digit_at}
use Rattle.jiff_core.proofs.SignedLemmas.{signed_arith}
use Rattle.cbor_edn_times_and_addresses.specs.Time.{number, nanoseconds_of}
use Rattle.cbor_edn_parts.specs.number.Number.{sign_text, signed}
use Rattle.cbor_edn_times_and_addresses.specs.TimeDecimal.{HasDecimal, IsNumberOf, integer}
use Rattle.cbor_edn_times_and_addresses.specs.TimeLaws.{DecimalComputed, DecimalAnswered, WrittenComputed}
use Rattle.cbor_edn_times_and_addresses.specs.internal.TimeWriting.{AreShortest}
use Rattle.cbor_edn_parts.specs.internal.NumberReading.{sign_of, without_sign}
use Rattle.cbor_edn_times_and_addresses.specs.internal.TimeComputing.{cut_at_point, floored, are_parts, decimal_by, decimal_of, shortest_digits, pointed_text, instant_number}
use Rattle.cbor_edn_times_and_addresses.proofs.TimeNumbers.{sign_parts, signed_text, one_worth}
use Rattle.cbor_edn_times_and_addresses.proofs.TimeDecimals.{zero_less, shortest, positive_by, negative_by}
use Rattle.cbor_edn_times_and_addresses.proofs.TimeWritten.{written_as}
use Rattle.cbor_edn_times_and_addresses.proofs.TimeComputed.{some_is, if_some, if_true, true_and, digits_true, digits_back}

-- ---- the point

cut_is : (a b : List ℕ) → AllDigits 10 a → cut_at_point (a ++ (46 ∷ b)) ≡ (a, Some b)
cut_is [] b h = refl
cut_is (c ∷ a) b h =
    let d = digit_at (c ∷ a) 0 h (omega arith) in
    let other = ne_eqb c 46 (omega (arith, d)) in
    rw (other, cut_is a b h.1) refl

abbrev step : ℕ → List ℕ → Bool → List ℕ × Option (List ℕ)
step c t p = if p then ([], Some t) else (c ∷ (cut_at_point t).0, (cut_at_point t).1)

cut_by : (c : ℕ) (t b : List ℕ) (p : Bool) → (c == 46) ≡ p → ((cut_at_point t).1 ≡ Some b → t ≡ (cut_at_point t).0 ++ (46 ∷ b)) → (step c t p).1 ≡ Some b → c ∷ t ≡ (step c t p).0 ++ (46 ∷ b)
cut_by c t b true q rest g = let point = eqb-true c 46 q in let same = some_is t b g in cc
cut_by c t b false q rest g = ap (λ x. c ∷ x) (rest g)

cuts : (t b : List ℕ) → (cut_at_point t).1 ≡ Some b → t ≡ (cut_at_point t).0 ++ (46 ∷ b)
cuts [] b e = absurd cc
cuts (c ∷ t) b e = cut_by c t b (c == 46) refl (cuts t b) e

-- ---- a decimal

record FlooredAt (z s : ℤ) (n : ℕ) : Type 0 where
  pub small : n < 1_000_000_000
  pub worth : s *ℤ pos 1_000_000_000 +ℤ pos n ≡ z

floored_at : (z : ℤ) → FlooredAt z (floored z).0 (floored z).1
floored_at z = record { small = omega (arith, signed_arith); worth = omega (arith, signed_arith) }

nonempty : (a b : List ℕ) → 0 < length a + length b → a ++ b ≢ []
nonempty a b h e = omega (arith, length-append a b, ap length e)

some_length : (a b : List ℕ) → a ++ b ≢ [] → 0 < length a + length b
some_length [] [] h = absurd (h refl)
some_length [] (c ∷ b) h = omega arith
some_length (c ∷ a) b h = omega arith

module _ (t : List ℕ) (s : ℤ) (n : ℕ) where
  by_parts : (w : List ℕ) (o : Option (List ℕ)) → ((f : List ℕ) → o ≡ Some f → without_sign t ≡ w ++ (46 ∷ f)) → decimal_by (sign_of t) w o ≡ Some (s, n) → HasDecimal t s n
  by_parts w None cut e = absurd cc
  by_parts w (Some f) cut e =
      let z = signed (sign_of t) (number w * 1_000_000_000 + nanoseconds_of f) in
      let (test, is) = if_some (are_parts w f) (Some (floored (signed (sign_of t) (number w * 1_000_000_000 + nanoseconds_of f)))) (s, n) e in
      let same = some_is (floored (signed (sign_of t) (number w * 1_000_000_000 + nanoseconds_of f))) (s, n) is in
      let at : FlooredAt (signed (sign_of t) (number w * 1_000_000_000 + nanoseconds_of f)) s n = subst (λ (p : ℤ × ℕ). FlooredAt (signed (sign_of t) (number w * 1_000_000_000 + nanoseconds_of f)) p.0 p.1) same (floored_at (signed (sign_of t) (number w * 1_000_000_000 + nanoseconds_of f))) in
      let (three, some) = and_parts _ _ test in
      let (two, places) = and_parts _ _ three in
      let (whole, fraction) = and_parts _ _ two in
      record {
        sign = sign_of t;
        whole = w;
        fraction = f;
        whole_is = digits_true w whole;
        fraction_is = digits_true f fraction;
        places_in = leb-true (length f) 9 places;
        digit = nonempty w f (ltb-true 0 (length w + length f) some);
        spelled = signed_text t ∙ ap (λ u. sign_text (sign_of t) ++ u) (cut f refl);
        nanoseconds_in = at.small;
        worth = at.worth;
      }

  decimal_some : decimal_of t ≡ Some (s, n) → HasDecimal t s n
  unfolding decimal_of
  decimal_some e = by_parts (cut_at_point (without_sign t)).0 (cut_at_point (without_sign t)).1 (λ f g. cuts (without_sign t) f g) e

  decimal_back : HasDecimal t s n → decimal_of t ≡ Some (s, n)
  unfolding decimal_of
  decimal_back h =
      let parts = sign_parts t s n h in
      let cut : cut_at_point (without_sign t) ≡ (h.whole, Some h.fraction) = ap cut_at_point parts.1 ∙ cut_is h.whole h.fraction h.whole_is in
      let at = floored_at (signed h.sign (number h.whole * 1_000_000_000 + nanoseconds_of h.fraction)) in
      let same = one_worth (floored (signed h.sign (number h.whole * 1_000_000_000 + nanoseconds_of h.fraction))).0 s (signed h.sign (number h.whole * 1_000_000_000 + nanoseconds_of h.fraction)) (floored (signed h.sign (number h.whole * 1_000_000_000 + nanoseconds_of h.fraction))).1 n at.small h.nanoseconds_in at.worth h.worth in
      ap (λ σ. decimal_by σ (cut_at_point (without_sign t)).0 (cut_at_point (without_sign t)).1) parts.0
      ∙ (ap (λ (p : List ℕ × Option (List ℕ)). decimal_by h.sign p.0 p.1) cut
      ∙ (if_true (are_parts h.whole h.fraction) _ None (true_and _ _ (true_and _ _ (true_and _ _ (digits_back h.whole h.whole_is) (digits_back h.fraction h.fraction_is)) (le-leb (length h.fraction) 9 h.places_in)) (lt-ltb 0 (length h.whole + length h.fraction) (some_length h.whole h.fraction h.digit)))
      ∙ (ap (λ x. Some (x, (floored (signed h.sign (number h.whole * 1_000_000_000 + nanoseconds_of h.fraction))).1)) same.0 ∙ ap (λ x. Some (s, x)) same.1)))

pub decimal_answered : (t : List ℕ) → DecimalAnswered t
decimal_answered t (Some p) read unread = decimal_back t p.0 p.1 read
decimal_answered t None read unread = nothing (decimal_of t) refl
  where
    nothing : (o : Option (ℤ × ℕ)) → decimal_of t ≡ o → decimal_of t ≡ None
    nothing None e = e
    nothing (Some p) e = absurd (unread refl p.0 p.1 (decimal_some t p.0 p.1 e))

pub decimal_computed : (t : List ℕ) → DecimalComputed t
decimal_computed t s n = (decimal_back t s n, decimal_some t s n)

-- ---- a number

pub shortest_are : (k m n : ℕ) → n ≡ m * 10 ^ (9 - k) → k ≤ 9 → m < 10 ^ k → 0 < m → AreShortest (shortest_digits k m) n
unfolding shortest_digits
shortest_are zero m n e high bound some = absurd (omega arith)
shortest_are (suc k) m n e high bound some =
    elim (cases_eq (m % 10) 0) [
      | inl multiple ↦
          let less = zero_less m (suc k) multiple some bound high in
          let back : suc k - 1 ≡ k = omega arith in
          let value : n ≡ m / 10 * 10 ^ (9 - k) = e ∙ (less.0 ∙ ap (λ j. m / 10 * 10 ^ (9 - j)) back) in
          let small : m / 10 < 10 ^ k = subst (λ j. m / 10 < 10 ^ j) back less.1 in
          rw (eq-eqb (m % 10) 0 multiple) (shortest_are k (m / 10) n value (omega arith) small (omega arith))
      | inr other ↦ rw (ne_eqb (m % 10) 0 other) (shortest n (suc k) m e high bound other)
    ]

nine_are : (n : ℕ) → n ≢ 0 → n < 1_000_000_000 → AreShortest (shortest_digits 9 n) n
nine_are n some small = shortest_are 9 n n (omega arith) (omega arith) (omega arith) (omega arith)

pointed_computed : (s : ℤ) (n : ℕ) → unsigned_abs s < 2 ^ 63 → n ≢ 0 → n < 1_000_000_000 → IsNumberOf (pointed_text s n) s n
pointed_computed (pos w) n h some small =
    positive_by (pointed_text (pos w) n) (decimal w ++ (46 ∷ [])) (pos w) n w refl (omega arith) refl (record { digits = shortest_digits 9 n; digits_are = nine_are n some small; spelled = sym (append_assoc (decimal w) (46 ∷ []) (shortest_digits 9 n)) }) some small
pointed_computed (negsuc w) n h some small =
    negative_by (pointed_text (negsuc w) n) (45 ∷ (decimal w ++ (46 ∷ []))) (negsuc w) n w (1_000_000_000 - n) refl (omega arith) refl
    (record { digits = shortest_digits 9 (1_000_000_000 - n); digits_are = nine_are (1_000_000_000 - n) (omega arith) (omega (arith, some)); spelled = ap (λ x. 45 ∷ x) (sym (append_assoc (decimal w) (46 ∷ []) (shortest_digits 9 (1_000_000_000 - n)))) }) (omega arith) some small

pub instant_number_is : (s : ℤ) (n : ℕ) → unsigned_abs s < 2 ^ 63 → n < 1_000_000_000 → IsNumberOf (instant_number s n) s n
unfolding instant_number
instant_number_is s n h small =
    elim (cases_eq n 0) [
      | inl none ↦ rw (eq-eqb n 0 none) (integer none refl)
      | inr some ↦ rw (ne_eqb n 0 some) (pointed_computed s n h some small)
    ]

pub written_computed : (s : ℤ) (n : ℕ) → WrittenComputed s n
written_computed s n h small t = (λ p. (written_as s n).one t (instant_number s n) p (instant_number_is s n h small), λ e. subst (λ t. IsNumberOf t s n) (sym e) (instant_number_is s n h small))
