-- The reader of times that computes gives what `HasInstant` tells.
use Rattle.std.proofs.Common.{ℕ, ℤ, pos, neg_ℤ, ◌+◌, ◌-◌, ◌*◌, ◌<◌, ◌≤◌, ◌+ℤ◌, ◌-ℤ◌, ◌*ℤ◌, ◌≡◌, ◌≢◌, ◌⊎◌, inl, inr, Bool, true, false, cond, ◌&&◌, ◌||◌, ◌==◌, if◌then◌else◌, List, [], ◌∷◌, length, get_or, take, drop, nat_le, Option, Some, None, refl, sym, ap, ◌∙◌, subst, arith, lt-ltb, le-leb, eq-eqb, ne_eqb}
use Rattle.std.proofs.lemmas.Bool.{and_parts, cases_lt, ltb-true, leb-true, lt-leb, or_cases, eqb-true}
use Rattle.std.specs.Int.{IsInRange}
use Rattle.std.specs.Char.{digit_value}
use Rattle.std.specs.Str.Parse.{AllDigits}
use Rattle.jiff_core.specs.Calendar.{days_in_month, days_from_civil}
use Rattle.jiff_core.proofs.SignedLemmas.{signed_arith}
use Rattle.jiff_core.proofs.MarchLemmas.{day_count-early, day_count-late}
use Rattle.jiff_core.proofs.CalendarLemmas.{days_from_civil-day_count}
use Rattle.cbor_edn_times_and_addresses.specs.Time.{number, IsDay, IsDate, IsHourMinute, IsClock, nanoseconds_of, IsFraction, none, point, IsOffset, HasInstant}
use Rattle.cbor_edn_times_and_addresses.specs.internal.TimeReading.{IsTail, offset_length}
use Rattle.cbor_edn_times_and_addresses.specs.internal.TimeComputing.{◌>>=◌, all_digits, day_number_of, is_day, day_of, is_date, date_of, is_hour_minute, minutes_of, ends_in_seconds, clock_of, fraction_of, offset_of, tail_of, is_split, instant_of}
use Rattle.cbor_edn_times_and_addresses.specs.TimeLaws.{InstantComputed, InstantAnswered}
use Rattle.cbor_edn_times_and_addresses.proofs.TimeParts as parts
use Rattle.cbor_edn_times_and_addresses.proofs.TimeParts.{hour_minute_at, hour_minute_of, clock_at, date_at, offset_at, tail_at, time_at, time_of, joined, utc_of, plus_of, minus_of}

-- ---- options

pub some_is : {A : Type 0} (x y : A) → Some x ≡ Some y → x ≡ y
some_is x y e = cc

pub if_some : {A : Type 0} (b : Bool) (o : Option A) (y : A) → cond b o None ≡ Some y → (b ≡ true) × (o ≡ Some y)
if_some true o y e = (refl, e)
if_some false o y e = absurd cc

pub then_some : {A B : Type 0} (o : Option A) (f : A → Option B) (y : B) → (o >>= f) ≡ Some y → (x : A) × (o ≡ Some x) × (f x ≡ Some y)
then_some None f y e = absurd cc
then_some (Some x) f y e = (x, refl, e)

pub true_and : (a b : Bool) → a ≡ true → b ≡ true → (a && b) ≡ true
true_and true b e g = g
true_and false b e g = absurd cc

pub if_true : {A : Type 0} (b : Bool) (o p : Option A) → b ≡ true → cond b o p ≡ o
if_true true o p e = refl
if_true false o p e = absurd cc

pub then_is : {A B : Type 0} (o : Option A) (f : A → Option B) (x : A) → o ≡ Some x → (o >>= f) ≡ f x
then_is o f x e = ap (λ o. o >>= f) e

-- ---- digits

pub digits_true : (t : List ℕ) → all_digits t ≡ true → AllDigits 10 t
digits_true [] e = tt
digits_true (c ∷ t) e = let both = and_parts _ _ e in (ltb-true (digit_value c) 10 both.0, digits_true t both.1)

pub digits_back : (t : List ℕ) → AllDigits 10 t → all_digits t ≡ true
digits_back [] h = refl
digits_back (c ∷ t) h = true_and _ _ (lt-ltb (digit_value c) 10 h.0) (digits_back t h.1)

-- ---- a day

day_number_by : (y m d : ℕ) → IsInRange 1 12 m → 1 ≤ d → day_number_of y m d ≡ days_from_civil (pos y) m d
unfolding day_number_of
day_number_by y m d month day =
    elim (cases_lt 2 m) [
      | inl late ↦ let test = lt-leb m 2 late in rw test (omega (arith, signed_arith, days_from_civil-day_count (pos y) m d, day_count-late (pos y) (y + 10_000) m d (omega (arith, signed_arith)) late month.1 day))
      | inr early ↦ let test = le-leb m 2 early in rw test (omega (arith, signed_arith, days_from_civil-day_count (pos y) m d, day_count-early (pos y) (y + 9_999) m d (omega (arith, signed_arith)) month.0 early day))
    ]

day_some : (y m d : ℕ) (z : ℤ) → day_of y m d ≡ Some z → IsDay y m d z
unfolding day_of
day_some y m d z e =
    let (test, is) = if_some (is_day y m d) (Some (day_number_of y m d)) z e in
    let (three, high) = and_parts _ _ test in
    let (two, low) = and_parts _ _ three in
    let (first, twelve) = and_parts _ _ two in
    let month : IsInRange 1 12 m = (leb-true 1 m first, leb-true m 12 twelve) in
    (month, (leb-true 1 d low, leb-true d (days_in_month (pos y) m) high), sym (some_is _ _ is) ∙ day_number_by y m d month (leb-true 1 d low))

day_back : (y m d : ℕ) (z : ℤ) → IsDay y m d z → day_of y m d ≡ Some z
unfolding day_of
day_back y m d z h =
    if_true (is_day y m d) (Some (day_number_of y m d)) None (true_and _ _ (true_and _ _ (true_and _ _ (le-leb 1 m h.0.0) (le-leb m 12 h.0.1)) (le-leb 1 d h.1.0)) (le-leb d (days_in_month (pos y) m) h.1.1))
    ∙ ap Some (day_number_by y m d h.0 h.1.0 ∙ sym h.2)

date_some : (t : List ℕ) (z : ℤ) → date_of t ≡ Some z → IsDate t z
unfolding date_of
date_some t z e =
    let (test, is) = if_some (is_date t) (day_of (number (take 4 t)) (number (take 2 (drop 5 t))) (number (drop 8 t))) z e in
    let (five, day) = and_parts _ _ test in
    let (four, month) = and_parts _ _ five in
    let (three, year) = and_parts _ _ four in
    let (two, second) = and_parts _ _ three in
    let (len, first) = and_parts _ _ two in
    parts.date_of t z (record {
      len = eqb-true (length t) 10 len;
      first = eqb-true (get_or t 4 0) 45 first;
      second = eqb-true (get_or t 7 0) 45 second;
      year = digits_true (take 4 t) year;
      month = digits_true (take 2 (drop 5 t)) month;
      day = digits_true (drop 8 t) day;
      number_is = day_some (number (take 4 t)) (number (take 2 (drop 5 t))) (number (drop 8 t)) z is;
    })

date_back : (t : List ℕ) (z : ℤ) → IsDate t z → date_of t ≡ Some z
unfolding date_of
date_back t z h =
    let a = date_at t z h in
    if_true (is_date t) _ None (true_and _ _ (true_and _ _ (true_and _ _ (true_and _ _ (true_and _ _ (eq-eqb (length t) 10 a.len) (eq-eqb (get_or t 4 0) 45 a.first)) (eq-eqb (get_or t 7 0) 45 a.second)) (digits_back (take 4 t) a.year)) (digits_back (take 2 (drop 5 t)) a.month)) (digits_back (drop 8 t) a.day))
    ∙ day_back (number (take 4 t)) (number (take 2 (drop 5 t))) (number (drop 8 t)) z a.number_is

-- ---- a clock

minutes_some : (t : List ℕ) (n : ℕ) → minutes_of t ≡ Some n → IsHourMinute t n
unfolding minutes_of
minutes_some t n e =
    let (test, is) = if_some (is_hour_minute t) (Some (60 * number (take 2 t) + number (drop 3 t))) n e in
    let (five, minute_in) = and_parts _ _ test in
    let (four, hour_in) = and_parts _ _ five in
    let (three, minute) = and_parts _ _ four in
    let (two, hour) = and_parts _ _ three in
    let (len, colon) = and_parts _ _ two in
    hour_minute_of t n (record {
      len = eqb-true (length t) 5 len;
      colon = eqb-true (get_or t 2 0) 58 colon;
      hour = digits_true (take 2 t) hour;
      minute = digits_true (drop 3 t) minute;
      hour_in = ltb-true (number (take 2 t)) 24 hour_in;
      minute_in = ltb-true (number (drop 3 t)) 60 minute_in;
      minutes_are = sym (some_is _ _ is);
    })

minutes_back : (t : List ℕ) (n : ℕ) → IsHourMinute t n → minutes_of t ≡ Some n
unfolding minutes_of
minutes_back t n h =
    let a = hour_minute_at t n h in
    if_true (is_hour_minute t) _ None (true_and _ _ (true_and _ _ (true_and _ _ (true_and _ _ (true_and _ _ (eq-eqb (length t) 5 a.len) (eq-eqb (get_or t 2 0) 58 a.colon)) (digits_back (take 2 t) a.hour)) (digits_back (drop 3 t) a.minute)) (lt-ltb (number (take 2 t)) 24 a.hour_in)) (lt-ltb (number (drop 3 t)) 60 a.minute_in))
    ∙ ap Some (sym a.minutes_are)

clock_some : (t : List ℕ) (n : ℕ) → clock_of t ≡ Some n → IsClock t n
unfolding clock_of
clock_some t n e =
    let (test, both) = if_some (ends_in_seconds t) (minutes_of (take 5 t) >>= λ m. Some (60 * m + number (drop 6 t))) n e in
    let (m, minutes, is) = then_some (minutes_of (take 5 t)) (λ m. Some (60 * m + number (drop 6 t))) n both in
    let (three, second_in) = and_parts _ _ test in
    let (two, second) = and_parts _ _ three in
    let (len, colon) = and_parts _ _ two in
    parts.clock_of t n (record {
      minutes = m;
      len = eqb-true (length t) 8 len;
      colon = eqb-true (get_or t 5 0) 58 colon;
      hour_minute = minutes_some (take 5 t) m minutes;
      second = digits_true (drop 6 t) second;
      second_in = ltb-true (number (drop 6 t)) 60 second_in;
      seconds_are = sym (some_is _ _ is);
    })

clock_back : (t : List ℕ) (n : ℕ) → IsClock t n → clock_of t ≡ Some n
unfolding clock_of
clock_back t n h =
    let a = clock_at t n h in
    if_true (ends_in_seconds t) _ None (true_and _ _ (true_and _ _ (true_and _ _ (eq-eqb (length t) 8 a.len) (eq-eqb (get_or t 5 0) 58 a.colon)) (digits_back (drop 6 t) a.second)) (lt-ltb (number (drop 6 t)) 60 a.second_in))
    ∙ (then_is (minutes_of (take 5 t)) (λ m. Some (60 * m + number (drop 6 t))) a.minutes (minutes_back (take 5 t) a.minutes a.hour_minute) ∙ ap Some (sym a.seconds_are))

-- ---- a fraction

fraction_some : (t : List ℕ) (n : ℕ) → fraction_of t ≡ Some n → IsFraction t n
unfolding fraction_of
fraction_some [] n e = none refl (sym (some_is 0 n e))
fraction_some (c ∷ ds) n e =
    let (test, is) = if_some ((c == 46) && all_digits ds && nat_le 1 (length ds) && nat_le (length ds) 9) (Some (nanoseconds_of ds)) n e in
    let (three, high) = and_parts _ _ test in
    let (two, low) = and_parts _ _ three in
    let (dot, digits) = and_parts _ _ two in
    point ds (digits_true ds digits) (leb-true 1 (length ds) low, leb-true (length ds) 9 high) (ap (λ x. x ∷ ds) (eqb-true c 46 dot)) (sym (some_is _ _ is))

fraction_back : (t : List ℕ) (n : ℕ) → IsFraction t n → fraction_of t ≡ Some n
unfolding fraction_of
fraction_back t n (none e is) = ap fraction_of e ∙ ap Some (sym is)
fraction_back t n (point ds d i e is) =
    ap fraction_of e ∙ (if_true ((46 == 46) && all_digits ds && nat_le 1 (length ds) && nat_le (length ds) 9) (Some (nanoseconds_of ds)) None (true_and _ _ (true_and _ _ (true_and _ _ refl (digits_back ds d)) (le-leb 1 (length ds) i.0)) (le-leb (length ds) 9 i.1)) ∙ ap Some (sym is))

-- ---- an offset

some_first : (t : List ℕ) (c : ℕ) → c ≢ 0 → get_or t 0 0 ≡ c → 0 < length t
some_first [] c some e = absurd (some (sym e))
some_first (d ∷ t) c some e = omega arith

offset_by : (t : List ℕ) (z : ℤ) (a b c : Bool) → ((length t == 1) && ((get_or t 0 0 == 90) || (get_or t 0 0 == 122))) ≡ a → (get_or t 0 0 == 43) ≡ b → (get_or t 0 0 == 45) ≡ c →
    (if a then Some (pos 0) else if b then (minutes_of (drop 1 t) >>= λ m. Some (pos (60 * m))) else if c then (minutes_of (drop 1 t) >>= λ m. Some (neg_ℤ (pos (60 * m)))) else None) ≡ Some z → IsOffset t z
offset_by t z true b c p q r e =
    let (one, letter) = and_parts _ _ p in
    let is : (get_or t 0 0 ≡ 90) ⊎ (get_or t 0 0 ≡ 122) = elim (or_cases _ _ letter) [ inl l ↦ inl (eqb-true (get_or t 0 0) 90 l) | inr l ↦ inr (eqb-true (get_or t 0 0) 122 l) ] in
    subst (IsOffset t) (some_is (pos 0) z e) (utc_of t (eqb-true (length t) 1 one) is)
offset_by t z false true c p q r e =
    let (m, minutes, is) = then_some (minutes_of (drop 1 t)) (λ m. Some (pos (60 * m))) z e in
    let sign = eqb-true (get_or t 0 0) 43 q in
    plus_of t m z (some_first t 43 (omega arith) sign) sign (minutes_some (drop 1 t) m minutes) (sym (some_is _ _ is))
offset_by t z false false true p q r e =
    let (m, minutes, is) = then_some (minutes_of (drop 1 t)) (λ m. Some (neg_ℤ (pos (60 * m)))) z e in
    let sign = eqb-true (get_or t 0 0) 45 r in
    minus_of t m z (some_first t 45 (omega arith) sign) sign (minutes_some (drop 1 t) m minutes) (sym (some_is _ _ is))
offset_by t z false false false p q r e = absurd cc

offset_some : (t : List ℕ) (z : ℤ) → offset_of t ≡ Some z → IsOffset t z
unfolding offset_of
offset_some t z e = offset_by t z _ _ _ refl refl refl e

offset_back : (t : List ℕ) (z : ℤ) → IsOffset t z → offset_of t ≡ Some z
unfolding offset_of
offset_back t z h =
    elim (offset_at t z h) [
      | inl u ↦
          let one = eq-eqb (length t) 1 u.0 in
          let letter : ((get_or t 0 0 == 90) || (get_or t 0 0 == 122)) ≡ true = elim u.1 [ inl l ↦ rw (eq-eqb (get_or t 0 0) 90 l) refl | inr l ↦ either_true _ _ (eq-eqb (get_or t 0 0) 122 l) ] in
          if_true ((length t == 1) && ((get_or t 0 0 == 90) || (get_or t 0 0 == 122))) (Some (pos 0)) _ (true_and _ _ one letter) ∙ ap Some (sym u.2)
      | inr w ↦
          let several = ne_eqb (length t) 1 (omega (arith, w.1)) in
          let minutes = minutes_back (drop 1 t) w.0 w.2 in
          elim w.3 [
            | inl p ↦ rw (several, eq-eqb (get_or t 0 0) 43 p.0, minutes) (ap Some (sym p.1))
            | inr p ↦ rw (several, ne_eqb (get_or t 0 0) 43 (omega (arith, p.0)), eq-eqb (get_or t 0 0) 45 p.0, minutes) (ap Some (sym p.1))
          ]
    ]
  where
    either_true : (a b : Bool) → b ≡ true → (a || b) ≡ true
    either_true true b e = refl
    either_true false b e = e

-- ---- the whole

tail_some : (t : List ℕ) (n : ℕ) (z : ℤ) → tail_of t ≡ Some (n, z) → IsTail t n z
unfolding tail_of
tail_some t n z e =
    let k = length t - offset_length t in
    let (m, fraction, rest) = then_some (fraction_of (take (length t - offset_length t) t)) (λ n. offset_of (drop (length t - offset_length t) t) >>= λ z. Some (n, z)) (n, z) e in
    let (y, offset, is) = then_some (offset_of (drop (length t - offset_length t) t)) (λ z. Some (m, z)) (n, z) rest in
    let same = some_is (m, y) (n, z) is in
    let first : m ≡ n = ap (λ (p : ℕ × ℤ). p.0) same in
    let second : y ≡ z = ap (λ (p : ℕ × ℤ). p.1) same in
    parts.tail_of t n z (length t - offset_length t) (subst (IsFraction (take (length t - offset_length t) t)) first (fraction_some _ m fraction)) (subst (IsOffset (drop (length t - offset_length t) t)) second (offset_some _ y offset))

tail_back : (t : List ℕ) (n : ℕ) (z : ℤ) → IsTail t n z → tail_of t ≡ Some (n, z)
unfolding tail_of
tail_back t n z h =
    let a = tail_at t n z h in
    then_is (fraction_of (take (length t - offset_length t) t)) (λ n. offset_of (drop (length t - offset_length t) t) >>= λ z. Some (n, z)) n (fraction_back _ n a.fraction)
    ∙ then_is (offset_of (drop (length t - offset_length t) t)) (λ z. Some (n, z)) z (offset_back _ z a.offset)

module _ (t : List ℕ) where
  abbrev whole : ℤ → ℕ → ℕ × ℤ → Option (ℤ × ℕ)
  whole z c p = Some (z *ℤ pos 86_400 +ℤ pos c -ℤ p.1, p.0)

  abbrev behind_clock : ℤ → ℕ → Option (ℤ × ℕ)
  behind_clock z c = tail_of (drop 19 t) >>= whole z c

  abbrev behind_date : ℤ → Option (ℤ × ℕ)
  behind_date z = clock_of (take 8 (drop 11 t)) >>= behind_clock z

  pub instant_some : (s : ℤ) (n : ℕ) → instant_of t ≡ Some (s, n) → HasInstant t s n
  unfolding instant_of
  instant_some s n e =
      let (test, rest) = if_some (is_split t) (date_of (take 10 t) >>= behind_date) (s, n) e in
      let (z, date, more) = then_some (date_of (take 10 t)) behind_date (s, n) rest in
      let (c, clock, end) = then_some (clock_of (take 8 (drop 11 t))) (behind_clock z) (s, n) more in
      let (p, tail, is) = then_some (tail_of (drop 19 t)) (whole z c) (s, n) end in
      let same = some_is (z *ℤ pos 86_400 +ℤ pos c -ℤ p.1, p.0) (s, n) is in
      let (len, letter) = and_parts _ _ test in
      time_of t s n (record {
        day_number = z;
        clock_seconds = c;
        ahead = p.1;
        len = leb-true 20 (length t) len;
        letter = elim (or_cases _ _ letter) [ inl l ↦ inl (eqb-true (get_or t 10 0) 84 l) | inr l ↦ inr (eqb-true (get_or t 10 0) 116 l) ];
        date = date_some (take 10 t) z date;
        clock = clock_some (take 8 (drop 11 t)) c clock;
        tail = subst (λ m. IsTail (drop 19 t) m p.1) (ap (λ (q : ℤ × ℕ). q.1) same) (tail_some (drop 19 t) p.0 p.1 tail);
        seconds_are = sym (ap (λ (q : ℤ × ℕ). q.0) same);
      })

  pub instant_back : (s : ℤ) (n : ℕ) → HasInstant t s n → instant_of t ≡ Some (s, n)
  unfolding instant_of
  instant_back s n h =
      let a = time_at t s n h in
      let letter : ((get_or t 10 0 == 84) || (get_or t 10 0 == 116)) ≡ true = elim a.letter [ inl l ↦ rw (eq-eqb (get_or t 10 0) 84 l) refl | inr l ↦ either_true _ _ (eq-eqb (get_or t 10 0) 116 l) ] in
      if_true (is_split t) (date_of (take 10 t) >>= behind_date) None (true_and _ _ (le-leb 20 (length t) a.len) letter)
      ∙ (then_is (date_of (take 10 t)) behind_date a.day_number (date_back (take 10 t) a.day_number a.date)
      ∙ (then_is (clock_of (take 8 (drop 11 t))) (behind_clock a.day_number) a.clock_seconds (clock_back (take 8 (drop 11 t)) a.clock_seconds a.clock)
      ∙ (then_is (tail_of (drop 19 t)) (whole a.day_number a.clock_seconds) (n, a.ahead) (tail_back (drop 19 t) n a.ahead a.tail)
      ∙ ap (λ x. Some (x, n)) (sym a.seconds_are))))
    where
      either_true : (a b : Bool) → b ≡ true → (a || b) ≡ true
      either_true true b e = refl
      either_true false b e = e

pub instant_computed : (t : List ℕ) → InstantComputed t
instant_computed t s n = (instant_back t s n, instant_some t s n)

pub instant_answered : (t : List ℕ) → InstantAnswered t
instant_answered t (Some p) read unread = instant_back t p.0 p.1 read
instant_answered t None read unread = nothing (instant_of t) refl
  where
    nothing : (o : Option (ℤ × ℕ)) → instant_of t ≡ o → instant_of t ≡ None
    nothing None e = e
    nothing (Some p) e = absurd (unread refl p.0 p.1 (instant_some t p.0 p.1 e))
