-- The parts of time texts by their places.
use Rattle.std.proofs.Common.{ℕ, ℤ, pos, neg_ℤ, inl, inr, ◌≢◌, suc, ◌+◌, ◌*◌, ◌<◌, ◌≡◌, ◌⊎◌, List, [], ◌∷◌, ◌++◌, length, get_or, take, drop, refl, sym, ap, ◌∙◌, subst, arith, lit<, ◌-◌, ◌^◌, ◌≤◌, ◌+ℤ◌, ◌-ℤ◌, ◌*ℤ◌}
use Rattle.std.specs.Int.{IsInRange}
use Rattle.std.proofs.lemmas.Str.Parse.{digit_at}
use Rattle.std.proofs.lemmas.Bool.Decides.{nat_tests}
use Rattle.cbor_edn_times_and_addresses.specs.internal.TimeReading.{IsTail, offset_length}
use Rattle.std.proofs.lemmas.Nat.{pow-add, mul-le}
use Rattle.std.proofs.Math.Nat.{one-le-pow}
use Rattle.std.specs.Str.Parse.{AllDigits}
use Rattle.std.proofs.lemmas.List.{take_at, drop_at, get_or_at, take-append-drop, drop_more, drop-drop, length-append, get_or-drop, get_or-append_right, length-take-le, length-drop}
use Rattle.cbor_edn_times_and_addresses.specs.Time.{number, IsDay, IsDate, IsHourMinute, IsClock, nanoseconds_of, IsFraction, none, point, IsOffset, utc, plus, minus, HasInstant}

-- A text is cut at a place: what is in front, what stands there, and what is behind.
pub record Cut (t : List ℕ) (n : ℕ) (a : List ℕ) (c : ℕ) (b : List ℕ) : Type 0 where
  pub front : a ≡ take n t
  pub at : get_or t n 0 ≡ c
  pub back : b ≡ drop (n + 1) t
  pub len : length t ≡ n + 1 + length b

pub cut_at : (t : List ℕ) (n : ℕ) (a : List ℕ) (c : ℕ) (b : List ℕ) → t ≡ a ++ (c ∷ b) → length a ≡ n → Cut t n a c b
cut_at t n a c b e l =
    let rest : drop n (a ++ (c ∷ b)) ≡ c ∷ b = drop_at a (c ∷ b) n l in
    let more : drop (n + 1) (a ++ (c ∷ b)) ≡ b = sym (drop-drop 1 n (a ++ (c ∷ b))) ∙ ap (drop 1) rest in
    rw e (record {
      front = sym (take_at a (c ∷ b) n l);
      at = get_or_at a c b 0 n l;
      back = sym more;
      len = omega (arith, length-append a (c ∷ b));
    })

pub joined : (t : List ℕ) (n c : ℕ) → n < length t → get_or t n 0 ≡ c → t ≡ take n t ++ (c ∷ drop (n + 1) t)
joined t n c h e = sym (take-append-drop n t) ∙ ap (λ r. take n t ++ r) (drop_more t n 0 h ∙ ap (λ d. d ∷ drop (n + 1) t) e)

-- ---- an hour and a minute

pub record HourMinuteAt (t : List ℕ) (n : ℕ) : Type 0 where
  pub len : length t ≡ 5
  pub colon : get_or t 2 0 ≡ 58
  pub hour : AllDigits 10 (take 2 t)
  pub minute : AllDigits 10 (drop 3 t)
  pub hour_in : number (take 2 t) < 24
  pub minute_in : number (drop 3 t) < 60
  pub minutes_are : n ≡ 60 * number (take 2 t) + number (drop 3 t)

pub hour_minute_at : (t : List ℕ) (n : ℕ) → IsHourMinute t n → HourMinuteAt t n
hour_minute_at t n h =
    let k = cut_at t 2 h.hour 58 h.minute h.spelled h.hour_is.0 in
    let front : h.hour ≡ take 2 t = k.front in
    let back : h.minute ≡ drop 3 t = k.back in
    record {
      len = omega (arith, k.len, h.minute_is.0);
      colon = k.at;
      hour = subst (AllDigits 10) front h.hour_is.1;
      minute = subst (AllDigits 10) back h.minute_is.1;
      hour_in = rw front at h.hour_in;
      minute_in = rw back at h.minute_in;
      minutes_are = h.minutes_are ∙ (ap (λ x. 60 * number x + number h.minute) front ∙ ap (λ y. 60 * number (take 2 t) + number y) back);
    }

pub hour_minute_of : (t : List ℕ) (n : ℕ) → HourMinuteAt t n → IsHourMinute t n
hour_minute_of t n h = record {
  hour = take 2 t;
  minute = drop 3 t;
  hour_is = (length-take-le 2 t (omega (arith, h.len)), h.hour);
  minute_is = (omega (arith, length-drop 3 t, h.len), h.minute);
  hour_in = h.hour_in;
  minute_in = h.minute_in;
  spelled = joined t 2 58 (omega (arith, h.len)) h.colon;
  minutes_are = h.minutes_are;
}

-- ---- a clock

pub record ClockAt (t : List ℕ) (n : ℕ) : Type 0 where
  pub minutes : ℕ
  pub len : length t ≡ 8
  pub colon : get_or t 5 0 ≡ 58
  pub hour_minute : IsHourMinute (take 5 t) minutes
  pub second : AllDigits 10 (drop 6 t)
  pub second_in : number (drop 6 t) < 60
  pub seconds_are : n ≡ 60 * minutes + number (drop 6 t)

pub clock_at : (t : List ℕ) (n : ℕ) → IsClock t n → ClockAt t n
clock_at t n h =
    let p = hour_minute_at h.hour_minute h.minutes h.hour_minute_is in
    let k = cut_at t 5 h.hour_minute 58 h.second h.spelled p.len in
    let front : h.hour_minute ≡ take 5 t = k.front in
    let back : h.second ≡ drop 6 t = k.back in
    record {
      minutes = h.minutes;
      len = omega (arith, k.len, h.second_is.0);
      colon = k.at;
      hour_minute = subst (λ x. IsHourMinute x h.minutes) front h.hour_minute_is;
      second = subst (AllDigits 10) back h.second_is.1;
      second_in = rw back at h.second_in;
      seconds_are = h.seconds_are ∙ ap (λ y. 60 * h.minutes + number y) back;
    }

pub clock_of : (t : List ℕ) (n : ℕ) → ClockAt t n → IsClock t n
clock_of t n h = record {
  hour_minute = take 5 t;
  minutes = h.minutes;
  second = drop 6 t;
  hour_minute_is = h.hour_minute;
  second_is = (omega (arith, length-drop 6 t, h.len), h.second);
  second_in = h.second_in;
  spelled = joined t 5 58 (omega (arith, h.len)) h.colon;
  seconds_are = h.seconds_are;
}

-- ---- a date

abbrev DateNumber : List ℕ → List ℕ → List ℕ → ℤ → Type 0
DateNumber y m d z = IsDay (number y) (number m) (number d) z

pub record DateAt (t : List ℕ) (z : ℤ) : Type 0 where
  pub len : length t ≡ 10
  pub first : get_or t 4 0 ≡ 45
  pub second : get_or t 7 0 ≡ 45
  pub year : AllDigits 10 (take 4 t)
  pub month : AllDigits 10 (take 2 (drop 5 t))
  pub day : AllDigits 10 (drop 8 t)
  pub number_is : DateNumber (take 4 t) (take 2 (drop 5 t)) (drop 8 t) z

pub date_at : (t : List ℕ) (z : ℤ) → IsDate t z → DateAt t z
date_at t z h =
    let k = cut_at t 4 h.year 45 (h.month ++ (45 ∷ h.day)) h.spelled h.year_is.0 in
    let j = cut_at (h.month ++ (45 ∷ h.day)) 2 h.month 45 h.day refl h.month_is.0 in
    let rest : h.month ++ (45 ∷ h.day) ≡ drop 5 t = k.back in
    let year : h.year ≡ take 4 t = k.front in
    let month : h.month ≡ take 2 (drop 5 t) = j.front ∙ ap (take 2) rest in
    let day : h.day ≡ drop 8 t = j.back ∙ (ap (drop 3) rest ∙ drop-drop 3 5 t) in
    record {
      len = omega (arith, k.len, j.len, h.day_is.0);
      first = k.at;
      second = sym (get_or-drop 5 t 2 0) ∙ (ap (λ r. get_or r 2 0) (sym rest) ∙ j.at);
      year = subst (AllDigits 10) year h.year_is.1;
      month = subst (AllDigits 10) month h.month_is.1;
      day = subst (AllDigits 10) day h.day_is.1;
      number_is = subst (λ y. DateNumber y (take 2 (drop 5 t)) (drop 8 t) z) year
          (subst (λ m. DateNumber h.year m (drop 8 t) z) month (subst (λ d. DateNumber h.year h.month d z) day h.day_number_is));
    }

pub date_of : (t : List ℕ) (z : ℤ) → DateAt t z → IsDate t z
date_of t z h =
    let rest = joined (drop 5 t) 2 45 (omega (arith, length-drop 5 t, h.len)) (get_or-drop 5 t 2 0 ∙ h.second) in
    let tail : drop 5 t ≡ take 2 (drop 5 t) ++ (45 ∷ drop 8 t) = rest ∙ ap (λ d. take 2 (drop 5 t) ++ (45 ∷ d)) (drop-drop 3 5 t) in
    record {
      year = take 4 t;
      month = take 2 (drop 5 t);
      day = drop 8 t;
      year_is = (length-take-le 4 t (omega (arith, h.len)), h.year);
      month_is = (length-take-le 2 (drop 5 t) (omega (arith, length-drop 5 t, h.len)), h.month);
      day_is = (omega (arith, length-drop 8 t, h.len), h.day);
      spelled = joined t 4 45 (omega (arith, h.len)) h.first ∙ ap (λ r. take 4 t ++ (45 ∷ r)) tail;
      day_number_is = h.number_is;
    }

-- ---- each part has one number

pub one_hour_minute : (t : List ℕ) (m n : ℕ) → IsHourMinute t m → IsHourMinute t n → m ≡ n
one_hour_minute t m n h k = (hour_minute_at t m h).minutes_are ∙ sym (hour_minute_at t n k).minutes_are

pub one_clock : (t : List ℕ) (m n : ℕ) → IsClock t m → IsClock t n → m ≡ n
one_clock t m n h k =
    let a = clock_at t m h in
    let b = clock_at t n k in
    omega (arith, one_hour_minute (take 5 t) a.minutes b.minutes a.hour_minute b.hour_minute)

pub one_date : (t : List ℕ) (y z : ℤ) → IsDate t y → IsDate t z → y ≡ z
one_date t y z h k = (date_at t y h).number_is.2 ∙ sym (date_at t z k).number_is.2

-- ---- a fraction

pub nanoseconds_bound : (n k : ℕ) → n < 10 ^ k → k ≤ 9 → n * 10 ^ (9 - k) < 1_000_000_000
nanoseconds_bound n k low high =
    let nine : k + (9 - k) ≡ 9 = omega arith in
    let whole : 10 ^ k * 10 ^ (9 - k) ≡ 10 ^ 9 = sym (pow-add 10 k (9 - k)) ∙ ap (λ e. 10 ^ e) nine in
    let all : (n + 1) * 10 ^ (9 - k) ≤ 10 ^ k * 10 ^ (9 - k) = mul-le (n + 1) (10 ^ (9 - k)) (10 ^ k) (10 ^ (9 - k)) (omega arith) (omega arith) in
    let some : 1 ≤ 10 ^ (9 - k) = one-le-pow (9 - k) 10 (lit< tt) in
    omega arith

pub single : (t : List ℕ) → length t ≡ 1 → t ≡ get_or t 0 0 ∷ []
single [] h = absurd (omega arith)
single (c ∷ []) h = refl
single (c ∷ d ∷ t) h = absurd (omega arith)

-- ---- an offset

pub utc_of : (t : List ℕ) → length t ≡ 1 → (get_or t 0 0 ≡ 90) ⊎ (get_or t 0 0 ≡ 122) → IsOffset t (pos 0)
utc_of t len z = utc (get_or t 0 0) z (single t len) refl

pub plus_of : (t : List ℕ) (n : ℕ) (z : ℤ) → 0 < length t → get_or t 0 0 ≡ 43 → IsHourMinute (drop 1 t) n → z ≡ pos (60 * n) → IsOffset t z
plus_of t n z len sign h e = plus (drop 1 t) n h (joined t 0 43 len sign) e

pub minus_of : (t : List ℕ) (n : ℕ) (z : ℤ) → 0 < length t → get_or t 0 0 ≡ 45 → IsHourMinute (drop 1 t) n → z ≡ neg_ℤ (pos (60 * n)) → IsOffset t z
minus_of t n z len sign h e = minus (drop 1 t) n h (joined t 0 45 len sign) e

-- a sign stands in front of an hour and a minute
pub offset_at : (t : List ℕ) (z : ℤ) → IsOffset t z →
    ((length t ≡ 1) × ((get_or t 0 0 ≡ 90) ⊎ (get_or t 0 0 ≡ 122)) × (z ≡ pos 0))
    ⊎ ((n : ℕ) × (length t ≡ 6) × IsHourMinute (drop 1 t) n × (((get_or t 0 0 ≡ 43) × (z ≡ pos (60 * n))) ⊎ ((get_or t 0 0 ≡ 45) × (z ≡ neg_ℤ (pos (60 * n))))))
offset_at t z (utc c letter e zero) = inl (ap length e, rw e letter, zero)
offset_at t z (plus u n h e is) = inr (n, ap length e ∙ ap suc (hour_minute_at u n h).len, rw e h, inl (ap (λ x. get_or x 0 0) e, is))
offset_at t z (minus u n h e is) = inr (n, ap length e ∙ ap suc (hour_minute_at u n h).len, rw e h, inr (ap (λ x. get_or x 0 0) e, is))

pub some_offset : (t : List ℕ) (z : ℤ) → IsOffset t z → 1 ≤ length t
some_offset t z h = elim (offset_at t z h) [ inl u ↦ omega (arith, u.0) | inr w ↦ omega (arith, w.1) ]

pub no_offset : (t : List ℕ) (z : ℤ) → (get_or t 0 0 ≢ 90) → (get_or t 0 0 ≢ 122) → ((n : ℕ) → IsHourMinute (drop 1 t) n → ⊥) → IsOffset t z → ⊥
no_offset t z a b unread h = elim (offset_at t z h) [ inl u ↦ elim u.1 [ inl e ↦ a e | inr e ↦ b e ] | inr s ↦ unread s.0 s.2 ]

-- ---- a time

ends_in_digit : (t : List ℕ) (n : ℕ) → IsHourMinute t n → IsInRange 48 57 (get_or t 4 0)
ends_in_digit t n h =
    let p = hour_minute_at t n h in
    let d = digit_at (drop 3 t) 1 p.minute (omega (arith, length-drop 3 t, p.len)) in
    rw get_or-drop at d

-- the length of an offset is told by its last byte, whatever stands in front
offset_len_is : (t : List ℕ) (z : ℤ) (b : List ℕ) → IsOffset t z → offset_length (b ++ t) ≡ length t
unfolding offset_length
offset_len_is t z b h =
    let len = length-append b t in
    elim (offset_at t z h) [
      | inl u ↦
          let last_is : get_or (b ++ t) (length (b ++ t) - 1) 0 ≡ get_or t 0 0 = get_or-append_right b t (length b) _ 0 refl (omega arith) ∙ ap (λ k. get_or t k 0) (omega arith) in
          elim u.1 [ inl e ↦ grind (arith, nat_tests) | inr e ↦ grind (arith, nat_tests) ]
      | inr w ↦
          let last_is : get_or (b ++ t) (length (b ++ t) - 1) 0 ≡ get_or t 5 0 = get_or-append_right b t (length b) _ 0 refl (omega arith) ∙ ap (λ k. get_or t k 0) (omega arith) in
          let digit = rw get_or-drop at (ends_in_digit (drop 1 t) w.0 w.2) in
          grind (arith, nat_tests)
    ]

pub record TailAt (t : List ℕ) (n : ℕ) (z : ℤ) : Type 0 where
  pub room : offset_length t ≤ length t
  pub fraction : IsFraction (take (length t - offset_length t) t) n
  pub offset : IsOffset (drop (length t - offset_length t) t) z

pub tail_at : (t : List ℕ) (n : ℕ) (z : ℤ) → IsTail t n z → TailAt t n z
tail_at t n z h =
    let len : offset_length t ≡ length h.offset = ap offset_length h.spelled ∙ offset_len_is h.offset z h.fraction h.offset_is in
    let both : length t ≡ length h.fraction + length h.offset = ap length h.spelled ∙ length-append h.fraction h.offset in
    let place : length h.fraction ≡ length t - offset_length t = omega arith in
    record {
      room = omega arith;
      fraction = subst (λ x. IsFraction x n) (sym (take_at h.fraction h.offset (length t - offset_length t) place) ∙ ap (take (length t - offset_length t)) (sym h.spelled)) h.fraction_is;
      offset = subst (λ x. IsOffset x z) (sym (drop_at h.fraction h.offset (length t - offset_length t) place) ∙ ap (drop (length t - offset_length t)) (sym h.spelled)) h.offset_is;
    }

pub tail_of : (t : List ℕ) (n : ℕ) (z : ℤ) (k : ℕ) → IsFraction (take k t) n → IsOffset (drop k t) z → IsTail t n z
tail_of t n z k f o = record { fraction = take k t; offset = drop k t; fraction_is = f; offset_is = o; spelled = sym (take-append-drop k t) }

pub record TimeAt (t : List ℕ) (s : ℤ) (n : ℕ) : Type 0 where
  pub day_number : ℤ
  pub clock_seconds : ℕ
  pub ahead : ℤ
  pub len : 20 ≤ length t
  pub letter : (get_or t 10 0 ≡ 84) ⊎ (get_or t 10 0 ≡ 116)
  pub date : IsDate (take 10 t) day_number
  pub clock : IsClock (take 8 (drop 11 t)) clock_seconds
  pub tail : IsTail (drop 19 t) n ahead
  pub seconds_are : s ≡ day_number *ℤ pos 86_400 +ℤ pos clock_seconds -ℤ ahead

pub time_at : (t : List ℕ) (s : ℤ) (n : ℕ) → HasInstant t s n → TimeAt t s n
time_at t s n h =
    let date = date_at h.date h.day_number h.date_is in
    let clock = clock_at h.clock h.clock_seconds h.clock_is in
    let k = cut_at t 10 h.date h.letter (h.clock ++ (h.fraction ++ h.offset)) h.spelled date.len in
    let after : h.clock ++ (h.fraction ++ h.offset) ≡ drop 11 t = k.back in
    let clock_is : h.clock ≡ take 8 (drop 11 t) = sym (take_at h.clock (h.fraction ++ h.offset) 8 clock.len) ∙ ap (take 8) after in
    let rest : h.fraction ++ h.offset ≡ drop 19 t = sym (drop_at h.clock (h.fraction ++ h.offset) 8 clock.len) ∙ (ap (drop 8) after ∙ drop-drop 8 11 t) in
    let some : 1 ≤ length h.offset = some_offset h.offset h.ahead h.offset_is in
    record {
      day_number = h.day_number;
      clock_seconds = h.clock_seconds;
      ahead = h.ahead;
      len = omega (arith, k.len, length-append h.clock (h.fraction ++ h.offset), length-append h.fraction h.offset, clock.len);
      letter = rw k.at h.letter_is;
      date = subst (λ x. IsDate x h.day_number) k.front h.date_is;
      clock = subst (λ x. IsClock x h.clock_seconds) clock_is h.clock_is;
      tail = record { fraction = h.fraction; offset = h.offset; fraction_is = h.fraction_is; offset_is = h.offset_is; spelled = sym rest };
      seconds_are = h.seconds_are;
    }

pub time_of : (t : List ℕ) (s : ℤ) (n : ℕ) → TimeAt t s n → HasInstant t s n
time_of t s n h =
    let behind : drop 11 t ≡ take 8 (drop 11 t) ++ drop 19 t = sym (take-append-drop 8 (drop 11 t)) ∙ ap (λ x. take 8 (drop 11 t) ++ x) (drop-drop 8 11 t) in
    record {
      date = take 10 t;
      letter = get_or t 10 0;
      clock = take 8 (drop 11 t);
      fraction = h.tail.fraction;
      offset = h.tail.offset;
      day_number = h.day_number;
      clock_seconds = h.clock_seconds;
      ahead = h.ahead;
      date_is = h.date;
      letter_is = h.letter;
      clock_is = h.clock;
      fraction_is = h.tail.fraction_is;
      offset_is = h.tail.offset_is;
      spelled = joined t 10 (get_or t 10 0) (omega (arith, h.len)) refl ∙ ap (λ x. take 10 t ++ (get_or t 10 0 ∷ x)) (behind ∙ ap (λ x. take 8 (drop 11 t) ++ x) h.tail.spelled);
      seconds_are = h.seconds_are;
    }

-- ---- a text has one instant

one_fraction : (t : List ℕ) (m n : ℕ) → IsFraction t m → IsFraction t n → m ≡ n
one_fraction t m n (none e a) (none f b) = a ∙ sym b
one_fraction t m n (none e a) (point ds d i f b) = absurd (let both : [] ≡ 46 ∷ ds = sym e ∙ f in cc)
one_fraction t m n (point ds d i e a) (none f b) = absurd (let both : [] ≡ 46 ∷ ds = sym f ∙ e in cc)
one_fraction t m n (point ds d i e a) (point es g j f b) = a ∙ (ap nanoseconds_of (ap (drop 1) (sym e ∙ f)) ∙ sym b)

pub one_offset : (t : List ℕ) (y z : ℤ) → IsOffset t y → IsOffset t z → y ≡ z
one_offset t y z h k =
    elim (offset_at t y h) [
      | inl u ↦ elim (offset_at t z k) [ inl v ↦ u.2 ∙ sym v.2 | inr v ↦ absurd (omega (arith, u.0, v.1)) ]
      | inr u ↦ elim (offset_at t z k) [
        | inl v ↦ absurd (omega (arith, u.1, v.0))
        | inr v ↦
            let same : u.0 ≡ v.0 = one_hour_minute (drop 1 t) u.0 v.0 u.2 v.2 in
            elim u.3 [
              | inl p ↦ elim v.3 [ inl q ↦ p.1 ∙ (ap (λ n. pos (60 * n)) same ∙ sym q.1) | inr q ↦ absurd (omega (arith, p.0, q.0)) ]
              | inr p ↦ elim v.3 [ inl q ↦ absurd (omega (arith, p.0, q.0)) | inr q ↦ p.1 ∙ (ap (λ n. neg_ℤ (pos (60 * n))) same ∙ sym q.1) ]
            ]
      ]
    ]

pub one_instant : (t : List ℕ) (r s : ℤ) (m n : ℕ) → HasInstant t r m → HasInstant t s n → (r ≡ s) × (m ≡ n)
one_instant t r s m n h k =
    let a = time_at t r m h in
    let b = time_at t s n k in
    let p = tail_at (drop 19 t) m a.ahead a.tail in
    let q = tail_at (drop 19 t) n b.ahead b.tail in
    let day = one_date (take 10 t) a.day_number b.day_number a.date b.date in
    let clock = one_clock (take 8 (drop 11 t)) a.clock_seconds b.clock_seconds a.clock b.clock in
    let ahead = one_offset _ a.ahead b.ahead p.offset q.offset in
    (a.seconds_are ∙ (rw (day, clock, ahead) (sym b.seconds_are)), one_fraction _ m n p.fraction q.fraction)
