-- An instant is printed as one text.
use Rattle.std.proofs.Common.{ℕ, ℤ, pos, unsigned_abs, ◌-◌, ◌*◌, ◌/◌, ◌%◌, ◌^◌, ◌<◌, ◌≤◌, ◌+ℤ◌, ◌-ℤ◌, ◌*ℤ◌, ◌≡◌, List, ◌∷◌, ◌++◌, codes, length, refl, sym, ap, ◌∙◌, subst, arith, rules, lit<}
use Rattle.std.proofs.Math.Nat.{one-le-pow}
use Rattle.std.proofs.lemmas.Nat.{same_from_place}
use Rattle.jiff_core.proofs.SignedLemmas.{signed_arith, one_part}
use Rattle.jiff_core.proofs.DateLemmas.{epoch_day_injective}
use Rattle.jiff_core.specs.declared.civil.date.Date.{Date}
use Rattle.jiff_core.specs.Date.{epoch_day}
use Rattle.cbor_edn_times_and_addresses.specs.Time.{number, HasDigits, IsDate, IsHourMinute, IsClock, IsFraction, none, point, IsOffset, plus, IsTimeStamp, IsPrinted}
use Rattle.cbor_edn_times_and_addresses.specs.TimeLaws.{PrintedAs}
use Rattle.cbor_edn_times_and_addresses.specs.internal.TimeWriting.{date_text, clock_text, fraction_text}
use Rattle.cbor_edn_times_and_addresses.proofs.TimeDays.{day_at, days_from_zero}
use Rattle.cbor_edn_times_and_addresses.proofs.TimeDigits.{number-lt, same_digits}
use Rattle.cbor_edn_times_and_addresses.proofs.TimeParts.{nanoseconds_bound, one_offset}
use Rattle.cbor_edn_times_and_addresses.proofs.TimePrinted.{printed, zero_zero}

-- ---- some text

-- k seconds behind the beginning of the year 0
printed_on : (s : ℤ) (n k : ℕ) → pos k ≡ s +ℤ pos 62_167_219_200 → k < 315_569_520_000 → n < 1_000_000_000 → (t : List ℕ) × IsPrinted t s n
printed_on s n k from most small =
    let day = day_at (pos (k / 86_400) -ℤ pos 719_528) (omega (arith, signed_arith)) (omega (arith, signed_arith)) in
    let d = day.date in
    let seconds : s ≡ epoch_day day.date *ℤ pos 86_400 +ℤ pos (k % 86_400) = omega (arith, signed_arith, day.day_is, from) in (
      date_text (unsigned_abs d.year) d.month d.day ++ (84 ∷ (clock_text (k % 86_400) ++ (fraction_text n ++ codes "+00:00"))),
      printed _ s n day.date (k % 86_400) day.from (omega arith) small seconds refl,
    )

some_printed : (s : ℤ) (n : ℕ) → IsTimeStamp s → n < 1_000_000_000 → (t : List ℕ) × IsPrinted t s n
some_printed s n h small =
    let one = one_part (s +ℤ pos 62_167_219_200) in
    printed_on s n (unsigned_abs (s +ℤ pos 62_167_219_200)) (omega (arith, signed_arith, one)) (omega (arith, signed_arith, one)) small

-- ---- only of an instant in the range

pub record DateOf (t : List ℕ) (z : ℤ) (h : IsDate t z) : Type 0 where
  pub date : Date
  pub year_is : date.year ≡ pos (number h.year)
  pub month_is : date.month ≡ number h.month
  pub day_is : date.day ≡ number h.day
  pub number_is : z ≡ epoch_day date

pub date_of_text : (t : List ℕ) (z : ℤ) (h : IsDate t z) → DateOf t z h
date_of_text t z h =
    let year = number-lt h.year h.year_is.1 in
    let four : 10 ^ length h.year ≡ 10 ^ 4 = ap (λ l. 10 ^ l) h.year_is.0 in
    record {
      date = record { year = pos (number h.year); month = number h.month; day = number h.day; year_in = (search rules, omega (arith, signed_arith, year, four)); month_in = h.day_number_is.0; day_in = h.day_number_is.1 };
      year_is = refl;
      month_is = refl;
      day_is = refl;
      number_is = h.day_number_is.2;
    }

clock_in : (t : List ℕ) (n : ℕ) → IsClock t n → n < 86_400
clock_in t n h = omega (arith, h.hour_minute_is.hour_in, h.hour_minute_is.minute_in, h.hour_minute_is.minutes_are, h.second_in, h.seconds_are)

nanoseconds_in : (t : List ℕ) (n : ℕ) → IsFraction t n → n < 1_000_000_000
nanoseconds_in t n (none e is) = omega (arith, is)
nanoseconds_in t n (point ds d i e is) = rw is (nanoseconds_bound (number ds) (length ds) (number-lt ds d) i.1)

-- the clock that is printed is not ahead
not_ahead : (t : List ℕ) (s : ℤ) (n : ℕ) (p : IsPrinted t s n) → p.time.ahead ≡ pos 0
not_ahead t s n p = one_offset (codes "+00:00") p.time.ahead (pos 0) (subst (λ o. IsOffset o p.time.ahead) p.offset_is p.time.offset_is) (plus (codes "00:00") 0 zero_zero refl refl)

pub seconds_of : (t : List ℕ) (s : ℤ) (n : ℕ) (p : IsPrinted t s n) → s ≡ p.time.day_number *ℤ pos 86_400 +ℤ pos p.time.clock_seconds
seconds_of t s n p = p.time.seconds_are ∙ omega (arith, signed_arith, not_ahead t s n p)

pub printed_in : (t : List ℕ) (s : ℤ) (n : ℕ) → IsPrinted t s n → IsTimeStamp s × (n < 1_000_000_000)
printed_in t s n p =
    let d = date_of_text p.time.date p.time.day_number p.time.date_is in
    let day = days_from_zero d.date (rw d.year_is (search rules)) in
    let clock = clock_in p.time.clock p.time.clock_seconds p.time.clock_is in
    let seconds = seconds_of t s n p in
    ((omega (arith, signed_arith, seconds, day.0, d.number_is, clock), omega (arith, signed_arith, seconds, day.1, d.number_is, clock)), nanoseconds_in p.time.fraction n p.time.fraction_is)

-- ---- and one text alone

same_are : (k : ℕ) (a b : List ℕ) → HasDigits k a → HasDigits k b → number a ≡ number b → a ≡ b
same_are k a b h g e = same_digits a b (h.0 ∙ sym g.0) h.1 g.1 e

same_date : (t u : List ℕ) (z : ℤ) → IsDate t z → IsDate u z → t ≡ u
same_date t u z h k =
    let a = date_of_text t z h in
    let b = date_of_text u z k in
    let same = epoch_day_injective a.date b.date (sym a.number_is ∙ b.number_is) in
    let years : pos (number h.year) ≡ pos (number k.year) = sym a.year_is ∙ (same.0 ∙ b.year_is) in
    let year = same_are 4 h.year k.year h.year_is k.year_is (cc) in
    let month = same_are 2 h.month k.month h.month_is k.month_is (sym a.month_is ∙ (same.1 ∙ b.month_is)) in
    let day = same_are 2 h.day k.day h.day_is k.day_is (sym a.day_is ∙ (same.2 ∙ b.day_is)) in
    h.spelled ∙ (rw (year, month, day) (sym k.spelled))

same_hour_minute : (t u : List ℕ) (m n : ℕ) → m ≡ n → IsHourMinute t m → IsHourMinute u n → t ≡ u
same_hour_minute t u m n e h k =
    let hours : number h.hour ≡ number k.hour = omega (arith, e, h.minutes_are, k.minutes_are, h.minute_in, k.minute_in) in
    let minutes : number h.minute ≡ number k.minute = omega (arith, e, h.minutes_are, k.minutes_are, h.minute_in, k.minute_in) in
    let hour = same_are 2 h.hour k.hour h.hour_is k.hour_is hours in
    let minute = same_are 2 h.minute k.minute h.minute_is k.minute_is minutes in
    h.spelled ∙ (rw (hour, minute) (sym k.spelled))

same_clock : (t u : List ℕ) (m n : ℕ) → m ≡ n → IsClock t m → IsClock u n → t ≡ u
same_clock t u m n e h k =
    let minutes : h.minutes ≡ k.minutes = omega (arith, e, h.seconds_are, k.seconds_are, h.second_in, k.second_in) in
    let seconds : number h.second ≡ number k.second = omega (arith, e, h.seconds_are, k.seconds_are, h.second_in, k.second_in) in
    let front = same_hour_minute h.hour_minute k.hour_minute h.minutes k.minutes minutes h.hour_minute_is k.hour_minute_is in
    let second = same_are 2 h.second k.second h.second_is k.second_is seconds in
    h.spelled ∙ (rw (front, second) (sym k.spelled))

same_number : (m n u : ℕ) → 1 ≤ u → m * u ≡ n * u → m ≡ n
same_number m n u some e = (same_from_place m 0 n 0 u some some (omega (arith, e))).0

same_fraction : (t u : List ℕ) (n : ℕ) → length t ≡ length u → IsFraction t n → IsFraction u n → t ≡ u
same_fraction t u n len (none e a) (none f b) = e ∙ sym f
same_fraction t u n len (none e a) (point es g j f b) = absurd (omega (arith, len, ap length e, ap length f))
same_fraction t u n len (point ds d i e a) (none f b) = absurd (omega (arith, len, ap length e, ap length f))
same_fraction t u n len (point ds d i e a) (point es g j f b) =
    let lens : length ds ≡ length es = omega (arith, len, ap length e, ap length f) in
    let numbers : number ds * 10 ^ (9 - length ds) ≡ number es * 10 ^ (9 - length ds) = sym a ∙ (b ∙ ap (λ l. number es * 10 ^ (9 - l)) (sym lens)) in
    let same = same_digits ds es lens d g (same_number (number ds) (number es) (10 ^ (9 - length ds)) (one-le-pow (9 - length ds) 10 (lit< tt)) numbers) in
    e ∙ (ap (λ x. 46 ∷ x) same ∙ sym f)

pub one_printed : (t u : List ℕ) (s : ℤ) (n : ℕ) → IsPrinted t s n → IsPrinted u s n → t ≡ u
one_printed t u s n p q =
    let a = seconds_of t s n p in
    let b = seconds_of u s n q in
    let c = clock_in p.time.clock p.time.clock_seconds p.time.clock_is in
    let d = clock_in q.time.clock q.time.clock_seconds q.time.clock_is in
    let days : p.time.day_number ≡ q.time.day_number = omega (arith, signed_arith, a, b, c, d) in
    let clocks : p.time.clock_seconds ≡ q.time.clock_seconds = omega (arith, signed_arith, a, b, c, d) in
    let date = same_date p.time.date q.time.date q.time.day_number (subst (IsDate p.time.date) days p.time.date_is) q.time.date_is in
    let clock = same_clock p.time.clock q.time.clock p.time.clock_seconds q.time.clock_seconds clocks p.time.clock_is q.time.clock_is in
    let fraction = same_fraction p.time.fraction q.time.fraction n (p.fraction_is ∙ sym q.fraction_is) p.time.fraction_is q.time.fraction_is in
    let letter = p.letter_is ∙ sym q.letter_is in
    let offset = p.offset_is ∙ sym q.offset_is in
    p.time.spelled ∙ (rw (date, letter, clock, fraction, offset) (sym q.time.spelled))

pub printed_as : (s : ℤ) (n : ℕ) → PrintedAs s n
printed_as s n = record { some = λ h. some_printed s n h.0 h.1; only = λ t p. printed_in t s n p; one = λ t u p q. one_printed t u s n p q }
