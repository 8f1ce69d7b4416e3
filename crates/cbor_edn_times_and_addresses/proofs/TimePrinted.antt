-- The parts that are printed are those of a time text.
use Rattle.std.proofs.Common.{suc, ℕ, ℤ, pos, negsuc, neg_ℤ, append_assoc, ◌-◌, ◌*◌, ◌/◌, ◌%◌, ◌^◌, ◌<◌, ◌+ℤ◌, ◌*ℤ◌, ◌≤ℤ◌, ◌≡◌, inl, List, [], ◌∷◌, ◌++◌, length, codes, Bool, true, false, refl, sym, ap, ◌∙◌, subst, arith, rules, unsigned_abs, if◌then◌else◌, ◌==◌}
use Rattle.std.proofs.lemmas.Bool.{eqb-true}
use Rattle.std.proofs.lemmas.Int.{by_lt_z}
use Rattle.std.specs.Int.{IsInRange}
use Rattle.jiff_core.proofs.SignedLemmas.{signed_arith}
use Rattle.jiff_core.proofs.MarchLemmas.{day_count-early}
use Rattle.jiff_core.proofs.CalendarLemmas.{days_in_month_bounds, days_from_civil-day_count, day_count-lt_year}
use Rattle.jiff_core.proofs.DateLemmas.{civil}
use Rattle.jiff_core.specs.declared.civil.date.Date.{Date}
use Rattle.jiff_core.specs.Date.{epoch_day}
use Rattle.jiff_core.specs.Calendar.{days_from_civil, day_count, days_in_month}
use Rattle.cbor_edn_times_and_addresses.specs.Time.{number, IsDay, IsDate, IsHourMinute, IsClock, IsFraction, none, point, plus, IsPrinted, printed_length}
use Rattle.cbor_edn_times_and_addresses.specs.internal.TimeWriting.{padded, date_text, hour_minute_text, clock_text, fraction_text}
use Rattle.cbor_edn_times_and_addresses.proofs.TimeDigits.{padded_are, padded_number}

-- a day from 0000-01-01 on has a year from 0 on
pub year_from : (d : Date) → neg_ℤ (pos 719_528) ≤ℤ epoch_day d → pos 0 ≤ℤ d.year
year_from d h =
    by_lt_z d.year (pos 0)
    (λ before. absurd (let first : day_count (pos 0) 1 1 ≡ 3_652_425 = day_count-early (pos 0) 9999 1 1 refl (omega arith) (omega arith) (omega arith) in
    omega (arith, signed_arith, first, days_from_civil-day_count d.year d.month d.day, day_count-lt_year d.year d.month d.day (pos 0) 1 1 (civil d) (omega arith) before)))
    (λ from. from)

-- ---- the parts

padded_back : (k n : ℕ) → n < 10 ^ k → n ≡ number (padded k n)
padded_back k n h = sym (padded_number k n h)

pub date_printed : (year month day : ℕ) (z : ℤ) → year < 10 ^ 4 → month < 10 ^ 2 → day < 10 ^ 2 → IsDay year month day z → IsDate (date_text year month day) z
date_printed year month day z y m d h = record {
  year = padded 4 year;
  month = padded 2 month;
  day = padded 2 day;
  year_is = padded_are 4 year;
  month_is = padded_are 2 month;
  day_is = padded_are 2 day;
  day_number_is = subst (λ x. IsDay (number (padded 4 year)) (number (padded 2 month)) x z) (padded_back 2 day d) (subst (λ x. IsDay (number (padded 4 year)) x day z) (padded_back 2 month m) (subst (λ x. IsDay x month day z) (padded_back 4 year y) h));
  spelled = refl;
}

hour_minute_printed : (n : ℕ) → n < 1_440 → IsHourMinute (hour_minute_text n) n
hour_minute_printed n h =
    let hours : n / 60 < 10 ^ 2 = omega arith in
    let minutes : n % 60 < 10 ^ 2 = omega arith in
    let hour = padded_number 2 (n / 60) hours in
    let minute = padded_number 2 (n % 60) minutes in
    record {
      hour = padded 2 (n / 60);
      minute = padded 2 (n % 60);
      hour_is = padded_are 2 (n / 60);
      minute_is = padded_are 2 (n % 60);
      hour_in = omega (arith, hour);
      minute_in = omega (arith, minute);
      spelled = refl;
      minutes_are = omega (arith, hour, minute);
    }

pub clock_printed : (n : ℕ) → n < 86_400 → IsClock (clock_text n) n
clock_printed n h =
    let seconds : n % 60 < 10 ^ 2 = omega arith in
    let second = padded_number 2 (n % 60) seconds in
    record {
      hour_minute = hour_minute_text (n / 60);
      minutes = n / 60;
      second = padded 2 (n % 60);
      hour_minute_is = hour_minute_printed (n / 60) (omega arith);
      second_is = padded_are 2 (n % 60);
      second_in = omega (arith, second);
      spelled = refl;
      seconds_are = omega (arith, second);
    }

-- digits behind a point, k of them, that leave out nothing but zeros
point_printed : (n k unit : ℕ) → IsInRange 1 9 k → unit ≡ 10 ^ (9 - k) → n ≡ n / unit * unit → n / unit < 10 ^ k → IsFraction (46 ∷ padded k (n / unit)) n
point_printed n k unit i u whole small =
    let len = (padded_are k (n / unit)).0 in
    point (padded k (n / unit)) (padded_are k (n / unit)).1 (rw len i) refl
    (whole ∙ (ap (λ m. m * unit) (padded_back k (n / unit) small) ∙ (ap (λ u. number (padded k (n / unit)) * u) u ∙ ap (λ l. number (padded k (n / unit)) * 10 ^ (9 - l)) (sym len))))

pub record FractionPrinted (t : List ℕ) (n l : ℕ) : Type 0 where
  pub fraction : IsFraction t n
  pub len : length t ≡ l

fraction_by : (n : ℕ) (a b c : Bool) → (n == 0) ≡ a → (n % 1_000_000 == 0) ≡ b → (n % 1_000 == 0) ≡ c → n < 1_000_000_000 →
    FractionPrinted (if a then [] else if b then 46 ∷ padded 3 (n / 1_000_000) else if c then 46 ∷ padded 6 (n / 1_000) else 46 ∷ padded 9 n) n (if a then 0 else if b then 4 else if c then 7 else 10)
fraction_by n true b c e f g h = record { fraction = none refl (eqb-true n 0 e); len = refl }
fraction_by n false true c e f g h =
    let zero = eqb-true (n % 1_000_000) 0 f in
    record { fraction = point_printed n 3 1_000_000 (omega arith) refl (omega arith) (omega arith); len = ap suc (padded_are 3 (n / 1_000_000)).0 }
fraction_by n false false true e f g h =
    let zero = eqb-true (n % 1_000) 0 g in
    record { fraction = point_printed n 6 1_000 (omega arith) refl (omega arith) (omega arith); len = ap suc (padded_are 6 (n / 1_000)).0 }
fraction_by n false false false e f g h =
    let one : n / 1 ≡ n = omega arith in
    record { fraction = subst (λ m. IsFraction (46 ∷ padded 9 m) n) one (point_printed n 9 1 (omega arith) refl (omega arith) (omega arith)); len = ap suc (padded_are 9 n).0 }

pub fraction_printed : (n : ℕ) → n < 1_000_000_000 → FractionPrinted (fraction_text n) n (printed_length n)
fraction_printed n h = fraction_by n (n == 0) (n % 1_000_000 == 0) (n % 1_000 == 0) refl refl refl h

pub zero_zero : IsHourMinute (codes "00:00") 0
zero_zero = record {
  hour = 48 ∷ 48 ∷ [];
  minute = 48 ∷ 48 ∷ [];
  hour_is = search rules;
  minute_is = search rules;
  hour_in = omega arith;
  minute_in = omega arith;
  spelled = refl;
  minutes_are = refl;
}

-- ---- the whole text

pub nonnegative : (z : ℤ) → pos 0 ≤ℤ z → z ≡ pos (unsigned_abs z)
nonnegative (pos n) h = refl
nonnegative (negsuc n) h = absurd (omega (arith, signed_arith))

-- one push behind the other
pub pushes : (t₀ t₁ t₂ t₃ t₄ t₅ a b c d e : List ℕ) → t₀ ≡ [] → t₁ ≡ t₀ ++ a → t₂ ≡ t₁ ++ b → t₃ ≡ t₂ ++ c → t₄ ≡ t₃ ++ d → t₅ ≡ t₄ ++ e → t₅ ≡ a ++ (b ++ (c ++ (d ++ e)))
pushes t₀ t₁ t₂ t₃ t₄ t₅ a b c d e p q r s t u = rw (u, t, s, r, q, p) (simp append_assoc)

pub printed : (t : List ℕ) (s : ℤ) (n : ℕ) (d : Date) (clock : ℕ) → pos 0 ≤ℤ d.year → clock < 86_400 → n < 1_000_000_000 → s ≡ epoch_day d *ℤ pos 86_400 +ℤ pos clock
    → t ≡ date_text (unsigned_abs d.year) d.month d.day ++ (84 ∷ (clock_text clock ++ (fraction_text n ++ codes "+00:00"))) → IsPrinted t s n
printed t s n d clock from clock_in nanoseconds_in seconds e =
    let year_is = nonnegative d.year from in
    let below : unsigned_abs d.year < 10 ^ 4 = omega (arith, signed_arith, d.year_in) in
    let long = days_in_month_bounds d.year d.month in
    let day : IsDay (unsigned_abs d.year) d.month d.day (epoch_day d) = subst (λ y. IsInRange 1 12 d.month × IsInRange 1 (days_in_month y d.month) d.day × (epoch_day d ≡ days_from_civil y d.month d.day)) year_is (d.month_in, d.day_in, refl) in
    let fraction = fraction_printed n nanoseconds_in in
    record {
      time = record {
        date = date_text (unsigned_abs d.year) d.month d.day;
        letter = 84;
        clock = clock_text clock;
        fraction = fraction_text n;
        offset = codes "+00:00";
        day_number = epoch_day d;
        clock_seconds = clock;
        ahead = pos 0;
        date_is = date_printed (unsigned_abs d.year) d.month d.day (epoch_day d) below (omega (arith, d.month_in)) (omega (arith, d.day_in, long)) day;
        letter_is = inl refl;
        clock_is = clock_printed clock clock_in;
        fraction_is = fraction.fraction;
        offset_is = plus (codes "00:00") 0 zero_zero refl refl;
        spelled = e;
        seconds_are = seconds ∙ omega (arith, signed_arith);
      };
      letter_is = refl;
      fraction_is = fraction.len;
      offset_is = refl;
    }
