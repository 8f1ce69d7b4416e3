-- The writer of times that computes gives what `IsPrinted` tells.
use Rattle.std.proofs.Common.{ℕ, suc, ℤ, pos, unsigned_abs, ◌+◌, ◌-◌, ◌/◌, ◌%◌, ◌<◌, ◌≤◌, ◌+ℤ◌, ◌*ℤ◌, ◌≤ℤ◌, ◌≡◌, inl, inr, Bool, nat_lt, List, ◌∷◌, ◌++◌, codes, refl, sym, ap, ◌∙◌, subst, arith, rules, lt-ltb, le-ltb}
use Rattle.std.proofs.lemmas.Bool.{cases_lt}
use Rattle.jiff_core.specs.Calendar.{day_count}
use Rattle.jiff_core.specs.March.{march_days, march_months}
use Rattle.jiff_core.specs.declared.civil.date.Date.{Date}
use Rattle.jiff_core.specs.Date.{epoch_day}
use Rattle.jiff_core.proofs.SignedLemmas.{signed_arith, one_part}
use Rattle.jiff_core.proofs.MarchLemmas.{day_count-early, day_count-late, month_and_day, day_in_month, day_in_early_month, march_days-suc, leap_day, leap_day-shift}
use Rattle.jiff_core.proofs.CalendarLemmas.{days_from_civil-day_count}
use Rattle.cbor_edn_times_and_addresses.specs.Time.{IsTimeStamp, IsPrinted}
use Rattle.cbor_edn_times_and_addresses.specs.TimeLaws.{PrintedComputed}
use Rattle.cbor_edn_times_and_addresses.specs.internal.TimeWriting.{date_text, clock_text, fraction_text}
use Rattle.cbor_edn_times_and_addresses.specs.internal.TimeComputing.{march_year, march_day, month_of, day_in, march_date_text, time_text_from, time_text}
use Rattle.cbor_edn_times_and_addresses.proofs.TimePrinted.{printed}
use Rattle.cbor_edn_times_and_addresses.proofs.TimeUnique.{one_printed}

-- ---- the year that begins in March

pub record MarchDay (k y r : ℕ) : Type 0 where
  pub sum : march_days y + r ≡ k
  pub within : k < march_days (suc y)
  pub year_low : 9_999 ≤ y
  pub year_high : y ≤ 19_999
  pub bound : r < 366

march_sum : (k : ℕ) → k < 7_304_790 → march_days (march_year k) + march_day k ≡ k
unfolding march_year march_day
march_sum k high = omega arith

march_within : (k : ℕ) → k < 7_304_790 → k < march_days (suc (march_year k))
unfolding march_year
march_within k high = omega arith

march_bound : (k : ℕ) → march_day k < 366
unfolding march_day
march_bound k = omega arith

march_low : (k : ℕ) → 3_652_365 ≤ k → 9_999 ≤ march_year k
unfolding march_year
march_low k low = omega arith

march_high : (k : ℕ) → k < 7_304_790 → march_year k ≤ 19_999
unfolding march_year
march_high k high = omega arith

march_at : (k : ℕ) → 3_652_365 ≤ k → k < 7_304_790 → MarchDay k (march_year k) (march_day k)
march_at k low high = record { sum = march_sum k high; within = march_within k high; year_low = march_low k low; year_high = march_high k high; bound = march_bound k }

-- ---- its date

pub record DateAt (k : ℕ) (t : List ℕ) : Type 0 where
  pub date : Date
  pub from : pos 0 ≤ℤ date.year
  pub day_is : epoch_day date +ℤ pos 4_371_893 ≡ pos k
  pub text_is : t ≡ date_text (unsigned_abs date.year) date.month date.day

module _ (k y r : ℕ) (low : 3_652_365 ≤ k) (high : k < 7_304_790) (h : MarchDay k y r) where
  -- January and February
  early : 12 < month_of r → DateAt k (date_text (y + 1 - 10_000) (month_of r - 12) (day_in r))
  early lt =
      let months = month_and_day r h.bound in
      let year : pos (y + 1 - 10_000) +ℤ pos 10000 ≡ pos (suc y) = omega (arith, signed_arith, h.year_low) in
      let leap : leap_day (pos (y + 1 - 10_000)) ≡ leap_day (pos (suc y)) = leap_day-shift (pos (y + 1 - 10_000)) (suc y) year in
      let in_year : r < 365 + leap_day (pos (y + 1 - 10_000)) = omega (arith, h.sum, h.within, march_days-suc y, leap) in
      let most : y ≤ 19_998 = omega (arith, h.sum, h.year_high, lt, high) in
      let count = day_count-early (pos (y + 1 - 10_000)) y (month_of r - 12) (day_in r) year (omega (arith, lt)) (omega (arith, h.bound)) (omega arith) in
      let back : month_of r - 12 + 12 ≡ month_of r = omega (arith, lt) in
      let counted : day_count (pos (y + 1 - 10_000)) (month_of r - 12) (day_in r) ≡ march_days y + march_months (month_of r) + day_in r + 59 = count ∙ ap (λ m. march_days y + march_months m + day_in r + 59) back in
      record {
        date = record { year = pos (y + 1 - 10_000); month = month_of r - 12; day = day_in r; year_in = (search rules, omega (arith, signed_arith, most)); month_in = (omega (arith, lt), omega (arith, h.bound)); day_in = (omega arith, day_in_early_month (pos (y + 1 - 10_000)) r lt in_year) };
        from = search rules;
        day_is = omega (arith, signed_arith, days_from_civil-day_count (pos (y + 1 - 10_000)) (month_of r - 12) (day_in r), counted, months, h.sum);
        text_is = refl;
      }

  -- the other months
  late : month_of r ≤ 12 → DateAt k (date_text (y - 10_000) (month_of r) (day_in r))
  late le =
      let months = month_and_day r h.bound in
      let least : 10_000 ≤ y = omega (arith, h.sum, h.year_low, le, low) in
      let year : pos (y - 10_000) +ℤ pos 10000 ≡ pos y = omega (arith, signed_arith, least) in
      let count = day_count-late (pos (y - 10_000)) y (month_of r) (day_in r) year (omega arith) le (omega arith) in
      record {
        date = record { year = pos (y - 10_000); month = month_of r; day = day_in r; year_in = (search rules, omega (arith, signed_arith, h.year_high)); month_in = (omega arith, le); day_in = (omega arith, day_in_month (pos (y - 10_000)) r le) };
        from = search rules;
        day_is = omega (arith, signed_arith, days_from_civil-day_count (pos (y - 10_000)) (month_of r) (day_in r), count, months, h.sum);
        text_is = refl;
      }

  date_by : (b : Bool) → nat_lt 12 (month_of r) ≡ b → DateAt k (march_date_text y r)
  date_by b e =
      elim (cases_lt 12 (month_of r)) [
        | inl lt ↦ (let is = lt-ltb 12 (month_of r) lt in rw is (early lt))
        | inr le ↦ (let is = le-ltb 12 (month_of r) le in rw is (late le))
      ]

-- ---- the whole

printed_from : (k n : ℕ) (s : ℤ) → pos k ≡ s +ℤ pos 62_167_219_200 → k < 315_569_520_000 → n < 1_000_000_000 → IsPrinted (time_text_from k n) s n
unfolding time_text_from
printed_from k n s from most small =
    let j = k / 86_400 + 3_652_365 in
    let low : 3_652_365 ≤ k / 86_400 + 3_652_365 = omega arith in
    let high : k / 86_400 + 3_652_365 < 7_304_790 = omega arith in
    let d = date_by (k / 86_400 + 3_652_365) (march_year (k / 86_400 + 3_652_365)) (march_day (k / 86_400 + 3_652_365)) low high (march_at (k / 86_400 + 3_652_365) low high) _ refl in
    let seconds : s ≡ epoch_day d.date *ℤ pos 86_400 +ℤ pos (k % 86_400) = omega (arith, signed_arith, d.day_is, from) in
    printed _ s n d.date (k % 86_400) d.from (omega arith) small seconds (ap (λ x. x ++ (84 ∷ (clock_text (k % 86_400) ++ (fraction_text n ++ codes "+00:00")))) d.text_is)

pub time_text_is : (s : ℤ) (n : ℕ) → IsTimeStamp s → n < 1_000_000_000 → IsPrinted (time_text s n) s n
time_text_is s n h small =
    let one = one_part (s +ℤ pos 62_167_219_200) in
    printed_from (unsigned_abs (s +ℤ pos 62_167_219_200)) n s (omega (arith, signed_arith, one)) (omega (arith, signed_arith, one, h)) small

pub printed_computed : (s : ℤ) (n : ℕ) → PrintedComputed s n
printed_computed s n h small t = (λ p. one_printed t (time_text s n) s n p (time_text_is s n h small), λ e. subst (λ t. IsPrinted t s n) (sym e) (time_text_is s n h small))
