use Rattle.std.proofs.Common.{ℕ, ℤ, ◌≡◌, pos, w8, w16, w32, FitsSigned, rules, arith, ◌∙◌, subst}
use Rattle.std.proofs.lemmas.Int.{to_z_pos, to_z-of_z}
use Rattle.jiff_core.specs.declared.civil.date.Date.{Date}
use Rattle.jiff_core.specs.Date.{epoch_day}
use Rattle.jiff_core.specs.Calendar.{days_from_civil, days_in_month}
use Rattle.std.specs.Int.{IsInRange}
use Rattle.cbor_edn_times_and_addresses.specs.Time.{IsDay}
use Rattle.cbor_edn_times_and_addresses.proofs.time.read.read_day.Goals as goal

number_is : (m n : ℕ) → pos m ≡ pos n → m ≡ n
number_is m n e = cc

-- the date of these numbers is a day with its day number
day_is : (date : Date) (year month day : ℕ) (z : ℤ) → date.year ≡ pos year → pos date.month ≡ pos month → pos date.day ≡ pos day → z ≡ epoch_day date → IsDay year month day z
day_is date year month day z y m d e =
    let P : ℤ → ℕ → ℕ → Type 0 = λ y m d. IsInRange 1 12 m × IsInRange 1 (days_in_month y m) d × (z ≡ days_from_civil y m d) in
    let here : P date.year date.month date.day = (date.month_in, date.day_in, e) in
    subst (P (pos year) month) (number_is date.day day d) (subst (λ m. P (pos year) m date.day) (number_is date.month month m) (subst (λ y. P y date.month date.day) y here))

pub returns-in-Ok-clause-some : goal.returns-in-Ok-clause-some
returns-in-Ok-clause-some c =
    let v = c.in-Ok.ensures.value in
    let fits : FitsSigned w32 c.to_unix_epoch_day.result = search rules in
    day_is c.in-Ok.date c.args.year c.args.month c.args.day _
    (v.0 ∙ to_z_pos w16 c.args.year (omega arith)) (v.1 ∙ to_z_pos w8 c.args.month (omega arith)) (v.2 ∙ to_z_pos w8 c.args.day (omega arith))
    (to_z-of_z w32 c.to_unix_epoch_day.result fits ∙ c.to_unix_epoch_day.ensures.value)
