-- Rows of times, computed: what the definitions say of some texts and instants.
use Rattle.std.proofs.Common.{ℕ, ℤ, pos, negsuc, codes, ◌<◌, List, None, ◌≡◌, refl, sym, ◌∙◌, rules}
use Rattle.std.proofs.lemmas.Option.{none-some}
use Rattle.std.specs.Fmt.{digits}
use Rattle.cbor_edn_times_and_addresses.specs.Time.{HasInstant, IsTimeStamp, IsPrinted}
use Rattle.cbor_edn_times_and_addresses.specs.TimeDecimal.{HasDecimal, IsNumberOf}
use Rattle.cbor_edn_times_and_addresses.specs.internal.TimeReading.{offset_length}
use Rattle.cbor_edn_times_and_addresses.specs.internal.TimeWriting.{padded}
use Rattle.cbor_edn_times_and_addresses.specs.internal.TimeComputing.{day_number_of, day_of, date_of, minutes_of, clock_of, fraction_of, offset_of, tail_of, instant_of, march_year, march_day, time_text_from, time_text, decimal_of, shortest_digits, instant_number}
use Rattle.cbor_edn_times_and_addresses.proofs.TimeComputed.{instant_computed}
use Rattle.cbor_edn_times_and_addresses.proofs.TimeComputedNumbers.{decimal_computed, written_computed}
use Rattle.cbor_edn_times_and_addresses.proofs.TimeComputedText.{printed_computed}

-- ---- texts

no_instant : (t : List ℕ) → instant_of t ≡ None → (s : ℤ) (n : ℕ) → ¬ HasInstant t s n
no_instant t none s n h = none-some (s, n) (sym none ∙ (instant_computed t s n).0 h)

-- the offset is subtracted
offset : HasInstant (codes "2000-02-29T00:00:00+01:00") (pos 951_778_800) 0
unfolding day_number_of day_of date_of minutes_of clock_of fraction_of offset_of tail_of instant_of offset_length
offset = (instant_computed (codes "2000-02-29T00:00:00+01:00") (pos 951_778_800) 0).1 refl

-- the seconds before 1970 round down
before_1970 : HasInstant (codes "1969-07-21T02:56:16.5Z") (negsuc 14_159_023) 500_000_000
unfolding day_number_of day_of date_of minutes_of clock_of fraction_of offset_of tail_of instant_of offset_length
before_1970 = (instant_computed (codes "1969-07-21T02:56:16.5Z") (negsuc 14_159_023) 500_000_000).1 refl

small_letters : HasInstant (codes "1970-01-01t00:00:23z") (pos 23) 0
unfolding day_number_of day_of date_of minutes_of clock_of fraction_of offset_of tail_of instant_of offset_length
small_letters = (instant_computed (codes "1970-01-01t00:00:23z") (pos 23) 0).1 refl

-- no leap day in 2001 and in 1900, no second 60
no_leap_day : (s : ℤ) (n : ℕ) → ¬ HasInstant (codes "2001-02-29T00:00:00Z") s n
unfolding day_number_of day_of date_of minutes_of clock_of fraction_of offset_of tail_of instant_of offset_length
no_leap_day = no_instant (codes "2001-02-29T00:00:00Z") refl

no_leap_day_in_1900 : (s : ℤ) (n : ℕ) → ¬ HasInstant (codes "1900-02-29T00:00:00Z") s n
unfolding day_number_of day_of date_of minutes_of clock_of fraction_of offset_of tail_of instant_of offset_length
no_leap_day_in_1900 = no_instant (codes "1900-02-29T00:00:00Z") refl

no_leap_second : (s : ℤ) (n : ℕ) → ¬ HasInstant (codes "1990-12-31T23:59:60Z") s n
unfolding day_number_of day_of date_of minutes_of clock_of fraction_of offset_of tail_of instant_of offset_length
no_leap_second = no_instant (codes "1990-12-31T23:59:60Z") refl

-- ---- instants

printed : (s : ℤ) (n : ℕ) (t : List ℕ) → IsTimeStamp s → n < 1_000_000_000 → t ≡ time_text s n → IsPrinted t s n
printed s n t range small e = (printed_computed s n range small t).1 e

printed_42 : IsPrinted (codes "1970-01-01T00:00:42+00:00") (pos 42) 0
unfolding padded march_year march_day time_text_from
printed_42 = printed (pos 42) 0 (codes "1970-01-01T00:00:42+00:00") (search rules) (search rules) refl

printed_half : IsPrinted (codes "1969-12-31T23:59:58.500+00:00") (negsuc 1) 500_000_000
unfolding padded march_year march_day time_text_from
printed_half = printed (negsuc 1) 500_000_000 (codes "1969-12-31T23:59:58.500+00:00") (search rules) (search rules) refl

printed_last : IsPrinted (codes "9999-12-31T23:59:59+00:00") (pos 253_402_300_799) 0
unfolding padded march_year march_day time_text_from
printed_last = printed (pos 253_402_300_799) 0 (codes "9999-12-31T23:59:59+00:00") (search rules) (search rules) refl

-- ---- numbers

-- -1.5 is half a second behind -2
decimal_half : HasDecimal (codes "-1.5") (negsuc 1) 500_000_000
unfolding decimal_of
decimal_half = (decimal_computed (codes "-1.5") (negsuc 1) 500_000_000).1 refl

written_quarter : IsNumberOf (codes "-0.25") (negsuc 0) 750_000_000
unfolding digits padded shortest_digits instant_number
written_quarter = (written_computed (negsuc 0) 750_000_000 (search rules) (search rules) (codes "-0.25")).1 refl

written_whole : IsNumberOf (codes "951778800") (pos 951_778_800) 0
unfolding digits padded shortest_digits instant_number
written_whole = (written_computed (pos 951_778_800) 0 (search rules) (search rules) (codes "951778800")).1 refl
