-- Readers and writers of times and of their numbers that compute.
use Rattle.std.specs.Prelude.{ℕ, zero, suc, ℤ, pos, negsuc, neg_ℤ, codes, unsigned_abs, nat_lt, nat_le, ◌==◌, ◌&&◌, ◌||◌, ◌+◌, ◌-◌, ◌*◌, ◌/◌, ◌%◌, ◌+ℤ◌, ◌-ℤ◌, ◌*ℤ◌, Bool, true, if◌then◌else◌, List, [], ◌∷◌, ◌++◌, length, take, drop, slice_index, Option, Some, None}
use Rattle.std.specs.Char.{digit_value}
use Rattle.std.specs.Fmt.{decimal, signed_decimal}
use Rattle.std.specs.Int.{int_div_euclid, int_rem_euclid}
use Rattle.jiff_core.specs.Calendar.{days_in_month}
use Rattle.jiff_core.specs.March.{march_days, march_months}
use Rattle.cbor_edn_times_and_addresses.specs.Time.{number, nanoseconds_of}
use Rattle.cbor_edn_parts.specs.number.Number.{Sign, signed}
use Rattle.cbor_edn_parts.specs.internal.NumberReading.{sign_of, without_sign}
use Rattle.cbor_edn_times_and_addresses.specs.internal.TimeReading.{offset_length}
use Rattle.cbor_edn_times_and_addresses.specs.internal.TimeWriting.{padded, date_text, clock_text, fraction_text}
pub use Rattle.cbor_edn_parts.specs.base.Options.{◌>>=◌}

-- ---- the instant of a text

abbrev pub all_digits : List ℕ → Bool
all_digits [] = true
all_digits (c ∷ t) = nat_lt (digit_value c) 10 && all_digits t

-- the day number of a day, by years that begin in March
unfoldable pub day_number_of : ℕ → ℕ → ℕ → ℤ
day_number_of y m d =
    if nat_le m 2 then pos (march_days (y + 9_999) + march_months (m + 12) + d + 59) -ℤ pos 4_371_953
    else pos (march_days (y + 10_000) + march_months m + d + 59) -ℤ pos 4_371_953

abbrev pub is_day : ℕ → ℕ → ℕ → Bool
is_day y m d = nat_le 1 m && nat_le m 12 && nat_le 1 d && nat_le d (days_in_month (pos y) m)

unfoldable pub day_of : ℕ → ℕ → ℕ → Option ℤ
day_of y m d = if is_day y m d then Some (day_number_of y m d) else None

abbrev pub is_date : List ℕ → Bool
is_date t = (length t == 10) && (slice_index t 4 == 45) && (slice_index t 7 == 45) && all_digits (take 4 t) && all_digits (take 2 (drop 5 t)) && all_digits (drop 8 t)

unfoldable pub date_of : List ℕ → Option ℤ
date_of t = if is_date t then day_of (number (take 4 t)) (number (take 2 (drop 5 t))) (number (drop 8 t)) else None

abbrev pub is_hour_minute : List ℕ → Bool
is_hour_minute t = (length t == 5) && (slice_index t 2 == 58) && all_digits (take 2 t) && all_digits (drop 3 t) && nat_lt (number (take 2 t)) 24 && nat_lt (number (drop 3 t)) 60

unfoldable pub minutes_of : List ℕ → Option ℕ
minutes_of t = if is_hour_minute t then Some (60 * number (take 2 t) + number (drop 3 t)) else None

abbrev pub ends_in_seconds : List ℕ → Bool
ends_in_seconds t = (length t == 8) && (slice_index t 5 == 58) && all_digits (drop 6 t) && nat_lt (number (drop 6 t)) 60

unfoldable pub clock_of : List ℕ → Option ℕ
clock_of t = if ends_in_seconds t then (minutes_of (take 5 t) >>= λ m. Some (60 * m + number (drop 6 t))) else None

unfoldable pub fraction_of : List ℕ → Option ℕ
fraction_of [] = Some 0
fraction_of (c ∷ ds) = if (c == 46) && all_digits ds && nat_le 1 (length ds) && nat_le (length ds) 9 then Some (nanoseconds_of ds) else None

unfoldable pub offset_of : List ℕ → Option ℤ
offset_of t =
    if (length t == 1) && ((slice_index t 0 == 90) || (slice_index t 0 == 122)) then Some (pos 0)
    else if slice_index t 0 == 43 then (minutes_of (drop 1 t) >>= λ m. Some (pos (60 * m)))
    else if slice_index t 0 == 45 then (minutes_of (drop 1 t) >>= λ m. Some (neg_ℤ (pos (60 * m))))
    else None

unfoldable pub tail_of : List ℕ → Option (ℕ × ℤ)
tail_of t = fraction_of (take (length t - offset_length t) t) >>= λ n. offset_of (drop (length t - offset_length t) t) >>= λ z. Some (n, z)

abbrev pub is_split : List ℕ → Bool
is_split t = nat_le 20 (length t) && ((slice_index t 10 == 84) || (slice_index t 10 == 116))

-- The instant of a time text: its seconds and its nanoseconds.
unfoldable pub instant_of : List ℕ → Option (ℤ × ℕ)
instant_of t =
    if is_split t
    then (date_of (take 10 t) >>= λ z. clock_of (take 8 (drop 11 t)) >>= λ c. tail_of (drop 19 t) >>= λ p. Some (z *ℤ pos 86_400 +ℤ pos c -ℤ p.1, p.0))
    else None

-- ---- the text of an instant

-- the year that begins in March, by the days since the first 1 March of the year -10000, and the day in it
unfoldable pub march_year : ℕ → ℕ
march_year k = 100 * ((4 * k + 3) / 146_097) + ((4 * k + 3) % 146_097 / 4 * 4 + 3) / 1_461

unfoldable pub march_day : ℕ → ℕ
march_day k = ((4 * k + 3) % 146_097 / 4 * 4 + 3) % 1_461 / 4

-- its month, 13 and 14 for January and February
abbrev pub month_of : ℕ → ℕ
month_of r = (5 * r + 461) / 153

abbrev pub day_in : ℕ → ℕ
day_in r = (5 * r + 461) % 153 / 5 + 1

abbrev pub march_date_text : ℕ → ℕ → List ℕ
march_date_text y r =
    if nat_lt 12 (month_of r) then date_text (y + 1 - 10_000) (month_of r - 12) (day_in r)
    else date_text (y - 10_000) (month_of r) (day_in r)

-- so many seconds behind the beginning of the year 0
unfoldable pub time_text_from : ℕ → ℕ → List ℕ
time_text_from k n =
    march_date_text (march_year (k / 86_400 + 3_652_365)) (march_day (k / 86_400 + 3_652_365)) ++ (84 ∷ (clock_text (k % 86_400) ++ (fraction_text n ++ codes "+00:00")))

-- The text that an instant of the years 0000 to 9999 is printed as.
abbrev pub time_text : ℤ → ℕ → List ℕ
time_text seconds nanoseconds = time_text_from (unsigned_abs (seconds +ℤ pos 62_167_219_200)) nanoseconds

-- ---- the instant of a decimal

-- what stands before the first point, and behind it, if there is one
abbrev pub cut_at_point : List ℕ → List ℕ × Option (List ℕ)
cut_at_point [] = ([], None)
cut_at_point (c ∷ t) = if c == 46 then ([], Some t) else (c ∷ (cut_at_point t).0, (cut_at_point t).1)

-- seconds and nanoseconds, rounded down, of so many nanoseconds
abbrev pub floored : ℤ → ℤ × ℕ
floored z = (int_div_euclid z (pos 1_000_000_000), unsigned_abs (int_rem_euclid z (pos 1_000_000_000)))

abbrev pub are_parts : List ℕ → List ℕ → Bool
are_parts whole fraction = all_digits whole && all_digits fraction && nat_le (length fraction) 9 && nat_lt 0 (length whole + length fraction)

abbrev pub decimal_by : Sign → List ℕ → Option (List ℕ) → Option (ℤ × ℕ)
decimal_by sign whole None = None
decimal_by sign whole (Some fraction) =
    if are_parts whole fraction then Some (floored (signed sign (number whole * 1_000_000_000 + nanoseconds_of fraction))) else None

-- The seconds and nanoseconds of a decimal with a point.
unfoldable pub decimal_of : List ℕ → Option (ℤ × ℕ)
decimal_of t = decimal_by (sign_of t) (cut_at_point (without_sign t)).0 (cut_at_point (without_sign t)).1

-- ---- the number of an instant

-- the last digits of a number, so many, without the zeros at their end
unfoldable pub shortest_digits : ℕ → ℕ → List ℕ
shortest_digits zero n = []
shortest_digits (suc k) n = if n % 10 == 0 then shortest_digits k (n / 10) else padded (suc k) n

abbrev pub pointed_text : ℤ → ℕ → List ℕ
pointed_text (pos w) n = decimal w ++ (46 ∷ shortest_digits 9 n)
pointed_text (negsuc w) n = 45 ∷ (decimal w ++ (46 ∷ shortest_digits 9 (1_000_000_000 - n)))

-- The number that stands for an instant.
unfoldable pub instant_number : ℤ → ℕ → List ℕ
instant_number seconds nanoseconds = if nanoseconds == 0 then signed_decimal seconds else pointed_text seconds nanoseconds
