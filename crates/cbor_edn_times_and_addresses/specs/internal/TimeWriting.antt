-- The parts of a printed time by their numbers.
use Rattle.std.specs.Prelude.{◌≡◌, ◌≢◌, ◌≤◌, ◌-◌, length, slice_index, ℕ, zero, suc, ◌+◌, ◌/◌, ◌%◌, ◌==◌, if◌then◌else◌, List, [], ◌∷◌, ◌++◌}
use Rattle.std.specs.List.{range_with_len}
use Rattle.std.specs.Str.Parse.{AllDigits}
use Rattle.cbor_edn_times_and_addresses.specs.Time.{nanoseconds_of}

-- the last digits of a number, so many
unfoldable pub padded : ℕ → ℕ → List ℕ
padded zero n = []
padded (suc k) n = padded k (n / 10) ++ (48 + n % 10) ∷ []

-- these numbers in two digits each
abbrev pub paired : List ℕ → List ℕ
paired [] = []
paired (n ∷ ns) = padded 2 n ++ paired ns

unfoldable pub pairs : List ℕ
pairs = paired (range_with_len 0 100)

abbrev pub date_text : ℕ → ℕ → ℕ → List ℕ
date_text year month day = padded 4 year ++ (45 ∷ (padded 2 month ++ (45 ∷ padded 2 day)))

abbrev pub hour_minute_text : ℕ → List ℕ
hour_minute_text minutes = padded 2 (minutes / 60) ++ (58 ∷ padded 2 (minutes % 60))

abbrev pub clock_text : ℕ → List ℕ
clock_text seconds = hour_minute_text (seconds / 60) ++ (58 ∷ padded 2 (seconds % 60))

abbrev pub fraction_text : ℕ → List ℕ
fraction_text n =
    if n == 0 then []
    else if n % 1_000_000 == 0 then 46 ∷ padded 3 (n / 1_000_000)
    else if n % 1_000 == 0 then 46 ∷ padded 6 (n / 1_000) else 46 ∷ padded 9 n

-- the fewest digits behind a point that write these nanoseconds
pub record AreShortest (ds : List ℕ) (nanoseconds : ℕ) : Type 0 where
  pub digits : AllDigits 10 ds
  pub places : length ds ≤ 9
  pub value : nanoseconds ≡ nanoseconds_of ds
  pub last : slice_index ds (length ds - 1) ≢ 48

-- and a text in front of them
pub record GetsFraction (front text : List ℕ) (nanoseconds : ℕ) : Type 0 where
  pub digits : List ℕ
  pub digits_are : AreShortest digits nanoseconds
  pub spelled : text ≡ front ++ digits
