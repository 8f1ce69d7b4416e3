-- A decimal of an instant, read from its bytes: its sign, then the digits on both sides of its point.
use Rattle.std.specs.Prelude.{ℕ, ◌<◌, ◌≤◌, ◌≡◌, ◌≢◌, min, List, [], ◌∷◌, ◌++◌, length, slice_index}
use Rattle.std.specs.Str.Parse.{AllDigits}
use Rattle.cbor_edn_times_and_addresses.specs.Time.{number, nanoseconds_of}

-- more seconds than any time stamp has
abbrev pub most_seconds : ℕ
most_seconds = 1_000_000_000_000

-- digits, a point and digits, with the seconds in front, counted so far, and the nanoseconds behind
pub record IsUnsigned (text : List ℕ) (seconds : ℕ) (nanoseconds : ℕ) : Type 0 where
  pub whole : List ℕ
  pub fraction : List ℕ
  pub whole_is : AllDigits 10 whole
  pub fraction_is : AllDigits 10 fraction
  pub places_in : length fraction ≤ 9
  pub digit : whole ++ fraction ≢ []
  pub spelled : text ≡ whole ++ (46 ∷ fraction)
  pub seconds_are : seconds ≡ min (number whole) most_seconds
  pub nanoseconds_are : nanoseconds ≡ nanoseconds_of fraction

-- the first point of a text
pub record IsFirstPoint (text : List ℕ) (i : ℕ) : Type 0 where
  pub within : i < length text
  pub point : slice_index text i ≡ 46
  pub before : (k : ℕ) → k < i → slice_index text k ≢ 46
