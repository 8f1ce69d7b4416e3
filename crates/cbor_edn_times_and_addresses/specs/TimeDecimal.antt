-- Decimals as `-0.25`, of instants.
use Rattle.std.specs.Prelude.{ℕ, ℤ, pos, ◌+◌, ◌-◌, ◌*◌, ◌<◌, ◌≤◌, ◌≡◌, ◌≢◌, ◌+ℤ◌, ◌*ℤ◌, List, [], ◌∷◌, ◌++◌, length, slice_index}
use Rattle.std.specs.Str.Parse.{AllDigits}
use Rattle.std.specs.Fmt.{decimal, signed_decimal}
use Rattle.cbor_edn_parts.specs.number.Number.{Sign, PlusSign, sign_text, signed}
use Rattle.cbor_edn_times_and_addresses.specs.Time.{number, nanoseconds_of, IsTimeStamp}

-- sign *DIGIT "." *9DIGIT, with a digit, as `-1.5`, `1.`, `.5`. The number is worth so many seconds and nanoseconds, exactly: `-1.5` is worth
-- -2 seconds and 500_000_000 nanoseconds.
pub record HasDecimal (text : List ℕ) (seconds : ℤ) (nanoseconds : ℕ) : Type 0 where
  pub sign : Sign
  pub whole : List ℕ
  pub fraction : List ℕ
  pub whole_is : AllDigits 10 whole
  pub fraction_is : AllDigits 10 fraction
  pub places_in : length fraction ≤ 9
  pub digit : whole ++ fraction ≢ []
  pub spelled : text ≡ sign_text sign ++ (whole ++ (46 ∷ fraction))
  pub nanoseconds_in : nanoseconds < 1_000_000_000
  pub worth : seconds *ℤ pos 1_000_000_000 +ℤ pos nanoseconds ≡ signed sign (number whole * 1_000_000_000 + nanoseconds_of fraction)

-- The number that stands for an instant: an integer, or a decimal without needless zeros, as `951778800` and `-0.25`.
pub data IsNumberOf (text : List ℕ) (seconds : ℤ) (nanoseconds : ℕ) : Type 0 where
  integer : nanoseconds ≡ 0 → text ≡ signed_decimal seconds → IsNumberOf text seconds nanoseconds
  pointed : (d : HasDecimal text seconds nanoseconds) → nanoseconds ≢ 0 → d.sign ≢ PlusSign → d.whole ≡ decimal (number d.whole)
      → slice_index d.fraction (length d.fraction - 1) ≢ 48 → IsNumberOf text seconds nanoseconds

-- The text is a decimal of an instant outside the years 0000 to 9999, as `253402300800.0`.
pub record IsOutOfRange (text : List ℕ) : Type 0 where
  pub seconds : ℤ
  pub nanoseconds : ℕ
  pub decimal_is : HasDecimal text seconds nanoseconds
  pub outside : ¬ IsTimeStamp seconds
