-- Laws of time texts.
use Rattle.std.specs.Prelude.{ℕ, ℤ, ◌<◌, ◌^◌, ◌≡◌, ◌≢◌, ◌↔◌, unsigned_abs, List, Option, Some, IfSome, IsNone}
use Rattle.cbor_edn_parts.specs.number.Number.{IsDecimalNumber, HasInteger}
use Rattle.cbor_edn_times_and_addresses.specs.Time.{HasInstant, IsTimeStamp, IsPrinted}
use Rattle.cbor_edn_times_and_addresses.specs.TimeDecimal.{HasDecimal, IsNumberOf}
use Rattle.cbor_edn_times_and_addresses.specs.internal.TimeComputing.{instant_of, decimal_of, time_text, instant_number}

-- A text has one instant at most.
abbrev pub OneInstant : List ℕ → Type 0
OneInstant text = (r s : ℤ) (m n : ℕ) → HasInstant text r m → HasInstant text s n → (r ≡ s) × (m ≡ n)

-- A decimal is of one instant at most.
abbrev pub OneDecimal : List ℕ → Type 0
OneDecimal text = (r s : ℤ) (m n : ℕ) → HasDecimal text r m → HasDecimal text s n → (r ≡ s) × (m ≡ n)

-- What an instant is printed as has this instant and no other.
abbrev pub ReadsBack : List ℕ → Type 0
ReadsBack text = (r s : ℤ) (m n : ℕ) → IsPrinted text r m → HasInstant text r m × (HasInstant text s n → (s ≡ r) × (n ≡ m))

-- The instants of the years 0000 to 9999, and no others, are printed as a text, and as one alone.
pub record PrintedAs (seconds : ℤ) (nanoseconds : ℕ) : Type 0 where
  pub some : IsTimeStamp seconds × (nanoseconds < 1_000_000_000) → (text : List ℕ) × IsPrinted text seconds nanoseconds
  pub only : (text : List ℕ) → IsPrinted text seconds nanoseconds → IsTimeStamp seconds × (nanoseconds < 1_000_000_000)
  pub one : (t u : List ℕ) → IsPrinted t seconds nanoseconds → IsPrinted u seconds nanoseconds → t ≡ u

-- A decimal of an instant is a number of the grammar, a decnumber.
abbrev pub DecimalIsNumber : List ℕ → Type 0
DecimalIsNumber text = (seconds : ℤ) (nanoseconds : ℕ) → HasDecimal text seconds nanoseconds → IsDecimalNumber text

-- An instant is written as one number: an integer literal of its seconds, or a decimal that stands for it.
pub record WrittenAs (seconds : ℤ) (nanoseconds : ℕ) : Type 0 where
  pub one : (t u : List ℕ) → IsNumberOf t seconds nanoseconds → IsNumberOf u seconds nanoseconds → t ≡ u
  pub whole : (t : List ℕ) → IsNumberOf t seconds nanoseconds → nanoseconds ≡ 0 → unsigned_abs seconds < 2 ^ 64 → HasInteger t seconds
  pub back : (t : List ℕ) → IsNumberOf t seconds nanoseconds → nanoseconds ≢ 0 → HasDecimal t seconds nanoseconds

-- The reader that computes gives the instant of a text, and none where it has none.
abbrev pub InstantComputed : List ℕ → Type 0
InstantComputed text = (seconds : ℤ) (nanoseconds : ℕ) → HasInstant text seconds nanoseconds ↔ (instant_of text ≡ Some (seconds, nanoseconds))

-- The same of decimals.
abbrev pub DecimalComputed : List ℕ → Type 0
DecimalComputed text = (seconds : ℤ) (nanoseconds : ℕ) → HasDecimal text seconds nanoseconds ↔ (decimal_of text ≡ Some (seconds, nanoseconds))

-- An answer that is the instant of the text, or none where it has none, is what the reader computes.
abbrev pub InstantAnswered : List ℕ → Type 0
InstantAnswered text = (r : Option (ℤ × ℕ)) → IfSome r (λ p. HasInstant text p.0 p.1)
    → (IsNone r → (seconds : ℤ) (nanoseconds : ℕ) → ¬ HasInstant text seconds nanoseconds) → instant_of text ≡ r

abbrev pub DecimalAnswered : List ℕ → Type 0
DecimalAnswered text = (r : Option (ℤ × ℕ)) → IfSome r (λ p. HasDecimal text p.0 p.1)
    → (IsNone r → (seconds : ℤ) (nanoseconds : ℕ) → ¬ HasDecimal text seconds nanoseconds) → decimal_of text ≡ r

-- The writer that computes gives the text of an instant, and no other is,
abbrev pub PrintedComputed : ℤ → ℕ → Type 0
PrintedComputed seconds nanoseconds = IsTimeStamp seconds → nanoseconds < 1_000_000_000
    → (text : List ℕ) → IsPrinted text seconds nanoseconds ↔ (text ≡ time_text seconds nanoseconds)

-- and its number.
abbrev pub WrittenComputed : ℤ → ℕ → Type 0
WrittenComputed seconds nanoseconds = unsigned_abs seconds < 2 ^ 63 → nanoseconds < 1_000_000_000
    → (text : List ℕ) → IsNumberOf text seconds nanoseconds ↔ (text ≡ instant_number seconds nanoseconds)
