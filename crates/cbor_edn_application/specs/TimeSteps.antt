-- What the steps of a time's conversion answer.
use Rattle.std.specs.Prelude.{◌≡◌, ℕ, ℤ, Bool, true, List, Option, Some, Ok, Err, codes}
use Rattle.cbor_edn_parts.specs.declared.base.indicator.Indicator.{Indicator}
use Rattle.cbor_edn_times_and_addresses.specs.Time.{IsTimeStamp}
use Rattle.cbor_edn_times_and_addresses.specs.internal.TimeComputing.{time_text}
use Rattle.cbor_edn_times_and_addresses.specs.declared.time.number.NotTime.{NotTime}
use Rattle.cbor_edn_times_and_addresses.specs.declared.time.number.NotTime.TheVariants.{Unreadable, OutOfRange}
use Rattle.cbor_edn_conversions.specs.Conversions.{Conversion, Message, is_shortest, argument, literal_tree}
use Rattle.cbor_edn_conversions.specs.Times.{time_prefix, decimal_instant, instant_literal}

-- what an item becomes, in tag 1 or alone
abbrev pub Converted : Type 0
Converted = Bool → Conversion

-- It becomes the literal of this instant.
pub record BecomesTime (f : Converted) (seconds : ℤ) (nanoseconds : ℕ) : Type 0 where
  pub stamp : IsTimeStamp seconds
  pub literal : (wrap : Bool) → f wrap ≡ Ok (literal_tree (time_prefix wrap) (time_text seconds nanoseconds))

-- It stays, for this reason.
abbrev pub StaysFor : Converted → Message → Type 0
StaysFor f e = (wrap : Bool) → f wrap ≡ Err e

-- an integer with this indicator
abbrev pub integer_literal : ℤ → Option Indicator → Converted
integer_literal z i wrap = instant_literal wrap (is_shortest i (argument z)) (Some (z, 0))

-- a number that is no integer
abbrev pub decimal_literal : List ℕ → Option Indicator → Converted
decimal_literal x i wrap = instant_literal wrap true (decimal_instant i x)

abbrev pub not_time_message : NotTime → Message
not_time_message Unreadable = codes "Number not readable as a time"
not_time_message OutOfRange = codes "Value out of range for time stamps"
