-- How the places of the program's reader, which count bytes of a text, are those of `Places`.
use Rattle.std.specs.Prelude.{ℕ, ◌+◌, ◌≡◌, ◌≤◌, ◌<◌, List, length, slice_index, slice_range, Option, Some, None, IfSome}
use Rattle.std.specs.Str.{IsCharBoundary}
use Rattle.cbor_edn_paths.specs.Steps as spec
use Rattle.cbor_edn_paths.specs.Views as views
use Rattle.cbor_edn_paths.specs.internal.Places as places
use Rattle.cbor_edn_paths.specs.declared.step.Key.{Key}
use Rattle.cbor_edn_paths.specs.declared.step.Step.{Step}
use Rattle.cbor_edn_paths.specs.declared.place.Place.{Place}
use Rattle.cbor_edn_paths.specs.declared.place.Place.TheVariants as place
use Rattle.cbor_edn_paths.specs.declared.place.Outcome.{Outcome}
use Rattle.cbor_edn_paths.specs.declared.place.Outcome.TheVariants as outcome

abbrev pub key_of : Key → spec.Key
key_of k = views.key_of k

abbrev pub step_of : Step → spec.Step spec.Key
step_of s = views.step_of s

-- in front of this byte of the text
abbrev pub place_at : List ℕ → ℕ → Place → places.Place
place_at text at place.Start = places.Start
place_at text at place.Root = places.Root
place_at text at place.Dot = places.Dot
place_at text at (place.InName from) = places.InName (slice_range text from at)
place_at text at (place.InQuotes from) = places.InQuotes (slice_range text from at)
place_at text at (place.Escaped from) = places.Escaped (slice_range text from at)
place_at text at (place.InBraces from m d) = places.InBraces (slice_range text from at) m d
place_at text at (place.BehindKey k) = places.BehindKey (key_of k)
place_at text at (place.Tilde k) = places.Tilde (key_of k)
place_at text at (place.Occurrence k n) = places.Occurrence (key_of k) n
place_at text at place.StartSign = places.StartSign
place_at text at (place.StartNumber n) = places.StartNumber n
place_at text at (place.Opened b) = places.Opened b
place_at text at (place.Digits b n) = places.Digits b n
place_at text at place.Plus = places.Plus
place_at text at place.Closed = places.Closed

abbrev pub outcome_of : Outcome → places.Outcome
outcome_of outcome.Nothing = places.Nothing
outcome_of (outcome.Begun n) = places.Begun n
outcome_of (outcome.Ended s) = places.Ended (step_of s)

abbrev pub IsMove : List ℕ → ℕ → Option (Outcome × Place) → places.Move → Type 0
IsMove text at None m = m ≡ None
IsMove text at (Some p) m = m ≡ Some (outcome_of p.0, place_at text at p.1)

-- the byte stands there, and behind a byte of ASCII a character begins
pub record Stands (text : List ℕ) (at byte : ℕ) : Type 0 where
  pub there : at < length text
  pub is : slice_index text at ≡ byte
  pub before : byte < 128 → IsCharBoundary text at
  pub behind : byte < 128 → IsCharBoundary text (at + 1)

-- what is read began with a character, and not behind this place; no more braces are open than bytes are read
abbrev pub IsHere : List ℕ → ℕ → Place → Type 0
IsHere text at place.Root = IsCharBoundary text at
IsHere text at place.Dot = IsCharBoundary text at
IsHere text at (place.InName from) = (from ≤ at) × IsCharBoundary text from
IsHere text at (place.InQuotes from) = (from ≤ at) × IsCharBoundary text from
IsHere text at (place.Escaped from) = (from ≤ at) × IsCharBoundary text from
IsHere text at (place.InBraces from m d) = (from ≤ at) × IsCharBoundary text from × (d ≤ at)
IsHere text at p = Unit {0}

abbrev pub WillBeHere : List ℕ → ℕ → Option (Outcome × Place) → Type 0
WillBeHere text at r = IfSome r (λ p. IsHere text at p.1)
