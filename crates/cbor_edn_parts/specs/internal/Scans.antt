-- How a scan's result stands to the tokens of a text, and what it costs in reads.
use Rattle.std.specs.Prelude.{ℕ, ◌+◌, ◌*◌, ◌≡◌, ◌≤◌, ◌<◌, List, [], ◌∷◌, length, drop, slice_range, Option, Some, None, IfSome, MatchOption, Result, Ok, Err, MatchResult}
use Rattle.std.specs.Str.{IsCharBoundary}
use Rattle.cbor_edn_parts.specs.declared.base.error.ParseErrorKind.TheVariants.{Invalid}
use Rattle.cbor_edn_parts.specs.declared.base.error.Refusal.{Refusal}
use Rattle.cbor_edn_parts.specs.internal.Lex.{Automaton, front, munch}

-- what stands at this place: nothing, or this byte
abbrev pub IsAt : List ℕ → ℕ → Option ℕ → Type 0
IsAt text at byte = MatchOption byte (drop at text ≡ []) (λ c. (drop at text ≡ c ∷ drop (at + 1) text) × (at < length text))

-- The byte at a place is read. A character begins there or the text ends, and behind a byte of ASCII the next character begins.
pub record IsRead (text : List ℕ) (at : ℕ) (byte : Option ℕ) : Type 0 where
  pub place : IsCharBoundary text at
  pub here : IsAt text at byte
  pub behind : IfSome byte (λ c. c < 128 → IsCharBoundary text (at + 1))

-- A scan that stands at `from` in the state m comes to `at` in the state n.
pub record Comes {State : Type 0} (T : Automaton State) (text : List ℕ) (m : State) (from : ℕ) (n : State) (at : ℕ) : Type 0 where
  pub order : from ≤ at
  pub reads : munch T m (drop from text) ≡ front (slice_range text from at) (munch T n (drop at text))

-- Up to the place of a byte that is read stands what the automaton takes; a refusal says that it takes nothing.
abbrev pub Ends : List ℕ → ℕ → Result (Option ℕ × ℕ) Refusal → Option (List ℕ × List ℕ) → Type 0
Ends text from (Ok p) read = IsRead text p.1 p.0 × (read ≡ Some (slice_range text from p.1, drop p.1 text))
Ends text from (Err r) read = (read ≡ None) × (r.kind ≡ Invalid)

-- A scanned token, seen by `view`, and the place behind it are what the automaton takes; a refusal says that it takes nothing.
abbrev pub Scans : {X : Type 0} → (X → List ℕ) → List ℕ → Result (X × ℕ) Refusal → Option (List ℕ × List ℕ) → Type 0
Scans view text (Ok p) read = read ≡ Some (view p.0, drop p.1 text)
Scans view text (Err r) read = (read ≡ None) × (r.kind ≡ Invalid)

-- A place behind is one where a character begins, and so is that of a refusal.
abbrev pub ScanLands : {X : Type 0} → List ℕ → ℕ → Result (X × ℕ) Refusal → Type 0
ScanLands text at r = MatchResult r (λ p. (at ≤ p.1) × IsCharBoundary text p.1) (λ e. IsCharBoundary text e.offset)

-- At most `rate` reads a byte and k more, and at least one read a byte; where it is refused, at most `failed` more than for the
-- rest of the text, and the count never falls.
abbrev pub Costs : {X E : Type 0} → ℕ → ℕ → ℕ → List ℕ → ℕ → ℕ → ℕ → Result (X × ℕ) E → Type 0
Costs rate k failed text at old new r = MatchResult r
    (λ p. (new + rate * at ≤ old + rate * p.1 + k) × (old + p.1 ≤ new + at))
    (λ _. (new + rate * at ≤ old + rate * length text + failed) × (old ≤ new))
