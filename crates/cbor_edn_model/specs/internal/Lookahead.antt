-- What begins at a place, by the grammar.
use Rattle.std.specs.Prelude.{ℕ, ◌≡◌, ◌≢◌, ◌≤◌, ◌<◌, ◌+◌, ◌-◌, cond, true, false, List, [], ◌∷◌, drop, Option, Some, None}
use Rattle.std.specs.Str.{IsCharBoundary}
use Rattle.cbor_edn_parts.specs.internal.LiteralTokens.{is_digit}
use Rattle.cbor_edn_model.specs.internal.BytesAt.{IsByteAt, IsNotAt, ahead}
use Rattle.cbor_edn_model.specs.internal.Reading.{begins_string, starts_string, keyword_at}
use Rattle.cbor_edn_model.specs.declared.text.lookahead.FormStart.{FormStart}
use Rattle.cbor_edn_model.specs.declared.text.lookahead.FormStart.TheVariants.{Array, Map, Stream, Keyword, String, Number}

abbrev pub Opens : List ℕ → ℕ → FormStart → Type 0
Opens text at Array = IsByteAt text at 91
Opens text at Map = IsByteAt text at 123
Opens text at Stream = IsByteAt text at 40
Opens text at (Keyword w to) = (keyword_at (drop at text) ≡ Some (w, drop to text)) × IsCharBoundary text to
Opens text at String = (keyword_at (drop at text) ≡ None) × (starts_string (drop at text) ≡ true)
Opens text at Number = IsNotAt 91 (drop at text) × IsNotAt 123 (drop at text) × IsNotAt 40 (drop at text) × (keyword_at (drop at text) ≡ None) × (starts_string (drop at text) ≡ false)

-- What the reads cost that tell it.
abbrev pub Looked : List ℕ → ℕ → ℕ → ℕ → FormStart → Type 0
Looked text at old new (Keyword w to) = (at < to) × (new + at ≡ old + to + 2)
Looked text at old new String = new ≤ old + ahead text at + 2
Looked text at old new Number = new ≤ old + ahead text at + 2
Looked text at old new o = new ≤ old + 2

-- the same of a byte that is no dot
abbrev pub OpensWith : ℕ → FormStart → Type 0
OpensWith c Array = c ≡ 91
OpensWith c Map = c ≡ 123
OpensWith c Stream = c ≡ 40
OpensWith c (Keyword w to) = ⊥
OpensWith c String = begins_string c ≡ true
OpensWith c Number = (c ≢ 91) × (c ≢ 123) × (c ≢ 40) × (begins_string c ≡ false)

-- the decimal digit that stands in front
abbrev pub digit_in_front : List ℕ → Option ℕ
digit_in_front [] = None
digit_in_front (c ∷ r) = cond (is_digit c) (Some (c - 48)) None
