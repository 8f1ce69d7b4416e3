-- How far the scan of a number has come.
use Rattle.std.specs.Prelude.{ℕ, ◌≡◌, ◌≤◌, Bool, true, List, Option, Some, None}
use Rattle.cbor_edn_parts.specs.base.Bytes.{kind, follows}
use Rattle.cbor_edn_parts.specs.internal.NumberTokens.{number}
use Rattle.cbor_edn_parts.specs.internal.Scans.{IsRead, Comes}
use Rattle.cbor_edn_parts.specs.declared.number.NumberState.TheVariants.{Start, AfterZero}
use Rattle.cbor_edn_parts.specs.declared.number.start.NumberStart.{NumberStart}

-- The scan that began at a place has come so far.
pub record IsStart (text : List ℕ) (from : ℕ) (s : NumberStart) : Type 0 where
  pub comes : Comes number text Start from s.state s.at
  pub read : IsRead text s.at s.next

-- All digits that stand there are passed, but behind a zero, where no number has one.
abbrev pub IsPastDigits : NumberStart → Type 0
IsPastDigits s = (c : ℕ) → s.next ≡ Some c → 48 ≤ c → c ≤ 57 → s.state ≡ AfterZero

-- whether nothing is there, or a byte that may stand behind an item
abbrev pub follows_at : Option ℕ → Bool
follows_at None = true
follows_at (Some c) = follows (kind c)
