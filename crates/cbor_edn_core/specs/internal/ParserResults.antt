-- How a result of the parser stands to what the reader on lists gives.
use Rattle.std.specs.Prelude.{ℕ, ◌+◌, ◌*◌, ◌≡◌, ◌≢◌, ◌≤◌, ◌<◌, true, false, cond, List, [], ◌∷◌, ◌++◌, length, drop, Result, Ok, Err}
use Rattle.std.specs.Str.{IsCharBoundary}
use Rattle.cbor_edn_parts.specs.declared.base.error.ParseErrorKind.{ParseErrorKind}
use Rattle.cbor_edn_parts.specs.declared.base.error.Refusal.{Refusal}
use Rattle.cbor_edn_parts.specs.declared.base.error.Fault.{Fault}
use Rattle.cbor_edn_parts.specs.declared.base.error.Fault.TheVariants.{Memory, Told}
use Rattle.cbor_edn_parts.specs.base.Bytes.{is_closed}
use Rattle.cbor_edn_parts.specs.Leaves.{separator_bytes, list_end_bytes, BorrowsSeparator, BorrowsListEnd}
use Rattle.cbor_edn_parts.specs.declared.space.Separator.{Separator}
use Rattle.cbor_edn_parts.specs.declared.space.ListEnd.{ListEnd}
use Rattle.cbor_edn_parts.specs.declared.space.read.ItemEnd.{ItemEnd}
use Rattle.cbor_edn_parts.specs.internal.Ends.{IsEnd, reached}
use Rattle.cbor_edn_parts.specs.internal.SpaceTokens.{space, separator}
use Rattle.cbor_edn_model.specs.tree.Items.{Row, Elements, Pairs, Strings}
use Rattle.cbor_edn_model.specs.tree.Trees.{Tree, OneItem, OneEntry, PairTree, ElementTree, ChunkTree}
use Rattle.cbor_edn_core.specs.tree.View.{Item, item_tree, view_string}
use Rattle.cbor_edn_model.specs.tree.TreeLeaves.{texts}
use Rattle.cbor_edn_core.specs.declared.text.grammar.entries.Behind.{Behind}
use Rattle.cbor_edn_core.specs.declared.text.grammar.entries.Behind.TheVariants.{Last, More}
use Rattle.cbor_edn_core.specs.declared.tree.CborStringOf.{CborStringOf}
use Rattle.cbor_edn_parts.specs.declared.space.Space.{Space}
use Rattle.cbor_edn_parts.specs.declared.space.MandatorySpace.{MandatorySpace}
use Rattle.cbor_edn_parts.specs.declared.number.Number.{Number}
use Rattle.cbor_edn_parts.specs.declared.string.Literal.{Literal}
use Rattle.cbor_edn_parts.specs.declared.string.Ellipsis.{Ellipsis}
use Rattle.cbor_edn_model.specs.internal.LookCosts.{separator_extra}
use Rattle.cbor_edn_model.specs.internal.BytesAt.{IsNotAt, ahead}
use Rattle.cbor_edn_model.specs.internal.Results.{◌>>=◌, FailsBy, GivesBy}
use Rattle.cbor_edn_model.specs.internal.Reading.{Read, token, not_empty, reads}

-- The refusal is the reader's, unless memory ran out.
abbrev pub Fails : {Y : Type 0} → Fault Refusal → Result Y ParseErrorKind → Type 0
Fails = FailsBy (λ r. r.kind)

-- A value, seen by `view`, and the place behind it are what the reader gives.
abbrev pub Reads : {X Y : Type 0} → (X → Y) → List ℕ → Result (X × ℕ) (Fault Refusal) → Read Y → Type 0
Reads view text (Ok p) read = read ≡ Ok (view p.0, drop p.1 text)
Reads view text (Err e) read = Fails e read

-- The same of a value with nothing behind it.
abbrev pub Gives : {X Y : Type 0} → (X → Y) → Result X (Fault Refusal) → Result Y ParseErrorKind → Type 0
Gives = GivesBy (λ r. r.kind)

-- A refusal names a place where a character begins.
abbrev pub IsPlaced : List ℕ → Fault Refusal → Type 0
IsPlaced text (Memory e) = Unit {0}
IsPlaced text (Told r) = IsCharBoundary text r.offset

-- The place behind is one where a character begins, and so is that of a refusal.
abbrev pub Lands : {X : Type 0} → List ℕ → ℕ → Result (X × ℕ) (Fault Refusal) → Type 0
Lands text at (Ok p) = (at ≤ p.1) × IsCharBoundary text p.1
Lands text at (Err e) = IsPlaced text e

-- Of a value whose end comes with the space behind it, where that is read: what the reader gives, where the place behind stands,
-- and what the reads cost up to the place that is reached. Where it is refused, the count never falls.
abbrev pub ReadsEnd : {X Y : Type 0} → (X → Y) → List ℕ → Result (X × ItemEnd) (Fault Refusal) → Read Y → Type 0
ReadsEnd view text (Ok p) read = read ≡ Ok (view p.0, drop p.1.at text)
ReadsEnd view text (Err e) read = Fails e read

abbrev pub LandsEnd : {X : Type 0} → List ℕ → ℕ → Result (X × ItemEnd) (Fault Refusal) → Type 0
LandsEnd text at (Ok p) = (at ≤ p.1.at) × (p.1.at ≤ reached p.1) × IsEnd text p.1
LandsEnd text at (Err e) = IsPlaced text e

abbrev pub CostsEnd : {X E : Type 0} → ℕ → ℕ → ℕ → List ℕ → ℕ → ℕ → ℕ → Result (X × ItemEnd) E → Type 0
CostsEnd rate k failed text at old new (Ok p) = (new + rate * at + p.1.at ≤ old + rate * p.1.at + reached p.1 + k) × (old + reached p.1 ≤ new + at)
CostsEnd rate k failed text at old new (Err e) = (new + rate * at ≤ old + rate * length text + failed) × (old ≤ new)

-- Of what may have been taken for a keyword: the reads for that come on top.
abbrev pub CostsEndAhead : {X E : Type 0} → ℕ → ℕ → ℕ → List ℕ → ℕ → ℕ → ℕ → Result (X × ItemEnd) E → Type 0
CostsEndAhead rate k failed text at old new (Ok p) = (new + ahead text at + rate * at + p.1.at ≤ old + rate * p.1.at + reached p.1 + k) × (old + reached p.1 ≤ new + at)
CostsEndAhead rate k failed text at old new (Err e) = (new + ahead text at + rate * at ≤ old + rate * length text + failed) × (old ≤ new)

abbrev pub CostsAhead : {X E : Type 0} → ℕ → ℕ → ℕ → List ℕ → ℕ → ℕ → ℕ → Result (X × ℕ) E → Type 0
CostsAhead rate k failed text at old new (Ok p) = (new + ahead text at + rate * at ≤ old + rate * p.1 + k) × (old + p.1 ≤ new + at)
CostsAhead rate k failed text at old new (Err e) = (new + ahead text at + rate * at ≤ old + rate * length text + failed) × (old ≤ new)

-- An entry was set behind the others, with a separator of this text.
pub record IsPushed {T : Type 0} (old new : List (T × Separator)) (entry : T) (list_end : ListEnd) : Type 0 where
  pub separator : Separator
  pub items : new ≡ old ++ (entry, separator) ∷ []
  pub same : separator_bytes separator ≡ list_end_bytes list_end
  pub not_empty : list_end_bytes list_end ≢ []
  pub borrowed : BorrowsListEnd list_end → BorrowsSeparator separator

-- No `>>` stands in front.
abbrev pub IsUnclosed : List ℕ → Type 0
IsUnclosed [] = Unit {0}
IsUnclosed (c ∷ cs) = (c ≡ 62) → IsNotAt 62 cs

-- what is read behind the colon, for a key and the space behind it
abbrev pub behind_colon : ℕ → Tree OneItem → List ℕ → List ℕ → Read (Tree (OneEntry Pairs))
behind_colon limit v s xs = token space xs >>= λ t. reads limit OneItem t.1 >>= λ w. Ok (PairTree v s t.0 w.0, w.1)

-- an entry with the separator behind it
abbrev pub with_separator : ℕ → (k : Row) → List ℕ → Read (Tree (OneEntry k) × List ℕ)
with_separator limit k xs = reads limit (OneEntry k) xs >>= λ e. token separator e.1 >>= λ s. Ok ((e.0, s.0), s.1)

abbrev pub element_tree : Item → Tree (OneEntry Elements)
element_tree x = ElementTree (item_tree x)

abbrev pub chunk_tree : CborStringOf Space MandatorySpace Separator ListEnd Number Literal Ellipsis → Tree (OneEntry Strings)
chunk_tree x = ChunkTree (view_string texts x)

-- The same three of what stands behind an entry: its separator, and how little that costs.
abbrev pub ReadsSeparator : {X : Type 0} → List ℕ → Result (X × ListEnd × ℕ) (Fault Refusal) → ℕ → Type 0
ReadsSeparator text (Ok p) at = token separator (drop at text) ≡ Ok (list_end_bytes p.1, drop p.2 text)
ReadsSeparator text (Err e) at = Fails e (token separator (drop at text))

abbrev pub LandsSeparator : {X : Type 0} → List ℕ → ℕ → Result (X × ListEnd × ℕ) (Fault Refusal) → Type 0
LandsSeparator text at (Ok p) = (at + length (list_end_bytes p.1) ≤ p.2) × IsCharBoundary text p.2
LandsSeparator text at (Err e) = IsPlaced text e

abbrev pub CostsSeparator : {X E : Type 0} → List ℕ → ℕ → ℕ → ℕ → Result (X × ListEnd × ℕ) E → Type 0
CostsSeparator text at old new (Ok p) = (new + at ≤ old + p.2 + separator_extra) × (old + p.2 ≤ new + at)
CostsSeparator text at old new (Err e) = (new + at ≤ old + length text + separator_extra) × (old ≤ new)

-- a separator in front of an entry, with the text behind it: not an empty one
abbrev pub filled : List ℕ × List ℕ → Read (List ℕ)
filled s = not_empty s.0 >>= λ c. Ok (c, s.1)

-- what stands behind an entry: the end of its row, or a separator in front of another one
abbrev pub parted : List ℕ → Read (List ℕ)
parted xs = token separator xs >>= λ s. cond (is_closed s.1) (Ok s) (filled s)

-- These three of a separator with the read behind it, by whether another entry follows.
abbrev pub ReadsBehind : List ℕ → Result Behind (Fault Refusal) → ℕ → Type 0
ReadsBehind text (Ok (Last list_end next)) at = (token separator (drop at text) ≡ Ok (list_end_bytes list_end, drop next text)) × (is_closed (drop next text) ≡ true)
ReadsBehind text (Ok (More between next)) at = (token separator (drop at text) ≡ Ok (separator_bytes between, drop next text)) × (is_closed (drop next text) ≡ false) × (separator_bytes between ≢ [])
ReadsBehind text (Err e) at = Fails e (parted (drop at text))

abbrev pub LandsBehind : List ℕ → ℕ → Result Behind (Fault Refusal) → Type 0
LandsBehind text at (Ok (Last list_end next)) = (at ≤ next) × IsCharBoundary text next
LandsBehind text at (Ok (More between next)) = (at < next) × IsCharBoundary text next
LandsBehind text at (Err e) = IsPlaced text e

abbrev pub behind_next : Behind → ℕ
behind_next (Last list_end next) = next
behind_next (More between next) = next

abbrev pub CostsBehind : {E : Type 0} → List ℕ → ℕ → ℕ → ℕ → Result Behind E → Type 0
CostsBehind text at old new (Ok b) = (new + at ≤ old + behind_next b + separator_extra + 1) × (old + behind_next b ≤ new + at)
CostsBehind text at old new (Err e) = (new + at ≤ old + length text + separator_extra + 1) × (old ≤ new)

abbrev pub BorrowsBehind : Behind → Type 0
BorrowsBehind (Last list_end next) = BorrowsListEnd list_end
BorrowsBehind (More between next) = BorrowsSeparator between

-- This holds where another entry follows.
abbrev pub OnMore : Behind → Type 0 → Type 0
OnMore (Last list_end next) fact = Unit {0}
OnMore (More between next) fact = fact
