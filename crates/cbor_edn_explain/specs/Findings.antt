-- What is told of a text that is refused at an offset.
use Rattle.std.specs.Prelude.{◌≡◌, ℕ, ◌≤◌, ◌<◌, min, ◌==◌, ◌||◌, Bool, false, if◌then◌else◌, List, length, take, Option, Some, None}
use Rattle.std.specs.Str.{IsCharBoundary}
use Rattle.cbor_edn_explain.specs.declared.finding.Span.{Span}
use Rattle.cbor_edn_explain.specs.declared.finding.Kind.{Kind}
use Rattle.cbor_edn_explain.specs.declared.finding.Kind.TheVariants as kinds
use Rattle.cbor_edn_explain.specs.declared.finding.Role.{Role}
use Rattle.cbor_edn_explain.specs.declared.finding.Role.TheVariants as roles
use Rattle.cbor_edn_explain.specs.declared.finding.Note.{Note}
use Rattle.cbor_edn_explain.specs.declared.finding.Finding.{Finding}
use Rattle.cbor_edn_explain.specs.declared.state.Lines.{Lines}
use Rattle.cbor_edn_explain.specs.declared.state.Pair.{Pair}
use Rattle.cbor_edn_explain.specs.declared.state.Reading.{Reading}
use Rattle.cbor_edn_explain.specs.State.{Opened, behind}
use Rattle.cbor_edn_explain.specs.Tokens.{byte_at, span_of}
use Rattle.cbor_edn_explain.specs.Table.{fault_at}

-- ---- what the lines say

abbrev pub pair_note : Role → Option Pair → Option Note
pair_note r None = None
pair_note r (Some p) = Some (record { role = r; span = p.opener; at = p.closer })

-- : , ) ] }
abbrev pub is_mark_of_list : Option ℕ → Bool
is_mark_of_list None = false
is_mark_of_list (Some c) = (c == 58 || c == 44) || (c == 41 || (c == 93 || c == 125))

abbrev pub indents : Lines → Kind → Option ℕ → Option Note
indents l kinds.Unopened c = pair_note roles.IndentedMore l.more
indents l (kinds.Unclosed u) c = pair_note roles.IndentedLess l.less
indents l (kinds.Crossed b) c = pair_note roles.IndentedLess l.less
indents l (kinds.Expected w) c = if is_mark_of_list c then pair_note roles.IndentedLess l.less else None
indents l _ c = None

abbrev pub layout_by : Option ℕ → List ℕ → ℕ → Lines → Kind → Option Note
layout_by (Some begin) bytes at l k = Some (record { role = roles.TextBegins; span = span_of bytes begin 1; at = at })
layout_by None bytes at l k = indents l k (byte_at bytes at)

-- a string over several lines that ends in the line of the fault, else brackets that are indented otherwise
abbrev pub layout_of : List ℕ → ℕ → Lines → Kind → Option Note
layout_of bytes at l k = layout_by l.spanning bytes at l k

abbrev pub beside : Option Note → Option Note → Option Note
beside None context = context
beside (Some l) None = None
beside (Some l) (Some c) = if l.span.from == c.span.from then None else Some c

-- ---- whole characters

-- from the character in which one place lies to the one in front of the other: both are in the text
pub record IsWhole (text : List ℕ) (span whole : Span) : Type 0 where
  pub begins : IsCharBoundary text whole.from
  pub ends : IsCharBoundary text whole.to
  pub low : whole.from ≤ span.from
  pub high : span.to ≤ length text → span.to ≤ whole.to
  pub first : (i : ℕ) → whole.from < i → i ≤ span.from → IsCharBoundary text i → ⊥
  pub last : (i : ℕ) → span.to ≤ i → i < whole.to → IsCharBoundary text i → ⊥

abbrev pub IsWholeOption : List ℕ → Option Span → Option Span → Type 0
IsWholeOption text None None = Unit {0}
IsWholeOption text None (Some w) = ⊥
IsWholeOption text (Some s) None = ⊥
IsWholeOption text (Some s) (Some w) = IsWhole text s w

abbrev pub IsWholeNote : List ℕ → Option Note → Option Note → Type 0
IsWholeNote text None None = Unit {0}
IsWholeNote text None (Some w) = ⊥
IsWholeNote text (Some n) None = ⊥
IsWholeNote text (Some n) (Some w) = (w.role ≡ n.role) × (w.at ≡ n.at) × IsWhole text n.span w.span

-- ---- the finding

pub record IsTold (text : List ℕ) (raw : Finding) (lines : Option Note) (f : Finding) : Type 0 where
  pub kind : f.kind ≡ raw.kind
  pub span : IsWhole text raw.span f.span
  pub subject : IsWholeOption text raw.subject f.subject
  pub context : IsWholeNote text (beside lines raw.context) f.context
  pub outer : IsWholeNote text raw.outer f.outer
  pub layout : IsWholeNote text lines f.layout

-- by what the text in front of the place leaves open
abbrev pub IsToldBehind : List ℕ → ℕ → Reading × Opened → Finding → Type 0
IsToldBehind text at (r, os) f = IsTold text (fault_at text at r.place os) (layout_of text at r.lines (fault_at text at r.place os).kind) f

-- The offset is cut at the end of the text. Hints and fixes are not said here.
abbrev pub IsFinding : List ℕ → ℕ → Finding → Type 0
IsFinding text offset f = IsToldBehind text (min offset (length text)) (behind (take (min offset (length text)) text)) f
