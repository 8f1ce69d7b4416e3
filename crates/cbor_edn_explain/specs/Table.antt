-- What is told of a fault, by the token in hand at the place: the first row that holds. `at` is the place.
--
--   in hand                    told there
--   a string                   it is never closed; an escape; a control character
--   a comment                  it is never closed; a line feed is expected; a control character
--   a word, a number           see WordFaults, NumberFaults
--   an indicator               it is unknown; a space is expected
--   `<`, `>`, `(`, `..`        `<<`, `>>`, `(_`, `...` are expected
--   nothing, or it has ended   see Gaps
use Rattle.std.specs.Prelude.{ℕ, ◌-◌, ◌==◌, ◌&&◌, ◌||◌, not, Bool, true, false, if◌then◌else◌, List, drop, Option, Some, None}
use Rattle.std.specs.Int.{is_in_range}
use Rattle.cbor_edn_explain.specs.declared.finding.Span.{Span}
use Rattle.cbor_edn_explain.specs.declared.finding.Wanted.TheVariants as wants
use Rattle.cbor_edn_explain.specs.declared.finding.Unclosed.TheVariants as open_ends
use Rattle.cbor_edn_explain.specs.declared.finding.EscapeFault.{EscapeFault}
use Rattle.cbor_edn_explain.specs.declared.finding.EscapeFault.TheVariants as escapes
use Rattle.cbor_edn_explain.specs.declared.finding.IndicatorFault.TheVariants as indicators
use Rattle.cbor_edn_explain.specs.declared.finding.Control.{Control}
use Rattle.cbor_edn_explain.specs.declared.finding.Control.TheVariants as controls
use Rattle.cbor_edn_explain.specs.declared.finding.Kind.TheVariants as kinds
use Rattle.cbor_edn_explain.specs.declared.finding.Role.TheVariants as roles
use Rattle.cbor_edn_explain.specs.declared.finding.Finding.{Finding}
use Rattle.cbor_edn_explain.specs.declared.state.Class.{Class}
use Rattle.cbor_edn_explain.specs.declared.state.Class.TheVariants as classes
use Rattle.cbor_edn_explain.specs.declared.state.Hand.{Hand}
use Rattle.cbor_edn_explain.specs.declared.state.Hand.TheVariants as hands
use Rattle.cbor_edn_explain.specs.declared.state.Gap.{Gap}
use Rattle.cbor_edn_explain.specs.declared.state.Gap.TheVariants as gap_kinds
use Rattle.cbor_edn_explain.specs.declared.state.Open.{Open}
use Rattle.cbor_edn_explain.specs.declared.state.Place.{Place}
use Rattle.cbor_edn_explain.specs.State.{Opened, innermost, class_of, ended}
use Rattle.cbor_edn_explain.specs.Tokens.{byte_at, is_in_word, is_high_alone, escape_fault, run_span, span_of, token_span}
use Rattle.cbor_edn_explain.specs.Gaps as gaps
use Rattle.cbor_edn_explain.specs.Gaps.{plain, note, open_note, is_list, in_gap}
use Rattle.cbor_edn_explain.specs.WordFaults.{in_word}
use Rattle.cbor_edn_explain.specs.NumberFaults.{in_number, in_tag, is_of_tag}

-- ---- strings and comments

abbrev pub in_control : List ℕ → ℕ → ℕ → Control → Finding
in_control bytes at first h = if is_in_range 0 31 first || first == 127 then plain (kinds.Control h) (span_of bytes at 1) else plain kinds.Other (span_of bytes at 1)

abbrev pub control_in_text : ℕ → Control
control_in_text c = if c == 9 then controls.TabInText else controls.InText

-- the fault, where its escape begins, and how many bytes show it
abbrev pub FaultAt : Type 0
FaultAt = Option (EscapeFault × ℕ × ℕ)

abbrev pub placed : Option (EscapeFault × ℕ) → ℕ → FaultAt
placed None from = None
placed (Some (f, n)) from = Some (f, from, n)

-- of the last two escapes, if one follows the other, or of the last one
abbrev pub fault_of_escapes : List ℕ → Place → ℕ → FaultAt
fault_of_escapes bytes p quote =
    if p.escape - p.escape_before == 6 && is_high_alone (drop p.escape_before bytes) then Some (escapes.HighAlone, p.escape_before, 6)
    else if is_high_alone (drop p.escape bytes) then Some (escapes.HighAlone, p.escape, 6)
    else placed (escape_fault (drop p.escape bytes) quote) p.escape

abbrev pub in_text_by : FaultAt → List ℕ → ℕ → ℕ → Finding
in_text_by None bytes at first = in_control bytes at first (control_in_text first)
in_text_by (Some (f, from, n)) bytes at first = plain (kinds.Escape f) (span_of bytes from n)

abbrev pub in_text_at : Option ℕ → List ℕ → ℕ → Place → ℕ → Finding
in_text_at None bytes at p quote = plain (kinds.Unclosed open_ends.Text) (record { from = p.begin; to = (span_of bytes p.quote 1).to })
in_text_at (Some first) bytes at p quote = in_text_by (fault_of_escapes bytes p quote) bytes at first

abbrev pub in_text : List ℕ → ℕ → Place → ℕ → Finding
in_text bytes at p quote = in_text_at (byte_at bytes at) bytes at p quote

abbrev pub comment_end : ℕ → Span → Bool → Finding
comment_end at mark true = record (plain (kinds.Expected wants.LineFeed) (record { from = at; to = at })) { context = note roles.CommentBegins mark }
comment_end at mark false = plain (kinds.Unclosed open_ends.Comment) mark

abbrev pub in_comment_at : Option ℕ → List ℕ → ℕ → Span → Bool → Finding
in_comment_at None bytes at mark is_line = comment_end at mark is_line
in_comment_at (Some first) bytes at mark is_line = in_control bytes at first controls.InComment

abbrev pub in_comment : List ℕ → ℕ → ℕ → Bool → Finding
in_comment bytes at begin is_line = in_comment_at (byte_at bytes at) bytes at (span_of bytes begin 1) is_line

-- ---- indicators

abbrev pub space_wanted : Span → Span → Option Open → Finding
space_wanted front s top = record (plain (kinds.Expected wants.Space) s) { subject = Some front; context = open_note top }

abbrev pub ends_indicator : Class → Bool
ends_indicator classes.Blank = true
ends_indicator classes.LineFeed = true
ends_indicator classes.SquareEnd = true
ends_indicator classes.CurlyEnd = true
ends_indicator classes.RoundEnd = true
ends_indicator classes.Greater = true
ends_indicator _ = false

-- of a list, and not of a string
abbrev pub is_of_list : Gap → Bool
is_of_list gap_kinds.Tight = false
is_of_list _ = true

abbrev pub in_indicator_at : Option ℕ → List ℕ → ℕ → Place → Opened → Finding
in_indicator_at None bytes at p os = in_gap bytes at (ended p at) os
in_indicator_at (Some c) bytes at p os =
    if not (is_of_list p.gap && at - p.begin == 2) && is_in_word c then plain (kinds.Indicator indicators.Unknown) (run_span bytes p.begin at)
    else if is_of_list p.gap && not (ends_indicator (class_of c)) then space_wanted (record { from = p.begin; to = at }) (token_span bytes at) (innermost os)
    else in_gap bytes at (ended p at) os

abbrev pub in_indicator : List ℕ → ℕ → Place → Opened → Finding
in_indicator bytes at p os = in_indicator_at (byte_at bytes at) bytes at p os

-- ---- between tokens

abbrev pub is_stream : Option Open → Bool
is_stream None = false
is_stream (Some o) = gaps.is_stream o.bracket

-- an item, and more than a string
abbrev pub may_begin_by : Gap → Place → Option Open → Bool
may_begin_by gap_kinds.First p top = not (is_stream top)
may_begin_by gap_kinds.Must p top = not (is_stream top)
may_begin_by gap_kinds.Comma p top = not (is_stream top)
may_begin_by gap_kinds.Colon p top = true
may_begin_by gap_kinds.Plus p top = false
may_begin_by gap_kinds.Tight p top = false
may_begin_by gap_kinds.Loose p top = is_list top p.item.is_value && not (is_stream top)

abbrev pub may_begin_item : Place → Option Open → Bool
may_begin_item p top = may_begin_by p.gap p top

abbrev pub begun_at : Place → ℕ → Place
begun_at p at = record p { begin = at }

abbrev pub in_sign : List ℕ → ℕ → Place → Opened → Finding
in_sign bytes at p os = if is_of_tag bytes at then in_tag bytes at else in_number bytes (span_of bytes at 1).to (begun_at p at) os

-- a word, or a number in front of `(`, that is refused as a whole
abbrev pub in_first : Class → List ℕ → ℕ → Place → Opened → Finding
in_first classes.Letter bytes at p os = in_word bytes at (begun_at p at) os
in_first classes.Exponent bytes at p os = in_word bytes at (begun_at p at) os
in_first classes.Digit bytes at p os = if is_of_tag bytes at then in_tag bytes at else in_gap bytes at p os
in_first classes.Plus bytes at p os = in_sign bytes at p os
in_first classes.Minus bytes at p os = in_sign bytes at p os
in_first _ bytes at p os = in_gap bytes at p os

abbrev pub is_must : Gap → Bool
is_must gap_kinds.Must = true
is_must _ = false

-- right behind `(_`
abbrev pub is_right_behind_mark : Place → ℕ → Open → Bool
is_right_behind_mark p at o = gaps.is_stream o.bracket && (is_must p.gap && o.span.to == at)

abbrev pub in_nothing_by : List ℕ → ℕ → Place → Opened → ℕ → Finding
in_nothing_by bytes at p os c = if may_begin_item p (innermost os) then in_first (class_of c) bytes at p os else in_gap bytes at p os

abbrev pub in_nothing_in : Option Open → List ℕ → ℕ → Place → Opened → ℕ → Finding
in_nothing_in None bytes at p os c = in_nothing_by bytes at p os c
in_nothing_in (Some o) bytes at p os c =
    if is_right_behind_mark p at o then space_wanted o.span (token_span bytes at) (Some o) else in_nothing_by bytes at p os c

abbrev pub in_nothing_at : Option ℕ → List ℕ → ℕ → Place → Opened → Finding
in_nothing_at None bytes at p os = in_gap bytes at p os
in_nothing_at (Some c) bytes at p os = in_nothing_in (innermost os) bytes at p os c

abbrev pub in_nothing : List ℕ → ℕ → Place → Opened → Finding
in_nothing bytes at p os = in_nothing_at (byte_at bytes at) bytes at p os

-- ---- the rows

abbrev pub in_dots : List ℕ → ℕ → Place → Opened → Finding
in_dots bytes at p os =
    if at - p.begin == 2 then plain (kinds.Expected wants.ThirdDot) (record { from = p.begin; to = at }) else in_gap bytes at (ended p at) os

abbrev pub fault_by : Hand → List ℕ → ℕ → Place → Opened → Finding
fault_by hands.Double bytes at p os = in_text bytes at p 34
fault_by hands.DoubleEscape bytes at p os = in_text bytes at p 34
fault_by hands.Single bytes at p os = in_text bytes at p 39
fault_by hands.SingleEscape bytes at p os = in_text bytes at p 39
fault_by hands.Slash bytes at p os = in_comment bytes at p.begin false
fault_by hands.Hash bytes at p os = in_comment bytes at p.begin true
fault_by hands.Word bytes at p os = in_word bytes at p os
fault_by hands.Number bytes at p os = in_number bytes at p os
fault_by hands.Exponent bytes at p os = in_number bytes at p os
fault_by hands.Dot bytes at p os = in_number bytes at p os
fault_by hands.Indicator bytes at p os = in_indicator bytes at p os
fault_by hands.Less bytes at p os = plain (kinds.Expected wants.SecondLess) (record { from = p.begin; to = at })
fault_by hands.Greater bytes at p os = record (plain (kinds.Expected wants.SecondGreater) (record { from = p.begin; to = at })) { context = open_note (innermost os) }
fault_by hands.Round bytes at p os = plain (kinds.Expected wants.StreamMark) (token_span bytes at)
fault_by hands.Dots bytes at p os = in_dots bytes at p os
fault_by hands.Plus bytes at p os = in_gap bytes at (ended p at) os
fault_by hands.PlusDot bytes at p os = in_gap bytes at (ended p at) os
fault_by hands.Nothing bytes at p os = in_nothing bytes at p os

-- what is told, but for what the lines say
unfoldable pub fault_at : List ℕ → ℕ → Place → Opened → Finding
fault_at bytes at p os = fault_by p.hand bytes at p os
