-- Faults between tokens, the first that holds. `top` is the innermost bracket.
--
--   `[1, 2`        at the end: `[` is never closed
--   `{"a": [1, 2}` at `}`: `[` is not closed before it
--   `[1, 2)`       at `)`: it does not close `[`
--   `1]`           at `]`: it closes nothing
--   `"a" +2`       behind `+`: expected a string
--   `[[1][2]]`     at the second `[`: it runs on behind an item
--   `[1,,2]`       at the second comma: expected an item or `]`
use Rattle.std.specs.Prelude.{ℕ, ◌==◌, ◌&&◌, ◌||◌, not, Bool, true, false, if◌then◌else◌, List, drop, find, Option, Some, None}
use Rattle.std.specs.Int.{is_in_range}
use Rattle.cbor_edn_explain.specs.declared.finding.Span.{Span}
use Rattle.cbor_edn_explain.specs.declared.finding.Bracket.{Bracket}
use Rattle.cbor_edn_explain.specs.declared.finding.Bracket.TheVariants as brackets
use Rattle.cbor_edn_explain.specs.declared.finding.Wanted.{Wanted}
use Rattle.cbor_edn_explain.specs.declared.finding.Wanted.TheVariants as wants
use Rattle.cbor_edn_explain.specs.declared.finding.Unclosed.TheVariants as open_ends
use Rattle.cbor_edn_explain.specs.declared.finding.Front.TheVariants as fronts
use Rattle.cbor_edn_explain.specs.declared.finding.Strange.{Strange}
use Rattle.cbor_edn_explain.specs.declared.finding.Strange.TheVariants as strangers
use Rattle.cbor_edn_explain.specs.declared.finding.Kind.{Kind}
use Rattle.cbor_edn_explain.specs.declared.finding.Kind.TheVariants as kinds
use Rattle.cbor_edn_explain.specs.declared.finding.Role.{Role}
use Rattle.cbor_edn_explain.specs.declared.finding.Role.TheVariants as roles
use Rattle.cbor_edn_explain.specs.declared.finding.Note.{Note}
use Rattle.cbor_edn_explain.specs.declared.finding.Finding.{Finding}
use Rattle.cbor_edn_explain.specs.declared.state.Class.{Class}
use Rattle.cbor_edn_explain.specs.declared.state.Gap.{Gap}
use Rattle.cbor_edn_explain.specs.declared.state.Gap.TheVariants as gap_kinds
use Rattle.cbor_edn_explain.specs.declared.state.Open.{Open}
use Rattle.cbor_edn_explain.specs.declared.state.Place.{Place}
use Rattle.cbor_edn_explain.specs.State.{Opened, innermost, class_of, is_behind}
use Rattle.cbor_edn_explain.specs.declared.state.Class.TheVariants as classes
use Rattle.cbor_edn_explain.specs.Tokens.{byte_at, is_at, span_of, token_span}

abbrev pub plain : Kind → Span → Finding
plain k s = record { kind = k; span = s; subject = None; context = None; outer = None; layout = None; hint = None; fix = None }

-- a second place whose words name no other line
abbrev pub note : Role → Span → Option Note
note r s = Some (record { role = r; span = s; at = s.from })

abbrev pub open_note : Option Open → Option Note
open_note None = None
open_note (Some o) = note (roles.Open o.bracket) o.span

-- ---- closing brackets

abbrev pub closer_by : Option ℕ → Bool → Option Bracket
closer_by None twice = None
closer_by (Some c) twice =
    if c == 93 then Some brackets.Square
    else if c == 125 then Some brackets.Curly
    else if c == 41 then Some brackets.Round
    else if c == 62 && twice then Some brackets.Embedded
    else None

abbrev pub closer_at : List ℕ → Option Bracket
closer_at rest = closer_by (byte_at rest 0) (is_at rest 1 62)

abbrev pub is_square : Bracket → Bool
is_square brackets.Square = true
is_square _ = false

abbrev pub is_curly : Bracket → Bool
is_curly brackets.Curly = true
is_curly _ = false

abbrev pub is_round : Bracket → Bool
is_round brackets.Round = true
is_round _ = false

abbrev pub is_stream : Bracket → Bool
is_stream brackets.Stream = true
is_stream _ = false

abbrev pub is_embedded : Bracket → Bool
is_embedded brackets.Embedded = true
is_embedded _ = false

-- whether what closes one closes the other: `)` closes a string of indefinite length too
abbrev pub closes : Bracket → Bracket → Bool
closes closer brackets.Square = is_square closer
closes closer brackets.Curly = is_curly closer
closes closer brackets.Round = is_round closer
closes closer brackets.Stream = is_round closer
closes closer brackets.Embedded = is_embedded closer

-- the innermost that it closes
abbrev pub closed_by : Bracket → Opened → Option Open
closed_by closer os = find (λ o. closes closer o.bracket) os

abbrev pub closes_top : Bracket → Option Open → Bool
closes_top closer None = false
closes_top closer (Some o) = closes closer o.bracket

-- ---- what had to stand there

-- whether another item may follow one
abbrev pub is_list_by : Bracket → Bool → Bool
is_list_by brackets.Square is_value = true
is_list_by brackets.Curly is_value = is_value
is_list_by brackets.Round is_value = false
is_list_by brackets.Stream is_value = true
is_list_by brackets.Embedded is_value = true

abbrev pub is_list : Option Open → Bool → Bool
is_list None is_value = true
is_list (Some o) is_value = is_list_by o.bracket is_value

-- a key without its colon is in front
abbrev pub is_key : Option Open → Place → Bool
is_key None p = false
is_key (Some o) p = is_curly o.bracket && not p.item.is_value

abbrev pub wanted_first : Option Open → Wanted
wanted_first None = wants.Item
wanted_first (Some o) = wants.ItemOrEnd o.bracket

abbrev pub wanted_must : Option Open → Wanted
wanted_must None = wants.Item
wanted_must (Some o) = if is_stream o.bracket then wants.Text else wants.Item

abbrev pub wanted_outside : Gap → Wanted
wanted_outside gap_kinds.Tight = wants.CommaOrSpace
wanted_outside _ = wants.Item

abbrev pub wanted_inside : Bracket → Bool → Wanted
wanted_inside brackets.Square is_value = wants.CommaOrEnd brackets.Square
wanted_inside brackets.Curly is_value = if is_value then wants.CommaOrEnd brackets.Curly else wants.Colon
wanted_inside brackets.Round is_value = wants.End brackets.Round
wanted_inside brackets.Stream is_value = wants.CommaOrEnd brackets.Stream
wanted_inside brackets.Embedded is_value = wants.CommaOrEnd brackets.Embedded

abbrev pub wanted_behind : Place → Option Open → Wanted
wanted_behind p None = wanted_outside p.gap
wanted_behind p (Some o) = wanted_inside o.bracket p.item.is_value

abbrev pub wanted_by : Gap → Place → Option Open → Wanted
wanted_by gap_kinds.First p top = wanted_first top
wanted_by gap_kinds.Must p top = wanted_must top
wanted_by gap_kinds.Comma p top = wanted_first top
wanted_by gap_kinds.Colon p top = wants.Value
wanted_by gap_kinds.Plus p top = wants.Text
wanted_by gap_kinds.Tight p top = wanted_behind p top
wanted_by gap_kinds.Loose p top = wanted_behind p top

abbrev pub wanted_at : Place → Option Open → Wanted
wanted_at p top = wanted_by p.gap p top

-- ---- the end of the text

abbrev pub may_close : Wanted → Bool
may_close (wants.ItemOrEnd b) = true
may_close (wants.End b) = true
may_close (wants.CommaOrEnd b) = true
may_close _ = false

abbrev pub missing_at_end : Wanted → Option Open → ℕ → Finding
missing_at_end w top at = record (plain (kinds.Expected w) (record { from = at; to = at })) { context = open_note top }

abbrev pub at_end_by : Wanted → Option Open → ℕ → Finding
at_end_by w None at = missing_at_end w None at
at_end_by w (Some o) at = if may_close w then plain (kinds.Unclosed (open_ends.Never o.bracket)) o.span else missing_at_end w (Some o) at

abbrev pub at_end : Place → Option Open → ℕ → Finding
at_end p top at = at_end_by (wanted_at p top) top at

-- ---- what closes another bracket than the innermost

abbrev pub crossed_or_unclosed : Option Open → Open → Span → Finding
crossed_or_unclosed None o s = record (plain (kinds.Crossed o.bracket) s) { context = note (roles.Open o.bracket) o.span }
crossed_or_unclosed (Some outer) o s =
    record (plain (kinds.Unclosed (open_ends.Before o.bracket)) s) { context = note (roles.Open o.bracket) o.span; outer = note (roles.ToBeClosed outer.bracket) outer.span }

abbrev pub at_closer : Opened → Option Open → Bracket → Span → Finding
at_closer os None closer s = plain kinds.Unopened s
at_closer os (Some o) closer s = crossed_or_unclosed (closed_by closer os) o s

-- ---- what begins an item

abbrev pub begins_item : Class → Bool
begins_item classes.Square = true
begins_item classes.Curly = true
begins_item classes.Round = true
begins_item classes.DoubleQuote = true
begins_item classes.SingleQuote = true
begins_item classes.Less = true
begins_item classes.Digit = true
begins_item classes.Letter = true
begins_item classes.Exponent = true
begins_item classes.Dot = true
begins_item classes.Plus = true
begins_item classes.Minus = true
begins_item _ = false

-- right behind an item of a list
abbrev pub is_tight : Gap → Bool
is_tight gap_kinds.Tight = true
is_tight _ = false

abbrev pub is_right_behind : Place → Option Open → Bool
is_right_behind p top = is_tight p.gap && is_list top p.item.is_value

abbrev pub is_digit_byte : Option ℕ → Bool
is_digit_byte None = false
is_digit_byte (Some c) = is_in_range 48 57 c

-- a plus sign that may not begin a number, and a digit
abbrev pub joins_number : Place → ℕ → List ℕ → Bool
joins_number p first rest = first == 43 && (p.is_text && (is_behind p.gap && is_digit_byte (byte_at rest 1)))

-- ---- characters that are none of a token

abbrev pub strange_latin : ℕ → Strange
strange_latin second = if is_in_range 0x80 0x9F second then strangers.Control else if second == 0xA0 then strangers.NoBreakSpace else strangers.Other

abbrev pub strange_general : ℕ → Strange
strange_general third =
    if third == 0x8B then strangers.ZeroWidthSpace
    else if third == 0x93 || third == 0x94 then strangers.Dash
    else if third == 0x98 || third == 0x99 then strangers.CurlySingle
    else if third == 0x9C || third == 0x9D then strangers.CurlyDouble
    else strangers.Other

abbrev pub strange_mark : ℕ → ℕ → Strange
strange_mark second third =
    if second == 0x80 then strange_general third
    else if second == 0x88 && third == 0x92 then strangers.MinusSign
    else strangers.Other

abbrev pub strange_wide : ℕ → Strange
strange_wide third = if third == 0x80 then strangers.WideSpace else strangers.Other

abbrev pub strange_form : ℕ → ℕ → Strange
strange_form second third =
    if second == 0xBB && third == 0xBF then strangers.ByteOrderMark
    else if second == 0xBC && third == 0x8C then strangers.WideComma
    else if second == 0xBC && third == 0x9A then strangers.WideColon
    else strangers.Other

abbrev pub of_one : (ℕ → Strange) → Option ℕ → Option Strange
of_one f None = None
of_one f (Some c) = Some (f c)

abbrev pub of_two : (ℕ → ℕ → Strange) → Option ℕ → Option ℕ → Option Strange
of_two f None third = None
of_two f (Some c) None = None
of_two f (Some c) (Some d) = Some (f c d)

abbrev pub strange_by : List ℕ → Option ℕ → Option Strange
strange_by rest None = None
strange_by rest (Some c) =
    if is_in_range 0 31 c || c == 127 then Some strangers.Control
    else if c == 0xC2 then of_one strange_latin (byte_at rest 1)
    else if c == 0xE2 then of_two strange_mark (byte_at rest 1) (byte_at rest 2)
    else if c == 0xE3 && is_at rest 1 0x80 then of_one strange_wide (byte_at rest 2)
    else if c == 0xEF then of_two strange_form (byte_at rest 1) (byte_at rest 2)
    else if is_in_range 0xF0 0xF4 c then Some strangers.Other
    else None

abbrev pub strange_at : List ℕ → Option Strange
strange_at rest = strange_by rest (byte_at rest 0)

-- ---- the rows

abbrev pub key_span : Place → Span
key_span p = record { from = p.item.from; to = p.to }

abbrev pub context_behind : Place → Option Open → Option Note
context_behind p top = if is_key top p then note roles.Key (key_span p) else open_note top

-- the key of the pair, or the bracket that is open
abbrev pub context_by : Gap → Place → Option Open → Option Note
context_by gap_kinds.First p top = open_note top
context_by gap_kinds.Must p top = open_note top
context_by gap_kinds.Comma p top = open_note top
context_by gap_kinds.Colon p top = note roles.Key (key_span p)
context_by gap_kinds.Plus p top = None
context_by gap_kinds.Tight p top = context_behind p top
context_by gap_kinds.Loose p top = context_behind p top

abbrev pub context_of : Place → Option Open → Option Note
context_of p top = context_by p.gap p top

abbrev pub at_other : Place → Option Open → Span → Finding
at_other p top s = record (plain (kinds.Expected (wanted_at p top)) s) { context = context_of p top }

abbrev pub strange_or_other : Option Strange → Place → Option Open → Span → Finding
strange_or_other None p top s = at_other p top s
strange_or_other (Some x) p top s = plain (kinds.Character x) s

abbrev pub at_token : List ℕ → ℕ → Place → Option Open → ℕ → Finding
at_token bytes at p top first =
    if joins_number p first (drop at bytes) then plain (kinds.Expected wants.TextBehindPlus) (token_span bytes (span_of bytes at 1).to)
    else if is_right_behind p top && begins_item (class_of first) then plain (kinds.RunsOn fronts.Item) (token_span bytes at)
    else strange_or_other (strange_at (drop at bytes)) p top (token_span bytes at)

abbrev pub at_closer_or_token : Option Bracket → List ℕ → ℕ → Place → Opened → ℕ → Finding
at_closer_or_token None bytes at p os first = at_token bytes at p (innermost os) first
at_closer_or_token (Some b) bytes at p os first =
    if closes_top b (innermost os) then at_token bytes at p (innermost os) first
    else at_closer os (innermost os) b (token_span bytes at)

abbrev pub in_gap_by : Option ℕ → List ℕ → ℕ → Place → Opened → Finding
in_gap_by None bytes at p os = at_end p (innermost os) at
in_gap_by (Some first) bytes at p os = at_closer_or_token (closer_at (drop at bytes)) bytes at p os first

-- where no token is in hand
unfoldable pub in_gap : List ℕ → ℕ → Place → Opened → Finding
in_gap bytes at p os = in_gap_by (byte_at (drop at bytes) 0) bytes at p os
