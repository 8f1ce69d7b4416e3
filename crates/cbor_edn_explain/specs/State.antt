-- What a text leaves open and unfinished at a place: a fold over the bytes in front of it, for texts that are the beginning of some EDN text.
--
--   text          behind it
--   `[1, {"a": `  open: `{`, `[`. Behind a colon. In front: the key `"a"`.
--   `1("a" + `    open: `1(`. Behind a plus sign. The item begins with the string.
--   `'it\'`       a string is in hand, and its last backslash is at 3
--   `1 # a`       a comment is in hand, which began at 2
use Rattle.std.specs.Prelude.{ℕ, ◌+◌, ◌-◌, nat_lt, ◌==◌, ◌&&◌, ◌||◌, Bool, true, false, if◌then◌else◌, List, [], ◌∷◌, Option, Some, None}
use Rattle.std.specs.Int.{is_in_range}
use Rattle.std.specs.Option.{option_or}
use Rattle.cbor_edn_explain.specs.declared.finding.Bracket.{Bracket}
use Rattle.cbor_edn_explain.specs.declared.finding.Bracket.TheVariants as brackets
use Rattle.cbor_edn_explain.specs.declared.state.Class.{Class}
use Rattle.cbor_edn_explain.specs.declared.state.Class.TheVariants.{LineFeed, Blank, Slash, Hash, Square, Curly, Round, SquareEnd, CurlyEnd, RoundEnd, Less, Greater, Comma, Colon, Plus, Minus, DoubleQuote, SingleQuote, Backslash, Underscore, Dot, Digit, Exponent, Letter, Other}
use Rattle.cbor_edn_explain.specs.declared.state.Hand.{Hand}
use Rattle.cbor_edn_explain.specs.declared.state.Hand.TheVariants as hands
use Rattle.cbor_edn_explain.specs.declared.state.Gap.{Gap}
use Rattle.cbor_edn_explain.specs.declared.state.Gap.TheVariants as gap_kinds
use Rattle.cbor_edn_explain.specs.declared.state.Open.{Open}
use Rattle.cbor_edn_explain.specs.declared.state.Place.{Place}
use Rattle.cbor_edn_explain.specs.declared.state.Lines.{Lines}
use Rattle.cbor_edn_explain.specs.declared.state.Reading.{Reading}
use Rattle.cbor_edn_explain.specs.declared.state.Change.{Change}
use Rattle.cbor_edn_explain.specs.declared.state.Change.TheVariants.{Stay, Push, Pop}

-- the innermost first
abbrev pub Opened : Type 0
Opened = List Open

abbrev pub innermost : Opened → Option Open
innermost [] = None
innermost (o ∷ os) = Some o

-- ---- bytes

abbrev pub class_of_letter : ℕ → Class
class_of_letter c =
    if c == 101 || (c == 69 || (c == 112 || c == 80)) then Exponent
    else if is_in_range 48 57 c then Digit
    else if is_in_range 97 122 c || is_in_range 65 90 c then Letter
    else Other

abbrev pub class_of_mark : ℕ → Class
class_of_mark c =
    if c == 43 then Plus
    else if c == 45 then Minus
    else if c == 34 then DoubleQuote
    else if c == 39 then SingleQuote
    else if c == 92 then Backslash
    else if c == 95 then Underscore
    else if c == 46 then Dot
    else class_of_letter c

abbrev pub class_of_end : ℕ → Class
class_of_end c =
    if c == 93 then SquareEnd
    else if c == 125 then CurlyEnd
    else if c == 41 then RoundEnd
    else if c == 60 then Less
    else if c == 62 then Greater
    else if c == 44 then Comma
    else if c == 58 then Colon
    else class_of_mark c

abbrev pub class_of : ℕ → Class
class_of c =
    if c == 10 then LineFeed
    else if c == 32 || (c == 9 || c == 13) then Blank
    else if c == 47 then Slash
    else if c == 35 then Hash
    else if c == 91 then Square
    else if c == 123 then Curly
    else if c == 40 then Round
    else class_of_end c

abbrev pub is_letter : Class → Bool
is_letter Letter = true
is_letter Exponent = true
is_letter _ = false

abbrev pub is_digit : Class → Bool
is_digit Digit = true
is_digit _ = false

abbrev pub is_letter_or_digit : Class → Bool
is_letter_or_digit c = is_letter c || is_digit c

-- ---- tokens in hand

abbrev pub is_of_number : Class → Bool
is_of_number Letter = true
is_of_number Exponent = true
is_of_number Digit = true
is_of_number Underscore = true
is_of_number Dot = true
is_of_number Round = true
is_of_number _ = false

-- a quote behind a word begins the string of which it is the prefix, a bracket what `simple` or a tag holds
abbrev pub is_of_word : Class → Bool
is_of_word Letter = true
is_of_word Exponent = true
is_of_word Digit = true
is_of_word Underscore = true
is_of_word SingleQuote = true
is_of_word Round = true
is_of_word _ = false

abbrev pub is_sign : Class → Bool
is_sign Plus = true
is_sign Minus = true
is_sign _ = false

abbrev pub is_dot : Class → Bool
is_dot Dot = true
is_dot _ = false

abbrev pub is_less : Class → Bool
is_less Less = true
is_less _ = false

abbrev pub is_greater : Class → Bool
is_greater Greater = true
is_greater _ = false

abbrev pub is_underscore : Class → Bool
is_underscore Underscore = true
is_underscore _ = false

-- whether a byte goes on with the token in hand
abbrev pub goes_on : Hand → Class → Bool
goes_on hands.Nothing c = true
goes_on hands.Word c = is_of_word c
goes_on hands.Number c = is_of_number c
goes_on hands.Exponent c = is_of_number c || is_sign c
goes_on hands.Dot c = is_dot c || is_digit c
goes_on hands.Dots c = is_dot c
goes_on hands.Plus c = is_dot c || is_digit c
goes_on hands.PlusDot c = is_dot c || is_digit c
goes_on hands.Indicator c = is_letter_or_digit c
goes_on hands.Less c = is_less c
goes_on hands.Greater c = is_greater c
goes_on hands.Round c = is_underscore c
goes_on hands.Double c = true
goes_on hands.DoubleEscape c = true
goes_on hands.Single c = true
goes_on hands.SingleEscape c = true
goes_on hands.Slash c = true
goes_on hands.Hash c = true

-- right behind an item, which ends at a place
abbrev pub behind_item : Place → Bool → ℕ → Place
behind_item p is_text to = record p { hand = hands.Nothing; gap = gap_kinds.Tight; is_text = is_text; to = to }

-- where the token in hand has ended
abbrev pub ended_by : Hand → Place → ℕ → Place
ended_by hands.Word p at = behind_item p false at
ended_by hands.Number p at = behind_item p false at
ended_by hands.Exponent p at = behind_item p false at
ended_by hands.Dot p at = behind_item p false at
ended_by hands.Dots p at = behind_item p true at
ended_by hands.Plus p at = record p { hand = hands.Nothing; gap = gap_kinds.Plus }
ended_by hands.PlusDot p at = record p { hand = hands.Nothing; gap = gap_kinds.Plus }
ended_by _ p at = record p { hand = hands.Nothing }

abbrev pub ended : Place → ℕ → Place
ended p at = ended_by p.hand p at

abbrev pub settled : Place → ℕ → Class → Place
settled p at c = if goes_on p.hand c then p else ended p at

-- ---- what opens and closes

abbrev pub change_of_gap : Class → Change
change_of_gap Square = Push brackets.Square
change_of_gap Curly = Push brackets.Curly
change_of_gap SquareEnd = Pop
change_of_gap CurlyEnd = Pop
change_of_gap RoundEnd = Pop
change_of_gap _ = Stay

abbrev pub change_of_number : Class → Change
change_of_number Round = Push brackets.Round
change_of_number _ = Stay

abbrev pub change_of : Hand → Class → Change
change_of hands.Nothing c = change_of_gap c
change_of hands.Word c = change_of_number c
change_of hands.Number c = change_of_number c
change_of hands.Exponent c = change_of_number c
change_of hands.Less c = if is_less c then Push brackets.Embedded else Stay
change_of hands.Greater c = if is_greater c then Pop else Stay
change_of hands.Round c = if is_underscore c then Push brackets.Stream else Stay
change_of _ c = Stay

-- ---- places

-- in front of an item that begins there: a string behind a plus sign is part of the item in front
abbrev pub begun_by : Gap → Place → ℕ → Place
begun_by gap_kinds.Plus p from = p
begun_by gap_kinds.Colon p from = record p { item = record { from = from; is_value = true } }
begun_by _ p from = record p { item = record { from = from; is_value = false } }

abbrev pub begun : Place → ℕ → Place
begun p from = begun_by p.gap p from

abbrev pub taken : Place → Hand → ℕ → Place
taken p h begin = record p { hand = h; begin = begin }

-- behind the opening quote of a string
abbrev pub quoted : Place → Hand → ℕ → ℕ → Place
quoted p h begin quote = record p { hand = h; begin = begin; quote = quote; escape = quote; escape_before = quote }

-- behind a backslash in a string
abbrev pub escaped : Place → Hand → ℕ → Place
escaped p h at = record p { hand = h; escape = at; escape_before = p.escape }

-- behind space
abbrev pub loosened_by : Gap → Place → Place
loosened_by gap_kinds.Tight p = record p { hand = hands.Nothing; gap = gap_kinds.Loose }
loosened_by _ p = record p { hand = hands.Nothing }

abbrev pub loosened : Place → Place
loosened p = loosened_by p.gap p

abbrev pub is_behind : Gap → Bool
is_behind gap_kinds.Tight = true
is_behind gap_kinds.Loose = true
is_behind _ = false

-- Behind a byte between tokens. A plus sign behind a string joins it with another, unless a digit follows.
abbrev pub from_gap : Place → ℕ → Class → Place
from_gap p at LineFeed = loosened p
from_gap p at Blank = loosened p
from_gap p at Slash = taken p hands.Slash at
from_gap p at Hash = taken p hands.Hash at
from_gap p at Less = taken (begun p at) hands.Less at
from_gap p at Greater = taken p hands.Greater at
from_gap p at Round = taken (begun p at) hands.Round at
from_gap p at Comma = record p { gap = gap_kinds.Comma }
from_gap p at Colon = record p { gap = gap_kinds.Colon }
from_gap p at Plus = if p.is_text && is_behind p.gap then taken p hands.Plus at else taken (begun p at) hands.Number at
from_gap p at Minus = taken (begun p at) hands.Number at
from_gap p at Digit = taken (begun p at) hands.Number at
from_gap p at DoubleQuote = quoted (begun p at) hands.Double at at
from_gap p at SingleQuote = quoted (begun p at) hands.Single at at
from_gap p at Underscore = taken p hands.Indicator at
from_gap p at Dot = taken (begun p at) hands.Dot at
from_gap p at _ = taken (begun p at) hands.Word at

abbrev pub from_word : Place → ℕ → Class → Place
from_word p at SingleQuote = quoted p hands.Single p.begin at
from_word p at _ = p

abbrev pub in_hand : Place → Hand → Place
in_hand p h = record p { hand = h }

abbrev pub from_number : Place → Class → Place
from_number p Exponent = in_hand p hands.Exponent
from_number p _ = p

-- a sign behind the letter of an exponent
abbrev pub from_exponent : Place → Class → Place
from_exponent p Exponent = p
from_exponent p _ = in_hand p hands.Number

abbrev pub from_dot : Place → Class → Place
from_dot p Dot = in_hand p hands.Dots
from_dot p _ = in_hand p hands.Number

abbrev pub from_plus : Place → Class → Place
from_plus p Dot = in_hand p hands.PlusDot
from_plus p _ = taken (begun p p.begin) hands.Number p.begin

abbrev pub from_plus_dot : Place → Class → Place
from_plus_dot p Dot = in_hand p hands.Dots
from_plus_dot p _ = taken (begun p p.begin) hands.Number p.begin

abbrev pub from_double : Place → ℕ → Class → ℕ → Place
from_double p at DoubleQuote next = behind_item p true next
from_double p at Backslash next = escaped p hands.DoubleEscape at
from_double p at _ next = p

abbrev pub from_single : Place → ℕ → Class → ℕ → Place
from_single p at SingleQuote next = behind_item p true next
from_single p at Backslash next = escaped p hands.SingleEscape at
from_single p at _ next = p

abbrev pub from_slash : Place → Class → Place
from_slash p Slash = loosened p
from_slash p _ = p

abbrev pub from_hash : Place → Class → Place
from_hash p LineFeed = loosened p
from_hash p _ = p

-- of a string
abbrev pub from_text_by : Hand → Place → ℕ → Class → ℕ → Place
from_text_by hands.Double p at c next = from_double p at c next
from_text_by hands.DoubleEscape p at c next = in_hand p hands.Double
from_text_by hands.Single p at c next = from_single p at c next
from_text_by hands.SingleEscape p at c next = in_hand p hands.Single
from_text_by _ p at c next = p

abbrev pub from_text : Place → ℕ → Class → ℕ → Place
from_text p at c next = from_text_by p.hand p at c next

abbrev pub from_token_by : Hand → Place → ℕ → Class → ℕ → Place
from_token_by hands.Word p at c next = from_word p at c
from_token_by hands.Number p at c next = from_number p c
from_token_by hands.Exponent p at c next = from_exponent p c
from_token_by hands.Dot p at c next = from_dot p c
from_token_by hands.Plus p at c next = from_plus p c
from_token_by hands.PlusDot p at c next = from_plus_dot p c
from_token_by hands.Slash p at c next = from_slash p c
from_token_by hands.Hash p at c next = from_hash p c
from_token_by _ p at c next = from_text p at c next

abbrev pub from_token : Place → ℕ → Class → ℕ → Place
from_token p at c next = from_token_by p.hand p at c next

-- what has to follow an opening bracket: an item, or more than that
abbrev pub gap_behind : Bracket → Gap
gap_behind brackets.Square = gap_kinds.First
gap_behind brackets.Curly = gap_kinds.First
gap_behind brackets.Round = gap_kinds.Must
gap_behind brackets.Stream = gap_kinds.Must
gap_behind brackets.Embedded = gap_kinds.First

abbrev pub entered : Place → Bracket → ℕ → Place
entered p b next = record p { hand = hands.Nothing; gap = gap_behind b; item = record { from = next; is_value = false }; to = next; is_text = false }

abbrev pub is_embedded : Bracket → Bool
is_embedded brackets.Embedded = true
is_embedded _ = false

-- behind what closes a bracket: its item has ended
abbrev pub left : Place → Option Open → ℕ → Place
left p None next = behind_item p false next
left p (Some o) next = record (behind_item p (is_embedded o.bracket) next) { item = o.item }

abbrev pub opener_by : Hand → Place → ℕ → Place
opener_by hands.Nothing p at = taken (begun p at) hands.Nothing at
opener_by _ p at = p

abbrev pub opened_by : Place → Lines → Bracket → ℕ → Open
opened_by p l b next = record { bracket = b; span = record { from = p.begin; to = next }; item = p.item; line = l.line; indent = l.margin - l.line }

-- what a bracket opens that ends at `next`
abbrev pub opened_at : Reading → Bracket → ℕ → ℕ → Open
opened_at r b at next = opened_by (opener_by r.place.hand r.place at) r.lines b next

abbrev pub stayed : Hand → Place → ℕ → Class → ℕ → Place
stayed hands.Nothing p at c next = from_gap p at c
stayed h p at c next = from_token p at c next

abbrev pub place_by : Change → Place → Option Open → ℕ → Class → ℕ → Place
place_by (Push b) p top at c next = entered p b next
place_by Pop p top at c next = left p top next
place_by Stay p top at c next = stayed p.hand p at c next

abbrev pub place_behind : Place → Option Open → ℕ → Class → ℕ → Place
place_behind p top at c next = place_by (change_of p.hand c) p top at c next

-- ---- lines

abbrev pub lines_paired : Lines → Open → ℕ → ℕ → Lines
lines_paired l o at indent =
    if nat_lt indent o.indent then record l { less = option_or l.less (Some (record { opener = o.span; closer = at })) }
    else if nat_lt o.indent indent then record l { more = option_or l.more (Some (record { opener = o.span; closer = at })) }
    else l

-- behind a bracket that is closed by the first token of its line
abbrev pub lines_closed : Lines → Option Open → ℕ → Lines
lines_closed l None at = l
lines_closed l (Some o) at = if nat_lt o.line l.line && l.margin == at then lines_paired l o at (at - l.line) else l

abbrev pub lines_of_text : Lines → Place → Lines
lines_of_text l p = if nat_lt p.begin l.line then record l { spanning = Some p.begin } else l

abbrev pub lines_of_slash : Lines → Place → ℕ → Lines
lines_of_slash l p at = if at - p.begin == 1 then record l { slashes = Some p.begin } else l

abbrev pub is_double : Class → Bool
is_double DoubleQuote = true
is_double _ = false

abbrev pub is_single : Class → Bool
is_single SingleQuote = true
is_single _ = false

abbrev pub is_slash : Class → Bool
is_slash Slash = true
is_slash _ = false

-- behind the end of a token: of a string, or of a comment, which may be empty
abbrev pub lines_of_token_by : Hand → Lines → Place → ℕ → Class → Lines
lines_of_token_by hands.Double l p at c = if is_double c then lines_of_text l p else l
lines_of_token_by hands.Single l p at c = if is_single c then lines_of_text l p else l
lines_of_token_by hands.Slash l p at c = if is_slash c then lines_of_slash l p at else l
lines_of_token_by _ l p at c = l

abbrev pub lines_of_token : Lines → Place → ℕ → Class → Lines
lines_of_token l p at c = lines_of_token_by p.hand l p at c

abbrev pub lines_of_byte : Lines → ℕ → Class → ℕ → Lines
lines_of_byte l at LineFeed next = record l { line = next; margin = next; spanning = None; slashes = None }
lines_of_byte l at Blank next = if l.margin == at then record l { margin = next } else l
lines_of_byte l at _ next = l

abbrev pub lines_by : Change → Reading → Option Open → ℕ → Class → Lines
lines_by Pop r top at c = lines_closed r.lines top at
lines_by Stay r top at c = lines_of_token r.lines r.place at c
lines_by (Push b) r top at c = lines_of_token r.lines r.place at c

abbrev pub lines_behind : Reading → Option Open → ℕ → Class → ℕ → Lines
lines_behind r top at c next = lines_of_byte (lines_by (change_of r.place.hand c) r top at c) at c next

-- ---- the fold

abbrev pub rest_of : Opened → Opened
rest_of [] = []
rest_of (o ∷ os) = os

abbrev pub turned : Opened → Reading → Change → ℕ → ℕ → Opened
turned os r Stay at next = os
turned os r (Push b) at next = opened_at r b at next ∷ os
turned os r Pop at next = rest_of os

abbrev pub settled_reading : Reading → ℕ → Class → Reading
settled_reading r at c = record r { place = settled r.place at c }

abbrev pub stepped : Reading → Opened → ℕ → Class → ℕ → Reading × Opened
stepped r os at c next = (
  record { place = place_behind r.place (innermost os) at c next; lines = lines_behind r (innermost os) at c next },
  turned os r (change_of r.place.hand c) at next,
)

-- Behind the byte at a place: where the text stands, and what is open.
unfoldable pub step : ℕ → Reading × Opened → ℕ → Reading × Opened
step at (r, os) byte = stepped (settled_reading r at (class_of byte)) os at (class_of byte) (at + 1)

abbrev pub start_place : Place
start_place = record { hand = hands.Nothing; begin = 0; gap = gap_kinds.First; item = record { from = 0; is_value = false }; to = 0; is_text = false; quote = 0; escape = 0; escape_before = 0 }

abbrev pub start_lines : Lines
start_lines = record { line = 0; margin = 0; spanning = None; slashes = None; less = None; more = None }

abbrev pub at_start : Reading
at_start = record { place = start_place; lines = start_lines }

-- Behind bytes that begin at a place.
unfoldable pub read : ℕ → Reading × Opened → List ℕ → Reading × Opened
read at s [] = s
read at s (c ∷ cs) = read (at + 1) (step at s c) cs

-- Behind the front of a text.
unfoldable pub behind : List ℕ → Reading × Opened
behind front = read 0 (at_start, []) front
