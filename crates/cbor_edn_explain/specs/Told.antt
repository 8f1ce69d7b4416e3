-- The words of kinds, second places and hints, as whole texts. In them `{span}` and `{subject}` stand for the text there in backticks, `{found}`
-- for what stands at the span, which may be the end of the text, `{number}` for the number of its character, `{line}` for the number of a
-- line, and `{word}` for the text at the span alone. So no words have anything of a text.
--
--   text       words of its finding
--   `[1, 2`    "`[` is never closed", with the bracket as the span
--   `[nil]`    "unknown word {span}", with `nil` as the span, and the hint "EDN writes `null`"
--   `12abc`    "number {subject} runs into {span}", with `12` and `abc`
use Rattle.std.specs.Prelude.{ℕ, List, codes}
use Rattle.cbor_edn_explain.specs.declared.finding.Base.{Base}
use Rattle.cbor_edn_explain.specs.declared.finding.Base.TheVariants as base
use Rattle.cbor_edn_explain.specs.declared.finding.Bracket.{Bracket}
use Rattle.cbor_edn_explain.specs.declared.finding.Bracket.TheVariants as bracket
use Rattle.cbor_edn_explain.specs.declared.finding.Control.TheVariants as control
use Rattle.cbor_edn_explain.specs.declared.finding.EscapeFault.{EscapeFault}
use Rattle.cbor_edn_explain.specs.declared.finding.EscapeFault.TheVariants as escape
use Rattle.cbor_edn_explain.specs.declared.finding.Front.TheVariants as front
use Rattle.cbor_edn_explain.specs.declared.finding.Hint.{Hint}
use Rattle.cbor_edn_explain.specs.declared.finding.Hint.TheVariants as hint
use Rattle.cbor_edn_explain.specs.declared.finding.IndicatorFault.{IndicatorFault}
use Rattle.cbor_edn_explain.specs.declared.finding.IndicatorFault.TheVariants as indicator
use Rattle.cbor_edn_explain.specs.declared.finding.Kind.{Kind}
use Rattle.cbor_edn_explain.specs.declared.finding.Kind.TheVariants as kind
use Rattle.cbor_edn_explain.specs.declared.finding.Name.{Name}
use Rattle.cbor_edn_explain.specs.declared.finding.Name.TheVariants as name
use Rattle.cbor_edn_explain.specs.declared.finding.QuoteFault.TheVariants as quote
use Rattle.cbor_edn_explain.specs.declared.finding.Role.{Role}
use Rattle.cbor_edn_explain.specs.declared.finding.Role.TheVariants as role
use Rattle.cbor_edn_explain.specs.declared.finding.Strange.{Strange}
use Rattle.cbor_edn_explain.specs.declared.finding.Strange.TheVariants as strange
use Rattle.cbor_edn_explain.specs.declared.finding.TagFault.{TagFault}
use Rattle.cbor_edn_explain.specs.declared.finding.TagFault.TheVariants as tag
use Rattle.cbor_edn_explain.specs.declared.finding.Unclosed.{Unclosed}
use Rattle.cbor_edn_explain.specs.declared.finding.Unclosed.TheVariants as unclosed
use Rattle.cbor_edn_explain.specs.declared.finding.Wanted.{Wanted}
use Rattle.cbor_edn_explain.specs.declared.finding.Wanted.TheVariants as wanted

abbrev pub item_words : Bracket → List ℕ
item_words bracket.Square = codes "expected an item or `]`, found {found}"
item_words bracket.Curly = codes "expected a key or `}`, found {found}"
item_words bracket.Round = codes "expected an item or `)`, found {found}"
item_words bracket.Stream = codes "expected a string or `)`, found {found}"
item_words bracket.Embedded = codes "expected an item or `>>`, found {found}"

abbrev pub end_words : Bracket → List ℕ
end_words bracket.Square = codes "expected `]`, found {found}"
end_words bracket.Curly = codes "expected `}`, found {found}"
end_words bracket.Round = codes "expected `)`, found {found}"
end_words bracket.Stream = codes "expected `)`, found {found}"
end_words bracket.Embedded = codes "expected `>>`, found {found}"

abbrev pub comma_words : Bracket → List ℕ
comma_words bracket.Square = codes "expected `,` or `]`, found {found}"
comma_words bracket.Curly = codes "expected `,` or `}`, found {found}"
comma_words bracket.Round = codes "expected `,` or `)`, found {found}"
comma_words bracket.Stream = codes "expected `,` or `)`, found {found}"
comma_words bracket.Embedded = codes "expected `,` or `>>`, found {found}"

abbrev pub digit_of_words : Base → List ℕ
digit_of_words base.Hexadecimal = codes "expected a hexadecimal digit behind {subject}, found {found}"
digit_of_words base.Octal = codes "expected an octal digit behind {subject}, found {found}"
digit_of_words base.Binary = codes "expected a binary digit behind {subject}, found {found}"

abbrev pub never_words : Bracket → List ℕ
never_words bracket.Square = codes "`[` is never closed"
never_words bracket.Curly = codes "`{` is never closed"
never_words bracket.Round = codes "`(` is never closed"
never_words bracket.Stream = codes "`(_` is never closed"
never_words bracket.Embedded = codes "`<<` is never closed"

abbrev pub before_words : Bracket → List ℕ
before_words bracket.Square = codes "`[` is not closed before {span}"
before_words bracket.Curly = codes "`{` is not closed before {span}"
before_words bracket.Round = codes "`(` is not closed before {span}"
before_words bracket.Stream = codes "`(_` is not closed before {span}"
before_words bracket.Embedded = codes "`<<` is not closed before {span}"

abbrev pub crossed_words : Bracket → List ℕ
crossed_words bracket.Square = codes "{span} does not close `[`"
crossed_words bracket.Curly = codes "{span} does not close `{`"
crossed_words bracket.Round = codes "{span} does not close `(`"
crossed_words bracket.Stream = codes "{span} does not close `(_`"
crossed_words bracket.Embedded = codes "{span} does not close `<<`"

abbrev pub digit_words : Base → List ℕ
digit_words base.Hexadecimal = codes "{span} is no hexadecimal digit"
digit_words base.Octal = codes "{span} is no octal digit"
digit_words base.Binary = codes "{span} is no binary digit"

abbrev pub tag_words : TagFault → List ℕ
tag_words tag.Sign = codes "a tag's number has no sign"
tag_words tag.NotDecimal = codes "a tag's number is decimal"
tag_words tag.LeadingZero = codes "a tag's number has no leading zero"
tag_words tag.TooLarge = codes "a tag's number is below 2^64"

abbrev pub indicator_words : IndicatorFault → List ℕ
indicator_words indicator.Unknown = codes "unknown indicator {span}"
indicator_words indicator.Groups = codes "`_` does not group digits"
indicator_words indicator.NotTaken = codes "{subject} takes no indicator"

abbrev pub escape_words : EscapeFault → List ℕ
escape_words escape.Unknown = codes "unknown escape {span}"
escape_words escape.LineEnd = codes "`\\` before a line end"
escape_words escape.FourDigits = codes "`\\u` needs four hexadecimal digits"
escape_words escape.NoDigit = codes "`\\u{}` needs a hexadecimal digit"
escape_words escape.Braces = codes "`\\u{` needs hexadecimal digits and `}`"
escape_words escape.TooLarge = codes "{span} is past U+10FFFF"
escape_words escape.Surrogate = codes "surrogate {span}"
escape_words escape.HighAlone = codes "high surrogate {span} without a low one"
escape_words escape.LowAlone = codes "low surrogate {span} without a high one"

abbrev pub strange_words : Strange → List ℕ
strange_words strange.Control = codes "control character {number} between tokens"
strange_words strange.NoBreakSpace = codes "a no-break space ({number}) between tokens"
strange_words strange.ByteOrderMark = codes "a byte order mark ({number}) between tokens"
strange_words strange.ZeroWidthSpace = codes "a zero-width space ({number}) between tokens"
strange_words strange.WideSpace = codes "an ideographic space ({number}) between tokens"
strange_words strange.CurlyDouble = codes "a curly quote {span} between tokens"
strange_words strange.CurlySingle = codes "a curly quote {span} between tokens"
strange_words strange.Dash = codes "a dash {span} between tokens"
strange_words strange.MinusSign = codes "a minus sign {span} between tokens"
strange_words strange.WideComma = codes "a full-width comma {span} between tokens"
strange_words strange.WideColon = codes "a full-width colon {span} between tokens"
strange_words strange.Other = codes "{number} {span} begins no item"

abbrev pub open_words : Bracket → List ℕ
open_words bracket.Square = codes "`[` is open"
open_words bracket.Curly = codes "`{` is open"
open_words bracket.Round = codes "`(` is open"
open_words bracket.Stream = codes "`(_` is open"
open_words bracket.Embedded = codes "`<<` is open"

abbrev pub outer_words : Bracket → List ℕ
outer_words bracket.Square = codes "`[` is the one to be closed"
outer_words bracket.Curly = codes "`{` is the one to be closed"
outer_words bracket.Round = codes "`(` is the one to be closed"
outer_words bracket.Stream = codes "`(_` is the one to be closed"
outer_words bracket.Embedded = codes "`<<` is the one to be closed"

abbrev pub name_words : Name → List ℕ
name_words name.Null = codes "EDN writes `null`"
name_words name.True = codes "EDN writes `true`"
name_words name.False = codes "EDN writes `false`"
name_words name.Undefined = codes "EDN writes `undefined`"
name_words name.NotANumber = codes "EDN writes `NaN`"
name_words name.Infinity = codes "EDN writes `Infinity`"
name_words name.NegativeInfinity = codes "EDN writes `-Infinity`"

abbrev pub wanted_words : Wanted → List ℕ
wanted_words wanted.Item = codes "expected an item, found {found}"
wanted_words (wanted.ItemOrEnd bracket) = item_words bracket
wanted_words wanted.Text = codes "expected a string, found {found}"
wanted_words wanted.Value = codes "expected a value, found {found}"
wanted_words wanted.Colon = codes "expected `:`, found {found}"
wanted_words (wanted.End bracket) = end_words bracket
wanted_words (wanted.CommaOrEnd bracket) = comma_words bracket
wanted_words wanted.CommaOrSpace = codes "expected `,` or a space, found {found}"
wanted_words wanted.LineFeed = codes "expected a line feed, found {found}"
wanted_words wanted.Argument = codes "expected `(` behind `simple`, found {found}"
wanted_words wanted.Digit = codes "expected a digit behind {subject}, found {found}"
wanted_words (wanted.DigitOf base) = digit_of_words base
wanted_words wanted.DigitOfExponent = codes "expected a digit of the exponent, found {found}"
wanted_words wanted.Exponent = codes "expected an exponent `p0` behind {subject}, found {found}"
wanted_words wanted.StreamMark = codes "expected `_` behind `(`, found {found}"
wanted_words wanted.SecondLess = codes "expected `<<`, found {found}"
wanted_words wanted.SecondGreater = codes "expected `>>`, found {found}"
wanted_words wanted.ThirdDot = codes "expected three dots, found two"
wanted_words wanted.Space = codes "expected a space behind {subject}, found {found}"
wanted_words wanted.TextBehindPlus = codes "expected a string behind `+`, found {found}"

abbrev pub unclosed_words : Unclosed → List ℕ
unclosed_words (unclosed.Never bracket) = never_words bracket
unclosed_words (unclosed.Before bracket) = before_words bracket
unclosed_words unclosed.Text = codes "string is never closed"
unclosed_words unclosed.Comment = codes "comment is never closed"

abbrev pub words : Kind → List ℕ
words (kind.Expected wanted) = wanted_words wanted
words (kind.Unclosed unclosed) = unclosed_words unclosed
words (kind.Crossed bracket) = crossed_words bracket
words kind.Unopened = codes "{span} closes nothing"
words (kind.RunsOn front.Item) = codes "expected `,` or a space before {found}"
words (kind.RunsOn front.Number) = codes "number {subject} runs into {span}"
words kind.Word = codes "unknown word {span}"
words (kind.Quote quote.NotSingle) = codes "{subject} takes single quotes"
words (kind.Quote quote.Mixed) = codes "prefix {span} mixes capitals and small letters"
words (kind.Digit base) = digit_words base
words (kind.Tag fault) = tag_words fault
words (kind.Indicator fault) = indicator_words fault
words (kind.Escape fault) = escape_words fault
words (kind.Control control.TabInText) = codes "a tab in a string"
words (kind.Control control.InText) = codes "control character {number} in a string"
words (kind.Control control.InComment) = codes "control character {number} in a comment"
words (kind.Character strange) = strange_words strange
words kind.Other = codes "Invalid EDN"

abbrev pub hint_words : Hint → List ℕ
hint_words (hint.Write name) = name_words name
hint_words hint.KeysAreQuoted = codes "keys are quoted: `\"{word}\"`"
hint_words hint.TextsAreQuoted = codes "texts are quoted: `\"{word}\"`"
hint_words hint.NumbersEnd = codes "texts are quoted"
hint_words hint.QuoteMissing = codes "is a `\"` missing in front of it?"
hint_words hint.TagsAreNumbers = codes "a tag is a number: `1(..)`"
hint_words hint.EmptyComment = codes "`//` is an empty comment: write `# ..`"
hint_words hint.Comments = codes "a comment is `# ..` to the end of the line, or `/ .. /`"
hint_words hint.CommentEnds = codes "it ends at the next `/`"
hint_words hint.OneComma = codes "write one comma, or `null` for nothing"
hint_words hint.NoFirstComma = codes "no comma before the first"
hint_words hint.PairsInMap = codes "pairs stand in a map: `{..}`"
hint_words hint.KeyAndValue = codes "a map holds pairs `key: value`, `[..]` holds items"
hint_words hint.SpaceBetweenPairs = codes "`,` or a space stands between pairs"
hint_words hint.ColonNotEqual = codes "EDN writes `:`"
hint_words hint.QuoteInText = codes "a quote in a text is `\\\"`"
hint_words hint.QuoteInBytes = codes "a quote in a text is `\\'`"
hint_words hint.PlusJoins = codes "`+` joins strings"
hint_words hint.SignAndDigits = codes "no space behind the sign"
hint_words hint.NoSpaceBeforeRound = codes "no space before `(`"
hint_words hint.SimpleValue = codes "write `simple(32)`"
hint_words hint.StreamOrTag = codes "`(_ ..)` holds the chunks of a string, `1(..)` is a tag"
hint_words hint.EmbeddedItems = codes "`<<..>>` holds the encodings of items"
hint_words hint.Strings = codes "strings are `\"..\"` or `'..'`"
hint_words hint.SingleQuotes = codes "write `'..'` behind a prefix"
hint_words hint.OneCase = codes "a prefix has letters of one case"
hint_words hint.Indicators = codes "indicators are `_`, `_i`, `_0`, `_1`, `_2` and `_3`"
hint_words hint.Ellipsis = codes "`...` stands for what is left out"
hint_words hint.TimeLiteral = codes "write a time as `dt'..'`, or a text in quotes"
hint_words hint.AddressLiteral = codes "write an address as `ip'..'`"
hint_words hint.SpaceBeforePlus = codes "a space in front of `+` makes it the sign of a number"
hint_words hint.Tab = codes "write `\\t`"
hint_words hint.Backslash = codes "a backslash is `\\\\`"
hint_words hint.LinesGoOn = codes "a string goes on in the next line by itself"
hint_words hint.BracesOfEscape = codes "or braces: `\\u{41}`"
hint_words hint.Pair = codes "write `\\u{1F600}`, or a pair `\\ud83d\\ude00`"
hint_words hint.ByNumber = codes "write its number: `\\u{0}`"
hint_words hint.WriteSpace = codes "write a space"
hint_words hint.WriteDouble = codes "write `\"`"
hint_words hint.WriteSingle = codes "write `'`"
hint_words hint.WriteMinus = codes "write `-`"
hint_words hint.WriteComma = codes "write `,`"
hint_words hint.WriteColon = codes "write `:`"
hint_words hint.Remove = codes "remove it"
hint_words hint.WithoutMark = codes "save the file without it"

abbrev pub note_words : Role → List ℕ
note_words (role.Open bracket) = open_words bracket
note_words (role.ToBeClosed bracket) = outer_words bracket
note_words role.Key = codes "the key"
note_words role.NumberBegins = codes "of the number that begins here"
note_words role.InNumber = codes "in a number that begins here"
note_words role.CommentBegins = codes "the comment begins here"
note_words role.TextBegins = codes "the string that begins here ends in line {line}"
note_words role.IndentedLess = codes "{span} is closed in line {line}, which is indented less"
note_words role.IndentedMore = codes "{span} is closed in line {line}, which is indented more"
