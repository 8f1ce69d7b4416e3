-- Faults of numbers, the first that holds.
--
--   `[-inf]`   an unknown word
--   `- 1`      expected a digit behind `-`
--   `01(2)`    a tag's number has no leading zero
--   `0x`       expected a hexadecimal digit behind `0x`
--   `0b12`     `2` is no binary digit
--   `1e`       expected a digit of the exponent
--   `1_000`    `_` does not group digits
--   `12abc`    `12` runs into `abc`
use Rattle.std.specs.Prelude.{ℕ, ◌+◌, ◌-◌, nat_lt, nat_le, ◌==◌, ◌&&◌, ◌||◌, not, Bool, false, if◌then◌else◌, List, [], ◌∷◌, length, drop, position, codes, Option, Some, None}
use Rattle.std.specs.List.{list_any, list_all}
use Rattle.std.specs.Int.{is_in_range}
use Rattle.cbor_edn_explain.specs.declared.finding.Span.{Span}
use Rattle.cbor_edn_explain.specs.declared.finding.Wanted.{Wanted}
use Rattle.cbor_edn_explain.specs.declared.finding.Wanted.TheVariants as wants
use Rattle.cbor_edn_explain.specs.declared.finding.Base.{Base}
use Rattle.cbor_edn_explain.specs.declared.finding.Base.TheVariants as bases
use Rattle.cbor_edn_explain.specs.declared.finding.Front.TheVariants as fronts
use Rattle.cbor_edn_explain.specs.declared.finding.TagFault.{TagFault}
use Rattle.cbor_edn_explain.specs.declared.finding.TagFault.TheVariants as tags
use Rattle.cbor_edn_explain.specs.declared.finding.IndicatorFault.{IndicatorFault}
use Rattle.cbor_edn_explain.specs.declared.finding.IndicatorFault.TheVariants as indicators
use Rattle.cbor_edn_explain.specs.declared.finding.Kind.TheVariants as kinds
use Rattle.cbor_edn_explain.specs.declared.finding.Role.TheVariants as roles
use Rattle.cbor_edn_explain.specs.declared.finding.Finding.{Finding}
use Rattle.cbor_edn_explain.specs.declared.state.Place.{Place}
use Rattle.cbor_edn_explain.specs.State.{Opened, ended}
use Rattle.cbor_edn_explain.specs.Tokens.{byte_at, is_at, is_digit as is_digit_byte, is_in_word, between, up_to, word_length, run_span, span_of, token_span}
use Rattle.cbor_edn_explain.specs.Gaps.{plain, note, in_gap}
use Rattle.cbor_edn_explain.specs.WordFaults.{is_one_of}

abbrev pub is_signed : List ℕ → Bool
is_signed number = is_at number 0 43 || is_at number 0 45

abbrev pub is_sign : List ℕ → Bool
is_sign front = length front == 1 && is_signed front

abbrev pub is_letter : Option ℕ → Bool
is_letter None = false
is_letter (Some c) = is_in_range 97 122 c || is_in_range 65 90 c

abbrev pub is_letter_at : List ℕ → ℕ → Bool
is_letter_at bytes at = is_letter (byte_at bytes at)

abbrev pub is_digit : Option ℕ → Bool
is_digit None = false
is_digit (Some c) = is_digit_byte c

abbrev pub is_digit_at : List ℕ → ℕ → Bool
is_digit_at bytes at = is_digit (byte_at bytes at)

abbrev pub is_signed_word : List ℕ → Bool
is_signed_word front = is_signed front && is_letter_at front 1

abbrev pub negative_infinity : List (List ℕ)
negative_infinity = codes "-Infinity" ∷ []

-- of two minus signs the second one alone
abbrev pub behind_sign : List ℕ → ℕ → Span
behind_sign bytes at = if is_at bytes at 45 then span_of bytes at 1 else token_span bytes at

abbrev pub in_signed_by : List ℕ → ℕ → Place → Opened → Span → Finding
in_signed_by bytes at p os s =
    if is_one_of (between bytes s.from s.to) negative_infinity then in_gap bytes s.to (ended p s.to) os
    else if is_letter_at (drop p.begin bytes) 1 then plain kinds.Word s
    else record (plain (kinds.Expected wants.Digit) (behind_sign bytes at)) { subject = Some (record { from = p.begin; to = at }) }

abbrev pub in_signed : List ℕ → ℕ → Place → Opened → Finding
in_signed bytes at p os = in_signed_by bytes at p os (run_span bytes p.begin at)

-- ---- in front of `(`

-- with its sign and its indicator
abbrev pub number_length : List ℕ → ℕ
number_length rest = if is_at rest 0 43 then 1 + word_length (drop 1 rest) else word_length rest

abbrev pub is_of_tag : List ℕ → ℕ → Bool
is_of_tag bytes begin = is_at (drop begin bytes) (number_length (drop begin bytes)) 40

-- without its indicator
abbrev pub mantissa_length : List ℕ → ℕ
mantissa_length number = up_to (position (λ c. c == 95) number) (length number)

abbrev pub is_decimal : List ℕ → Bool
is_decimal number = list_all is_digit_byte number

abbrev pub tag_fault : List ℕ → TagFault
tag_fault number =
    if is_signed number then tags.Sign
    else if not (is_decimal number) then tags.NotDecimal
    else if is_at number 0 48 && nat_lt 1 (length number) then tags.LeadingZero
    else tags.TooLarge

abbrev pub in_tag_by : List ℕ → ℕ → List ℕ → Finding
in_tag_by bytes begin number = plain (kinds.Tag (tag_fault (between number 0 (mantissa_length number)))) (span_of bytes begin (mantissa_length number))

abbrev pub in_tag : List ℕ → ℕ → Finding
in_tag bytes begin = in_tag_by bytes begin (between (drop begin bytes) 0 (number_length (drop begin bytes)))

-- ---- numbers that are not whole

abbrev pub unsigned : List ℕ → List ℕ
unsigned front = drop (if is_signed front then 1 else 0) front

abbrev pub base_by : Option ℕ → Option Base
base_by None = None
base_by (Some c) =
    if c == 120 || c == 88 then Some bases.Hexadecimal
    else if c == 111 || c == 79 then Some bases.Octal
    else if c == 98 || c == 66 then Some bases.Binary
    else None

-- 0x, 0o, 0b
abbrev pub base_of : List ℕ → Option Base
base_of number = if is_at number 0 48 then base_by (byte_at number 1) else None

abbrev pub is_sign_at : List ℕ → ℕ → Bool
is_sign_at number at = is_at number at 43 || is_at number at 45

abbrev pub letter_place : List ℕ → ℕ → ℕ
letter_place number last = if is_sign_at number last then last - 1 else last

abbrev pub ends_in_exponent : List ℕ → ℕ → ℕ → Bool
ends_in_exponent number small capital =
    is_at number (letter_place number (length number - 1)) small || is_at number (letter_place number (length number - 1)) capital

abbrev pub decimal_wanted : List ℕ → Option Wanted
decimal_wanted number =
    if is_at number 0 46 && length number == 1 then Some wants.Digit
    else if ends_in_exponent number 101 69 then Some wants.DigitOfExponent
    else None

abbrev pub has : ℕ → List ℕ → Bool
has byte bytes = list_any (λ c. c == byte) bytes

abbrev pub digit_wanted_of : Base → List ℕ → Option Wanted
digit_wanted_of b digits =
    if length digits == 0 || (is_at digits 0 46 && length digits == 1) then Some (wants.DigitOf b)
    else if ends_in_exponent digits 112 80 then Some wants.DigitOfExponent
    else if has 46 digits && (not (has 112 digits) && not (has 80 digits)) then Some wants.Exponent
    else None

abbrev pub digit_wanted_by : Option Base → List ℕ → Option Wanted
digit_wanted_by None number = decimal_wanted number
digit_wanted_by (Some b) number = digit_wanted_of b (drop 2 number)

-- what has to follow
abbrev pub digit_wanted : List ℕ → Option Wanted
digit_wanted front = digit_wanted_by (base_of (unsigned front)) (unsigned front)

abbrev pub not_of_base : List ℕ → Base → Span → Finding
not_of_base bytes b s = record (plain (kinds.Digit b) (span_of bytes s.to 1)) { context = note roles.InNumber s }

abbrev pub missing : List ℕ → ℕ → Wanted → Span → Finding
missing bytes at w s = record (plain (kinds.Expected w) (token_span bytes at)) { subject = Some s }

abbrev pub in_digits_by : List ℕ → ℕ → Wanted → Bool → Span → Finding
in_digits_by bytes at (wants.DigitOf b) other s = if other then not_of_base bytes b s else missing bytes at (wants.DigitOf b) s
in_digits_by bytes at wants.Exponent other s = if other then not_of_base bytes bases.Hexadecimal s else missing bytes at wants.Exponent s
in_digits_by bytes at wants.DigitOfExponent other s = record (plain (kinds.Expected wants.DigitOfExponent) (token_span bytes at)) { context = note roles.NumberBegins s }
in_digits_by bytes at w other s = missing bytes at w s

abbrev pub in_digits : List ℕ → ℕ → ℕ → Wanted → Finding
in_digits bytes at begin w = in_digits_by bytes at w (is_letter_at bytes at || is_digit_at bytes at) (record { from = begin; to = at })

-- ---- whole numbers that run into more

abbrev pub are_grouped : List ℕ → Bool
are_grouped groups = list_all (λ c. is_digit_byte c || c == 95) groups

-- three bytes or more behind `_`, of which neither the first nor the last is another `_`
abbrev pub are_apart : List ℕ → Bool
are_apart groups = nat_le 3 (length groups - 1) && (not (is_at groups 1 95) && not (is_at groups (length groups - 1) 95))

abbrev pub indicator_fault : List ℕ → List ℕ → IndicatorFault
indicator_fault number groups =
    if is_decimal number && (are_grouped groups && are_apart groups)
    then indicators.Groups else indicators.Unknown

abbrev pub in_indicator : List ℕ → List ℕ → Span → Finding
in_indicator bytes front s = plain (kinds.Indicator (indicator_fault (between front 0 (mantissa_length front)) (between bytes s.from s.to))) s

abbrev pub runs_on : List ℕ → ℕ → Span → Finding
runs_on bytes at s = record (plain (kinds.RunsOn fronts.Number) (run_span bytes at at)) { subject = Some s }

abbrev pub in_run_by : Option Base → List ℕ → ℕ → Span → Finding
in_run_by None bytes at s = runs_on bytes at s
in_run_by (Some b) bytes at s = if is_letter_at bytes at || is_digit_at bytes at then not_of_base bytes b s else runs_on bytes at s

abbrev pub in_run : List ℕ → ℕ → ℕ → List ℕ → Finding
in_run bytes at begin front =
    if nat_lt (mantissa_length front) (length front)
    then in_indicator bytes front (record { from = (span_of bytes begin (mantissa_length front)).to; to = (run_span bytes begin at).to })
    else in_run_by (base_of (unsigned front)) bytes at (record { from = begin; to = at })

-- ---- the rows

abbrev pub in_whole : Option ℕ → List ℕ → ℕ → Place → Opened → List ℕ → Finding
in_whole None bytes at p os front = in_gap bytes at (ended p at) os
in_whole (Some c) bytes at p os front =
    if c == 40 then in_tag bytes p.begin
    else if is_in_word c then in_run bytes at p.begin front
    else in_gap bytes at (ended p at) os

abbrev pub in_rest : Option Wanted → List ℕ → ℕ → Place → Opened → List ℕ → Finding
in_rest None bytes at p os front = in_whole (byte_at bytes at) bytes at p os front
in_rest (Some w) bytes at p os front = in_digits bytes at p.begin w

abbrev pub in_number_by : List ℕ → ℕ → Place → Opened → List ℕ → Finding
in_number_by bytes at p os front =
    if is_sign front || is_signed_word front then in_signed bytes at p os
    else in_rest (digit_wanted front) bytes at p os front

-- of a number that begins at `p.begin` and goes on in front of `at`
unfoldable pub in_number : List ℕ → ℕ → Place → Opened → Finding
in_number bytes at p os = in_number_by bytes at p os (between bytes p.begin at)
