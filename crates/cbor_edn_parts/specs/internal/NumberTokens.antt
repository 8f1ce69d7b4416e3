-- The texts of numbers as an automaton.
use Rattle.std.specs.Prelude.{ℕ, Bool, true, false, List, Option, Some, None}
use Rattle.cbor_edn_parts.specs.base.Bytes.{Kind, kind, Plus, Minus, Zero, One, TwoToSeven, EightOrNine, Dot, B, E, HexLetter, O, P, X}
use Rattle.cbor_edn_parts.specs.internal.Lex.{Automaton, is_token}
use Rattle.cbor_edn_parts.specs.declared.number.NumberState.{NumberState}
use Rattle.cbor_edn_parts.specs.declared.number.NumberState.TheVariants.{Start, Signed, AfterZero, DecimalDigits, Point, Fraction, Exponent, ExponentSigned, ExponentDigits, AfterX, HexadecimalDigits, HexadecimalPoint, HexadecimalFraction, BinaryExponent, BinaryExponentSigned, BinaryExponentDigits, AfterO, OctalDigits, AfterB, BinaryDigits}

-- what a decimal digit does
abbrev pub digit_step : NumberState → Option NumberState
digit_step Start = Some DecimalDigits
digit_step Signed = Some DecimalDigits
digit_step AfterZero = Some DecimalDigits
digit_step DecimalDigits = Some DecimalDigits
digit_step Point = Some Fraction
digit_step Fraction = Some Fraction
digit_step Exponent = Some ExponentDigits
digit_step ExponentSigned = Some ExponentDigits
digit_step ExponentDigits = Some ExponentDigits
digit_step AfterX = Some HexadecimalDigits
digit_step HexadecimalDigits = Some HexadecimalDigits
digit_step HexadecimalPoint = Some HexadecimalFraction
digit_step HexadecimalFraction = Some HexadecimalFraction
digit_step BinaryExponent = Some BinaryExponentDigits
digit_step BinaryExponentSigned = Some BinaryExponentDigits
digit_step BinaryExponentDigits = Some BinaryExponentDigits
digit_step _ = None

-- what an octal digit does
abbrev pub octal_step : NumberState → Option NumberState
octal_step AfterO = Some OctalDigits
octal_step OctalDigits = Some OctalDigits
octal_step m = digit_step m

-- what 0 or 1 does
abbrev pub binary_step : NumberState → Option NumberState
binary_step AfterB = Some BinaryDigits
binary_step BinaryDigits = Some BinaryDigits
binary_step m = octal_step m

abbrev pub zero_step : NumberState → Option NumberState
zero_step Start = Some AfterZero
zero_step Signed = Some AfterZero
zero_step m = binary_step m

-- what a letter that is a hexadecimal digit does
abbrev pub letter_step : NumberState → Option NumberState
letter_step AfterX = Some HexadecimalDigits
letter_step HexadecimalDigits = Some HexadecimalDigits
letter_step HexadecimalPoint = Some HexadecimalFraction
letter_step HexadecimalFraction = Some HexadecimalFraction
letter_step _ = None

abbrev pub sign_step : NumberState → Option NumberState
sign_step Start = Some Signed
sign_step Exponent = Some ExponentSigned
sign_step BinaryExponent = Some BinaryExponentSigned
sign_step _ = None

abbrev pub point_step : NumberState → Option NumberState
point_step Start = Some Point
point_step Signed = Some Point
point_step AfterZero = Some Fraction
point_step DecimalDigits = Some Fraction
point_step AfterX = Some HexadecimalPoint
point_step HexadecimalDigits = Some HexadecimalFraction
point_step _ = None

abbrev pub b_step : NumberState → Option NumberState
b_step AfterZero = Some AfterB
b_step m = letter_step m

abbrev pub e_step : NumberState → Option NumberState
e_step AfterZero = Some Exponent
e_step DecimalDigits = Some Exponent
e_step Fraction = Some Exponent
e_step m = letter_step m

abbrev pub o_step : NumberState → Option NumberState
o_step AfterZero = Some AfterO
o_step _ = None

abbrev pub p_step : NumberState → Option NumberState
p_step HexadecimalDigits = Some BinaryExponent
p_step HexadecimalFraction = Some BinaryExponent
p_step _ = None

abbrev pub x_step : NumberState → Option NumberState
x_step AfterZero = Some AfterX
x_step _ = None

abbrev pub number_step : Kind → NumberState → Option NumberState
number_step Plus m = sign_step m
number_step Minus m = sign_step m
number_step Zero m = zero_step m
number_step One m = binary_step m
number_step TwoToSeven m = octal_step m
number_step EightOrNine m = digit_step m
number_step Dot m = point_step m
number_step B m = b_step m
number_step E m = e_step m
number_step HexLetter m = letter_step m
number_step O m = o_step m
number_step P m = p_step m
number_step X m = x_step m
number_step _ m = None

abbrev pub number_final : NumberState → Bool
number_final AfterZero = true
number_final DecimalDigits = true
number_final Fraction = true
number_final ExponentDigits = true
number_final HexadecimalDigits = true
number_final BinaryExponentDigits = true
number_final OctalDigits = true
number_final BinaryDigits = true
number_final _ = false

abbrev pub number : Automaton NumberState
number = record { step = λ c. number_step (kind c); final = number_final; start = Start }

abbrev pub is_number : List ℕ → Bool
is_number t = is_token number t
