-- The tests, automata and readers of space texts, numbers, encoding indicators and literals, against the grammar.
use Rattle.std.specs.Prelude.{List, ℕ, ℤ, true, Option, Some, ◌≡◌, ◌++◌, ◌↔◌}
use Rattle.cbor_edn_parts.specs.base.Bytes.{Follow}
use Rattle.cbor_edn_parts.specs.base.Indicator.{indicator_text, indicator_at}
use Rattle.cbor_edn_parts.specs.declared.base.indicator.Indicator.{Indicator}
use Rattle.cbor_edn_parts.specs.internal.Lex.{Is}
use Rattle.cbor_edn_parts.specs.space.Space.{IsSpace, IsMandatorySpace, IsListEnd, IsSeparator}
use Rattle.cbor_edn_parts.specs.internal.SpaceTokens.{space, separator, is_space, is_mandatory_space, is_list_end, is_separator}
use Rattle.cbor_edn_parts.specs.number.Number.{IsNumber, HasInteger}
use Rattle.cbor_edn_parts.specs.internal.NumberReading.{integer_of}
use Rattle.cbor_edn_parts.specs.internal.NumberTokens.{number, is_number}
use Rattle.cbor_edn_parts.specs.string.Literal.{IsQuoted, IsEllipsis}
use Rattle.cbor_edn_parts.specs.internal.LiteralTokens.{literal, ellipsis, is_literal, is_ellipsis}
use Rattle.cbor_edn_parts.specs.string.Contents.{HasContent, IsSupported, hex_literal, text_literal}
use Rattle.cbor_edn_parts.specs.internal.ContentReading.{literal_content, literal_kind, is_supported}
use Rattle.cbor_edn_parts.specs.declared.string.StringKind.{StringKind}
use Rattle.cbor_edn_parts.specs.declared.string.StringKind.TheVariants.{Bytes, Text}

-- Each test takes exactly the texts of the grammar's rule, and so does its automaton.
pub record SpaceTexts (text : List ℕ) : Type 0 where
  pub optional : IsSpace text ↔ (is_space text ≡ true)
  pub mandatory : IsMandatorySpace text ↔ (is_mandatory_space text ≡ true)
  pub at_end : IsListEnd text ↔ (is_list_end text ≡ true)
  pub separating : IsSeparator text ↔ (is_separator text ≡ true)
  pub optional_automaton : IsSpace text ↔ Is space text
  pub at_end_automaton : IsListEnd text ↔ Is separator text

-- The test and the automaton take exactly the numbers, and the reader of integers answers exactly the integer of a text.
pub record NumberTexts (text : List ℕ) : Type 0 where
  pub test : IsNumber text ↔ (is_number text ≡ true)
  pub automaton : IsNumber text ↔ Is number text
  pub integer : (z : ℤ) → HasInteger text z ↔ (integer_of text ≡ Some z)

-- A text begins with the indicator that is read in front of it, and an indicator is read whatever may follow an item
-- stands behind it.
pub record IndicatorTexts (text : List ℕ) : Type 0 where
  pub found : text ≡ indicator_text (indicator_at text).0 ++ (indicator_at text).1
  pub again : (i : Option Indicator) → Follow text → indicator_at (indicator_text i ++ text) ≡ (i, text)

-- The tests and automata take exactly the quoted texts and the dots. The readers answer exactly the content of a literal,
-- its kind, and whether it is one of those that have contents.
pub record LiteralTexts (text : List ℕ) : Type 0 where
  pub test : IsQuoted text ↔ (is_literal text ≡ true)
  pub automaton : IsQuoted text ↔ Is literal text
  pub ellipsis_test : IsEllipsis text ↔ (is_ellipsis text ≡ true)
  pub ellipsis_automaton : IsEllipsis text ↔ Is ellipsis text
  pub content : (kind : StringKind) (bytes : List ℕ) → HasContent text kind bytes ↔ (IsQuoted text × (literal_content text ≡ Some (kind, bytes)))
  pub kind : (kind : StringKind) (bytes : List ℕ) → HasContent text kind bytes → literal_kind text ≡ kind
  pub supported : IsSupported text ↔ (IsQuoted text × (is_supported text ≡ true))

-- The literals of decoded strings stand for these strings.
pub record DecodedLiterals (bytes : List ℕ) : Type 0 where
  pub hex : literal_content (hex_literal bytes) ≡ Some (Bytes, bytes)
  pub text : literal_content (text_literal bytes) ≡ Some (Text, bytes)
  pub hex_test : is_literal (hex_literal bytes) ≡ true
  pub text_test : is_literal (text_literal bytes) ≡ true
