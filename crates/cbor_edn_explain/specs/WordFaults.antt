-- Faults of words, the first that holds.
--
--   `(_ true)`   expected a string
--   `true_1`     `true` takes no indicator
--   `simple x`   expected `(` behind `simple`
--   `h"00"`      `h` takes single quotes
--   `Ab'x'`      the prefix mixes capitals and small letters
--   `[nil]`      an unknown word
use Rattle.std.specs.Prelude.{ℕ, ◌==◌, ◌&&◌, ◌||◌, Bool, true, false, if◌then◌else◌, List, [], ◌∷◌, codes, nat_eq, Option, Some, None}
use Rattle.std.specs.Cmp.Lexicographic.{pointwise}
use Rattle.std.specs.List.{list_any, list_all}
use Rattle.std.specs.Int.{is_in_range}
use Rattle.cbor_edn_explain.specs.declared.finding.Span.{Span}
use Rattle.cbor_edn_explain.specs.declared.finding.Wanted.TheVariants as wants
use Rattle.cbor_edn_explain.specs.declared.finding.QuoteFault.TheVariants as quotes
use Rattle.cbor_edn_explain.specs.declared.finding.IndicatorFault.TheVariants as indicators
use Rattle.cbor_edn_explain.specs.declared.finding.Kind.TheVariants as kinds
use Rattle.cbor_edn_explain.specs.declared.finding.Finding.{Finding}
use Rattle.cbor_edn_explain.specs.declared.state.Gap.{Gap}
use Rattle.cbor_edn_explain.specs.declared.state.Gap.TheVariants as gap_kinds
use Rattle.cbor_edn_explain.specs.declared.state.Open.{Open}
use Rattle.cbor_edn_explain.specs.declared.state.Place.{Place}
use Rattle.cbor_edn_explain.specs.State.{Opened, innermost, ended}
use Rattle.cbor_edn_explain.specs.Tokens.{byte_at, is_at, between, run_span, span_of, token_span}
use Rattle.cbor_edn_explain.specs.Gaps.{plain, is_stream, in_gap}

abbrev pub is_one_of : List ℕ → List (List ℕ) → Bool
is_one_of word names = list_any (λ name. pointwise nat_eq name word) names

abbrev pub keywords : List (List ℕ)
keywords = codes "true" ∷ (codes "false" ∷ (codes "null" ∷ (codes "undefined" ∷ [])))

abbrev pub numbers : List (List ℕ)
numbers = codes "NaN" ∷ (codes "Infinity" ∷ [])

abbrev pub simple : List (List ℕ)
simple = codes "simple" ∷ []

abbrev pub prefixes : List (List ℕ)
prefixes =
    codes "h" ∷ (codes "H" ∷ (codes "b64" ∷ (codes "B64" ∷ (codes "b32" ∷ (codes "B32" ∷
    (codes "h32" ∷ (codes "H32" ∷ (codes "dt" ∷ (codes "DT" ∷ (codes "ip" ∷ (codes "IP" ∷ [])))))))))))

unfoldable pub is_keyword : List ℕ → Bool
is_keyword word = is_one_of word keywords

unfoldable pub is_number : List ℕ → Bool
is_number word = is_one_of word numbers

unfoldable pub is_simple : List ℕ → Bool
is_simple word = is_one_of word simple

unfoldable pub is_prefix : List ℕ → Bool
is_prefix word = is_one_of word prefixes

abbrev pub is_name : List ℕ → Bool
is_name word = is_keyword word || (is_number word || is_simple word)

abbrev pub is_in_stream : Option Open → Bool
is_in_stream None = false
is_in_stream (Some o) = is_stream o.bracket

abbrev pub is_text_wanted_by : Gap → Option Open → Bool
is_text_wanted_by gap_kinds.Plus top = true
is_text_wanted_by _ top = is_in_stream top

abbrev pub is_text_wanted : Place → Option Open → Bool
is_text_wanted p top = is_text_wanted_by p.gap top

abbrev pub not_taken : ℕ → ℕ → ℕ → Finding
not_taken begin at to = record (plain (kinds.Indicator indicators.NotTaken) (record { from = at; to = to })) { subject = Some (record { from = begin; to = at }) }

abbrev pub is_letter_or_digit_byte : ℕ → Bool
is_letter_or_digit_byte c = is_in_range 97 122 c || (is_in_range 65 90 c || is_in_range 48 57 c)

abbrev pub is_plain_word : List ℕ → Bool
is_plain_word word = list_all is_letter_or_digit_byte word

abbrev pub in_other_by : Option ℕ → List ℕ → List ℕ → Span → Finding
in_other_by None bytes word s = plain kinds.Word s
in_other_by (Some c) bytes word s =
    if (c == 34 || c == 96) && is_prefix word then record (plain (kinds.Quote quotes.NotSingle) (span_of bytes s.to 1)) { subject = Some s }
    else if c == 39 && is_plain_word word then plain (kinds.Quote quotes.Mixed) s
    else plain kinds.Word s

-- a word that EDN does not have, by the byte behind it
abbrev pub in_other : List ℕ → List ℕ → Span → Finding
in_other bytes word s = in_other_by (byte_at bytes s.to) bytes word s

-- a word without an indicator, where any item may stand
abbrev pub in_whole : List ℕ → Place → Opened → Span → List ℕ → Finding
in_whole bytes p os s word =
    if is_keyword word || is_number word then in_gap bytes s.to (ended p s.to) os
    else if is_simple word then plain (kinds.Expected wants.Argument) (token_span bytes s.to)
    else in_other bytes word s

abbrev pub in_word_by : List ℕ → ℕ → Place → Opened → Span → List ℕ → Finding
in_word_by bytes at p os s word =
    if is_text_wanted p (innermost os) && is_name word then plain (kinds.Expected wants.Text) s
    else if is_keyword (between bytes p.begin at) && is_at bytes at 95 then not_taken p.begin at s.to
    else in_whole bytes p os s word

-- of a word that begins at `p.begin`: `at` is in it or at its end
unfoldable pub in_word : List ℕ → ℕ → Place → Opened → Finding
in_word bytes at p os =
    in_word_by bytes at p os (run_span bytes p.begin at) (between bytes p.begin (run_span bytes p.begin at).to)
