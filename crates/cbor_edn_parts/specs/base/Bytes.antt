-- The kinds of bytes that the grammar tells apart. A text is the list of its UTF-8 bytes, each below 256.
use Rattle.std.specs.Prelude.{ℕ, ◌≤◌, ◌<◌, Bool, true, false, cond, eqb, leb, ltb, ◌||◌, ◌&&◌, List, [], ◌∷◌, ◌≡◌}
pub use Rattle.cbor_edn_parts.specs.declared.base.bytes.Kind.{Kind}
pub use Rattle.cbor_edn_parts.specs.declared.base.bytes.Kind.TheVariants.{Blank, Tab, Lf, Control, Slash, Hash, Comma, Colon, Open, Close, Less, Quote, Plus, Minus, Zero, One, TwoToSeven, EightOrNine, Dot, B, E, HexLetter, O, P, X, Letter, Underscore, Other}

abbrev pub is_close : ℕ → Bool
is_close c = eqb c 93 || eqb c 125 || eqb c 41 || eqb c 62

-- a, c, d and f, in either case
abbrev pub is_hex_letter : ℕ → Bool
is_hex_letter c = eqb c 97 || eqb c 99 || eqb c 100 || eqb c 102 || eqb c 65 || eqb c 67 || eqb c 68 || eqb c 70

-- a number from 256 on is no byte, and of no use as one
unfoldable pub kind : ℕ → Kind
kind c =
    cond (eqb c 32 || eqb c 13) Blank (
    cond (eqb c 9) Tab (
    cond (eqb c 10) Lf (
    cond (ltb c 32 || leb 256 c) Control (
    cond (eqb c 47) Slash (
    cond (eqb c 35) Hash (
    cond (eqb c 44) Comma (
    cond (eqb c 58) Colon (
    cond (eqb c 91 || eqb c 123 || eqb c 40) Open (
    cond (is_close c) Close (
    cond (eqb c 60) Less (
    cond (eqb c 34 || eqb c 39) Quote (
    cond (eqb c 43) Plus (
    cond (eqb c 45) Minus (
    cond (eqb c 48) Zero (
    cond (eqb c 49) One (
    cond (leb 50 c && leb c 55) TwoToSeven (
    cond (eqb c 56 || eqb c 57) EightOrNine (
    cond (eqb c 46) Dot (
    cond (eqb c 98 || eqb c 66) B (
    cond (eqb c 101 || eqb c 69) E (
    cond (is_hex_letter c) HexLetter (
    cond (eqb c 111 || eqb c 79) O (
    cond (eqb c 112 || eqb c 80) P (
    cond (eqb c 120 || eqb c 88) X (
    cond ((leb 97 c && leb c 122) || (leb 65 c && leb c 90)) Letter (
    cond (eqb c 95) Underscore Other))))))))))))))))))))))))))

-- a byte of a character that takes more than one
abbrev pub IsLong : ℕ → Type 0
IsLong c = (128 ≤ c) × (c < 256)

-- What may stand after a token of an item: a space, a separator, a colon, a plus sign or a closing byte.
abbrev pub follows : Kind → Bool
follows Blank = true
follows Tab = true
follows Lf = true
follows Slash = true
follows Hash = true
follows Comma = true
follows Colon = true
follows Plus = true
follows Close = true
follows _ = false

-- What may stand after a list of items.
abbrev pub closing : Kind → Bool
closing Close = true
closing _ = false

-- What an item may begin with.
abbrev pub begins : Kind → Bool
begins Open = true
begins Plus = true
begins Minus = true
begins Zero = true
begins One = true
begins TwoToSeven = true
begins EightOrNine = true
begins Dot = true
begins B = true
begins E = true
begins HexLetter = true
begins O = true
begins P = true
begins X = true
begins Letter = true
begins Quote = true
begins Less = true
begins _ = false

abbrev pub Follow : List ℕ → Type 0
Follow [] = Unit {0}
Follow (c ∷ r) = follows (kind c) ≡ true

abbrev pub Closes : List ℕ → Type 0
Closes [] = Unit {0}
Closes (c ∷ r) = closing (kind c) ≡ true

abbrev pub Begins : List ℕ → Type 0
Begins [] = ⊥
Begins (c ∷ r) = begins (kind c) ≡ true

-- Whether a list of items is at its end: nothing or a closing byte follows.
abbrev pub is_closed : List ℕ → Bool
is_closed [] = true
is_closed (c ∷ r) = closing (kind c)
