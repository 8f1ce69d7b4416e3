-- Which characters act on a terminal, turn text or hide it, and how a text is told without them.
use Rattle.std.specs.Prelude.{ℕ, ◌-◌, ◌^◌, Bool, true, false, not, ◌&&◌, ◌||◌, ◌==◌, if◌then◌else◌, List, [], ◌∷◌, ◌++◌, codes, encode_utf8}
use Rattle.std.specs.Int.{is_in_range}
use Rattle.std.specs.List.{flat_map}
use Rattle.std.specs.Str.{NoCharPasses}
use Rattle.std.specs.Fmt.{digits, format_spec, padded_integral}

-- The characters, by the first and the last of each range: what Unicode calls controls, Bidi_Control, line and paragraph separators, and
-- Default_Ignorable_Code_Point, which have no width. Variation selectors U+FE00 to U+FE0F are left out: they stand behind ordinary emoji,
-- and change how one character looks.
abbrev pub acting : List (ℕ × ℕ)
acting =
    -- controls: C0, DEL and C1
    (0x00, 0x1F) ∷ (0x7F, 0x9F)
    -- soft hyphen, grapheme joiner, Arabic letter mark, fillers and vowels without width
    ∷ (0xAD, 0xAD) ∷ (0x34F, 0x34F) ∷ (0x61C, 0x61C) ∷ (0x115F, 0x1160) ∷ (0x17B4, 0x17B5) ∷ (0x180B, 0x180F)
    -- no width, joiners and marks of direction
    ∷ (0x200B, 0x200F)
    -- separators of lines and paragraphs, embeddings and overrides of direction
    ∷ (0x2028, 0x202E)
    -- invisible operators, isolates of direction, deprecated controls
    ∷ (0x2060, 0x206F)
    -- fillers, the byte order mark, annotations between lines
    ∷ (0x3164, 0x3164) ∷ (0xFEFF, 0xFEFF) ∷ (0xFFA0, 0xFFA0) ∷ (0xFFF0, 0xFFFB)
    -- controls of shorthand and of music
    ∷ (0x1BCA0, 0x1BCA3) ∷ (0x1D173, 0x1D17A)
    -- tags, and variation selectors of ideographs
    ∷ (0xE0000, 0xE0FFF) ∷ []

abbrev pub is_in_one : List (ℕ × ℕ) → ℕ → Bool
is_in_one [] c = false
is_in_one (r ∷ rs) c = is_in_range r.0 r.1 c || is_in_one rs c

abbrev pub acts_on_terminal : ℕ → Bool
acts_on_terminal c = is_in_one acting c

-- ---- as a text is told

-- the number in hexadecimal capitals, of four digits at least: `<U+001B>`
abbrev pub by_number : ℕ → List ℕ
by_number c = codes "<U+" ++ (padded_integral (format_spec 32 0 4 4 (2 ^ 64 - 1)) false [] (digits 16 true c) ++ codes ">")

-- a tab is a space, so that what stands below a line has the same columns
abbrev pub shown_character : ℕ → List ℕ
shown_character c = if c == 9 then 32 ∷ [] else if acts_on_terminal c then by_number c else encode_utf8 c

-- the bytes of these characters as they are told: `a<U+202E>b`
unfoldable pub shown_text : List ℕ → List ℕ
shown_text cs = flat_map shown_character cs

-- the same of a text of lines, where line feeds stay
abbrev pub shown_in_lines : ℕ → List ℕ
shown_in_lines c = if c == 10 then 10 ∷ [] else shown_character c

unfoldable pub lines_text : List ℕ → List ℕ
lines_text cs = flat_map shown_in_lines cs

-- ---- texts that act on nothing

-- no character of the text acts on a terminal,
abbrev pub IsHarmless : List ℕ → Type 0
IsHarmless text = NoCharPasses acts_on_terminal text

abbrev pub acts_in_lines : ℕ → Bool
acts_in_lines c = not (c == 10) && acts_on_terminal c

-- or none but the line feeds that end its lines
abbrev pub IsHarmlessInLines : List ℕ → Type 0
IsHarmlessInLines text = NoCharPasses acts_in_lines text

-- Whatever is told acts on nothing,
abbrev pub ShownIsHarmless : Type 0
ShownIsHarmless = (cs : List ℕ) → IsHarmless (shown_text cs)

-- and what is told in lines by its line feeds alone.
abbrev pub LinesAreHarmless : Type 0
LinesAreHarmless = (cs : List ℕ) → IsHarmlessInLines (lines_text cs)
