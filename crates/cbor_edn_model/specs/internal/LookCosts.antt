-- How many reads the parts of a text may cost, and who pays for them.
use Rattle.std.specs.Prelude.{ℕ}
use Rattle.cbor_edn_model.specs.tree.Trees.{Rule, OneItem, OnePiece, OneString, OneEntry, Inside, Rest, Seq, Standalone}

-- Each byte that is read pays for so many: its own read, those that ask what begins there, and what its callers spend
-- around it.
abbrev pub a_byte : ℕ
a_byte = 12

-- No keyword is longer, so no more reads are lost on one that does not stand there.
abbrev pub longest_keyword : ℕ
longest_keyword = 9

-- What a use of a rule may cost beyond its bytes. A byte pays that its caller reads, as the brackets round it or the comma behind it.
abbrev pub extra : Rule → ℕ
extra OneItem = 6
extra OnePiece = 0
extra OneString = 4
extra (OneEntry k) = 6
extra (Inside k) = 13
extra (Rest k) = 9
extra Seq = 11
extra Standalone = 10

-- The same where it is refused, beyond all bytes that are left.
abbrev pub refused_extra : Rule → ℕ
refused_extra OneItem = 10
refused_extra OnePiece = 5
refused_extra OneString = 8
refused_extra (OneEntry k) = 10
refused_extra (Inside k) = 14
refused_extra (Rest k) = 10
refused_extra Seq = 12
refused_extra Standalone = 11

-- a number or a keyword, with its indicator, read or refused
abbrev pub keyword_extra : ℕ
keyword_extra = 4

-- an item between parentheses, from the one that opens them
abbrev pub enclosed_extra : ℕ
enclosed_extra = 0

abbrev pub refused_enclosed_extra : ℕ
refused_enclosed_extra = 1

-- a list behind the bracket that opens it, and a stream behind its parenthesis
abbrev pub list_extra : ℕ
list_extra = 4

abbrev pub refused_stream_extra : ℕ
refused_stream_extra = 12

-- the value of a pair, behind the colon
abbrev pub value_extra : ℕ
value_extra = 8

abbrev pub refused_value_extra : ℕ
refused_value_extra = 11

-- what stands behind an entry
abbrev pub separator_extra : ℕ
separator_extra = 2

-- a whole text, accepted or refused
abbrev pub text_extra : ℕ
text_extra = 12
