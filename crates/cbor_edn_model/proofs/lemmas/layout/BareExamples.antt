-- Comments put in front of items, indicators removed, and plain values, computed.
use Rattle.std.proofs.Common.{ℕ, List, [], ◌∷◌, ◌≡◌, refl}
use Rattle.std.specs.Prelude.{pos, codes, Some, None, Result, Ok}
use Rattle.std.specs.Fmt.{digits}
use Rattle.cbor_edn_parts.specs.declared.base.error.ParseErrorKind.{ParseErrorKind}
use Rattle.cbor_edn_parts.specs.declared.string.StringKind.TheVariants.{Bytes}
use Rattle.cbor_edn_parts.specs.base.Bytes.{kind}
use Rattle.cbor_edn_parts.specs.base.Indicator.{indicator_at, suffix_at}
use Rattle.cbor_edn_parts.specs.internal.Lex.{munch, push}
use Rattle.cbor_edn_parts.specs.space.Notes.{hash_lines, noted}
use Rattle.cbor_edn_model.specs.declared.cbor.heads.Width.TheVariants.{Immediate, One}
use Rattle.cbor_edn_model.specs.tree.Trees.{Rule, Standalone, Tree, text, onto, joins}
use Rattle.cbor_edn_model.specs.internal.Results.{◌>>=◌}
use Rattle.cbor_edn_model.specs.internal.Reading.{reads_all, reads, read, byte, not_empty, list_head_of, starts_string, keyword_at, enclosed_item, tag_item, number_end, number_item, keyword_item, plain_item, list_item, stream_item, string_item, item, literal_piece, ellipsis_piece, embedded_piece, piece, plus_string, string, entry, inside_full, inside, more, rest, sequence, standalone}
use Rattle.cbor_edn_model.specs.cbor.Value as value
use Rattle.cbor_edn_model.specs.layout.Bare.{without_indicators}
use Rattle.cbor_edn_model.specs.layout.Plain.{integer, string as text_or_bytes, array, no_plains, one_plain, plain}
use Rattle.cbor_edn_model.specs.layout.Commented.{commented}

-- the text of what is read, after a change
changed : (s : Rule) → (Tree s → Tree s) → List ℕ → Result (List ℕ) ParseErrorKind
unfolding reads_all reads read byte not_empty list_head_of starts_string joins keyword_at enclosed_item tag_item number_end number_item keyword_item plain_item list_item stream_item string_item item literal_piece ellipsis_piece embedded_piece piece plus_string string entry inside_full inside more rest sequence standalone indicator_at suffix_at kind munch push digits onto
changed s change xs = reads_all 9 s xs >>= λ w. Ok (text (change w))

abbrev Bare : List ℕ → List ℕ → Type 0
Bare xs ys = changed Standalone without_indicators xs ≡ Ok ys

abbrev Commented : List ℕ → List ℕ → List ℕ → Type 0
Commented c xs ys = changed Standalone (commented c) xs ≡ Ok ys

-- Without indicators: the space behind one goes with it where it is a single space, and else stays.
removed :
    Bare (codes "[_ 3]") (codes "[3]")
    × Bare (codes "[_  1_1]") (codes "[  1]")
    × Bare (codes "(_ 'x'_0)") (codes "(_ 'x')")
    × Bare (codes "{_1 /c/ 1: 2}") (codes "{ /c/ 1: 2}")
    -- a tab is no space
    × Bare (codes "[_\t3]") (codes "[\t3]")
    × Bare (codes "[_/c/3]") (codes "[/c/3]")
    -- a list without entries keeps its space
    × Bare (codes "[_ ]") (codes "[ ]")
    × Bare (codes "{_1}") (codes "{}")
    -- tags, keywords, numbers
    × Bare (codes "1_1( 2_0 )") (codes "1( 2 )")
    × Bare (codes "NaN_1") (codes "NaN")
    × Bare (codes "simple(4_i)") (codes "simple(4)")
    -- strings, and their pieces
    × Bare (codes "'a'_1") (codes "'a'")
    × Bare (codes "''_") (codes "''")
    × Bare (codes "h'00'_0") (codes "h'00'")
    × Bare (codes "(_ 'a'_0 + 'b' , 'c'_1)") (codes "(_ 'a' + 'b' , 'c')")
    -- nothing in an embedded sequence goes
    × Bare (codes "<<[_ 1_1]>>_0") (codes "<<[_ 1_1]>>")
    × Bare (codes "(_ <<1_0>>_1)") (codes "(_ <<1_0>>)")
unfolding changed without_indicators
removed = (refl, refl, refl, refl, refl, refl, refl, refl, refl, refl, refl, refl, refl, refl, refl, refl, refl)

-- A comment takes the place of the space in front.
comments :
    Commented (codes "a/b\nc") (codes "0") (codes "# a/b\n# c\n0")
    × Commented (1 ∷ []) (codes "0") (codes "/   /0")
    × Commented [] (codes "0") (codes "/  /0")
    × Commented (codes "c") (codes "0") (codes "/ c /0")
    × Commented (codes "c") (codes " 0") (codes "/ c /0")
    × Commented (codes "c") (codes " /a/ # b\n 0 /d/ ") (codes "/ c /0 /d/ ")
    × Commented (codes "\t\r\n") (codes "0") (codes "/ \t\r\n /0")
    × Commented (codes "/") (codes "0") (codes "# /\n0")
unfolding changed noted hash_lines
comments = (refl, refl, refl, refl, refl, refl, refl, refl)

-- Plain values.
plain_values :
    -- 18 01 and 01
    plain (value.unsigned One 1) ≡ plain (value.unsigned Immediate 1)
    -- 9f 01 ff and 81 01
    × plain (value.array None (value.value (value.unsigned Immediate 1) value.no_values)) ≡ array (one_plain (integer (pos 1)) no_plains)
    × plain (value.array (Some Immediate) (value.value (value.unsigned Immediate 1) value.no_values)) ≡ array (one_plain (integer (pos 1)) no_plains)
    -- 5f 41 61 41 62 ff and 42 61 62
    × plain (value.chunks Bytes ((Immediate, 97 ∷ []) ∷ (Immediate, 98 ∷ []) ∷ [])) ≡ text_or_bytes Bytes (97 ∷ 98 ∷ [])
    × plain (value.string Bytes Immediate (97 ∷ 98 ∷ [])) ≡ text_or_bytes Bytes (97 ∷ 98 ∷ [])
    -- 5f ff and 40
    × plain (value.chunks Bytes []) ≡ plain (value.string Bytes Immediate [])
plain_values = (refl, refl, refl, refl, refl, refl)
