-- Texts read with a limit, computed.
use Rattle.std.proofs.Common.{ℕ, List, [], ◌∷◌, ◌≡◌, refl}
use Rattle.std.specs.Prelude.{Some, None, Ok, Err}
use Rattle.cbor_edn_parts.specs.declared.base.error.ParseErrorKind.TheVariants.{Invalid, TooDeep}
use Rattle.cbor_edn_parts.specs.declared.base.indicator.Indicator.TheVariants.{Immediate, Two}
use Rattle.cbor_edn_parts.specs.base.Bytes.{kind}
use Rattle.cbor_edn_parts.specs.base.Indicator.{indicator_at, suffix_at}
use Rattle.cbor_edn_parts.specs.internal.Lex.{munch, push}
use Rattle.cbor_edn_model.specs.tree.Items.{Array, Map, Number, Listed, Element, Pair, End, Then}
use Rattle.cbor_edn_model.specs.tree.Trees.{OneItem, Seq, NoIndicator, WithIndicator, Tree, NumberTree, FloatTree, NamedTree, EnclosedTree, ListTree, StringTree, StreamTree, LiteralTree, EllipsisTree, EmbeddedTree, LastPieceTree, PlusTree, ElementTree, PairTree, ChunkTree, EmptyTree, FullTree, LastTree, MoreTree, NothingTree, SequenceTree, StandaloneTree, items, text, onto, joins}
use Rattle.std.specs.Fmt.{digits}
use Rattle.cbor_edn_model.specs.declared.text.opener.OpenerKind.TheVariants as opener
use Rattle.cbor_edn_model.specs.declared.text.keyword.NamedSimple.TheVariants.{True}
use Rattle.cbor_edn_model.specs.declared.text.keyword.NonFinite.TheVariants.{NegativeInfinity}
use Rattle.cbor_edn_model.specs.text.Openings.{openings}
use Rattle.cbor_edn_model.specs.internal.Reading.{reads_all, reads, read, byte, not_empty, list_head_of, starts_string, keyword_at, tag_number, enclosed_item, tag_item, number_end, number_item, keyword_item, plain_item, list_item, stream_item, string_item, item, literal_piece, ellipsis_piece, embedded_piece, piece, plus_string, string, entry, inside_full, inside, more, rest, sequence, standalone}

abbrev Reads : ℕ → List ℕ → Tree Seq → Type 0
Reads limit xs w = reads_all limit Seq xs ≡ Ok w

abbrev Refused : List ℕ → Type 0
Refused xs = reads_all 9 Seq xs ≡ Err Invalid

abbrev Deep : ℕ → List ℕ → Type 0
Deep limit xs = reads_all limit Seq xs ≡ Err TooDeep

-- a sequence of one item, without space
abbrev alone : Tree OneItem → Tree Seq
alone w = SequenceTree [] (LastTree (ElementTree w) [])

-- Numbers and lists.
lists :
    -- [1, 0x1f, []]
    Reads 2 (91 ∷ 49 ∷ 44 ∷ 32 ∷ 48 ∷ 120 ∷ 49 ∷ 102 ∷ 44 ∷ 32 ∷ 91 ∷ 93 ∷ 93 ∷ []) (alone (ListTree Array (FullTree NoIndicator [] (MoreTree (ElementTree (NumberTree (49 ∷ []) None)) (44 ∷ 32 ∷ []) (MoreTree (ElementTree (NumberTree (48 ∷ 120 ∷ 49 ∷ 102 ∷ []) None)) (44 ∷ 32 ∷ []) (LastTree (ElementTree (ListTree Array (EmptyTree None []))) []))))))
    -- {1:2}
    × Reads 1 (123 ∷ 49 ∷ 58 ∷ 50 ∷ 125 ∷ []) (alone (ListTree Map (FullTree NoIndicator [] (LastTree (PairTree (NumberTree (49 ∷ []) None) [] [] (NumberTree (50 ∷ []) None)) []))))
    -- { .5_1 : 0x1p-2 }
    × Reads 1 (123 ∷ 32 ∷ 46 ∷ 53 ∷ 95 ∷ 49 ∷ 32 ∷ 58 ∷ 32 ∷ 48 ∷ 120 ∷ 49 ∷ 112 ∷ 45 ∷ 50 ∷ 32 ∷ 125 ∷ []) (alone (ListTree Map (FullTree NoIndicator (32 ∷ []) (LastTree (PairTree (NumberTree (46 ∷ 53 ∷ []) (Some Two)) (32 ∷ []) (32 ∷ []) (NumberTree (48 ∷ 120 ∷ 49 ∷ 112 ∷ 45 ∷ 50 ∷ []) None)) (32 ∷ [])))))
    -- [_1 1]
    × Reads 1 (91 ∷ 95 ∷ 49 ∷ 32 ∷ 49 ∷ 93 ∷ []) (alone (ListTree Array (FullTree (WithIndicator Two (32 ∷ [])) [] (LastTree (ElementTree (NumberTree (49 ∷ []) None)) []))))
    -- {_1}
    × Reads 1 (123 ∷ 95 ∷ 49 ∷ 125 ∷ []) (alone (ListTree Map (EmptyTree (Some Two) [])))
unfolding reads_all reads read byte not_empty list_head_of starts_string joins keyword_at enclosed_item tag_item number_end number_item keyword_item plain_item list_item stream_item string_item item literal_piece ellipsis_piece embedded_piece piece plus_string string entry inside_full inside more rest sequence standalone indicator_at suffix_at kind munch push
lists = (refl, refl, refl, refl, refl)

-- Strings.
strings :
    -- h'00'_1: a prefix and an indicator
    Reads 0 (104 ∷ 39 ∷ 48 ∷ 48 ∷ 39 ∷ 95 ∷ 49 ∷ []) (alone (StringTree (LastPieceTree (LiteralTree (104 ∷ 39 ∷ 48 ∷ 48 ∷ 39 ∷ []) (Some Two)))))
    -- "a" + 'b'+...
    × Reads 0 (34 ∷ 97 ∷ 34 ∷ 32 ∷ 43 ∷ 32 ∷ 39 ∷ 98 ∷ 39 ∷ 43 ∷ 46 ∷ 46 ∷ 46 ∷ []) (alone (StringTree (PlusTree (LiteralTree (34 ∷ 97 ∷ 34 ∷ []) None) (32 ∷ []) (32 ∷ []) (PlusTree (LiteralTree (39 ∷ 98 ∷ 39 ∷ []) None) [] [] (LastPieceTree (EllipsisTree (46 ∷ 46 ∷ 46 ∷ [])))))))
    -- (_ "a" + "b", "c")
    × Reads 0 (40 ∷ 95 ∷ 32 ∷ 34 ∷ 97 ∷ 34 ∷ 32 ∷ 43 ∷ 32 ∷ 34 ∷ 98 ∷ 34 ∷ 44 ∷ 32 ∷ 34 ∷ 99 ∷ 34 ∷ 41 ∷ []) (alone (StreamTree (32 ∷ []) (MoreTree (ChunkTree (PlusTree (LiteralTree (34 ∷ 97 ∷ 34 ∷ []) None) (32 ∷ []) (32 ∷ []) (LastPieceTree (LiteralTree (34 ∷ 98 ∷ 34 ∷ []) None)))) (44 ∷ 32 ∷ []) (LastTree (ChunkTree (LastPieceTree (LiteralTree (34 ∷ 99 ∷ 34 ∷ []) None))) []))))
    -- <<1 ,>>_1
    × Reads 1 (60 ∷ 60 ∷ 49 ∷ 32 ∷ 44 ∷ 62 ∷ 62 ∷ 95 ∷ 49 ∷ []) (alone (StringTree (LastPieceTree (EmbeddedTree (SequenceTree [] (LastTree (ElementTree (NumberTree (49 ∷ []) None)) (32 ∷ 44 ∷ []))) (Some Two)))))
    -- <<>>
    × Reads 1 (60 ∷ 60 ∷ 62 ∷ 62 ∷ []) (alone (StringTree (LastPieceTree (EmbeddedTree (NothingTree []) None))))
    -- "a" +1: a plus sign in front of a digit begins a number
    × Reads 0 (34 ∷ 97 ∷ 34 ∷ 32 ∷ 43 ∷ 49 ∷ []) (SequenceTree [] (MoreTree (ElementTree (StringTree (LastPieceTree (LiteralTree (34 ∷ 97 ∷ 34 ∷ []) None)))) (32 ∷ []) (LastTree (ElementTree (NumberTree (43 ∷ 49 ∷ []) None)) [])))
    -- ... .5
    × Reads 0 (46 ∷ 46 ∷ 46 ∷ 32 ∷ 46 ∷ 53 ∷ []) (SequenceTree [] (MoreTree (ElementTree (StringTree (LastPieceTree (EllipsisTree (46 ∷ 46 ∷ 46 ∷ []))))) (32 ∷ []) (LastTree (ElementTree (NumberTree (46 ∷ 53 ∷ []) None)) [])))
unfolding reads_all reads read byte not_empty list_head_of starts_string joins keyword_at enclosed_item tag_item number_end number_item keyword_item plain_item list_item stream_item string_item item literal_piece ellipsis_piece embedded_piece piece plus_string string entry inside_full inside more rest sequence standalone indicator_at suffix_at kind munch push
strings = (refl, refl, refl, refl, refl, refl, refl)

-- Keywords and tags.
keywords :
    -- true
    Reads 0 (116 ∷ 114 ∷ 117 ∷ 101 ∷ []) (alone (NamedTree True))
    -- -Infinity_1
    × Reads 0 (45 ∷ 73 ∷ 110 ∷ 102 ∷ 105 ∷ 110 ∷ 105 ∷ 116 ∷ 121 ∷ 95 ∷ 49 ∷ []) (alone (FloatTree NegativeInfinity (Some Two)))
    -- true'': a prefix is no keyword
    × Reads 0 (116 ∷ 114 ∷ 117 ∷ 101 ∷ 39 ∷ 39 ∷ []) (alone (StringTree (LastPieceTree (LiteralTree (116 ∷ 114 ∷ 117 ∷ 101 ∷ 39 ∷ 39 ∷ []) None))))
    -- simple( 20)
    × Reads 1 (115 ∷ 105 ∷ 109 ∷ 112 ∷ 108 ∷ 101 ∷ 40 ∷ 32 ∷ 50 ∷ 48 ∷ 41 ∷ []) (alone (EnclosedTree opener.Simple (StandaloneTree (32 ∷ []) (NumberTree (50 ∷ 48 ∷ []) None) [])))
    -- 0_i(12(3))
    × Reads 2 (48 ∷ 95 ∷ 105 ∷ 40 ∷ 49 ∷ 50 ∷ 40 ∷ 51 ∷ 41 ∷ 41 ∷ []) (alone (EnclosedTree (opener.Tag (Some Immediate) 0) (StandaloneTree [] (EnclosedTree (opener.Tag None 12) (StandaloneTree [] (NumberTree (51 ∷ []) None) [])) [])))
unfolding reads_all reads read byte not_empty list_head_of starts_string joins keyword_at enclosed_item tag_item number_end number_item keyword_item plain_item list_item stream_item string_item item literal_piece ellipsis_piece embedded_piece piece plus_string string entry inside_full inside more rest sequence standalone indicator_at suffix_at kind munch push digits
keywords = (refl, refl, refl, refl, refl)

-- What is refused.
refused :
    -- [,]
    Refused (91 ∷ 44 ∷ 93 ∷ [])
    -- [_11]: behind an indicator a space stands before the entries
    × Refused (91 ∷ 95 ∷ 49 ∷ 49 ∷ 93 ∷ [])
    -- [_1 1 _]: an indicator stands in front alone
    × Refused (91 ∷ 95 ∷ 49 ∷ 32 ∷ 49 ∷ 32 ∷ 95 ∷ 93 ∷ [])
    -- {1}: a key has a value
    × Refused (123 ∷ 49 ∷ 125 ∷ [])
    -- "a" + 1: a plus sign joins strings
    × Refused (34 ∷ 97 ∷ 34 ∷ 32 ∷ 43 ∷ 32 ∷ 49 ∷ [])
    -- ..: three dots or more
    × Refused (46 ∷ 46 ∷ [])
    -- (_ ): a stream has a string
    × Refused (40 ∷ 95 ∷ 32 ∷ 41 ∷ [])
    -- (_"a"): and a space in front
    × Refused (40 ∷ 95 ∷ 34 ∷ 97 ∷ 34 ∷ 41 ∷ [])
    -- (_ 1): and strings alone
    × Refused (40 ∷ 95 ∷ 32 ∷ 49 ∷ 41 ∷ [])
    -- <<1>: an embedded sequence has two brackets at its end
    × Refused (60 ∷ 60 ∷ 49 ∷ 62 ∷ [])
unfolding reads_all reads read byte not_empty list_head_of starts_string joins keyword_at enclosed_item tag_item number_end number_item keyword_item plain_item list_item stream_item string_item item literal_piece ellipsis_piece embedded_piece piece plus_string string entry inside_full inside more rest sequence standalone indicator_at suffix_at kind munch push
refused = (refl, refl, refl, refl, refl, refl, refl, refl, refl, refl)

-- What is refused of keywords and tags.
keywords_refused :
    -- nullx
    Refused (110 ∷ 117 ∷ 108 ∷ 108 ∷ 120 ∷ [])
    -- simple
    × Refused (115 ∷ 105 ∷ 109 ∷ 112 ∷ 108 ∷ 101 ∷ [])
    -- +Infinity
    × Refused (43 ∷ 73 ∷ 110 ∷ 102 ∷ 105 ∷ 110 ∷ 105 ∷ 116 ∷ 121 ∷ [])
    -- 1.0(2): the number of a tag is an integer
    × Refused (49 ∷ 46 ∷ 48 ∷ 40 ∷ 50 ∷ 41 ∷ [])
    -- 01(2): without a leading zero
    × Refused (48 ∷ 49 ∷ 40 ∷ 50 ∷ 41 ∷ [])
    -- 1 (2): with nothing in front of the parenthesis
    × Refused (49 ∷ 32 ∷ 40 ∷ 50 ∷ 41 ∷ [])
    -- 1(2,): one item
    × Refused (49 ∷ 40 ∷ 50 ∷ 44 ∷ 41 ∷ [])
unfolding reads_all reads read byte not_empty list_head_of starts_string joins keyword_at enclosed_item tag_item number_end number_item keyword_item plain_item list_item stream_item string_item item literal_piece ellipsis_piece embedded_piece piece plus_string string entry inside_full inside more rest sequence standalone indicator_at suffix_at kind munch push digits
keywords_refused = (refl, refl, refl, refl, refl, refl, refl)

-- 18446744073709551616 is 2^64: no number of a tag
number_too_large : tag_number (49 ∷ 56 ∷ 52 ∷ 52 ∷ 54 ∷ 55 ∷ 52 ∷ 52 ∷ 48 ∷ 55 ∷ 51 ∷ 55 ∷ 48 ∷ 57 ∷ 53 ∷ 53 ∷ 49 ∷ 54 ∷ 49 ∷ 54 ∷ []) ≡ None
unfolding digits
number_too_large = refl

-- What nests too deep.
too_deep :
    -- [[]]
    Deep 1 (91 ∷ 91 ∷ 93 ∷ 93 ∷ [])
    -- {1:{}}
    × Deep 1 (123 ∷ 49 ∷ 58 ∷ 123 ∷ 125 ∷ 125 ∷ [])
    -- <<<<>>>>
    × Deep 1 (60 ∷ 60 ∷ 60 ∷ 60 ∷ 62 ∷ 62 ∷ 62 ∷ 62 ∷ [])
    -- (_ <<1>>)
    × Deep 0 (40 ∷ 95 ∷ 32 ∷ 60 ∷ 60 ∷ 49 ∷ 62 ∷ 62 ∷ 41 ∷ [])
    -- 1(2(3))
    × Deep 1 (49 ∷ 40 ∷ 50 ∷ 40 ∷ 51 ∷ 41 ∷ 41 ∷ [])
    -- simple(1)
    × Deep 0 (115 ∷ 105 ∷ 109 ∷ 112 ∷ 108 ∷ 101 ∷ 40 ∷ 49 ∷ 41 ∷ [])
unfolding reads_all reads read byte not_empty list_head_of starts_string joins keyword_at enclosed_item tag_item number_end number_item keyword_item plain_item list_item stream_item string_item item literal_piece ellipsis_piece embedded_piece piece plus_string string entry inside_full inside more rest sequence standalone indicator_at suffix_at kind munch push digits
too_deep = (refl, refl, refl, refl, refl, refl)

-- What stands first decides: `[[` is too deep before it is unfinished, and `1][` is refused before anything is too deep.
first_decides :
    -- [[
    Deep 1 (91 ∷ 91 ∷ [])
    -- 1][
    × reads_all 0 Seq (49 ∷ 93 ∷ 91 ∷ []) ≡ Err Invalid
unfolding reads_all reads read byte not_empty list_head_of starts_string joins keyword_at enclosed_item tag_item number_end number_item keyword_item plain_item list_item stream_item string_item item literal_piece ellipsis_piece embedded_piece piece plus_string string entry inside_full inside more rest sequence standalone indicator_at suffix_at kind munch push
first_decides = (refl, refl)

-- the items of `1_i {1 : 2}`
items_alone : items (SequenceTree [] (MoreTree (ElementTree (NumberTree (49 ∷ []) (Some Immediate))) (32 ∷ []) (LastTree (ElementTree (ListTree Map (FullTree NoIndicator [] (LastTree (PairTree (NumberTree (49 ∷ []) None) (32 ∷ []) (32 ∷ []) (NumberTree (50 ∷ []) None)) [])))) []))) ≡ Then (Element (Number (49 ∷ []) (Some Immediate))) (Then (Element (Listed Map None (Then (Pair (Number (49 ∷ []) None) (Number (50 ∷ []) None)) End))) End)
unfolding items
items_alone = refl

-- and its text
text_alone : text (SequenceTree [] (MoreTree (ElementTree (NumberTree (49 ∷ []) (Some Immediate))) (32 ∷ []) (LastTree (ElementTree (ListTree Map (FullTree NoIndicator [] (LastTree (PairTree (NumberTree (49 ∷ []) None) (32 ∷ []) (32 ∷ []) (NumberTree (50 ∷ []) None)) [])))) []))) ≡ 49 ∷ 95 ∷ 105 ∷ 32 ∷ 123 ∷ 49 ∷ 32 ∷ 58 ∷ 32 ∷ 50 ∷ 125 ∷ []
unfolding onto
text_alone = refl

-- [<<1>>] has two openings, and so has {1:[]}
two_openings : openings (91 ∷ 60 ∷ 60 ∷ 49 ∷ 62 ∷ 62 ∷ 93 ∷ []) ≡ 2
two_openings = refl

map_openings : openings (123 ∷ 49 ∷ 58 ∷ 91 ∷ 93 ∷ 125 ∷ []) ≡ 2
map_openings = refl
