-- Texts that are read, laid out and printed, computed.
use Rattle.std.proofs.Common.{ℕ, List, [], ◌∷◌, ◌++◌, ◌≡◌, refl}
use Rattle.std.specs.Prelude.{codes, ◌^◌, ◌-◌, None, Result, Ok}
use Rattle.std.specs.Fmt.{digits}
use Rattle.cbor_edn_parts.specs.declared.base.error.ParseErrorKind.{ParseErrorKind}
use Rattle.cbor_edn_parts.specs.base.Bytes.{kind}
use Rattle.cbor_edn_parts.specs.base.Indicator.{indicator_at, suffix_at}
use Rattle.cbor_edn_parts.specs.internal.Lex.{munch, push}
use Rattle.cbor_edn_parts.specs.internal.CommentReading.{from_first, to_last, up_to_comma, past_comma}
use Rattle.cbor_edn_parts.specs.space.Spacing.{indented, line}
use Rattle.cbor_edn_parts.specs.declared.space.policy.DelimiterPolicy.{DelimiterPolicy}
use Rattle.cbor_edn_parts.specs.declared.space.policy.DelimiterPolicy.TheVariants.{DiscardAll, DiscardAllButComments, SingleLineRegularSpacing, IndentedRegularSpacing, SingleSpace}
use Rattle.cbor_edn_model.specs.tree.Items.{Array}
use Rattle.cbor_edn_model.specs.tree.Trees.{Rule, Standalone, OneItem, Seq, NoIndicator, Tree, NumberTree, ElementTree, ListTree, FullTree, LastTree, MoreTree, SequenceTree, StandaloneTree, text, onto, joins}
use Rattle.cbor_edn_model.specs.internal.Results.{◌>>=◌}
use Rattle.cbor_edn_model.specs.internal.Reading.{reads_all, reads, read, byte, not_empty, list_head_of, starts_string, keyword_at, enclosed_item, tag_item, number_end, number_item, keyword_item, plain_item, list_item, stream_item, string_item, item, literal_piece, ellipsis_piece, embedded_piece, piece, plus_string, string, entry, inside_full, inside, more, rest, sequence, standalone}
use Rattle.cbor_edn_model.specs.layout.Layout.{laid, laid_out}

-- an item without the space round it
inner : Tree Standalone → Tree OneItem
inner (StandaloneTree s w t) = w

-- The text after a policy: of a sequence or of an item with the space round it, and of an item alone.
laid_text : (s : Rule) → DelimiterPolicy → List ℕ → Result (List ℕ) ParseErrorKind
unfolding reads_all reads read byte not_empty list_head_of starts_string joins keyword_at enclosed_item tag_item number_end number_item keyword_item plain_item list_item stream_item string_item item literal_piece ellipsis_piece embedded_piece piece plus_string string entry inside_full inside more rest sequence standalone indicator_at suffix_at kind munch push digits laid onto from_first to_last up_to_comma past_comma line
laid_text s policy xs = reads_all 9 s xs >>= λ w. Ok (text (laid_out policy w))

laid_item : DelimiterPolicy → List ℕ → Result (List ℕ) ParseErrorKind
unfolding laid_text inner
laid_item policy xs = reads_all 9 Standalone xs >>= λ w. Ok (text (laid_out policy (inner w)))

abbrev Alone : DelimiterPolicy → List ℕ → List ℕ → Type 0
Alone policy xs ys = laid_item policy xs ≡ Ok ys

abbrev Spaced : DelimiterPolicy → List ℕ → List ℕ → Type 0
Spaced policy xs ys = laid_text Standalone policy xs ≡ Ok ys

abbrev Sequence : DelimiterPolicy → List ℕ → List ℕ → Type 0
Sequence policy xs ys = laid_text Seq policy xs ≡ Ok ys

-- One text under each policy. Its single line has 9 bytes.
columns :
    Spaced DiscardAll (codes " [ 1 , 2 /c/ , ] ") (codes "[1,2]")
    × Spaced DiscardAllButComments (codes " [ 1 , 2 /c/ , ] ") (codes "[1,2/c/]")
    × Spaced SingleLineRegularSpacing (codes " [ 1 , 2 /c/ , ] ") (codes "[1, 2/c/]")
    × Spaced SingleSpace (codes " [ 1 , 2 /c/ , ] ") (codes " [ 1 ,2 /c/] ")
    × Spaced (IndentedRegularSpacing 0 2 10) (codes " [ 1 , 2 /c/ , ] ") (codes "[1, 2/c/]")
    × Spaced (IndentedRegularSpacing 0 2 9) (codes " [ 1 , 2 /c/ , ] ") (codes "[\n  1,\n  2\n/c/]")
unfolding laid_text laid_item
columns = (refl, refl, refl, refl, refl, refl)

-- Comments stay where they are, but under the first policy, and keep their line feeds.
comments :
    Spaced DiscardAll (codes " /a/ { # b\n 1 /c/ : /d/ 2 , /e/ 3 /f/ : 4 /g/ , /h/ } /i/ ") (codes "{1:2,3:4}")
    × Spaced DiscardAllButComments (codes " /a/ { # b\n 1 /c/ : /d/ 2 , /e/ 3 /f/ : 4 /g/ , /h/ } /i/ ") (codes "/a/{# b\n1/c/:/d/2,/e/3/f/:4/g//h/}/i/")
    × Spaced SingleLineRegularSpacing (codes " /a/ { # b\n 1 /c/ : /d/ 2 , /e/ 3 /f/ : 4 /g/ , /h/ } /i/ ") (codes "/a/{# b\n1/c/: /d/2, /e/3/f/: 4/g//h/}/i/")
    × Spaced SingleSpace (codes " /a/ { # b\n 1 /c/ : /d/ 2 , /e/ 3 /f/ : 4 /g/ , /h/ } /i/ ") (codes " /a/{ # b\n1 /c/: /d/2 ,/e/3 /f/: 4 /g//h/} /i/")
    × Spaced (IndentedRegularSpacing 1 2 0) (codes " /a/ { # b\n 1 /c/ : /d/ 2 , /e/ 3 /f/ : 4 /g/ , /h/ } /i/ ") (codes "/a/{\n   # b\n1/c/:/d/2,\n   /e/3/f/:4\n /g//h/}/i/")
    × Spaced SingleLineRegularSpacing (codes "[1 /,/ 2]") (codes "[1/,/, 2]")
    × Spaced DiscardAllButComments (codes "\r/c/\r1") (codes "/c/1")
    × Sequence SingleLineRegularSpacing (codes "1 # c\n") (codes "1# c\n")
    × Sequence DiscardAll (codes "1 # c\n") (codes "1")
    × Sequence SingleLineRegularSpacing (codes "1 #a\n\n /b/ #c\n \n") (codes "1#a\n\n /b/ #c\n")
    × Spaced SingleLineRegularSpacing (codes "{ / x / 1: 4, / y / 2: 3_i, / and diagonal is 5 / }") (codes "{/ x /1: 4, / y /2: 3_i/ and diagonal is 5 /}")
unfolding laid_text laid_item
comments = (refl, refl, refl, refl, refl, refl, refl, refl, refl, refl, refl)

-- Lines begin with the entries of a list, behind the last, and with a plus sign; not behind a colon, nor between parentheses.
lines :
    Alone (IndentedRegularSpacing 0 4 0) (codes "[1,2]") (codes "[\n    1,\n    2\n]")
    × Alone (IndentedRegularSpacing 0 4 0) (codes "{1:2}") (codes "{\n    1:2\n}")
    × Alone (IndentedRegularSpacing 0 4 0) (codes "'a'+'b'") (codes "'a'\n    +'b'")
    × Alone (IndentedRegularSpacing 0 4 0) (codes "(_ 'a', 'b')") (codes "(_\n    'a',\n    'b'\n)")
    × Alone (IndentedRegularSpacing 0 4 0) (codes "1([1,2])") (codes "1([\n        1,\n        2\n    ])")
    × Alone (IndentedRegularSpacing 0 4 0) (codes "simple( [ 1 ] )") (codes "simple([\n        1\n    ])")
    × Alone (IndentedRegularSpacing 3 4 0) (codes "[1,2]") (codes "[\n       1,\n       2\n   ]")
    × Alone (IndentedRegularSpacing 0 4 0) (codes "{[1]:[2]}") (codes "{\n    [\n        1\n    ]:[\n        2\n    ]\n}")
    × Alone (IndentedRegularSpacing 0 4 0) (codes "[ ]") (codes "[]")
    × Alone (IndentedRegularSpacing 0 4 0) (codes "[_ /c/ ]") (codes "[_/c/]")
    × Alone (IndentedRegularSpacing 0 4 0) (codes "[[ ]]") (codes "[\n    []\n]")
unfolding laid_text laid_item
lines = (refl, refl, refl, refl, refl, refl, refl, refl, refl, refl, refl)

-- Each item is measured with the spaces in front of it.
whole_lines :
    Alone (IndentedRegularSpacing 0 2 10) (codes "[[1,2],3]") (codes "[\n  [1, 2],\n  3\n]")
    × Alone (IndentedRegularSpacing 0 2 8) (codes "[[1,2],3]") (codes "[\n  [\n    1,\n    2\n  ],\n  3\n]")
    × Alone (IndentedRegularSpacing 4 2 12) (codes "[[1,2],3]") (codes "[\n      [\n        1,\n        2\n      ],\n      3\n    ]")
    × Alone (IndentedRegularSpacing 0 2 12) (codes "[[1,2],3]") (codes "[[1, 2], 3]")
    × Alone (IndentedRegularSpacing 0 2 10) (codes "{[1,2]:[3,4,5]}") (codes "{\n  [1, 2]:[\n    3,\n    4,\n    5\n  ]\n}")
    × Alone (IndentedRegularSpacing 0 4 10) (codes "'a'+'b'") (codes "'a' + 'b'")
    × Alone (IndentedRegularSpacing 0 4 9) (codes "'a'+'b'") (codes "'a'\n    +'b'")
    × Alone (IndentedRegularSpacing 0 4 0) (codes "['a'+'b']") (codes "[\n    'a'\n        +'b'\n]")
    × Alone (IndentedRegularSpacing 0 4 0) (codes "(_ 'a' + 'b' , 'c')") (codes "(_\n    'a'\n    +'b',\n    'c'\n)")
    × Alone (IndentedRegularSpacing 0 4 20) (codes "(_ 'a' + 'b' , 'c')") (codes "(_ 'a'+'b', 'c')")
    × Alone (IndentedRegularSpacing 0 4 9) (codes "[ 1 /c/   ]") (codes "[1/c/]")
    × Alone (IndentedRegularSpacing 0 4 6) (codes "[ 1 /c/   ]") (codes "[\n    1\n/c/]")
unfolding laid_text laid_item
whole_lines = (refl, refl, refl, refl, refl, refl, refl, refl, refl, refl, refl, refl)

-- Behind the indicator of a list with entries a space stands, and behind that the one in front of the first entry.
indicators :
    Alone (IndentedRegularSpacing 0 4 0) (codes "[_ 1]") (codes "[_ \n    1\n]")
    × Alone (IndentedRegularSpacing 0 4 0) (codes "{_1/c/1:2}") (codes "{_1/c/\n    1:2\n}")
    × Alone DiscardAll (codes "[_  1 , 2 ]") (codes "[_ 1,2]")
    × Alone DiscardAllButComments (codes "[_ /c/ 1]") (codes "[_/c/1]")
    × Alone SingleLineRegularSpacing (codes "[_\t1_1]") (codes "[_ 1_1]")
    × Alone SingleSpace (codes "[_ 1]") (codes "[_  1 ]")
    × Alone SingleSpace (codes "[_]") (codes "[_ ]")
unfolding laid_text laid_item
indicators = (refl, refl, refl, refl, refl, refl, refl)

-- On a single line a space stands behind a colon, but under the indented policy only where the item stays on one.
colons :
    Alone SingleLineRegularSpacing (codes "{1:2}") (codes "{1: 2}")
    × Alone SingleLineRegularSpacing (codes "{1 /a/ : /b/ 2}") (codes "{1/a/: /b/2}")
    × Alone (IndentedRegularSpacing 0 4 80) (codes "{1:2}") (codes "{1: 2}")
    × Alone (IndentedRegularSpacing 0 4 0) (codes "{1 : /b/ 2}") (codes "{\n    1:/b/2\n}")
    × Alone DiscardAllButComments (codes "{1 : 2}") (codes "{1:2}")
    × Alone SingleSpace (codes "{1:2}") (codes "{ 1 : 2 }")
unfolding laid_text laid_item
colons = (refl, refl, refl, refl, refl, refl)

-- On a single line a space stands on both sides of the plus sign of an item, and none in the strings of a stream.
plus_signs :
    Alone SingleLineRegularSpacing (codes "'a'+'b'") (codes "'a' + 'b'")
    × Alone SingleLineRegularSpacing (codes "(_ 'a'+'b')") (codes "(_ 'a'+'b')")
    × Alone SingleLineRegularSpacing (codes "(_  'a' + /c/ 'b', )") (codes "(_ 'a'+/c/'b')")
    × Alone SingleLineRegularSpacing (codes "1('a'+/c/'b')") (codes "1('a' + /c/'b')")
    × Alone SingleLineRegularSpacing (codes "['a'+'b']") (codes "['a' + 'b']")
    × Alone DiscardAll (codes "(_  'a' + 'b' , )") (codes "(_ 'a'+'b')")
    × Alone SingleSpace (codes "(_ 'a'+'b','c')") (codes "(_ 'a' + 'b' ,'c' )")
    × Alone (IndentedRegularSpacing 0 4 0) (codes "'a' /c/ + /d/ 'b'") (codes "'a'\n    /c/+/d/'b'")
unfolding laid_text laid_item
plus_signs = (refl, refl, refl, refl, refl, refl, refl, refl)

-- Round an item between parentheses, and round one that stands alone.
parentheses :
    Alone SingleLineRegularSpacing (codes "1( /a/ 2 )") (codes "1(/a/2)")
    × Alone SingleSpace (codes "1(2)") (codes "1( 2 )")
    × Alone DiscardAll (codes "simple( 20 /c/ )") (codes "simple(20)")
    × Spaced SingleSpace (codes "1") (codes " 1 ")
    × Spaced SingleLineRegularSpacing (codes " /a/ 1 ") (codes "/a/1")
    × Alone SingleLineRegularSpacing (codes "[1,2]") (codes "[1, 2]")
    × Alone SingleSpace (codes "[1,2]") (codes "[ 1 ,2 ]")
    × Alone DiscardAll (codes "[... .5]") (codes "[...,.5]")
unfolding laid_text laid_item
parentheses = (refl, refl, refl, refl, refl, refl, refl, refl)

-- What stands in an embedded sequence stays, under every policy, and counts in the width as it is.
embedded :
    Alone DiscardAll (codes "[ << 1 , 2 /c/ >> ]") (codes "[<< 1 , 2 /c/ >>]")
    × Alone SingleLineRegularSpacing (codes "<< 1 , 2 >>") (codes "<< 1 , 2 >>")
    × Alone SingleSpace (codes "<<1,2>>") (codes "<<1,2>>")
    × Alone (IndentedRegularSpacing 0 4 0) (codes "<<1>>+<<[2]>>") (codes "<<1>>\n    +<<[2]>>")
    × Alone (IndentedRegularSpacing 0 2 15) (codes "[<< 1 , 2 >>]") (codes "[<< 1 , 2 >>]")
    × Alone (IndentedRegularSpacing 0 2 14) (codes "[<< 1 , 2 >>]") (codes "[<< 1 , 2 >>]")
    × Alone (IndentedRegularSpacing 0 2 13) (codes "[<< 1 , 2 >>]") (codes "[\n  << 1 , 2 >>\n]")
unfolding laid_text laid_item
embedded = (refl, refl, refl, refl, refl, refl, refl)

-- A sequence has a line for each item, whatever the width, and none where it has no item.
sequences :
    Sequence (IndentedRegularSpacing 2 4 80) (codes " 1 2") (codes "1,\n  2\n  ")
    × Sequence indented (codes "[1,2],3") (codes "[1, 2],\n3\n")
    × Sequence (IndentedRegularSpacing 0 2 0) (codes "[1,2],3") (codes "[\n  1,\n  2\n],\n3\n")
    × Sequence indented (codes "[1, 2, 'x', ip'2001:db1::/64']\n") (codes "[1, 2, 'x', ip'2001:db1::/64']\n")
    × Sequence indented (codes "{4/ exp /: dt'2023-11-14T22:13:20+00:00'}") (codes "{4/ exp /: dt'2023-11-14T22:13:20+00:00'}\n")
    × Sequence indented [] []
    × Sequence (IndentedRegularSpacing 2 4 80) (codes " /c/ ") (codes "/c/")
    × Sequence SingleSpace [] (codes " ")
    × Sequence DiscardAll (codes " ") []
    × Sequence SingleLineRegularSpacing (codes " 1 2,/c/") (codes "1, 2/c/")
    × Sequence SingleSpace (codes "1 2") (codes " 1 ,2 ")
    × Sequence DiscardAllButComments (codes " /a/ 1 , /b/ 2") (codes "/a/1,/b/2")
unfolding laid_text laid_item
sequences = (refl, refl, refl, refl, refl, refl, refl, refl, refl, refl, refl, refl)

-- the text after two policies
laid_twice : DelimiterPolicy → DelimiterPolicy → List ℕ → Result (List ℕ) ParseErrorKind
unfolding laid_text
laid_twice first second xs = reads_all 9 Seq xs >>= λ w. Ok (text (laid_out second (laid_out first w)))

-- Of an earlier policy nothing stays but that comments are gone.
two_policies :
    laid_twice DiscardAll indented (codes "[1 /c/, 2]\n") ≡ Ok (codes "[1, 2]\n")
    × laid_twice (IndentedRegularSpacing 0 2 0) SingleLineRegularSpacing (codes "[1 /c/,{2 : 3} ]") ≡ Ok (codes "[1/c/, {2: 3}]")
    × laid_twice SingleSpace DiscardAllButComments (codes "[_ 1 /c/ , 2]") ≡ Ok (codes "[_ 1/c/,2]")
    × laid_twice indented DiscardAll (codes "[1 /c/, 2]") ≡ Ok (codes "[1,2]")
unfolding laid_twice
two_policies = (refl, refl, refl, refl)

-- The test counts bytes: `["é"]` has six.
bytes_counted :
    Alone (IndentedRegularSpacing 0 2 7) (91 ∷ 34 ∷ 195 ∷ 169 ∷ 34 ∷ 93 ∷ []) (91 ∷ 34 ∷ 195 ∷ 169 ∷ 34 ∷ 93 ∷ [])
    × Alone (IndentedRegularSpacing 0 2 6) (91 ∷ 34 ∷ 195 ∷ 169 ∷ 34 ∷ 93 ∷ []) (91 ∷ 10 ∷ 32 ∷ 32 ∷ 34 ∷ 195 ∷ 169 ∷ 34 ∷ 10 ∷ 93 ∷ [])
unfolding laid_text laid_item
bytes_counted = (refl, refl)

-- [1], with these spaces in it
abbrev one : List ℕ → List ℕ → Tree OneItem
one s t = ListTree Array (FullTree NoIndicator s (LastTree (ElementTree (NumberTree (49 ∷ []) None)) t))

-- the number 1
abbrev number : Tree OneItem
number = NumberTree (49 ∷ []) None

-- the longest line there is, with no comment behind it
abbrev longest : List ℕ
longest = line (2 ^ 64 - 1) ++ []

-- Sums of spaces end at the greatest `usize`, 2^64 - 1. (The lines themselves are not computed.)
great :
    laid_out (IndentedRegularSpacing (2 ^ 64 - 1) 4 80) number ≡ number
    × laid_out (IndentedRegularSpacing (2 ^ 64 - 1) 4 80) (one [] []) ≡ one longest longest
    × laid_out (IndentedRegularSpacing (2 ^ 64 - 1) 4 (2 ^ 64 - 1)) (one [] []) ≡ one longest longest
    -- [[1]]
    × laid_out (IndentedRegularSpacing 0 (2 ^ 64 - 1) 0) (ListTree Array (FullTree NoIndicator [] (LastTree (ElementTree (one [] [])) []))) ≡ ListTree Array (FullTree NoIndicator longest (LastTree (ElementTree (one longest longest)) (line 0 ++ [])))
    -- the sequence `1, 2`
    × laid_out (IndentedRegularSpacing (2 ^ 64 - 1) 4 80) (SequenceTree [] (MoreTree (ElementTree number) (44 ∷ 32 ∷ []) (LastTree (ElementTree number) []))) ≡ SequenceTree [] (MoreTree (ElementTree number) (44 ∷ longest) (LastTree (ElementTree number) longest))
unfolding laid onto from_first to_last up_to_comma past_comma
great = (refl, refl, refl, refl, refl)
