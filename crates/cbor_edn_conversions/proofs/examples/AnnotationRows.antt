-- Worked examples of tag 999, of the comments of tag 38, and of claims sets.
use Rattle.std.specs.Fmt.{digits}
use Rattle.std.proofs.Common.{ℕ, codes, List, [], ◌∷◌, None, ◌≡◌, refl, length}
use Rattle.cbor_edn_parts.specs.space.Notes.{noted, hash_lines}
use Rattle.cbor_edn_parts.specs.internal.NumberReading.{integer_of}
use Rattle.cbor_edn_model.specs.declared.text.keyword.NamedSimple.TheVariants.{True, False, Null, Undefined}
use Rattle.cbor_edn_model.specs.tree.Items.{Elements, Pairs, Array, Map}
use Rattle.cbor_edn_model.specs.visit.Seeking.{number, prefix_and_text}
use Rattle.cbor_edn_model.specs.tree.Trees.{Tree, OneItem, OneEntry, Rest, NoIndicator, NumberTree, NamedTree, ListTree, StringTree, LastPieceTree, LiteralTree, ElementTree, PairTree, EmptyTree, FullTree, LastTree, MoreTree, text, onto}
use Rattle.cbor_edn_model.specs.visit.Visits.{Answer, fine, comment}
use Rattle.cbor_edn_times_and_addresses.specs.internal.TimeComputing.{march_year, march_day, time_text_from, decimal_of}
use Rattle.cbor_edn_times_and_addresses.specs.internal.TimeWriting.{padded}
use Rattle.cbor_edn_conversions.specs.Annotations.{comment_lang, commenting}
use Rattle.cbor_edn_conversions.specs.Claims.{with_claims}
use Rattle.cbor_edn_conversions.specs.Conversions.{Reply, tag_tree}
use Rattle.cbor_edn_conversions.specs.Tables.{claims, confirmations, parameters, algorithms}
use Rattle.cbor_edn_conversions.specs.Tag999.{to_tag999}
use Rattle.cbor_edn_conversions.specs.Times.{time_literal}

-- what is replied, and the text of what is left
abbrev Row : Reply → Answer → List ℕ → Type 0
Row a c t = (a.0 ≡ c) × (text a.1 ≡ t)

-- ---- trees without spaces

abbrev numeral : List ℕ → Tree OneItem
numeral t = NumberTree t None

abbrev written : List ℕ → Tree OneItem
written t = StringTree (LastPieceTree (LiteralTree t None))

abbrev element_rest : Tree OneItem → List (Tree OneItem) → Tree (Rest Elements)
element_rest w [] = LastTree (ElementTree w) []
element_rest w (v ∷ vs) = MoreTree (ElementTree w) (codes ",") (element_rest v vs)

abbrev array : Tree OneItem → List (Tree OneItem) → Tree OneItem
array w vs = ListTree Array (FullTree NoIndicator [] (element_rest w vs))

abbrev entry : List ℕ → Tree OneItem → Tree (OneEntry Pairs)
entry k v = PairTree (numeral k) [] [] v

abbrev pair_rest : Tree (OneEntry Pairs) → List (Tree (OneEntry Pairs)) → Tree (Rest Pairs)
pair_rest e [] = LastTree e []
pair_rest e (f ∷ fs) = MoreTree e (codes ",") (pair_rest f fs)

abbrev keyed : Tree (OneEntry Pairs) → List (Tree (OneEntry Pairs)) → Tree OneItem
keyed e es = ListTree Map (FullTree NoIndicator [] (pair_rest e es))

-- `{8:{4:{k:v}}}`
abbrev security_context : Tree (OneEntry Pairs) → Tree OneItem
security_context e = keyed (entry (codes "8") (keyed (entry (codes "4") (keyed e [])) [])) []

-- ---- tag 999

replaced :
    Row (to_tag999 (prefix_and_text (codes "foo") (codes "bar")) (written (codes "foo'bar'"))) fine (codes "999([\"foo\", \"bar\"])")
    × Row (to_tag999 (prefix_and_text (codes "ip") (codes "a\"b")) (written (codes "ip'a\"b'_0"))) fine (codes "999([\"ip\", \"a\\\"b\"])")
    × Row (to_tag999 (prefix_and_text (codes "h3") []) (written (codes "h3''"))) fine (codes "999([\"h3\", \"\"])")
unfolding to_tag999 onto digits
replaced = ((refl, refl), (refl, refl), (refl, refl))

built_in :
    Row (to_tag999 (prefix_and_text (codes "h") (codes "00")) (written (codes "h'00'"))) fine (codes "h'00'")
    × Row (to_tag999 (prefix_and_text (codes "b64") []) (written (codes "b64''"))) fine (codes "b64''")
    × Row (to_tag999 (prefix_and_text (codes "b32") []) (written (codes "b32''"))) fine (codes "b32''")
    × Row (to_tag999 (prefix_and_text (codes "h32") []) (written (codes "h32''"))) fine (codes "h32''")
    × Row (to_tag999 (number 999) (numeral (codes "1"))) fine (codes "1")
unfolding to_tag999 onto
built_in = ((refl, refl), (refl, refl), (refl, refl), (refl, refl), (refl, refl))

-- ---- tag 38, and comments behind tags

abbrev text_with : Tree OneItem → Tree OneItem
text_with w = tag_tree 38 (array (written (codes "\"he\"")) (written (codes "\"x\"") ∷ w ∷ []))

directions :
    Row (comment_lang (number 38) (text_with (NamedTree True))) fine (codes "38([\"he\",\"x\",true/ Right-to-left /])")
    × Row (comment_lang (number 38) (text_with (NamedTree False))) fine (codes "38([\"he\",\"x\",false/ Left-to-right /])")
    × Row (comment_lang (number 38) (text_with (NamedTree Null))) fine (codes "38([\"he\",\"x\",null/ Automatic direction /])")
    × Row (comment_lang (number 38) (text_with (NamedTree Undefined))) fine (codes "38([\"he\",\"x\",undefined])")
    × Row (comment_lang (number 38) (text_with (numeral (codes "1")))) fine (codes "38([\"he\",\"x\",1])")
unfolding comment_lang onto digits noted
directions = ((refl, refl), (refl, refl), (refl, refl), (refl, refl), (refl, refl))

-- the third element alone, of tag 38 alone, where that is the tag of the call
elsewhere :
    Row (comment_lang (number 38) (tag_tree 38 (array (NamedTree True) (NamedTree True ∷ NamedTree True ∷ NamedTree True ∷ [])))) fine (codes "38([true,true,true/ Right-to-left /,true])")
    × Row (comment_lang (number 38) (tag_tree 38 (array (NamedTree True) []))) fine (codes "38([true])")
    × Row (comment_lang (number 38) (tag_tree 38 (ListTree Array (EmptyTree None [])))) fine (codes "38([])")
    × Row (comment_lang (number 38) (tag_tree 38 (numeral (codes "1")))) (comment (codes "Expected array")) (codes "38(1)")
    × Row (comment_lang (number 37) (text_with (NamedTree True))) fine (codes "38([\"he\",\"x\",true])")
    × Row (comment_lang (number 38) (tag_tree 37 (numeral (codes "1")))) fine (codes "37(1)")
    × Row (comment_lang (number 37) (tag_tree 37 (numeral (codes "1")))) fine (codes "37(1)")
    × Row (comment_lang (number 38) (numeral (codes "1"))) fine (codes "1")
    × Row (commenting (codes "c") (number 1) (tag_tree 1 (numeral (codes "2")))) (comment (codes "c")) (codes "1(2)")
unfolding comment_lang onto digits noted
elsewhere = ((refl, refl), (refl, refl), (refl, refl), (refl, refl), (refl, refl), (refl, refl), (refl, refl), (refl, refl), (refl, refl))

-- ---- claims

tables : (length claims ≡ 12) × (length confirmations ≡ 2) × (length parameters ≡ 7) × (length algorithms ≡ 31)
unfolding claims confirmations parameters algorithms
tables = (refl, refl, refl, refl)

expiry : Row (with_claims (keyed (entry (codes "4") (numeral (codes "1700000000"))) [])) fine (codes "{4/ exp /:dt'2023-11-14T22:13:20+00:00'}")
unfolding with_claims claims integer_of onto noted time_literal digits padded march_year march_day time_text_from decimal_of
expiry = (refl, refl)

no_time : Row (with_claims (keyed (entry (codes "6") (written (codes "'a'"))) [])) fine (codes "{6/ iat /:'a'/ Numeric value expected for dt'' literal /}")
unfolding with_claims claims integer_of onto noted time_literal
no_time = (refl, refl)

names : Row (with_claims (keyed (entry (codes "0x1") (numeral (codes "2"))) (entry (codes "40") (numeral (codes "1")) ∷ entry (codes "10") (numeral (codes "4")) ∷ []))) fine (codes "{0x1/ iss /:2,40/ exi /:1,10:4}")
unfolding with_claims claims integer_of onto noted
names = (refl, refl)

no_map : Row (with_claims (keyed (entry (codes "8") (numeral (codes "1"))) [])) fine (codes "{8/ cnf /:1/ Expected map /}")
unfolding with_claims claims integer_of onto noted
no_map = (refl, refl)

no_claims : Row (with_claims (numeral (codes "1"))) (comment (codes "Expected map")) (codes "1")
unfolding with_claims onto
no_claims = (refl, refl)

-- a slash in a name turns the comment into one of a line
digest : Row (with_claims (security_context (entry (codes "3") (numeral (codes "-17"))))) fine (codes "{8/ cnf /:{4/ osc /:{3/ hkdf /:-17# SHA-512/256\n}}}")
unfolding with_claims claims confirmations parameters algorithms integer_of onto noted hash_lines
digest = (refl, refl)

reserved : Row (with_claims (security_context (entry (codes "4") (numeral (codes "0"))))) fine (codes "{8/ cnf /:{4/ osc /:{4/ alg /:0/ Reserved /}}}")
unfolding with_claims claims confirmations parameters algorithms integer_of onto noted
reserved = (refl, refl)

unknown : Row (with_claims (security_context (entry (codes "4") (numeral (codes "8"))))) fine (codes "{8/ cnf /:{4/ osc /:{4/ alg /:8}}}")
unfolding with_claims claims confirmations parameters algorithms integer_of onto noted
unknown = (refl, refl)

-- keys of the last table that are no integers of 128 bits
no_integer : Row (with_claims (security_context (PairTree (written (codes "'a'")) [] [] (numeral (codes "1"))))) fine (codes "{8/ cnf /:{4/ osc /:{'a'/ Expected integer /:1}}}")
unfolding with_claims claims confirmations parameters integer_of onto noted
no_integer = (refl, refl)

large_integer : Row (with_claims (security_context (entry (codes "0x80000000000000000000000000000000") (numeral (codes "1"))))) fine (codes "{8/ cnf /:{4/ osc /:{0x80000000000000000000000000000000/ Expected integer in i128 range /:1}}}")
unfolding with_claims claims confirmations parameters integer_of onto noted
large_integer = (refl, refl)

least_integer : Row (with_claims (security_context (entry (codes "-0x80000000000000000000000000000000") (numeral (codes "1"))))) fine (codes "{8/ cnf /:{4/ osc /:{-0x80000000000000000000000000000000:1}}}")
unfolding with_claims claims confirmations parameters integer_of onto noted
least_integer = (refl, refl)

-- in the others such keys have no comment
no_comment : Row (with_claims (keyed (PairTree (written (codes "'a'")) [] [] (numeral (codes "1"))) (entry (codes "0x80000000000000000000000000000000") (numeral (codes "2")) ∷ []))) fine (codes "{'a':1,0x80000000000000000000000000000000:2}")
unfolding with_claims claims integer_of onto noted
no_comment = (refl, refl)
