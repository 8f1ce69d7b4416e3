-- How each function ends, from what its calls gave.
use Rattle.std.proofs.Common.{◌≡◌, ℕ, suc, ◌-◌, ◌<◌, List, [], ◌∷◌, ◌++◌, length, map, Option, Some, None, Result, Ok, Err, refl, sym, ap, subst, ◌∙◌, append_assoc, arith}
use Rattle.cbor_edn_parts.specs.declared.base.error.Fault.{Fault}
use Rattle.cbor_edn_parts.specs.declared.base.error.Fault.TheVariants.{Memory, Told}
use Rattle.cbor_edn_parts.specs.declared.base.indicator.Indicator.{Indicator}
use Rattle.cbor_edn_model.specs.declared.cbor.heads.Width.{Width}
use Rattle.cbor_edn_model.specs.declared.text.opener.OpenerKind.TheVariants.{Tag}
use Rattle.cbor_edn_model.specs.declared.cbor.decode.CborError.{CborError}
use Rattle.cbor_edn_model.specs.declared.cbor.decode.head.Stop.TheVariants.{Break}
use Rattle.cbor_edn_model.specs.text.Spelling.{open_byte, close_byte}
use Rattle.cbor_edn_model.specs.tree.Items as kind
use Rattle.cbor_edn_model.specs.tree.Items.{Bracketed, Array, Map, entries_of}
use Rattle.cbor_edn_model.specs.tree.Trees.{Tree, OneItem, OneEntry, Rest, StringTree, LastPieceTree, LiteralTree, ElementTree, text, opener_text, list_head_text}
use Rattle.cbor_edn_parts.specs.space.Spacing.{Optional}
use Rattle.cbor_edn_parts.specs.base.Indicator.{indicator_text}
use Rattle.cbor_edn_model.specs.layout.Layout.{Layout, First, AfterColon, Elsewhere, respaced, laid, laid_list_head}
use Rattle.cbor_edn_model.specs.internal.Regular.{list_inside, key_value, spaced_list_head}
use Rattle.cbor_edn_model.specs.internal.Results.{◌>>=◌}
use Rattle.cbor_edn_model.specs.internal.CborReading.{number_tree, head_at, item_by, DecoderResult, Decoder, DecoderFails, Argument, shown, item_at, pair_at, many, until, several, past_stop, array_by, map_by, tag_by, string_by, string_at, inner, trees, row_of, list_tree, argument_indicator}
use Rattle.cbor_edn_model.proofs.lemmas.cbor.CborTrees.{several_shown}
use Rattle.cbor_edn_model.proofs.lemmas.layout.LaidTexts.{text_laid_number, text_laid_string, text_laid_element, text_laid_standalone, text_laid_pair, text_laid_full, text_laid_empty}
use Rattle.cbor_edn_model.proofs.lemmas.cbor.CborAgain.{inner_more, item_at_ok}
use Rattle.cbor_edn_model.proofs.lemmas.cbor.CborTurns.{with_front, shown_err}
use Rattle.cbor_edn_model.proofs.lemmas.text.Texts.{text_last_piece, text_literal}
use Rattle.cbor_edn_model.proofs.lemmas.cbor.CborStrings.{alone_read, definite_read}
use Rattle.cbor_edn_parts.specs.string.Contents.{kind_literal}
use Rattle.cbor_edn_parts.specs.declared.string.StringKind.{StringKind}
use Rattle.cbor_edn_parts.specs.declared.string.StringKind.TheVariants.{Bytes, Text}
use Rattle.cbor_edn_model.specs.cbor.Decoded.{indicator_of}
use Rattle.std.specs.Fmt.{signed_decimal}
use Rattle.std.specs.Prelude.{ℤ, pos, negsuc}
use Rattle.cbor_edn_stream.specs.Printed.{Prints, Writes, WritesAnyhow, WritesParts, WritesRow, entry_at, list_by}

-- ---- a list behind its head

abbrev refusable : {A : Type 0} → A → Result A CborError
refusable x = Ok x

abbrev refused : {A : Type 0} → CborError → DecoderResult A
refused e = Err e

abbrev made_map_of : Argument → List (Tree (OneEntry kind.Elements)) × List ℕ → DecoderResult (Tree OneItem)
made_map_of argument xs = Ok (list_tree Array argument (row_of xs.0), xs.1)

abbrev made_array : Argument → List (Tree OneItem) × List ℕ → DecoderResult (Tree OneItem)
made_array argument xs = Ok (list_tree Array argument (row_of (map ElementTree xs.0)), xs.1)

abbrev made_map : Argument → List (Tree (OneEntry kind.Pairs)) × List ℕ → DecoderResult (Tree OneItem)
made_map argument xs = Ok (list_tree Map argument (row_of xs.0), xs.1)

paired : {A : Type 0} (x y : A × List ℕ) → refusable x ≡ refusable y → x ≡ y
paired x y e = cc

array_made : (argument : Argument) (es : List (Tree (OneEntry kind.Elements))) (rest : List ℕ) (r : DecoderResult (List (Tree OneItem))) → shown (map ElementTree) r ≡ Ok (es, rest) → (r >>= made_array argument) ≡ Ok (list_tree Array argument (row_of es), rest)
array_made argument es rest (Ok x) is = ap (made_map_of argument) (paired (map ElementTree x.0, x.1) (es, rest) is)
array_made argument es rest (Err f) is = absurd cc

array_refused : (argument : Argument) (f : CborError) (r : DecoderResult (List (Tree OneItem))) → shown (map ElementTree) r ≡ Err f → (r >>= made_array argument) ≡ Err f
array_refused argument f (Ok x) is = absurd cc
array_refused argument f (Err g) is = let same : g ≡ f = cc in ap (λ e. refused e) same

-- from the entries to their list
pub list_read : (k : Bracketed) (d : ℕ) (argument : Argument) (bytes rest : List ℕ) (es : List (Tree (OneEntry (entries_of k)))) → several (entry_at k d) argument bytes ≡ Ok (es, rest) → list_by k (suc d) argument bytes ≡ Ok (list_tree k argument (row_of es), rest)
list_read Array d argument bytes rest es e = ap (λ i. array_by trees i argument bytes) (inner_more trees d) ∙ array_made argument es rest (several (item_at trees d) argument bytes) (sym (several_shown ElementTree (entry_at Array d) (item_at trees d) (λ b. refl) argument bytes) ∙ e)
list_read Map d argument bytes rest es e = ap (λ i. map_by trees i argument bytes) (inner_more trees d) ∙ ap (λ (r : DecoderResult (List (Tree (OneEntry kind.Pairs)))). r >>= made_map argument) e

pub list_fails : (k : Bracketed) (d : ℕ) (argument : Argument) (bytes : List ℕ) (f : Fault CborError) → DecoderFails f (several (entry_at k d) argument bytes) → DecoderFails f (list_by k (suc d) argument bytes)
list_fails k d argument bytes (Memory m) e = tt
list_fails Array d argument bytes (Told f) e = ap (λ i. array_by trees i argument bytes) (inner_more trees d) ∙ array_refused argument f (several (item_at trees d) argument bytes) (sym (several_shown ElementTree (entry_at Array d) (item_at trees d) (λ b. refl) argument bytes) ∙ e)
list_fails Map d argument bytes (Told f) e = ap (λ i. map_by trees i argument bytes) (inner_more trees d) ∙ ap (λ (r : DecoderResult (List (Tree (OneEntry kind.Pairs)))). r >>= made_map argument) e

-- ---- what was printed

pub front_none : {A : Type 0} (r : DecoderResult (List A)) → with_front [] r ≡ r
front_none (Ok x) = refl
front_none (Err e) = refl

-- ---- entries

pub entry_item : {X : Type 0} (view : X → List ℕ) (l : Layout) (limit : ℕ) (bytes old new : List ℕ) (r : Result X (Fault CborError)) → Prints (λ t. Writes l t) view old new r (item_at trees limit bytes)
    → Prints (λ e. Writes l e) view old new r (entry_at Array limit bytes)
entry_item view l limit bytes old new (Ok x) p = (ElementTree p.0, ap (shown ElementTree) p.1, p.2 ∙ ap (λ (t : List ℕ). old ++ t) (sym (text_laid_element l p.0)))
entry_item view l limit bytes old new (Err (Memory m)) p = tt
entry_item view l limit bytes old new (Err (Told e)) p = ap (shown ElementTree) p

-- ---- what is told

pub fault_told : {A : Type 0} (f : Fault CborError) (e : CborError) (r : DecoderResult A) → f ≡ Told e → DecoderFails f r → r ≡ Err e
fault_told f e r is p = subst (λ (g : Fault CborError). DecoderFails g r) is p

-- ---- a list, from what stands in it

pub list_printed : (l : Layout) (k : Bracketed) (limit : ℕ) (argument : Argument) (bytes rest old start mid new : List ℕ) (es : List (Tree (OneEntry (entries_of k)))) → 0 < limit → several (entry_at k (limit - 1)) argument bytes ≡ Ok (es, rest)
    → start ≡ old ++ (open_byte k ∷ []) → mid ≡ start ++ text (laid l (list_inside {k = k} (argument_indicator argument) (row_of es))) → new ≡ mid ++ (close_byte k ∷ [])
    → (t : Tree OneItem) × (list_by k limit argument bytes ≡ Ok (t, rest)) × WritesParts l t old new
list_printed l k limit argument bytes rest old start mid new es some read first inside last =
    let deeper : limit ≡ suc (limit - 1) = omega (arith, some) in (
      list_tree k argument (row_of es),
      ap (λ n. list_by k n argument bytes) deeper ∙ list_read k (limit - 1) argument bytes rest es read,
      last ∙ ap (λ (t : List ℕ). t ++ (close_byte k ∷ [])) (inside ∙ ap (λ (t : List ℕ). t ++ text (laid l (list_inside {k = k} (argument_indicator argument) (row_of es)))) first)
          ∙ regroup old (open_byte k) (text (laid l (list_inside {k = k} (argument_indicator argument) (row_of es)))) (close_byte k ∷ []),
    ) where
      regroup : (a : List ℕ) (b : ℕ) (c d : List ℕ) → ((a ++ (b ∷ [])) ++ c) ++ d ≡ a ++ (b ∷ (c ++ d))
      regroup a b c d = simp append_assoc refl

-- ---- a tag, from its content

-- a tag behind its head, as deep as it nests
tag_inner : (d : ℕ) (w : Width) (n : ℕ) (bytes : List ℕ) → tag_by trees (inner trees (suc d)) (Some (w, n)) bytes ≡ item_at trees d bytes >>= λ x. Ok (trees.tag w n x.0, x.1)
tag_inner d w n bytes = ap (λ i. tag_by trees i (Some (w, n)) bytes) (inner_more trees d)

pub tag_fails : (limit : ℕ) (argument : Argument) (w : Width) (n : ℕ) (bytes : List ℕ) (f : Fault CborError) → argument ≡ Some (w, n) → 0 < limit → DecoderFails f (item_at trees (limit - 1) bytes) → DecoderFails f (tag_by trees (inner trees limit) argument bytes)
tag_fails limit argument w n bytes (Memory m) is some e = tt
tag_fails limit argument w n bytes (Told f) is some e =
    let deeper : limit ≡ suc (limit - 1) = omega (arith, some) in
    ap (λ (a : Argument). tag_by trees (inner trees limit) a bytes) is ∙ ap (λ d. tag_by trees (inner trees d) (Some (w, n)) bytes) deeper ∙ tag_inner (limit - 1) w n bytes ∙ ap (λ (r : DecoderResult (Tree OneItem)). r >>= λ x. Ok (trees.tag w n x.0, x.1)) e

pub tag_printed : (l : Layout) (limit : ℕ) (argument : Argument) (w : Width) (n : ℕ) (bytes rest old a b c d e new : List ℕ) (t : Tree OneItem) → argument ≡ Some (w, n) → 0 < limit → item_at trees (limit - 1) bytes ≡ Ok (t, rest)
    → a ≡ old ++ opener_text (Tag (argument_indicator argument) n) → b ≡ a ++ (40 ∷ []) → c ≡ b ++ respaced Optional Elsewhere l [] → d ≡ c ++ text (laid l t) → e ≡ d ++ respaced Optional Elsewhere l [] → new ≡ e ++ (41 ∷ [])
    → (u : Tree OneItem) × (tag_by trees (inner trees limit) argument bytes ≡ Ok (u, rest)) × WritesParts l u old new
tag_printed l limit argument w n bytes rest old a b c d e new t is some read ea eb ec ed ee en =
    let deeper : limit ≡ suc (limit - 1) = omega (arith, some) in
    let space = respaced Optional Elsewhere l [] in
    let opener = Tag (indicator_of w n) n in (
      trees.tag w n t,
      ap (λ (a : Argument). tag_by trees (inner trees limit) a bytes) is ∙ ap (λ d. tag_by trees (inner trees d) (Some (w, n)) bytes) deeper ∙ tag_inner (limit - 1) w n bytes ∙ ap (λ (r : DecoderResult (Tree OneItem)). r >>= λ x. Ok (trees.tag w n x.0, x.1)) read,
      en ∙ ap (λ (t : List ℕ). t ++ (41 ∷ [])) (ee ∙ ap (λ (t : List ℕ). t ++ space) (ed ∙ ap (λ (u : List ℕ). u ++ text (laid l t)) (ec ∙ ap (λ (t : List ℕ). t ++ space) (eb ∙ ap (λ (t : List ℕ). t ++ (40 ∷ [])) (ea ∙ ap (λ (a : Argument). old ++ opener_text (Tag (argument_indicator a) n)) is)))))
          ∙ regroup old (opener_text opener) space (text (laid l t)) space
          ∙ ap (λ (t : List ℕ). old ++ (opener_text opener ++ (40 ∷ (t ++ (41 ∷ []))))) (sym (text_laid_standalone l [] t [])),
    ) where
      regroup : (o h s t u : List ℕ) → (((((o ++ h) ++ (40 ∷ [])) ++ s) ++ t) ++ u) ++ (41 ∷ []) ≡ o ++ (h ++ (40 ∷ ((s ++ (t ++ u)) ++ (41 ∷ []))))
      regroup o h s t u = simp append_assoc refl

-- ---- an item, from its list

pub array_at : (limit : ℕ) (argument : Argument) (bytes rest : List ℕ) → head_at bytes ≡ Ok ((4, argument), rest) → item_at trees limit bytes ≡ list_by Array limit argument rest
unfolding item_by
array_at limit argument bytes rest h = item_at_ok trees limit bytes rest (4, argument) h

pub map_at : (limit : ℕ) (argument : Argument) (bytes rest : List ℕ) → head_at bytes ≡ Ok ((5, argument), rest) → item_at trees limit bytes ≡ list_by Map limit argument rest
unfolding item_by
map_at limit argument bytes rest h = item_at_ok trees limit bytes rest (5, argument) h

pub tag_at : (limit : ℕ) (argument : Argument) (bytes rest : List ℕ) → head_at bytes ≡ Ok ((6, argument), rest) → item_at trees limit bytes ≡ tag_by trees (inner trees limit) argument rest
unfolding item_by
tag_at limit argument bytes rest h = item_at_ok trees limit bytes rest (6, argument) h

-- a head by its parts
pub head_is : (bytes rest : List ℕ) (m n : ℕ) (a b : Argument) → head_at bytes ≡ Ok ((m, a), rest) → m ≡ n → a ≡ b → head_at bytes ≡ Ok ((n, b), rest)
head_is bytes rest m n a b h major argument = h ∙ ap (λ (m : ℕ). Ok ((m, a), rest)) major ∙ ap (λ (x : Argument). Ok ((n, x), rest)) argument

-- ---- an integer

unsigned_read : (i : Option (Decoder (Tree OneItem))) (w : Width) (n : ℕ) (rest : List ℕ) → item_by trees i 0 (Some (w, n)) rest ≡ Ok (number_tree (pos n) w n, rest)
unfolding item_by
unsigned_read i w n rest = refl

negative_read : (i : Option (Decoder (Tree OneItem))) (w : Width) (n : ℕ) (rest : List ℕ) → item_by trees i 1 (Some (w, n)) rest ≡ Ok (number_tree (negsuc n) w n, rest)
unfolding item_by
negative_read i w n rest = refl

abbrev IsItem : Layout → ℕ → List ℕ → List ℕ → List ℕ → List ℕ → Type 0
IsItem l limit bytes rest old new = (t : Tree OneItem) × (item_at trees limit bytes ≡ Ok (t, rest)) × Writes l t old new

integer_written : (l : Layout) (limit : ℕ) (z : ℤ) (w : Width) (n : ℕ) (bytes rest old new : List ℕ) → item_at trees limit bytes ≡ Ok (number_tree z w n, rest) → new ≡ old ++ text (number_tree z w n) → IsItem l limit bytes rest old new
integer_written l limit z w n bytes rest old new read is = (number_tree z w n, read, is ∙ ap (λ (t : List ℕ). old ++ t) (sym (text_laid_number l (signed_decimal z) (indicator_of w n))))

pub unsigned_written : (l : Layout) (limit : ℕ) (w : Width) (n : ℕ) (bytes rest old new : List ℕ) → head_at bytes ≡ Ok ((0, Some (w, n)), rest) → new ≡ old ++ text (number_tree (pos n) w n) → IsItem l limit bytes rest old new
unsigned_written l limit w n bytes rest old new head is = integer_written l limit (pos n) w n bytes rest old new (item_at_ok trees limit bytes rest (0, Some (w, n)) head ∙ unsigned_read (inner trees limit) w n rest) is

pub negative_written : (l : Layout) (limit : ℕ) (w : Width) (n : ℕ) (bytes rest old new : List ℕ) → head_at bytes ≡ Ok ((1, Some (w, n)), rest) → new ≡ old ++ text (number_tree (negsuc n) w n) → IsItem l limit bytes rest old new
negative_written l limit w n bytes rest old new head is = integer_written l limit (negsuc n) w n bytes rest old new (item_at_ok trees limit bytes rest (1, Some (w, n)) head ∙ negative_read (inner trees limit) w n rest) is

-- ---- a string

-- what is written in one way is written in another
pub prints_as : {A X : Type 0} (P Q : A → List ℕ → List ℕ → Type 0) (view : X → List ℕ) (old new : List ℕ) (r : Result X (Fault CborError)) (read : DecoderResult A) → ((a : A) → P a old new → Q a old new) → Prints P view old new r read → Prints Q view old new r read
prints_as P Q view old new (Ok x) read weaker p = (p.0, p.1, weaker p.0 p.2)
prints_as P Q view old new (Err f) read weaker p = p

pub bytes_at : (limit : ℕ) (argument : Argument) (bytes rest : List ℕ) → head_at bytes ≡ Ok ((2, argument), rest) → item_at trees limit bytes ≡ string_by trees Bytes argument rest
unfolding item_by
bytes_at limit argument bytes rest h = item_at_ok trees limit bytes rest (2, argument) h

pub text_at : (limit : ℕ) (argument : Argument) (bytes rest : List ℕ) → head_at bytes ≡ Ok ((3, argument), rest) → item_at trees limit bytes ≡ string_by trees Text argument rest
unfolding item_by
text_at limit argument bytes rest h = item_at_ok trees limit bytes rest (3, argument) h

pub literal_laid : (l : Layout) (x : List ℕ) (i : Option Indicator) → text (laid l (StringTree (LastPieceTree (LiteralTree x i)))) ≡ x ++ indicator_text i
unfolding laid
literal_laid l x i = text_laid_string l (LastPieceTree (LiteralTree x i)) ∙ text_last_piece (LiteralTree x i) ∙ text_literal x i

pub string_written : (k : StringKind) (w : Width) (n : ℕ) (bytes literal rest old mid new : List ℕ) → shown (kind_literal k) (string_at k n bytes) ≡ Ok (literal, rest) → mid ≡ old ++ literal → new ≡ mid ++ indicator_text (indicator_of w n)
    → (t : Tree OneItem) × (string_by trees k (Some (w, n)) bytes ≡ Ok (t, rest)) × WritesAnyhow t old new
string_written k w n bytes literal rest old mid new read first last = (
  StringTree (LastPieceTree (LiteralTree literal (indicator_of w n))),
  alone_read k w n bytes rest _ (definite_read k w n bytes literal rest read),
  λ l. last ∙ ap (λ (t : List ℕ). t ++ indicator_text (indicator_of w n)) first ∙ append_assoc old literal (indicator_text (indicator_of w n)) ∙ ap (λ (t : List ℕ). old ++ t) (sym (literal_laid l literal (indicator_of w n))),
)

pub string_fails : (k : StringKind) (w : Width) (n : ℕ) (bytes : List ℕ) (f : Fault CborError) → DecoderFails f (shown (kind_literal k) (string_at k n bytes)) → DecoderFails f (string_by trees k (Some (w, n)) bytes)
string_fails k w n bytes (Memory m) e = tt
string_fails k w n bytes (Told f) e = ap (λ (r : DecoderResult (List ℕ)). r >>= λ s. Ok (trees.string k w s.0, s.1)) (shown_err (kind_literal k) (string_at k n bytes) f e)

-- ---- a pair

pub pair_fails : (f : Fault CborError) (limit : ℕ) (bytes : List ℕ) → DecoderFails f (item_at trees limit bytes) → DecoderFails f (pair_at trees (item_at trees limit) bytes)
unfolding pair_at
pair_fails (Memory m) limit bytes e = tt
pair_fails (Told f) limit bytes e = rw e refl

pub pair_printed : {X : Type 0} (view : X → List ℕ) (l : Layout) (limit : ℕ) (bytes after old a b c d new : List ℕ) (v : Tree OneItem) (r : Result X (Fault CborError)) → item_at trees limit bytes ≡ Ok (v, after)
    → a ≡ old ++ text (laid l v) → b ≡ a ++ respaced Optional Elsewhere l [] → c ≡ b ++ (58 ∷ []) → d ≡ c ++ respaced Optional AfterColon l (32 ∷ [])
    → Prints (λ t. Writes l t) view d new r (item_at trees limit after) → Prints (λ e. Writes l e) view old new r (pair_at trees (item_at trees limit) bytes)
unfolding pair_at
pair_printed view l limit bytes after old a b c d new v (Ok x) first ea eb ec ed p = (
  key_value v p.0,
  rw (first, p.1) refl,
  p.2 ∙ ap (λ (t : List ℕ). t ++ text (laid l p.0)) (ed ∙ ap (λ (t : List ℕ). t ++ respaced Optional AfterColon l (32 ∷ [])) (ec ∙ ap (λ (t : List ℕ). t ++ (58 ∷ [])) (eb ∙ ap (λ (t : List ℕ). t ++ respaced Optional Elsewhere l []) ea)))
      ∙ regroup old (text (laid l v)) (respaced Optional Elsewhere l []) (respaced Optional AfterColon l (32 ∷ [])) (text (laid l p.0)) ∙ ap (λ (t : List ℕ). old ++ t) (sym (text_laid_pair l v [] (32 ∷ []) p.0)),
) where
  regroup : (o k s t w : List ℕ) → ((((o ++ k) ++ s) ++ (58 ∷ [])) ++ t) ++ w ≡ o ++ (k ++ (s ++ (58 ∷ (t ++ w))))
  regroup o k s t w = simp append_assoc refl
pair_printed view l limit bytes after old a b c d new v (Err (Memory m)) first ea eb ec ed p = tt
pair_printed view l limit bytes after old a b c d new v (Err (Told e)) first ea eb ec ed p = rw (first, p) refl

-- ---- what stands in a list

-- what stands between the brackets of a list
abbrev pub WritesInside : Layout → (k : Bracketed) → Option Indicator → List (Tree (OneEntry (entries_of k))) → List ℕ → List ℕ → Type 0
WritesInside l k i es old new = Writes l (list_inside {k = k} i (row_of es)) old new

pub inside_printed : {X : Type 0} (view : X → List ℕ) (l : Layout) (k : Bracketed) (i : Option Indicator) (old mid new : List ℕ) (r : Result X (Fault CborError)) (read : DecoderResult (List (Tree (OneEntry (entries_of k)))))
    → mid ≡ old ++ (list_head_text (laid_list_head l (spaced_list_head i)) ++ respaced Optional First l []) → Prints (λ es. WritesRow l (row_of es)) view mid new r read
    → Prints (WritesInside l k i) view old new r read
inside_printed view l k i old mid new (Ok x) read front p = (p.0, p.1, of_row (row_of p.0) p.2) where
  of_row : (o : Option (Tree (Rest (entries_of k)))) → WritesRow l o mid new → Writes l (list_inside {k = k} i o) old new
  of_row None is = absurd is
  of_row (Some m) is = is ∙ ap (λ (t : List ℕ). t ++ text (laid l m)) front ∙ regroup old (list_head_text (laid_list_head l (spaced_list_head i))) (respaced Optional First l []) (text (laid l m)) ∙ ap (λ (t : List ℕ). old ++ t) (sym (text_laid_full l k (spaced_list_head i) [] m)) where
    regroup : (o h s t : List ℕ) → (o ++ (h ++ s)) ++ t ≡ o ++ (h ++ (s ++ t))
    regroup o h s t = simp append_assoc refl
inside_printed view l k i old mid new (Err f) read front p = p

pub several_many : (k : Bracketed) (d : ℕ) (argument : Argument) (w : Width) (n : ℕ) (bytes : List ℕ) → argument ≡ Some (w, n) → several (entry_at k d) argument bytes ≡ many (entry_at k d) n bytes
unfolding several
several_many k d argument w n bytes e = rw e refl

pub several_open : (k : Bracketed) (d : ℕ) (argument : Argument) (bytes : List ℕ) → argument ≡ None → several (entry_at k d) argument bytes ≡ until Break (entry_at k d) (suc (length bytes)) bytes
unfolding several
several_open k d argument bytes e = rw e refl

pub stopped_at_once : (k : Bracketed) (d n : ℕ) (bytes after : List ℕ) → past_stop Break bytes ≡ Some after → until Break (entry_at k d) (suc n) bytes ≡ Ok ([], after)
unfolding until
stopped_at_once k d n bytes after e = rw e refl

pub empty_printed : (l : Layout) (k : Bracketed) (i : Option Indicator) (read : DecoderResult (List (Tree (OneEntry (entries_of k))))) (rest old new : List ℕ) → read ≡ Ok ([], rest) → new ≡ old ++ (indicator_text i ++ respaced Optional Elsewhere l [])
    → (es : List (Tree (OneEntry (entries_of k)))) × (read ≡ Ok (es, rest)) × WritesInside l k i es old new
empty_printed l k i read rest old new e is = ([], e, is ∙ ap (λ (t : List ℕ). old ++ t) (sym (text_laid_empty l k i [])))
