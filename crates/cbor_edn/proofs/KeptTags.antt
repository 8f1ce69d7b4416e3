-- The visits of a run leave values in which no tag stands that their calls act on.
use Rattle.std.proofs.Common.{◌≡◌, ℕ, Bool, true, false, cond, eqb, List, [], ◌∷◌, ◌++◌, map, Option, Some, None, refl, sym, ap, arith}
use Rattle.std.specs.Prelude.{All, ◌||◌}
use Rattle.std.proofs.lemmas.Bool.{or_parts}
use Rattle.std.proofs.lemmas.List.Elements.{All-nil, All-cons, All-append}
use Rattle.cbor_edn_parts.specs.declared.base.indicator.Indicator.{Indicator}
use Rattle.cbor_edn_parts.specs.declared.string.StringKind.{StringKind}
use Rattle.cbor_edn_model.specs.declared.text.opener.OpenerKind.TheVariants as opener
use Rattle.cbor_edn_model.specs.access.Accessed.{tag_number}
use Rattle.cbor_edn_model.specs.tree.Items as kind
use Rattle.cbor_edn_model.specs.tree.Items.{Row, Elements, Strings, Bracketed, entries_of, Node, Item}
use Rattle.cbor_edn_model.specs.tree.Trees.{Tree, OneItem, OneEntry, Rest, Standalone, EnclosedTree, ListTree, ElementTree, ChunkTree}
use Rattle.cbor_edn_model.specs.cbor.Value.{Value, Chunk, unsigned, negative, string, chunks, array, cbor_map, tag, simple, float, Values, no_values, value, values_len, Pairs, no_pairs, pair, pairs_len}
use Rattle.cbor_edn_model.specs.cbor.Decoded.{indicator_of, list_indicator, alone}
use Rattle.cbor_edn_model.specs.internal.Regular.{in_front, list_inside, key_value, sequence_tree_of, regular}
use Rattle.cbor_edn_model.specs.internal.CborReading.{definite_tree, chunks_tree, string_row, simple_tree}
use Rattle.cbor_edn_model.specs.visit.Seeking.{CallArguments, number, prefix_and_text, IsTag, SoughtCall, VisitItem, passed, entered, VisitParts, of_number, of_float, of_name, of_tag, of_simple, of_list, of_string, of_stream, of_literal, of_last_piece, of_none_inside, of_all_inside, of_last, of_more, of_nothing, of_sequence, of_standalone, VisitEntry, of_element, of_pair, of_chunk}
use Rattle.cbor_edn_model.specs.visit.Visits.{Answer, fine, whole}
use Rattle.cbor_edn_model.proofs.lemmas.cbor.CborTrees.{tree_of, row_tree, pair_row_tree}
use Rattle.cbor_edn_conversions.specs.Resolving.{AnswersBy}
use Rattle.cbor_edn_application.specs.Acts.{Act, IsVisited}
use Rattle.cbor_edn_stream.specs.Tags.{among, value_has_tag, values_have_tag, pairs_have_tag}

-- The call does nothing at tags of other numbers.
abbrev pub ActsOn : List ℕ → Act → Type 0
ActsOn numbers act = (n : ℕ) (i : Option Indicator) (w : Tree Standalone) → among numbers n ≡ false → act (number n) (EnclosedTree (opener.Tag i n) w) ≡ (fine, EnclosedTree (opener.Tag i n) w)

-- an item without a tag's number is no tag
no_tag : (w : Tree OneItem) → tag_number w ≡ None → (a : CallArguments) → IsTag w a → ⊥
no_tag w none (number n) is = cc
no_tag w none (prefix_and_text p t) is = is

module _ (numbers : List ℕ) (act : Act) (acts : ActsOn numbers act) where
  -- its calls leave it
  abbrev Stays : Tree OneItem → Type 0
  Stays w = (s : List ℕ) → (cs : List SoughtCall) × All (AnswersBy act) cs × VisitItem IsTag w s cs w s whole

  abbrev EntryStays : {k : Row} → Tree (OneEntry k) → Type 0
  EntryStays {k} e = (s : List ℕ) → (cs : List SoughtCall) × All (AnswersBy act) cs × VisitEntry IsTag k e s cs e s whole

  abbrev RowStays : {k : Row} → Option (Tree (Rest k)) → Type 0
  RowStays None = Unit {0}
  RowStays (Some m) = (cs : List SoughtCall) × All (AnswersBy act) cs × VisitParts IsTag _ m cs m whole

  -- an item that is no tag, and in which none stands
  leaf_stays : (w : Tree OneItem) → tag_number w ≡ None → VisitParts IsTag _ w [] w whole → Stays w
  leaf_stays w none parts s = ([], All-nil (AnswersBy act), passed (no_tag w none) parts)

  in_front_stays : {k : Row} (e : Tree (OneEntry k)) (o : Option (Tree (Rest k))) → EntryStays e → RowStays o → RowStays (Some (in_front e o))
  in_front_stays e None one more = let a = one [] in (a.0, a.1, of_last a.2)
  in_front_stays e (Some m) one more = let a = one (44 ∷ 32 ∷ []) in (a.0 ++ more.0, All-append (AnswersBy act) a.0 more.0 a.1 more.1, of_more a.2 more.2 refl)

  element_stays : (w : Tree OneItem) → Stays w → EntryStays (ElementTree w)
  element_stays w one s = let a = one s in (a.0, a.1, of_element a.2)

  pair_stays : (k v : Tree OneItem) → Stays k → Stays v → EntryStays (key_value k v)
  pair_stays k v first second s =
      let a = first [] in
      let b = second s in
      (a.0 ++ b.0, All-append (AnswersBy act) a.0 b.0 a.1 b.1, of_pair a.2 b.2 refl)

  list_stays : (k : Bracketed) (i : Option Indicator) (o : Option (Tree (Rest (entries_of k)))) → RowStays o → Stays (ListTree k (list_inside i o))
  list_stays k i None row s = ([], All-nil (AnswersBy act), passed (no_tag (ListTree k (list_inside i None)) refl) (of_list of_none_inside))
  list_stays k i (Some m) row s = (row.0, row.1, passed (no_tag (ListTree k (list_inside i (Some m))) refl) (of_list (of_all_inside row.2)))

  tag_stays : (i : Option Indicator) (n : ℕ) (w : Tree OneItem) → among numbers n ≡ false → Stays w → Stays (EnclosedTree (opener.Tag i n) (alone w))
  tag_stays i n w other inside s =
      let t = EnclosedTree (opener.Tag i n) (alone w) in
      let c : SoughtCall = record { arguments = number n; before = t; answer = fine; after = t } in
      let done = acts n i (alone w) other in
      let a = inside [] in (
        c ∷ a.0,
        All-cons (AnswersBy act) c a.0 (ap (λ (r : Answer × Tree OneItem). r.0) (sym done), ap (λ (r : Answer × Tree OneItem). r.1) (sym done)) a.1,
        entered {c = c} refl (λ is. cc) (omega arith) (of_tag (of_standalone a.2)),
      )

  -- ---- leaves

  chunk_stays : (k : StringKind) (c : Chunk) → EntryStays (ChunkTree (definite_tree k c))
  chunk_stays k c s = ([], All-nil (AnswersBy act), of_chunk (of_last_piece of_literal))

  chunks_stay : (k : StringKind) (cs : List Chunk) → RowStays (string_row (map (definite_tree k) cs))
  chunks_stay k [] = tt
  chunks_stay k (c ∷ cs) = in_front_stays (ChunkTree (definite_tree k c)) (string_row (map (definite_tree k) cs)) (chunk_stays k c) (chunks_stay k cs)

  stream_stays : (k : StringKind) (cs : List Chunk) → Stays (chunks_tree k cs)
  stream_stays k [] s = ([], All-nil (AnswersBy act), passed (no_tag (chunks_tree k []) refl) (of_string (of_last_piece of_literal)))
  stream_stays k (c ∷ cs) s = let a = chunks_stay k (c ∷ cs) in (a.0, a.1, passed (no_tag (chunks_tree k (c ∷ cs)) refl) (of_stream a.2))

  either_stays : (b : Bool) (x y : Node Item) → Stays (regular x) → Stays (regular y) → Stays (regular (cond b x y))
  either_stays true x y first second = first
  either_stays false x y first second = second

  simple_stays : (n : ℕ) → Stays (simple_tree n)
  unfolding regular
  simple_stays n = either_stays (eqb n 20) _ _ (leaf_stays _ refl of_name) (either_stays (eqb n 21) _ _ (leaf_stays _ refl of_name) (either_stays (eqb n 22) _ _ (leaf_stays _ refl of_name) (either_stays (eqb n 23) _ _ (leaf_stays _ refl of_name) (leaf_stays _ refl of_simple))))

  -- ---- values

  mutual
    value_stays : (v : Value) → value_has_tag numbers v ≡ false → Stays (tree_of v)
    value_stays (unsigned w n) none = leaf_stays _ refl of_number
    value_stays (negative w n) none = leaf_stays _ refl of_number
    value_stays (string k w bs) none = leaf_stays _ refl (of_string (of_last_piece of_literal))
    value_stays (chunks k cs) none = stream_stays k cs
    value_stays (array w vs) none = list_stays kind.Array (list_indicator w (values_len vs)) (row_tree vs) (values_stay vs none)
    value_stays (cbor_map w ps) none = list_stays kind.Map (list_indicator w (pairs_len ps)) (pair_row_tree ps) (pairs_stay ps none)
    value_stays (tag w n v) none = let both = or_parts (among numbers n) (value_has_tag numbers v) none in tag_stays (indicator_of w n) n (tree_of v) both.0 (value_stays v both.1)
    value_stays (simple n) none = simple_stays n
    value_stays (float w f) none = leaf_stays _ refl of_float

    values_stay : (vs : Values) → values_have_tag numbers vs ≡ false → RowStays (row_tree vs)
    values_stay no_values none = tt
    values_stay (value v vs) none =
        let both = or_parts (value_has_tag numbers v) (values_have_tag numbers vs) none in
        in_front_stays (ElementTree (tree_of v)) (row_tree vs) (element_stays (tree_of v) (value_stays v both.0)) (values_stay vs both.1)

    pairs_stay : (ps : Pairs) → pairs_have_tag numbers ps ≡ false → RowStays (pair_row_tree ps)
    pairs_stay no_pairs none = tt
    pairs_stay (pair k v ps) none =
        let both = or_parts (value_has_tag numbers k) (value_has_tag numbers v || pairs_have_tag numbers ps) none in
        let rest = or_parts (value_has_tag numbers v) (pairs_have_tag numbers ps) both.1 in
        in_front_stays (key_value (tree_of k) (tree_of v)) (pair_row_tree ps) (pair_stays (tree_of k) (tree_of v) (value_stays k both.0) (value_stays v rest.0)) (pairs_stay ps rest.1)

  sequence_stays : (o : Option (Tree (Rest Elements))) → RowStays o → IsVisited IsTag act (sequence_tree_of o) whole (sequence_tree_of o)
  sequence_stays None row = ([], All-nil (AnswersBy act), of_nothing)
  sequence_stays (Some m) row = (row.0, row.1, of_sequence row.2)

  -- A visit leaves the tree of such values.
  pub visit_leaves : (vs : Values) → values_have_tag numbers vs ≡ false → IsVisited IsTag act (sequence_tree_of (row_tree vs)) whole (sequence_tree_of (row_tree vs))
  visit_leaves vs none = sequence_stays (row_tree vs) (values_stay vs none)
