-- What the text of a valid tree, merged, is read as, whatever follows: the tree, where it nests no deeper than the limit.
use Rattle.std.proofs.Common.{ℕ, zero, suc, List, [], ◌∷◌, ◌++◌, ◌≡◌, ◌≤◌, ◌+◌, refl, ap, sym, arith, ◌∙◌, append_assoc}
use Rattle.std.specs.Prelude.{true, false, eqb, Option, Some, None, Ok, max}
use Rattle.std.proofs.lemmas.Bool.{eq-eqb}
use Rattle.cbor_edn_parts.specs.declared.base.indicator.Indicator.{Indicator}
use Rattle.cbor_edn_parts.specs.base.Bytes.{Follow, Closes}
use Rattle.cbor_edn_parts.specs.base.Indicator.{indicator_text, indicator_at}
use Rattle.cbor_edn_parts.specs.internal.Lex.{Automaton, is_token}
use Rattle.cbor_edn_parts.specs.internal.SpaceTokens.{space, separator, is_space, is_mandatory_space, is_list_end, is_separator}
use Rattle.std.specs.Fmt.{decimal}
use Rattle.cbor_edn_parts.specs.internal.NumberTokens.{number, is_number}
use Rattle.cbor_edn_parts.specs.internal.LiteralTokens.{literal, ellipsis, is_literal, is_ellipsis}
use Rattle.cbor_edn_model.specs.tree.Items.{Row, Elements, Pairs, Strings, Bracketed, Array, Map, entries_of}
use Rattle.cbor_edn_model.specs.text.Spelling.{open_byte, close_byte}
use Rattle.cbor_edn_model.specs.text.Openers.{IsOpener}
use Rattle.cbor_edn_model.specs.tree.Trees.{Rule, OneItem, OnePiece, OneString, OneEntry, Inside, Rest, Seq, Standalone, ListHead, NoIndicator, WithIndicator, list_head_text, opener_text, Tree, NumberTree, FloatTree, NamedTree, EnclosedTree, ListTree, StringTree, StreamTree, LiteralTree, EllipsisTree, EmbeddedTree, LastPieceTree, PlusTree, ElementTree, PairTree, ChunkTree, EmptyTree, FullTree, LastTree, MoreTree, NothingTree, SequenceTree, StandaloneTree, onto, IsMerged, Merged, NoPlus, FollowOf, tree_nesting}
use Rattle.cbor_edn_model.proofs.lemmas.text.Tested.{IsTestedListHead, Tested}
use Rattle.cbor_edn_model.specs.declared.text.opener.OpenerKind.{OpenerKind}
use Rattle.cbor_edn_model.specs.declared.text.opener.OpenerKind.TheVariants as opener
use Rattle.cbor_edn_model.specs.declared.text.keyword.NamedSimple.{NamedSimple}
use Rattle.cbor_edn_model.specs.declared.text.keyword.NamedSimple.TheVariants.{False}
use Rattle.cbor_edn_model.specs.declared.text.keyword.NonFinite.{NonFinite}
use Rattle.cbor_edn_model.specs.declared.text.keyword.NonFinite.TheVariants.{NaN}
use Rattle.cbor_edn_model.specs.declared.text.keyword.Keyword.{Keyword}
use Rattle.cbor_edn_model.specs.declared.text.keyword.Keyword.TheVariants as keyword
use Rattle.cbor_edn_model.specs.text.Keywords.{named_text, non_finite_text, keyword_text}
use Rattle.cbor_edn_model.specs.internal.Reading.{Reader, or_invalid, token, byte, not_empty, list_head_of, starts_string, prefix_goes_on, keyword_at, enclosed_item, tag_item, number_end, number_item, keyword_item, plain_item, list_item, stream_item, string_item, item, literal_piece, ellipsis_piece, embedded_piece, piece, plus_string, string, entry, inside_full, inside, more, rest, sequence, standalone, read, outcome}
use Rattle.cbor_edn_parts.proofs.lemmas.base.Indicators.{spec-none, spec-some, spec-again}
use Rattle.cbor_edn_parts.proofs.lemmas.base.Tokens.{Halts, munch-again, token_texts}
use Rattle.cbor_edn_model.proofs.lemmas.text.Follows.{number_some, Solid, solid_spaceless, halts_space, halts_separator, halts_indicator, halts_tag, spec-tag, follow_unopened, halts_literal, halts_ellipsis, closes_solid, closes_closed, closes_follow, begins_solid, begins_open, ending_closes, stream_closes, embedded_closes, space_before, space_follow, space_plain, colon_solid, plus_solid, plus_follow}
use Rattle.cbor_edn_model.proofs.lemmas.text.Begins.{number_stringless, literal_some, literal_differs, ellipsis_begin, Unopened, number_unopened, string_unopened, joins_string, string_starts, string_begins, item_starts, rest_starts, end_next, more_next, colon_next, last_next}
use Rattle.cbor_edn_model.proofs.lemmas.text.TagNumbers.{tag_number-again, tag_digits}
use Rattle.cbor_edn_model.proofs.lemmas.text.KeywordTexts.{keyword-again, number_no_keyword, string_no_keyword, follow_ends, indicator_ends}
use Rattle.cbor_edn_model.proofs.lemmas.text.Outcomes.{then_ok, then_done, then_outcome, flat, deeper, too_deep}

-- How many steps a tree takes at most.
unfoldable pub size : {s : Rule} → Tree s → ℕ
size (NumberTree x i) = 1
size (FloatTree f i) = 1
size (NamedTree b) = 1
size (EnclosedTree l w) = size w + 1
size (ListTree k w) = size w + 1
size (StringTree w) = size w + 1
size (StreamTree ms m) = size m + 1
size (LiteralTree x i) = 1
size (EllipsisTree x) = 1
size (EmbeddedTree w i) = size w + 1
size (LastPieceTree p) = size p + 1
size (PlusTree p s t w) = size p + size w + 1
size (ElementTree w) = size w + 1
size (PairTree v s t w) = size v + size w + 1
size (ChunkTree w) = size w + 1
size (EmptyTree i s) = 1
size (FullTree h s m) = size m + 1
size (LastTree e s) = size e + 1
size (MoreTree e s m) = size e + size m + 1
size (NothingTree s) = 1
size (SequenceTree s m) = size m + 1
size (StandaloneTree s w t) = size w + 1

byte-again : (b : ℕ) (r : List ℕ) → byte b (b ∷ r) ≡ Ok r
unfolding byte
byte-again b r = rw (eq-eqb b b refl)

taken : {State : Type 0} (T : Automaton State) (x r : List ℕ) → is_token T x ≡ true → Halts T r → token T (x ++ r) ≡ Ok (x, r)
taken T x r v h = ap or_invalid (munch-again T T.start x r ((token_texts T x).1 v) h)

space-again : (s r : List ℕ) → is_space s ≡ true → Solid r → token space (s ++ r) ≡ Ok (s, r)
space-again s r v h = taken space s r v (halts_space r (solid_spaceless r h))

separator-again : (s r : List ℕ) → is_list_end s ≡ true → Solid r → token separator (s ++ r) ≡ Ok (s, r)
separator-again s r v h = taken separator s r v (halts_separator r h)

-- Each rule reads its tree again, where the readers of its parts do.
module _ (g : ℕ → (s : Rule) → Reader s) where
  plain_next : (limit c : ℕ) (xs : List ℕ) → Unopened c → item g limit (c ∷ xs) ≡ plain_item g limit (keyword_at (c ∷ xs)) (c ∷ xs)
  unfolding item
  plain_next limit c xs o = rw (o.0, o.1, o.2)

  number_next : (limit : ℕ) (x : List ℕ) (i : Option Indicator) (r : List ℕ) → is_number x ≡ true → Halts number (indicator_text i ++ r) → indicator_at (indicator_text i ++ r) ≡ (i, r) → item g limit (x ++ (indicator_text i ++ r)) ≡ number_end g limit x i r
  unfolding plain_item number_item
  number_next limit [] i r v h e = absurd (number_some v)
  number_next limit (c ∷ x) i r v h e = plain_next limit c _ (number_unopened c x v) ∙ rw (number_no_keyword c x (indicator_text i ++ r) v, number_stringless c x (indicator_text i ++ r) v) (then_ok _ (taken number (c ∷ x) (indicator_text i ++ r) v h) (rw e))

  number-again : (limit : ℕ) (x : List ℕ) (i : Option Indicator) (r : List ℕ) → is_number x ≡ true → Follow r → item g limit (x ++ (indicator_text i ++ r)) ≡ outcome 0 limit (NumberTree x i, r)
  unfolding number_end
  number-again limit x i r v h = rw (flat {A = Tree OneItem × List ℕ} limit (NumberTree x i, r)) (number_next limit x i r v (halts_indicator i r h) (spec-again i r h) ∙ rw (follow_unopened r h))

  opened_keyword : (limit : ℕ) (w : Keyword) (xs : List ℕ) → item g limit (keyword_text w ++ xs) ≡ plain_item g limit (keyword_at (keyword_text w ++ xs)) (keyword_text w ++ xs)
  unfolding item
  opened_keyword limit (keyword.Named False) xs = refl
  opened_keyword limit (keyword.NonFinite NaN) xs = refl
  opened_keyword limit _ xs = refl

  keyword_next : (limit : ℕ) (w : Keyword) (xs : List ℕ) → prefix_goes_on xs ≡ false → item g limit (keyword_text w ++ xs) ≡ keyword_item g limit w xs
  unfolding plain_item
  keyword_next limit w xs h = opened_keyword limit w xs ∙ ap (λ o. plain_item g limit o (keyword_text w ++ xs)) (keyword-again w xs h)

  named-again : (limit : ℕ) (b : NamedSimple) (r : List ℕ) → Follow r → item g limit (named_text b ++ r) ≡ outcome 0 limit (NamedTree b, r)
  unfolding keyword_item
  named-again limit b r h = rw (flat {A = Tree OneItem × List ℕ} limit (NamedTree b, r)) (keyword_next limit (keyword.Named b) r (follow_ends r h))

  float-again : (limit : ℕ) (f : NonFinite) (i : Option Indicator) (r : List ℕ) → Follow r → item g limit (non_finite_text f ++ (indicator_text i ++ r)) ≡ outcome 0 limit (FloatTree f i, r)
  unfolding keyword_item
  float-again limit f i r h = rw (flat {A = Tree OneItem × List ℕ} limit (FloatTree f i, r)) (keyword_next limit (keyword.NonFinite f) (indicator_text i ++ r) (indicator_ends i r h) ∙ rw (spec-again i r h))

  opener_next : (limit : ℕ) (l : OpenerKind) (xs : List ℕ) → IsOpener l → item g limit (opener_text l ++ (40 ∷ xs)) ≡ enclosed_item g limit l (40 ∷ xs)
  unfolding keyword_item number_end tag_item
  opener_next limit (opener.Tag i n) xs v = rw append_assoc (number_next limit (decimal n) i (40 ∷ xs) (tag_digits n v) (halts_tag i xs) (spec-tag i xs) ∙ then_ok _ (ap or_invalid (tag_number-again n v)) refl)
  opener_next limit opener.Simple xs v = keyword_next limit keyword.Simple (40 ∷ xs) refl

  enclosed-again : (limit : ℕ) (l : OpenerKind) (w : Tree Standalone) (r : List ℕ) → ((limit : ℕ) → g limit Standalone (onto w (41 ∷ r)) ≡ outcome (tree_nesting w) limit (w, 41 ∷ r)) → enclosed_item g limit l (40 ∷ onto w (41 ∷ r)) ≡ outcome (suc (tree_nesting w)) limit (EnclosedTree l w, r)
  unfolding enclosed_item
  enclosed-again zero l w r e = then_ok _ (byte-again 40 _) (sym (too_deep {A = Tree OneItem × List ℕ} (tree_nesting w) (EnclosedTree l w, r)))
  enclosed-again (suc limit) l w r e = then_ok _ (byte-again 40 _) (then_done (tree_nesting w) limit _ (e limit) (then_ok _ (byte-again 41 r) refl)) ∙ sym (deeper {A = Tree OneItem × List ℕ} (tree_nesting w) limit (EnclosedTree l w, r))

  string-again : (limit : ℕ) (w : Tree OneString) (xs r : List ℕ) → keyword_at xs ≡ None → starts_string xs ≡ true → g limit OneString xs ≡ outcome (tree_nesting w) limit (w, r) → item g limit xs ≡ outcome (tree_nesting w) limit (StringTree w, r)
  unfolding plain_item string_item starts_string
  string-again limit w [] r n h e = absurd (cc)
  string-again limit w (c ∷ xs) r n h e = plain_next limit c xs (string_unopened c xs h) ∙ rw (n, h) (then_done (tree_nesting w) limit _ e refl)

  stream-again : (limit : ℕ) (ms : List ℕ) (m : Tree (Rest Strings)) (r : List ℕ) → is_mandatory_space ms ≡ true → Tested m → g limit (Rest Strings) (onto m (41 ∷ r)) ≡ outcome (tree_nesting m) limit (m, 41 ∷ r) → stream_item g limit (95 ∷ (ms ++ onto m (41 ∷ r))) ≡ outcome (tree_nesting m) limit (StreamTree ms m, r)
  unfolding stream_item not_empty
  stream-again limit [] m r v vm e = absurd (cc)
  stream-again limit (c ∷ ms) m r v vm e = then_ok _ (byte-again 95 _) (then_ok _ (space-again (c ∷ ms) _ v (begins_solid _ (rest_starts m _ vm).0)) (then_done (tree_nesting m) limit _ e (then_ok _ (byte-again 41 r) refl)))

  opened_stream : (limit : ℕ) (xs : List ℕ) → item g limit (40 ∷ xs) ≡ stream_item g limit xs
  unfolding item
  opened_stream limit xs = refl

  literal_next : (limit c : ℕ) (xs : List ℕ) → eqb c 60 ≡ false → eqb c 46 ≡ false → piece g limit (c ∷ xs) ≡ literal_piece g (c ∷ xs)
  unfolding piece
  literal_next limit c xs a b = rw (a, b)

  literal-again : (limit : ℕ) (x : List ℕ) (i : Option Indicator) (r : List ℕ) → is_literal x ≡ true → Follow r → piece g limit (x ++ (indicator_text i ++ r)) ≡ outcome 0 limit (LiteralTree x i, r)
  unfolding literal_piece
  literal-again limit [] i r v h = absurd (literal_some v)
  literal-again limit (c ∷ x) i r v h = rw (flat {A = Tree OnePiece × List ℕ} limit (LiteralTree (c ∷ x) i, r)) (literal_next limit c _ (literal_differs 60 c x refl v) (literal_differs 46 c x refl v) ∙ then_ok _ (taken literal (c ∷ x) (indicator_text i ++ r) v (halts_literal _)) (rw (spec-again i r h)))

  ellipsis_next : (limit : ℕ) (xs : List ℕ) → piece g limit (46 ∷ xs) ≡ ellipsis_piece g (46 ∷ xs)
  unfolding piece
  ellipsis_next limit xs = refl

  ellipsis-again : (limit : ℕ) (x r : List ℕ) → is_ellipsis x ≡ true → Follow r → piece g limit (x ++ r) ≡ outcome 0 limit (EllipsisTree x, r)
  unfolding ellipsis_piece
  ellipsis-again limit x r v h = let f = ellipsis_begin x v in rw (flat {A = Tree OnePiece × List ℕ} limit (EllipsisTree x, r)) (ap (λ (y : List ℕ). piece g limit (y ++ r)) f.1 ∙ ellipsis_next limit _ ∙ ap (λ (y : List ℕ). ellipsis_piece g (y ++ r)) (sym f.1) ∙ then_ok _ (taken ellipsis x r v (halts_ellipsis r h)) refl)

  opened_embedded : (limit : ℕ) (xs : List ℕ) → piece g limit (60 ∷ 60 ∷ xs) ≡ embedded_piece g limit xs
  unfolding piece byte
  opened_embedded limit xs = refl

  embedded-again : (limit : ℕ) (w : Tree Seq) (i : Option Indicator) (r : List ℕ) → Follow r → ((limit : ℕ) → g limit Seq (onto w (62 ∷ 62 ∷ (indicator_text i ++ r))) ≡ outcome (tree_nesting w) limit (w, 62 ∷ 62 ∷ (indicator_text i ++ r))) → embedded_piece g limit (onto w (62 ∷ 62 ∷ (indicator_text i ++ r))) ≡ outcome (suc (tree_nesting w)) limit (EmbeddedTree w i, r)
  unfolding embedded_piece
  embedded-again zero w i r h e = sym (too_deep {A = Tree OnePiece × List ℕ} (tree_nesting w) (EmbeddedTree w i, r))
  embedded-again (suc limit) w i r h e = then_done (tree_nesting w) limit _ (e limit) (then_ok _ (byte-again 62 _) (then_ok _ (byte-again 62 _) (rw (spec-again i r h)))) ∙ sym (deeper {A = Tree OnePiece × List ℕ} (tree_nesting w) limit (EmbeddedTree w i, r))

  last_piece-again : (limit : ℕ) (p : Tree OnePiece) (r : List ℕ) → NoPlus r → g limit OnePiece (onto p r) ≡ outcome (tree_nesting p) limit (p, r) → string g limit (onto p r) ≡ outcome (tree_nesting p) limit (LastPieceTree p, r)
  unfolding string
  last_piece-again limit p r q e = then_done (tree_nesting p) limit _ e (then_ok _ (ap or_invalid q.1) (rw q.2))

  plus-again : (limit : ℕ) (p : Tree OnePiece) (s t : List ℕ) (w : Tree OneString) (r : List ℕ) → is_space s ≡ true → is_space t ≡ true → starts_string (onto w r) ≡ true → g limit OnePiece (onto p (s ++ (43 ∷ (t ++ onto w r)))) ≡ outcome (tree_nesting p) limit (p, s ++ (43 ∷ (t ++ onto w r))) → g limit OneString (onto w r) ≡ outcome (tree_nesting w) limit (w, r) → string g limit (onto p (s ++ (43 ∷ (t ++ onto w r)))) ≡ outcome (max (tree_nesting p) (tree_nesting w)) limit (PlusTree p s t w, r)
  unfolding string plus_string
  plus-again limit p s t w r vs vt b ep ew = then_outcome (tree_nesting p) (tree_nesting w) limit _ _ ep (then_ok _ (space-again s _ vs (plus_solid (t ++ onto w r))) (rw (joins_string t (onto w r) vt b) (then_ok _ (byte-again 43 _) (then_ok _ (space-again t _ vt (begins_solid (onto w r) (string_starts (onto w r) b).0)) (then_done (tree_nesting w) limit _ ew refl)))))

  opened : (limit : ℕ) (k : Bracketed) (xs : List ℕ) → item g limit (open_byte k ∷ xs) ≡ list_item g limit k xs
  unfolding item
  opened limit Array xs = refl
  opened limit Map xs = refl

  list-again : (limit : ℕ) (k : Bracketed) (w : Tree (Inside k)) (r : List ℕ) → ((limit : ℕ) → g limit (Inside k) (onto w (close_byte k ∷ r)) ≡ outcome (tree_nesting w) limit (w, close_byte k ∷ r)) → list_item g limit k (onto w (close_byte k ∷ r)) ≡ outcome (suc (tree_nesting w)) limit (ListTree k w, r)
  unfolding list_item
  list-again zero k w r e = sym (too_deep {A = Tree OneItem × List ℕ} (tree_nesting w) (ListTree k w, r))
  list-again (suc limit) k w r e = then_done (tree_nesting w) limit _ (e limit) (then_ok _ (byte-again (close_byte k) r) refl) ∙ sym (deeper {A = Tree OneItem × List ℕ} (tree_nesting w) limit (ListTree k w, r))

  element-again : (limit : ℕ) (w : Tree OneItem) (r : List ℕ) → g limit OneItem (onto w r) ≡ outcome (tree_nesting w) limit (w, r) → entry g limit Elements (onto w r) ≡ outcome (tree_nesting w) limit (ElementTree w, r)
  unfolding entry
  element-again limit w r e = then_done (tree_nesting w) limit _ e refl

  chunk-again : (limit : ℕ) (w : Tree OneString) (r : List ℕ) → g limit OneString (onto w r) ≡ outcome (tree_nesting w) limit (w, r) → entry g limit Strings (onto w r) ≡ outcome (tree_nesting w) limit (ChunkTree w, r)
  unfolding entry
  chunk-again limit w r e = then_done (tree_nesting w) limit _ e refl

  pair-again : (limit : ℕ) (v : Tree OneItem) (s t : List ℕ) (w : Tree OneItem) (r : List ℕ) → is_space s ≡ true → is_space t ≡ true → Tested w → g limit OneItem (onto v (s ++ (58 ∷ (t ++ onto w r)))) ≡ outcome (tree_nesting v) limit (v, s ++ (58 ∷ (t ++ onto w r))) → g limit OneItem (onto w r) ≡ outcome (tree_nesting w) limit (w, r) → entry g limit Pairs (onto v (s ++ (58 ∷ (t ++ onto w r)))) ≡ outcome (max (tree_nesting v) (tree_nesting w)) limit (PairTree v s t w, r)
  unfolding entry
  pair-again limit v s t w r vs vt vw ev ew = then_outcome (tree_nesting v) (tree_nesting w) limit _ _ ev (then_ok _ (space-again s _ vs (colon_solid (t ++ onto w r))) (then_ok _ (byte-again 58 _) (then_ok _ (space-again t _ vt (begins_solid _ (item_starts w r vw).0)) (then_done (tree_nesting w) limit _ ew refl))))

  empty-again : (limit : ℕ) (k : Bracketed) (i : Option Indicator) (s r : List ℕ) → is_space s ≡ true → Closes r → inside g limit k (indicator_text i ++ (s ++ r)) ≡ outcome 0 limit (EmptyTree i s, r)
  unfolding inside
  empty-again limit k i s r v h = rw (flat {A = Tree (Inside k) × List ℕ} limit (EmptyTree i s, r), spec-again i (s ++ r) (space_follow s r v (closes_follow r h))) (then_ok _ (space-again s r v (closes_solid r h)) (rw (closes_closed r h)))

  -- behind an indicator, or none, and the space that follows
  headed : (limit : ℕ) (k : Bracketed) (i : Option Indicator) (h : ListHead) (s t xs : List ℕ) (m : Tree (Rest (entries_of k))) (r : List ℕ) → indicator_at xs ≡ (i, s ++ onto m r) → list_head_of i s ≡ Ok (h, t) → is_space s ≡ true → Tested m → g limit (Rest (entries_of k)) (onto m r) ≡ outcome (tree_nesting m) limit (m, r) → inside g limit k xs ≡ outcome (tree_nesting m) limit (FullTree h t m, r)
  unfolding inside inside_full
  headed limit k i h s t xs m r ei eh v vm e = let b = (rest_starts m r vm).0 in rw ei (then_ok _ (space-again s _ v (begins_solid _ b)) (rw (begins_open _ b) (then_ok _ eh (then_done (tree_nesting m) limit _ e refl))))

  full-again : (limit : ℕ) (k : Bracketed) (h : ListHead) (s : List ℕ) (m : Tree (Rest (entries_of k))) (r : List ℕ) → IsTestedListHead h → is_space s ≡ true → IsMerged h s → Tested m → g limit (Rest (entries_of k)) (onto m r) ≡ outcome (tree_nesting m) limit (m, r) → inside g limit k (list_head_text h ++ (s ++ onto m r)) ≡ outcome (tree_nesting m) limit (FullTree h s m, r)
  unfolding list_head_of
  full-again limit k NoIndicator s m r vh v j vm e = headed limit k None NoIndicator s s _ m r (spec-none _ (space_plain s _ v (rest_starts m r vm).0)) refl v vm e
  full-again limit k (WithIndicator i []) s m r vh v j vm e = absurd (cc)
  full-again limit k (WithIndicator i (c ∷ ms)) (d ∷ s) m r vh v j vm e = absurd (cc)
  full-again limit k (WithIndicator i (c ∷ ms)) [] m r vh v j vm e = ap (inside g limit k) (append_assoc (indicator_text (Some i)) (c ∷ ms) (onto m r)) ∙ headed limit k (Some i) (WithIndicator i (c ∷ ms)) (c ∷ ms) [] _ m r (spec-some i _ (space_before c ms (ms ++ onto m r) vh)) refl vh vm e

  last-again : (limit : ℕ) (k : Row) (e : Tree (OneEntry k)) (s r : List ℕ) → is_list_end s ≡ true → Closes r → g limit (OneEntry k) (onto e (s ++ r)) ≡ outcome (tree_nesting e) limit (e, s ++ r) → rest g limit k (onto e (s ++ r)) ≡ outcome (tree_nesting e) limit (LastTree e s, r)
  unfolding rest
  last-again limit k e s r v h q = then_done (tree_nesting e) limit _ q (then_ok _ (separator-again s r v (closes_solid r h)) (rw (closes_closed r h)))

  more-again : (limit : ℕ) (k : Row) (e : Tree (OneEntry k)) (s : List ℕ) (m : Tree (Rest k)) (r : List ℕ) → is_separator s ≡ true → Tested m → g limit (OneEntry k) (onto e (s ++ onto m r)) ≡ outcome (tree_nesting e) limit (e, s ++ onto m r) → g limit (Rest k) (onto m r) ≡ outcome (tree_nesting m) limit (m, r) → rest g limit k (onto e (s ++ onto m r)) ≡ outcome (max (tree_nesting e) (tree_nesting m)) limit (MoreTree e s m, r)
  unfolding rest more not_empty
  more-again limit k e [] m r v vm qe qm = absurd (cc)
  more-again limit k e (c ∷ s) m r v vm qe qm = let b = (rest_starts m r vm).0 in then_outcome (tree_nesting e) (tree_nesting m) limit _ _ qe (then_ok _ (separator-again (c ∷ s) _ v (begins_solid _ b)) (rw (begins_open _ b) (then_done (tree_nesting m) limit _ qm refl)))

  nothing-again : (limit : ℕ) (s r : List ℕ) → is_space s ≡ true → Closes r → sequence g limit (s ++ r) ≡ outcome 0 limit (NothingTree s, r)
  unfolding sequence
  nothing-again limit s r v h = rw (flat {A = Tree Seq × List ℕ} limit (NothingTree s, r)) (then_ok _ (space-again s r v (closes_solid r h)) (rw (closes_closed r h)))

  sequence-again : (limit : ℕ) (s : List ℕ) (m : Tree (Rest Elements)) (r : List ℕ) → is_space s ≡ true → Tested m → g limit (Rest Elements) (onto m r) ≡ outcome (tree_nesting m) limit (m, r) → sequence g limit (s ++ onto m r) ≡ outcome (tree_nesting m) limit (SequenceTree s m, r)
  unfolding sequence
  sequence-again limit s m r v vm e = let b = (rest_starts m r vm).0 in then_ok _ (space-again s _ v (begins_solid _ b)) (rw (begins_open _ b) (then_done (tree_nesting m) limit _ e refl))

  standalone-again : (limit : ℕ) (s : List ℕ) (w : Tree OneItem) (t r : List ℕ) → is_space s ≡ true → Tested w → is_space t ≡ true → Closes r → g limit OneItem (onto w (t ++ r)) ≡ outcome (tree_nesting w) limit (w, t ++ r) → standalone g limit (s ++ onto w (t ++ r)) ≡ outcome (tree_nesting w) limit (StandaloneTree s w t, r)
  unfolding standalone
  standalone-again limit s w t r vs vw vt h e = then_ok _ (space-again s _ vs (begins_solid _ (item_starts w _ vw).0)) (then_done (tree_nesting w) limit _ e (then_ok _ (space-again t r vt (closes_solid r h)) refl))

pub positive : {s : Rule} (w : Tree s) → size w ≤ 0 → ⊥
unfolding size
positive (NumberTree x i) h = omega arith
positive (FloatTree f i) h = omega arith
positive (NamedTree b) h = omega arith
positive (EnclosedTree l w) h = omega arith
positive (ListTree k w) h = omega arith
positive (StringTree w) h = omega arith
positive (StreamTree ms m) h = omega arith
positive (LiteralTree x i) h = omega arith
positive (EllipsisTree x) h = omega arith
positive (EmbeddedTree w i) h = omega arith
positive (LastPieceTree p) h = omega arith
positive (PlusTree p s t w) h = omega arith
positive (ElementTree w) h = omega arith
positive (PairTree v s t w) h = omega arith
positive (ChunkTree w) h = omega arith
positive (EmptyTree i s) h = omega arith
positive (FullTree a s m) h = omega arith
positive (LastTree e s) h = omega arith
positive (MoreTree e s m) h = omega arith
positive (NothingTree s) h = omega arith
positive (SequenceTree s m) h = omega arith
positive (StandaloneTree s w t) h = omega arith

pub again : (f limit : ℕ) {s : Rule} (w : Tree s) (r : List ℕ) → Tested w → Merged w → FollowOf s r → size w ≤ f → read f limit s (onto w r) ≡ outcome (tree_nesting w) limit (w, r)
unfolding read onto Tested Merged size
again zero limit w r v j h n = absurd (positive w n)
again (suc f) limit (NumberTree x i) r v j h n = number-again (read f) limit x i r v h.0
again (suc f) limit (FloatTree e i) r v j h n = float-again (read f) limit e i r h.0
again (suc f) limit (NamedTree b) r v j h n = named-again (read f) limit b r h.0
again (suc f) limit (EnclosedTree l w) r v j h n = opener_next (read f) limit l _ v.0 ∙ enclosed-again (read f) limit l w r (λ limit. again f limit w (41 ∷ r) v.1 j (stream_closes r) (omega arith))
again (suc f) limit (ListTree k w) r v j h n = opened (read f) limit k (onto w (close_byte k ∷ r)) ∙ list-again (read f) limit k w r (λ limit. again f limit w (close_byte k ∷ r) v j (ending_closes k r) (omega arith))
again (suc f) limit (StringTree w) r v j h n = string-again (read f) limit w _ r (string_no_keyword w r v) (string_begins w r v) (again f limit w r v j h (omega arith))
again (suc f) limit (StreamTree ms m) r v j h n = opened_stream (read f) limit _ ∙ stream-again (read f) limit ms m r v.0 v.1 (again f limit m (41 ∷ r) v.1 j (stream_closes r) (omega arith))
again (suc f) limit (LiteralTree x i) r v j h n = literal-again (read f) limit x i r v h
again (suc f) limit (EllipsisTree x) r v j h n = ellipsis-again (read f) limit x r v h
again (suc f) limit (EmbeddedTree w i) r v j h n = opened_embedded (read f) limit _ ∙ embedded-again (read f) limit w i r h (λ limit. again f limit w (62 ∷ 62 ∷ (indicator_text i ++ r)) v j (embedded_closes (62 ∷ (indicator_text i ++ r))) (omega arith))
again (suc f) limit (LastPieceTree p) r v j h n = last_piece-again (read f) limit p r h.1 (again f limit p r v j h.0 (omega arith))
again (suc f) limit (PlusTree p s t w) r v j h n = plus-again (read f) limit p s t w r v.1 v.2 (string_begins w r v.3) (again f limit p _ v.0 j.0 (space_follow s _ v.1 (plus_follow (t ++ onto w r))) (omega arith)) (again f limit w r v.3 j.1 h (omega arith))
again (suc f) limit (ElementTree w) r v j h n = element-again (read f) limit w r (again f limit w r v j h (omega arith))
again (suc f) limit (PairTree a s t b) r v j h n = pair-again (read f) limit a s t b r v.1 v.2 v.3 (again f limit a _ v.0 j.0 (colon_next s _ v.1) (omega arith)) (again f limit b r v.3 j.1 h (omega arith))
again (suc f) limit (ChunkTree w) r v j h n = chunk-again (read f) limit w r (again f limit w r v j h (omega arith))
again (suc f) limit (EmptyTree {k = k} i s) r v j h n = empty-again (read f) limit k i s r v h
again (suc f) limit (FullTree {k = k} a s m) r v j h n = full-again (read f) limit k a s m r v.0 v.1 j.0 v.2 (again f limit m r v.2 j.1 h (omega arith))
again (suc f) limit (LastTree {k = k} e s) r v j h n = last-again (read f) limit k e s r v.1 h (again f limit e _ v.0 j (end_next s r v.1 h) (omega arith))
again (suc f) limit (MoreTree {k = k} e s m) r v j h n = more-again (read f) limit k e s m r v.1 v.2 (again f limit e _ v.0 j.0 (more_next s m r v.1 v.2) (omega arith)) (again f limit m r v.2 j.1 h (omega arith))
again (suc f) limit (NothingTree s) r v j h n = nothing-again (read f) limit s r v h
again (suc f) limit (SequenceTree s m) r v j h n = sequence-again (read f) limit s m r v.0 v.1 (again f limit m r v.1 j h (omega arith))
again (suc f) limit (StandaloneTree s w t) r v j h n = standalone-again (read f) limit s w t r v.0 v.1 v.2 h (again f limit w _ v.1 j (last_next t r v.2 h) (omega arith))
