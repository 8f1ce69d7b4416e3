-- The tree that removal of indicators leaves.
use Rattle.std.proofs.Common.{ℕ, ◌≡◌, List, ◌++◌, true, None, refl, ap, ◌∙◌}
use Rattle.std.proofs.lemmas.Bool.{cond_both}
use Rattle.cbor_edn_parts.specs.internal.SpaceTokens.{is_space}
use Rattle.cbor_edn_parts.proofs.lemmas.space.SpaceTexts.{optional_texts, mandatory_texts}
use Rattle.cbor_edn_parts.proofs.lemmas.space.CommentTexts.{spaces_append}
use Rattle.cbor_edn_model.specs.declared.text.opener.OpenerKind.{OpenerKind}
use Rattle.cbor_edn_model.specs.declared.text.opener.OpenerKind.TheVariants as opener
use Rattle.cbor_edn_model.specs.tree.Items.{Row, Listed, String, Stream, LastPiece, Plus, Element, Pair, Chunk, End, Then, Node, Item}
use Rattle.cbor_edn_model.specs.text.Openers.{IsOpener}
use Rattle.cbor_edn_model.specs.tree.Trees.{Rule, OneItem, OnePiece, OneString, OneEntry, Inside, Rest, Seq, Standalone, Tree, ListHead, NoIndicator, WithIndicator, NumberTree, FloatTree, NamedTree, EnclosedTree, ListTree, StringTree, StreamTree, LiteralTree, EllipsisTree, EmbeddedTree, LastPieceTree, PlusTree, ElementTree, PairTree, ChunkTree, EmptyTree, FullTree, LastTree, MoreTree, NothingTree, SequenceTree, StandaloneTree, Merged, labelled, Of, items}
use Rattle.cbor_edn_model.proofs.lemmas.text.Tested.{IsTestedListHead, Tested, tested, valid}
use Rattle.cbor_edn_model.specs.layout.Bare.{bare, is_one_space, first_space, bare_opener, without_indicators}
use Rattle.cbor_edn_model.specs.layout.BareLaws.{WithoutIndicatorsIsBare, WithoutIndicatorsStaysValid}

-- the bare items of a use of a rule
abbrev bare_of : (s : Rule) → Of s → Of s
bare_of OneItem x = bare x
bare_of OnePiece x = bare x
bare_of OneString x = bare x
bare_of (OneEntry k) x = bare x
bare_of (Inside k) x = (None, bare x.1)
bare_of (Rest k) x = bare x
bare_of Seq x = bare x
bare_of Standalone x = bare x

opener_bare : (l : OpenerKind) (x : Node Item) → labelled (bare_opener l) (bare x) ≡ bare (labelled l x)
unfolding bare
opener_bare (opener.Tag i n) x = refl
opener_bare opener.Simple x = refl

is_bare : {s : Rule} (w : Tree s) → items (without_indicators w) ≡ bare_of s (items w)
unfolding items bare without_indicators
is_bare (NumberTree x i) = refl
is_bare (FloatTree f i) = refl
is_bare (NamedTree b) = refl
is_bare (EnclosedTree l w) = ap (labelled (bare_opener l)) (is_bare w) ∙ opener_bare l (items w)
is_bare (ListTree k w) = ap (λ p. Listed k p.0 p.1) (is_bare w)
is_bare (StringTree w) = ap String (is_bare w)
is_bare (StreamTree ms m) = ap Stream (is_bare m)
is_bare (LiteralTree x i) = refl
is_bare (EllipsisTree x) = refl
is_bare (EmbeddedTree w i) = refl
is_bare (LastPieceTree p) = ap LastPiece (is_bare p)
is_bare (PlusTree p s t w) = ap (λ p. Plus p (items (without_indicators w))) (is_bare p) ∙ ap (Plus (bare (items p))) (is_bare w)
is_bare (ElementTree w) = ap Element (is_bare w)
is_bare (PairTree v s t w) = ap (λ v. Pair v (items (without_indicators w))) (is_bare v) ∙ ap (Pair (bare (items v))) (is_bare w)
is_bare (ChunkTree w) = ap Chunk (is_bare w)
is_bare (EmptyTree i s) = refl
is_bare (FullTree h s m) = ap (λ m. (None, m)) (is_bare m)
is_bare (LastTree e s) = ap (λ e. Then e End) (is_bare e)
is_bare (MoreTree e s m) = ap (λ e. Then e (items (without_indicators m))) (is_bare e) ∙ ap (Then (bare (items e))) (is_bare m)
is_bare (NothingTree s) = refl
is_bare (SequenceTree s m) = is_bare m
is_bare (StandaloneTree s w t) = is_bare w

pub entry_is_bare : {k : Row} (w : Tree (OneEntry k)) → items (without_indicators w) ≡ bare (items w)
entry_is_bare w = is_bare w

pub without_indicators_is_bare : WithoutIndicatorsIsBare
without_indicators_is_bare = (λ w. is_bare w, λ w. is_bare w, λ w. is_bare w)

opener_fits : (l : OpenerKind) → IsOpener l → IsOpener (bare_opener l)
opener_fits (opener.Tag i n) v = v
opener_fits opener.Simple v = tt

first_is_space : (h : ListHead) (s : List ℕ) → IsTestedListHead h → is_space s ≡ true → is_space (first_space h s) ≡ true
first_is_space NoIndicator s v e = e
first_is_space (WithIndicator i ms) s v e =
    cond_both (is_one_space ms) s (ms ++ s) (λ x. is_space x ≡ true) (λ one. e) (λ other. (optional_texts (ms ++ s)).0 (spaces_append ((mandatory_texts ms).1 v).0 ((optional_texts s).1 e)))

stays : {s : Rule} (w : Tree s) → Tested w → Tested (without_indicators w)
unfolding Tested without_indicators
stays (NumberTree x i) v = v
stays (FloatTree f i) v = v
stays (NamedTree b) v = v
stays (EnclosedTree l w) v = (opener_fits l v.0, stays w v.1)
stays (ListTree k w) v = stays w v
stays (StringTree w) v = stays w v
stays (StreamTree ms m) v = (v.0, stays m v.1)
stays (LiteralTree x i) v = v
stays (EllipsisTree x) v = v
stays (EmbeddedTree w i) v = v
stays (LastPieceTree p) v = stays p v
stays (PlusTree p s t w) v = (stays p v.0, v.1, v.2, stays w v.3)
stays (ElementTree w) v = stays w v
stays (PairTree k s t w) v = (stays k v.0, v.1, v.2, stays w v.3)
stays (ChunkTree w) v = stays w v
stays (EmptyTree i s) v = v
stays (FullTree h s m) v = (tt, first_is_space h s v.0 v.1, stays m v.2)
stays (LastTree e s) v = (stays e v.0, v.1)
stays (MoreTree e s m) v = (stays e v.0, v.1, stays m v.2)
stays (NothingTree s) v = v
stays (SequenceTree s m) v = (v.0, stays m v.1)
stays (StandaloneTree s w t) v = (v.0, stays w v.1, v.2)

merged : {s : Rule} (w : Tree s) → Merged w → Merged (without_indicators w)
unfolding Merged without_indicators
merged (NumberTree x i) j = tt
merged (FloatTree f i) j = tt
merged (NamedTree b) j = tt
merged (EnclosedTree l w) j = merged w j
merged (ListTree k w) j = merged w j
merged (StringTree w) j = merged w j
merged (StreamTree ms m) j = merged m j
merged (LiteralTree x i) j = tt
merged (EllipsisTree x) j = tt
merged (EmbeddedTree w i) j = j
merged (LastPieceTree p) j = merged p j
merged (PlusTree p s t w) j = (merged p j.0, merged w j.1)
merged (ElementTree w) j = merged w j
merged (PairTree k s t w) j = (merged k j.0, merged w j.1)
merged (ChunkTree w) j = merged w j
merged (EmptyTree i s) j = tt
merged (FullTree h s m) j = (tt, merged m j.1)
merged (LastTree e s) j = merged e j
merged (MoreTree e s m) j = (merged e j.0, merged m j.1)
merged (NothingTree s) j = tt
merged (SequenceTree s m) j = merged m j
merged (StandaloneTree s w t) j = merged w j

pub without_indicators_stays_valid : WithoutIndicatorsStaysValid
without_indicators_stays_valid s w v = (valid (without_indicators w) (stays w (tested w v)), merged w)
