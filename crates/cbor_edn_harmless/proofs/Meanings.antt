-- Harmless items mean what the items mean, and nest as deep.
use Rattle.std.proofs.Common.{ℕ, ◌≡◌, suc, max, true, false, Bool, List, [], Option, Some, None, refl, sym, ap, ◌∙◌}
use Rattle.std.specs.Prelude.{◌&&◌, not, is_none, if◌then◌else◌}
use Rattle.std.proofs.lemmas.Bool.{cond-false, and_right}
use Rattle.cbor_edn_parts.specs.declared.base.indicator.Indicator.{Indicator}
use Rattle.cbor_edn_parts.specs.declared.string.StringKind.TheVariants.{Bytes}
use Rattle.cbor_edn_parts.specs.internal.ContentReading.{is_supported_prefix, is_supported}
use Rattle.cbor_edn_parts.specs.internal.LiteralTokens.{is_literal, prefix_of}
use Rattle.cbor_edn_parts.specs.string.Literal as literals
use Rattle.cbor_edn_parts.specs.string.Literal.{Quoting, Prefixed, IsLiteral}
use Rattle.cbor_edn_parts.proofs.lemmas.string.LiteralContents.{content_is, prefix_plain, prefix_named}
use Rattle.cbor_edn_model.specs.declared.text.opener.OpenerKind.TheVariants as opener
use Rattle.cbor_edn_model.specs.tree.Items as kind
use Rattle.cbor_edn_model.specs.tree.Items.{Node, Item, Piece, Pieces, nesting}
use Rattle.cbor_edn_model.specs.tree.Trees.{Rule, OneItem, OnePiece, OneString, OneEntry, Inside, Rest, Seq, Standalone, Tree, Of, Valid, items, head_indicator, ListHead, NoIndicator, WithIndicator, NumberTree, FloatTree, NamedTree, EnclosedTree, ListTree, StringTree, StreamTree, LiteralTree, EllipsisTree, EmbeddedTree, LastPieceTree, PlusTree, ElementTree, PairTree, ChunkTree, EmptyTree, FullTree, LastTree, MoreTree, NothingTree, SequenceTree, StandaloneTree}
use Rattle.cbor_edn_model.specs.cbor.Value.{Value, tag, encodings}
use Rattle.cbor_edn_model.specs.cbor.Meaning.{◌>>=◌, width_of, means_simple, listed, piece_indicator, have_no_indicators, pieces_indicator, string_of, chunk_of, stream_of, joined, no_entries, one_more}
use Rattle.cbor_edn_conversions.specs.Resolvers.{literal_resolver, time_value, address_value}
use Rattle.cbor_edn_conversions.specs.Resolving.{Resolver, or_else, by_prefix, resolved, means_by}
use Rattle.cbor_edn_conversions.proofs.resolving.ByPrefix.{by_prefix_is}
use Rattle.cbor_edn_harmless.specs.Harmless.{harmless_literal, harmless_list_head, harmless}
use Rattle.cbor_edn_harmless.proofs.Literals.{literal_kept}
use Rattle.cbor_edn_harmless.proofs.Trees.{IsReadable}

-- ---- what a literal stands for

module _ (F : List ℕ → List ℕ → Option Value) (i : Option Indicator) where
  -- no value comes of what has a content
  no_value : (p x : List ℕ) → prefix_of x ≡ p → is_supported_prefix p ≡ true → by_prefix F x i ≡ None
  no_value p x e supported =
      let not_it : not (is_supported x) ≡ false = ap (λ q. not (is_supported_prefix q)) e ∙ ap not supported in
      cond-false (is_literal x && not (is_supported x)) _ _ (and_right (is_literal x) _ not_it)

  named : (p v x : List ℕ) → IsLiteral (Prefixed p) v x → prefix_of x ≡ p
  named p v x (y, is, d, e) = ap prefix_of e ∙ prefix_named _ (prefix_plain is)

  by_test : (b : Bool) (p v x y : List ℕ) → is_supported_prefix p ≡ b → IsLiteral (Prefixed p) v x → IsLiteral (Prefixed p) v y → by_prefix F x i ≡ by_prefix F y i
  by_test true p v x y e h k = no_value p x (named p v x h) e ∙ sym (no_value p y (named p v y k) e)
  by_test false p v x y e h k = by_prefix_is F p v x i h e ∙ sym (by_prefix_is F p v y i k e)

  -- literals that are quoted so and stand for the same text have the same value
  same_value : (q : Quoting) (v x y : List ℕ) → IsLiteral q v x → IsLiteral q v y → by_prefix F x i ≡ by_prefix F y i
  unfolding prefix_of
  same_value literals.Double v x y (a, d, e) (b, c, f) = no_value [] x (ap prefix_of e) refl ∙ sym (no_value [] y (ap prefix_of f) refl)
  same_value literals.Single v x y (a, d, e) (b, c, f) = no_value [] x (ap prefix_of e) refl ∙ sym (no_value [] y (ap prefix_of f) refl)
  same_value (Prefixed p) v x y h k = by_test (is_supported_prefix p) p v x y refl h k

resolved_same : (i : Option Indicator) (q : Quoting) (v x y : List ℕ) → IsLiteral q v x → IsLiteral q v y → literal_resolver x i ≡ literal_resolver y i
resolved_same i q v x y h k =
    ap (λ o. or_else o (by_prefix address_value x i)) (same_value time_value i q v x y h k) ∙ ap (λ o. or_else (by_prefix time_value y i) o) (same_value address_value i q v x y h k)

-- ---- trees

abbrev R : Resolver
R = literal_resolver

abbrev Means : {s : kind.Sort} → Node s → Node s → Type 0
Means a b = means_by R a ≡ means_by R b

-- what is kept of the items of each rule
abbrev KeptOf : (k : Rule) → Of k → Of k → Type 0
KeptOf OneItem a b = Means a b × (means_simple a ≡ means_simple b)
KeptOf OnePiece a b = Means a b × (piece_indicator a ≡ piece_indicator b) × (resolved R (kind.LastPiece a) ≡ resolved R (kind.LastPiece b))
KeptOf OneString a b = Means a b × (pieces_indicator a ≡ pieces_indicator b) × (have_no_indicators a ≡ have_no_indicators b) × (resolved R a ≡ resolved R b)
KeptOf (OneEntry k) a b = Means a b
KeptOf (Inside k) a b = (a.0 ≡ b.0) × Means a.1 b.1
KeptOf (Rest k) a b = Means a b
KeptOf Seq a b = Means a b
KeptOf Standalone a b = Means a b × (means_simple a ≡ means_simple b)

head_same : (h : ListHead) → head_indicator (harmless_list_head h) ≡ head_indicator h
head_same NoIndicator = refl
head_same (WithIndicator i ms) = refl

two : {A B C : Type 0} (f : A → B → C) {a b : A} {c d : B} → a ≡ b → c ≡ d → f a c ≡ f b d
two f {b = b} {c = c} e g = ap (λ x. f x c) e ∙ ap (λ y. f b y) g

pub kept : {s : Rule} (w : Tree s) → Valid w → IsReadable w → KeptOf s (items (harmless w)) (items w)
unfolding Valid IsReadable harmless items means_by
kept (NumberTree x i) v u = (refl, refl)
kept (FloatTree f i) v u = (refl, refl)
kept (NamedTree b) v u = (refl, refl)
kept (EnclosedTree (opener.Tag i n) w) v u = (ap (λ o. width_of i n >>= λ d. o >>= λ x. Some (tag d n x)) (kept w v.1 u).0, refl)
kept (EnclosedTree opener.Simple w) v u = ((kept w v.1 u).1, refl)
kept (ListTree k w) v u = let a = kept w v u in (two (λ i o. o >>= listed k i) a.0 a.1, refl)
kept (StringTree w) v u = let a = kept w v u in
    (two (λ o p. or_else o p) a.3 (two (λ o j. o >>= λ c. j >>= string_of c) a.0 a.1), refl)
kept (StreamTree ms m) v u = (ap (λ o. o >>= stream_of) (kept m v.1 u.1), refl)
kept (LiteralTree x i) (q, t, is) u =
    let made = literal_kept q t x u is in
    (content_is q t (harmless_literal x) made ∙ sym (content_is q t x is), refl, resolved_same i q t (harmless_literal x) x made is)
kept (EllipsisTree x) v u = (refl, refl, refl)
kept (EmbeddedTree w i) v u = (ap (λ o. o >>= λ vs. Some (Bytes, encodings vs)) (kept w v u), refl, refl)
kept (LastPieceTree p) v u = let a = kept p v u in (a.0, ap Some a.1, ap is_none a.1, a.2)
kept (PlusTree p s t w) v u =
    let a = kept p v.0 u.0 in
    let b = kept w v.3 u.3 in
    let none = two (λ i n. is_none i && n) a.1 b.2 in
    (two (λ o m. o >>= λ c. m >>= λ d. Some (joined c d)) a.0 b.0, ap (λ n. if n then Some None else None) none, none, refl)
kept (ElementTree w) v u = (kept w v u).0
kept (PairTree x s t w) v u = two (λ o m. o >>= λ a. m >>= λ b. Some (a, b)) (kept x v.0 u.0).0 (kept w v.3 u.3).0
kept (ChunkTree w) v u = let a = kept w v u in two (λ o j. o >>= λ c. j >>= chunk_of c) a.0 a.1
kept (EmptyTree i s) v u = (refl, refl)
kept (FullTree h s m) v u = (head_same h, kept m v.2 u.2)
kept (LastTree {k} e s) v u = ap (λ o. o >>= λ x. Some (one_more k x (no_entries k))) (kept e v.0 u.0)
kept (MoreTree {k} e s m) v u = two (λ o n. o >>= λ x. n >>= λ r. Some (one_more k x r)) (kept e v.0 u.0) (kept m v.2 u.2)
kept (NothingTree s) v u = refl
kept (SequenceTree s m) v u = kept m v.1 u.1
kept (StandaloneTree s w t) v u = kept w v.1 u.1

-- ---- how deep they nest

abbrev DepthOf : (k : Rule) → Of k → ℕ
DepthOf (Inside k) a = nesting a.1
DepthOf OneItem a = nesting a
DepthOf OnePiece a = nesting a
DepthOf OneString a = nesting a
DepthOf (OneEntry k) a = nesting a
DepthOf (Rest k) a = nesting a
DepthOf Seq a = nesting a
DepthOf Standalone a = nesting a

pub nests : {s : Rule} (w : Tree s) → DepthOf s (items (harmless w)) ≡ DepthOf s (items w)
unfolding harmless items
nests (NumberTree x i) = refl
nests (FloatTree f i) = refl
nests (NamedTree b) = refl
nests (EnclosedTree (opener.Tag i n) w) = ap suc (nests w)
nests (EnclosedTree opener.Simple w) = ap suc (nests w)
nests (ListTree k w) = ap suc (nests w)
nests (StringTree w) = nests w
nests (StreamTree ms m) = nests m
nests (LiteralTree x i) = refl
nests (EllipsisTree x) = refl
nests (EmbeddedTree w i) = ap suc (nests w)
nests (LastPieceTree p) = nests p
nests (PlusTree p s t w) = two max (nests p) (nests w)
nests (ElementTree w) = nests w
nests (PairTree v s t w) = two max (nests v) (nests w)
nests (ChunkTree w) = nests w
nests (EmptyTree i s) = refl
nests (FullTree h s m) = nests m
nests (LastTree e s) = ap (λ n. max n 0) (nests e)
nests (MoreTree e s m) = two max (nests e) (nests m)
nests (NothingTree s) = refl
nests (SequenceTree s m) = nests m
nests (StandaloneTree s w t) = nests w
