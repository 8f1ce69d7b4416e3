-- What items mean by resolvers: by none, by two that agree, and the items of values.
use Rattle.std.proofs.Common.{ℕ, ◌≡◌, Bool, true, false, cond, eqb, List, [], ◌∷◌, ◌++◌, Option, Some, None, refl, sym, ap, ◌∙◌}
use Rattle.cbor_edn_parts.specs.declared.base.indicator.Indicator.{Indicator}
use Rattle.cbor_edn_parts.specs.declared.string.StringKind.{StringKind}
use Rattle.cbor_edn_parts.specs.declared.string.StringKind.TheVariants.{Bytes, Text}
use Rattle.cbor_edn_parts.specs.string.Contents.{h, kind_literal, empty_literal, hex_literal}
use Rattle.cbor_edn_parts.specs.string.Literal.{Prefixed, IsLiteral, single_quote}
use Rattle.cbor_edn_parts.specs.internal.ContentReading.{literal_content}
use Rattle.cbor_edn_parts.specs.internal.LiteralTokens.{prefix_of}
use Rattle.cbor_edn_parts.proofs.lemmas.string.Applications.{unprefixed_read}
use Rattle.cbor_edn_parts.proofs.lemmas.string.LiteralContents.{prefix_plain, prefix_named}
use Rattle.cbor_edn_model.specs.cbor.Decoded as decoded
use Rattle.cbor_edn_model.specs.cbor.Decoded.{indicator_of, list_indicator, item_of, items_of, chunk_items, simple_item}
use Rattle.cbor_edn_model.specs.tree.Items as kind
use Rattle.cbor_edn_model.specs.tree.Items.{Sort, Item, Node, Pieces, Strings, Array, Map, Number, Float, Listed, Tagged, Named, Simple, String, Stream, Literal, Ellipsis, Embedded, LastPiece, Plus, Element, Pair, Chunk, End, Then}
use Rattle.cbor_edn_model.specs.cbor.Meaning.{◌>>=◌, MeaningOf, width_of, listed, pieces_indicator, string_of, chunk_of, stream_of, joined, one_more, means}
use Rattle.cbor_edn_model.specs.cbor.Value as values
use Rattle.cbor_edn_model.specs.cbor.Value.{Value, unsigned, negative, string, chunks, array, cbor_map, tag, simple, float, Values, no_values, value, values_len, Pairs, no_pairs, pair, pairs_len, encodings}
use Rattle.cbor_edn_model.proofs.lemmas.cbor.MeaningSteps.{bind}
use Rattle.cbor_edn_conversions.specs.Resolving.{Resolver, or_else, no_resolver, resolved, means_by, ResolvesApplications, ResolvesNoContent}
use Rattle.cbor_edn_conversions.proofs.resolving.Keeping.{Relates, one_step, two_steps}
use Rattle.cbor_edn_conversions.proofs.resolving.VisitsKept.{Below, belows}

-- ---- by no resolver

or_none : (o : Option Value) (w : Node Pieces) → or_else (resolved no_resolver w) o ≡ o
or_none o (LastPiece (Literal x i)) = refl
or_none o (LastPiece (Ellipsis x)) = refl
or_none o (LastPiece (Embedded m i)) = refl
or_none o (Plus p w) = refl

pair_same : {A B C : Type 0} (o p : Option A) (a b : Option B) (f : A → B → C) → o ≡ p → a ≡ b → bind o (λ x. bind a (λ y. Some (f x y))) ≡ bind p (λ x. bind b (λ y. Some (f x y)))
pair_same o p a b f e g = ap (λ o. bind o (λ x. bind a (λ y. Some (f x y)))) e ∙ ap (λ a. bind p (λ x. bind a (λ y. Some (f x y)))) g

pub none_means : {s : Sort} (w : Node s) → means_by no_resolver w ≡ means w
unfolding means means_by
none_means (Number x i) = refl
none_means (Float f i) = refl
none_means (Tagged n i w) = ap (λ o. bind (width_of i n) (λ d. bind o (λ v. Some (tag d n v)))) (none_means w)
none_means (Named b) = refl
none_means (Simple w) = refl
none_means (Listed k i m) = ap (λ o. bind o (listed k i)) (none_means m)
none_means (String w) = or_none (means_by no_resolver w >>= λ c. pieces_indicator w >>= string_of c) w ∙ ap (λ o. bind o (λ c. bind (pieces_indicator w) (string_of c))) (none_means w)
none_means (Stream m) = ap (λ o. bind o stream_of) (none_means m)
none_means (Literal x i) = refl
none_means (Ellipsis x) = refl
none_means (Embedded m i) = ap (λ o. bind o (λ vs. Some (Bytes, encodings vs))) (none_means m)
none_means (LastPiece p) = none_means p
none_means (Plus p w) = pair_same _ _ _ _ joined (none_means p) (none_means w)
none_means (Element w) = none_means w
none_means (Pair v w) = pair_same _ _ _ _ (λ x y. (x, y)) (none_means v) (none_means w)
none_means (Chunk w) = ap (λ o. bind o (λ c. bind (pieces_indicator w) (chunk_of c))) (none_means w)
none_means (End {k}) = refl
none_means (Then {k} e m) = pair_same _ _ _ _ (one_more k) (none_means e) (none_means m)

-- ---- by two resolvers

module _ (Rel : (A : Type 0) → Option A → Option A → Type 0) (relates : Relates Rel) (B A : Resolver)
    (at_literals : (x : List ℕ) (i : Option Indicator) → Rel Value (means_by B (String (LastPiece (Literal x i)))) (means_by A (String (LastPiece (Literal x i))))) where
  pub by_two : {s : Sort} (w : Node s) → Rel (MeaningOf s) (means_by B w) (means_by A w)
  unfolding means_by
  by_two (Number x i) = relates.same _ _
  by_two (Float f i) = relates.same _ _
  by_two (Tagged n i w) = two_steps Rel relates (width_of i n) (width_of i n) (means_by B w) (means_by A w) (λ d v. tag d n v) (relates.same _ _) (by_two w)
  by_two (Named b) = relates.same _ _
  by_two (Simple w) = relates.same _ _
  by_two (Listed k i m) = one_step Rel relates (means_by B m) (means_by A m) (listed k i) (by_two m)
  by_two (String (LastPiece (Literal x i))) = at_literals x i
  by_two (String (LastPiece (Ellipsis x))) = relates.same _ _
  by_two (String (LastPiece (Embedded m i))) = one_step Rel relates (means_by B (Embedded m i)) (means_by A (Embedded m i)) (λ c. string_of c i) (one_step Rel relates (means_by B m) (means_by A m) (λ vs. Some (Bytes, encodings vs)) (by_two m))
  by_two (String (Plus p w)) = one_step Rel relates (means_by B (Plus p w)) (means_by A (Plus p w)) (λ c. pieces_indicator (Plus p w) >>= string_of c) (two_steps Rel relates (means_by B p) (means_by A p) (means_by B w) (means_by A w) joined (by_two p) (by_two w))
  by_two (Stream m) = one_step Rel relates (means_by B m) (means_by A m) stream_of (by_two m)
  by_two (Literal x i) = relates.same _ _
  by_two (Ellipsis x) = relates.same _ _
  by_two (Embedded m i) = one_step Rel relates (means_by B m) (means_by A m) (λ vs. Some (Bytes, encodings vs)) (by_two m)
  by_two (LastPiece p) = by_two p
  by_two (Plus p w) = two_steps Rel relates (means_by B p) (means_by A p) (means_by B w) (means_by A w) joined (by_two p) (by_two w)
  by_two (Element w) = by_two w
  by_two (Pair v w) = two_steps Rel relates (means_by B v) (means_by A v) (means_by B w) (means_by A w) (λ x y. (x, y)) (by_two v) (by_two w)
  by_two (Chunk w) = one_step Rel relates (means_by B w) (means_by A w) (λ c. pieces_indicator w >>= chunk_of c) (by_two w)
  by_two (End {k}) = relates.same _ _
  by_two (Then {k} e m) = two_steps Rel relates (means_by B e) (means_by A e) (means_by B m) (means_by A m) (one_more k) (by_two e) (by_two m)

-- A resolver of literals without a content keeps what has a meaning without it.
else_below : (o p : Option Value) → ((v : Value) → o ≡ Some v → p ≡ None) → Below Value p (or_else o p)
else_below None p none v e = e
else_below (Some w) p none v e = let gone = none w refl in absurd cc

no_content : (R : Resolver) → ResolvesNoContent R → (x : List ℕ) (i : Option Indicator) → Below Value (means_by no_resolver (String (LastPiece (Literal x i)))) (means_by R (String (LastPiece (Literal x i))))
unfolding means_by
no_content R n x i = else_below (R x i) (literal_content x >>= λ c. string_of c i) (λ v e. ap (λ o. bind o (λ c. string_of c i)) (n x i v e))

pub more_means : (R : Resolver) → ResolvesNoContent R → {s : Sort} (w : Node s) (v : MeaningOf s) → means w ≡ Some v → means_by R w ≡ Some v
more_means R n w v e = by_two Below belows no_resolver R (no_content R n) w v (none_means w ∙ e)

-- ---- the items of values

-- no literal of a decoded string has a prefix other than `h`
hex_prefix : (bs p t : List ℕ) → IsLiteral (Prefixed p) t (hex_literal bs) → p ≡ h
unfolding prefix_of
hex_prefix bs p t is = sym (prefix_named (is.0 ++ (single_quote ∷ [])) (prefix_plain is.1)) ∙ sym (ap prefix_of is.3)

kind_prefix : (k : StringKind) (bs p t : List ℕ) → IsLiteral (Prefixed p) t (kind_literal k bs) → p ≡ h
unfolding prefix_of
kind_prefix Bytes bs p t is = hex_prefix bs p t is
kind_prefix Text bs p t is = absurd (unprefixed_read (kind_literal Text bs) refl p t is)

empty_prefix : (k : StringKind) (p t : List ℕ) → IsLiteral (Prefixed p) t (empty_literal k) → p ≡ h
unfolding prefix_of
empty_prefix Bytes p t is = absurd (unprefixed_read (empty_literal Bytes) refl p t is)
empty_prefix Text p t is = absurd (unprefixed_read (empty_literal Text) refl p t is)

module _ (R : Resolver) (applications : ResolvesApplications R) where
  abbrev Same : {s : Sort} → Node s → Type 0
  Same w = means_by R w ≡ means w

  literal_same : (x : List ℕ) (i : Option Indicator) → ((p t : List ℕ) → IsLiteral (Prefixed p) t x → p ≡ h) → Same (String (LastPiece (Literal x i)))
  unfolding means means_by
  literal_same x i plain = ap (λ o. or_else o (literal_content x >>= λ c. string_of c i)) (applications x i plain)

  chunks_same : (k : StringKind) (cs : List values.Chunk) → Same (chunk_items k cs)
  unfolding means means_by
  chunks_same k [] = refl
  chunks_same k (c ∷ cs) = pair_same _ _ _ _ (one_more Strings) refl (chunks_same k cs)

  if_same : (b : Bool) (x y : Node Item) → Same x → Same y → Same (cond b x y)
  if_same true x y e g = e
  if_same false x y e g = g

  simple_same : (n : ℕ) → Same (simple_item n)
  unfolding means means_by
  simple_same n = if_same (eqb n 20) _ _ refl (if_same (eqb n 21) _ _ refl (if_same (eqb n 22) _ _ refl (if_same (eqb n 23) _ _ refl refl)))

  mutual
    unfolding means means_by

    pub item_same : (v : Value) → Same (item_of v)
    item_same (unsigned w n) = refl
    item_same (negative w n) = refl
    item_same (string k w bs) = literal_same (kind_literal k bs) _ (kind_prefix k bs)
    item_same (chunks k []) = literal_same (empty_literal k) _ (empty_prefix k)
    item_same (chunks k (c ∷ cs)) = ap (λ o. bind o stream_of) (chunks_same k (c ∷ cs))
    item_same (array w vs) = ap (λ o. bind o (listed Array (list_indicator w (values_len vs)))) (items_same vs)
    item_same (cbor_map w ps) = ap (λ o. bind o (listed Map (list_indicator w (pairs_len ps)))) (pairs_same ps)
    item_same (tag w n v) = ap (λ o. bind (width_of (indicator_of w n) n) (λ d. bind o (λ v. Some (tag d n v)))) (item_same v)
    item_same (simple n) = simple_same n
    item_same (float w f) = refl

    pub items_same : (vs : Values) → Same (items_of vs)
    items_same no_values = refl
    items_same (value v vs) = pair_same _ _ _ _ (one_more kind.Elements) (item_same v) (items_same vs)

    pairs_same : (ps : Pairs) → Same (decoded.pairs_of ps)
    pairs_same no_pairs = refl
    pairs_same (pair k v ps) = pair_same _ _ _ _ (one_more kind.Pairs) (pair_same _ _ _ _ (λ x y. (x, y)) (item_same k) (item_same v)) (pairs_same ps)
