-- A test of two trees with their spaces, which is true exactly where they are the same tree.
use Rattle.std.specs.Prelude.{◌≡◌, ◌↔◌, ℕ, List, Bool, true, false, ◌&&◌, IsTrue, nat_eq, Option, None, Some, [], ◌∷◌, refl}
use Rattle.std.specs.Cmp.{IsPartialEquivalence}
use Rattle.std.specs.Cmp.Lexicographic.{pointwise, same_text}
use Rattle.std.specs.Cmp.Derive.{both_true}
use Rattle.std.proofs.Common.{sym, ◌∙◌, subst}
use Rattle.std.proofs.lemmas.Bool.{false≢true, eqb-true, eq-eqb}
use Rattle.std.proofs.lemmas.Cmp.{nat_list_eq_equiv}
use Rattle.cbor_edn_parts.specs.declared.base.indicator.Indicator.{Indicator}
use Rattle.cbor_edn_parts.specs.declared.base.indicator.Indicator.TheVariants.{Indefinite, Immediate, One, Two, Four, Eight}
use Rattle.cbor_edn_model.specs.declared.text.opener.OpenerKind.{OpenerKind}
use Rattle.cbor_edn_model.specs.declared.text.opener.OpenerKind.TheVariants.{Tag, Simple}
use Rattle.cbor_edn_model.specs.declared.text.keyword.NamedSimple.{NamedSimple}
use Rattle.cbor_edn_model.specs.declared.text.keyword.NamedSimple.TheVariants.{False, True, Null, Undefined}
use Rattle.cbor_edn_model.specs.declared.text.keyword.NonFinite.{NonFinite}
use Rattle.cbor_edn_model.specs.declared.text.keyword.NonFinite.TheVariants.{Infinity, NegativeInfinity, NaN}
use Rattle.cbor_edn_model.specs.tree.Items.{Row, Array, Map}
use Rattle.cbor_edn_model.specs.tree.Trees.{Rule, OnePiece, OneEntry, ListHead, NoIndicator, WithIndicator, Tree, NumberTree, FloatTree, NamedTree, EnclosedTree, ListTree, StringTree, StreamTree, LiteralTree, EllipsisTree, EmbeddedTree, LastPieceTree, PlusTree, ElementTree, PairTree, ChunkTree, EmptyTree, FullTree, LastTree, MoreTree, NothingTree, SequenceTree, StandaloneTree}

abbrev pub same_bytes : List ℕ → List ℕ → Bool
same_bytes = pointwise nat_eq

abbrev pub same_suffix : Indicator → Indicator → Bool
same_suffix Indefinite Indefinite = true
same_suffix Immediate Immediate = true
same_suffix One One = true
same_suffix Two Two = true
same_suffix Four Four = true
same_suffix Eight Eight = true
same_suffix _ _ = false

abbrev pub same_indicator : Option Indicator → Option Indicator → Bool
same_indicator None None = true
same_indicator (Some i) (Some j) = same_suffix i j
same_indicator _ _ = false

abbrev pub same_named : NamedSimple → NamedSimple → Bool
same_named False False = true
same_named True True = true
same_named Null Null = true
same_named Undefined Undefined = true
same_named _ _ = false

abbrev pub same_float : NonFinite → NonFinite → Bool
same_float Infinity Infinity = true
same_float NegativeInfinity NegativeInfinity = true
same_float NaN NaN = true
same_float _ _ = false

abbrev pub same_opener : OpenerKind → OpenerKind → Bool
same_opener (Tag i n) (Tag j k) = nat_eq n k && same_indicator i j
same_opener Simple Simple = true
same_opener _ _ = false

abbrev pub same_head : ListHead → ListHead → Bool
same_head NoIndicator NoIndicator = true
same_head (WithIndicator i s) (WithIndicator j t) = same_suffix i j && same_bytes s t
same_head _ _ = false

-- Whether two trees of one rule are the same, spaces included.
abbrev pub same_tree : {s : Rule} → Tree s → Tree s → Bool
same_tree (NumberTree x i) (NumberTree y j) = same_bytes x y && same_indicator i j
same_tree (FloatTree f i) (FloatTree g j) = same_float f g && same_indicator i j
same_tree (NamedTree b) (NamedTree d) = same_named b d
same_tree (EnclosedTree l w) (EnclosedTree m v) = same_opener l m && same_tree w v
same_tree (ListTree Array w) (ListTree Array v) = same_tree w v
same_tree (ListTree Map w) (ListTree Map v) = same_tree w v
same_tree (StringTree w) (StringTree v) = same_tree w v
same_tree (StreamTree s m) (StreamTree t n) = same_bytes s t && same_tree m n
same_tree (LiteralTree x i) (LiteralTree y j) = same_bytes x y && same_indicator i j
same_tree (EllipsisTree x) (EllipsisTree y) = same_bytes x y
same_tree (EmbeddedTree w i) (EmbeddedTree v j) = same_tree w v && same_indicator i j
same_tree (LastPieceTree p) (LastPieceTree q) = same_tree p q
same_tree (PlusTree p s t w) (PlusTree q u v x) = same_tree p q && (same_bytes s u && (same_bytes t v && same_tree w x))
same_tree (ElementTree w) (ElementTree v) = same_tree w v
same_tree (ChunkTree w) (ChunkTree v) = same_tree w v
same_tree (PairTree k s t w) (PairTree l u v x) = same_tree k l && (same_bytes s u && (same_bytes t v && same_tree w x))
same_tree (EmptyTree i s) (EmptyTree j t) = same_indicator i j && same_bytes s t
same_tree (FullTree h s m) (FullTree g t n) = same_head h g && (same_bytes s t && same_tree m n)
same_tree (LastTree e s) (LastTree f t) = same_tree e f && same_bytes s t
same_tree (MoreTree e s m) (MoreTree f t n) = same_tree e f && (same_bytes s t && same_tree m n)
same_tree (NothingTree s) (NothingTree t) = same_bytes s t
same_tree (SequenceTree s m) (SequenceTree t n) = same_bytes s t && same_tree m n
same_tree (StandaloneTree s w t) (StandaloneTree u v r) = same_bytes s u && (same_tree w v && same_bytes t r)
same_tree _ _ = false

-- Whether two rows of entries, each with the separator behind it, are the same.
abbrev pub same_entries : {k : Row} → List (Tree (OneEntry k) × List ℕ) → List (Tree (OneEntry k) × List ℕ) → Bool
same_entries [] [] = true
same_entries (p ∷ ps) (q ∷ qs) = same_tree p.0 q.0 && (same_bytes p.1 q.1 && same_entries ps qs)
same_entries _ _ = false

-- Whether two rows of pieces, each with the spaces round the plus sign behind it, are the same.
abbrev pub same_pieces : List (Tree OnePiece × List ℕ × List ℕ) → List (Tree OnePiece × List ℕ × List ℕ) → Bool
same_pieces [] [] = true
same_pieces (p ∷ ps) (q ∷ qs) = same_tree p.0 q.0 && (same_bytes p.1 q.1 && (same_bytes p.2 q.2 && same_pieces ps qs))
same_pieces _ _ = false

both : {A B : Type 0} {a b : Bool} → (a ≡ true → A) → (b ≡ true → B) → (a && b) ≡ true → A × B
both {a = true} {b = true} f g e = (f refl, g refl)
both {a = true} {b = false} f g e = absurd (false≢true e)
both {a = false} f g e = absurd (false≢true e)

bytes_are : (t u : List ℕ) → same_bytes t u ≡ true → t ≡ u
bytes_are t u e = same_text t u (sym e)

suffixes_are : (i j : Indicator) → same_suffix i j ≡ true → i ≡ j
suffixes_are Indefinite Indefinite e = refl
suffixes_are Immediate Immediate e = refl
suffixes_are One One e = refl
suffixes_are Two Two e = refl
suffixes_are Four Four e = refl
suffixes_are Eight Eight e = refl
suffixes_are _ _ e = absurd (false≢true e)

indicators_are : (i j : Option Indicator) → same_indicator i j ≡ true → i ≡ j
indicators_are None None e = refl
indicators_are (Some i) (Some j) e = λ k. Some (suffixes_are i j e k)
indicators_are _ _ e = absurd (false≢true e)

named_are : (b d : NamedSimple) → same_named b d ≡ true → b ≡ d
named_are False False e = refl
named_are True True e = refl
named_are Null Null e = refl
named_are Undefined Undefined e = refl
named_are _ _ e = absurd (false≢true e)

floats_are : (f g : NonFinite) → same_float f g ≡ true → f ≡ g
floats_are Infinity Infinity e = refl
floats_are NegativeInfinity NegativeInfinity e = refl
floats_are NaN NaN e = refl
floats_are _ _ e = absurd (false≢true e)

openers_are : (l m : OpenerKind) → same_opener l m ≡ true → l ≡ m
openers_are (Tag i n) (Tag j k) e = let h = both (eqb-true n k) (indicators_are i j) e in λ a. Tag (h.1 a) (h.0 a)
openers_are Simple Simple e = refl
openers_are _ _ e = absurd (false≢true e)

heads_are : (h g : ListHead) → same_head h g ≡ true → h ≡ g
heads_are NoIndicator NoIndicator e = refl
heads_are (WithIndicator i s) (WithIndicator j t) e = let h = both (suffixes_are i j) (bytes_are s t) e in λ k. WithIndicator (h.0 k) (h.1 k)
heads_are _ _ e = absurd (false≢true e)

pub same_are : {s : Rule} (a b : Tree s) → same_tree a b ≡ true → a ≡ b
same_are (NumberTree x i) (NumberTree y j) e = let h = both (bytes_are x y) (indicators_are i j) e in λ k. NumberTree (h.0 k) (h.1 k)
same_are (FloatTree f i) (FloatTree g j) e = let h = both (floats_are f g) (indicators_are i j) e in λ k. FloatTree (h.0 k) (h.1 k)
same_are (NamedTree b) (NamedTree d) e = λ k. NamedTree (named_are b d e k)
same_are (EnclosedTree l w) (EnclosedTree m v) e = let h = both (openers_are l m) (same_are w v) e in λ k. EnclosedTree (h.0 k) (h.1 k)
same_are (ListTree Array w) (ListTree Array v) e = λ i. ListTree Array (same_are w v e i)
same_are (ListTree Map w) (ListTree Map v) e = λ i. ListTree Map (same_are w v e i)
same_are (StringTree w) (StringTree v) e = λ i. StringTree (same_are w v e i)
same_are (StreamTree s m) (StreamTree t n) e = let h = both (bytes_are s t) (same_are m n) e in λ i. StreamTree (h.0 i) (h.1 i)
same_are (LiteralTree x i) (LiteralTree y j) e = let h = both (bytes_are x y) (indicators_are i j) e in λ k. LiteralTree (h.0 k) (h.1 k)
same_are (EllipsisTree x) (EllipsisTree y) e = λ i. EllipsisTree (bytes_are x y e i)
same_are (EmbeddedTree w i) (EmbeddedTree v j) e = let h = both (same_are w v) (indicators_are i j) e in λ k. EmbeddedTree (h.0 k) (h.1 k)
same_are (LastPieceTree p) (LastPieceTree q) e = λ i. LastPieceTree (same_are p q e i)
same_are (PlusTree p s t w) (PlusTree q u v x) e =
    let h = both (same_are p q) (both (bytes_are s u) (both (bytes_are t v) (same_are w x))) e in λ i. PlusTree (h.0 i) (h.1.0 i) (h.1.1.0 i) (h.1.1.1 i)
same_are (ElementTree w) (ElementTree v) e = λ i. ElementTree (same_are w v e i)
same_are (ChunkTree w) (ChunkTree v) e = λ i. ChunkTree (same_are w v e i)
same_are (PairTree k s t w) (PairTree l u v x) e =
    let h = both (same_are k l) (both (bytes_are s u) (both (bytes_are t v) (same_are w x))) e in λ i. PairTree (h.0 i) (h.1.0 i) (h.1.1.0 i) (h.1.1.1 i)
same_are (EmptyTree i s) (EmptyTree j t) e = let h = both (indicators_are i j) (bytes_are s t) e in λ k. EmptyTree (h.0 k) (h.1 k)
same_are (FullTree h s m) (FullTree g t n) e = let p = both (heads_are h g) (both (bytes_are s t) (same_are m n)) e in λ i. FullTree (p.0 i) (p.1.0 i) (p.1.1 i)
same_are (LastTree e s) (LastTree f t) p = let h = both (same_are e f) (bytes_are s t) p in λ i. LastTree (h.0 i) (h.1 i)
same_are (MoreTree e s m) (MoreTree f t n) p = let h = both (same_are e f) (both (bytes_are s t) (same_are m n)) p in λ i. MoreTree (h.0 i) (h.1.0 i) (h.1.1 i)
same_are (NothingTree s) (NothingTree t) e = λ i. NothingTree (bytes_are s t e i)
same_are (SequenceTree s m) (SequenceTree t n) e = let h = both (bytes_are s t) (same_are m n) e in λ i. SequenceTree (h.0 i) (h.1 i)
same_are (StandaloneTree s w t) (StandaloneTree u v r) e =
    let h = both (bytes_are s u) (both (same_are w v) (bytes_are t r)) e in λ i. StandaloneTree (h.0 i) (h.1.0 i) (h.1.1 i)
same_are _ _ e = absurd (false≢true e)

bytes_refl : (t : List ℕ) → same_bytes t t ≡ true
bytes_refl t = nat_list_eq_equiv.refl t

suffix_refl : (i : Indicator) → same_suffix i i ≡ true
suffix_refl Indefinite = refl
suffix_refl Immediate = refl
suffix_refl One = refl
suffix_refl Two = refl
suffix_refl Four = refl
suffix_refl Eight = refl

indicator_refl : (i : Option Indicator) → same_indicator i i ≡ true
indicator_refl None = refl
indicator_refl (Some i) = suffix_refl i

named_refl : (b : NamedSimple) → same_named b b ≡ true
named_refl False = refl
named_refl True = refl
named_refl Null = refl
named_refl Undefined = refl

float_refl : (f : NonFinite) → same_float f f ≡ true
float_refl Infinity = refl
float_refl NegativeInfinity = refl
float_refl NaN = refl

opener_refl : (l : OpenerKind) → same_opener l l ≡ true
opener_refl (Tag i n) = both_true (eq-eqb n n refl) (indicator_refl i)
opener_refl Simple = refl

head_refl : (h : ListHead) → same_head h h ≡ true
head_refl NoIndicator = refl
head_refl (WithIndicator i s) = both_true (suffix_refl i) (bytes_refl s)

same_refl : {s : Rule} (a : Tree s) → same_tree a a ≡ true
same_refl (NumberTree x i) = both_true (bytes_refl x) (indicator_refl i)
same_refl (FloatTree f i) = both_true (float_refl f) (indicator_refl i)
same_refl (NamedTree b) = named_refl b
same_refl (EnclosedTree l w) = both_true (opener_refl l) (same_refl w)
same_refl (ListTree Array w) = same_refl w
same_refl (ListTree Map w) = same_refl w
same_refl (StringTree w) = same_refl w
same_refl (StreamTree s m) = both_true (bytes_refl s) (same_refl m)
same_refl (LiteralTree x i) = both_true (bytes_refl x) (indicator_refl i)
same_refl (EllipsisTree x) = bytes_refl x
same_refl (EmbeddedTree w i) = both_true (same_refl w) (indicator_refl i)
same_refl (LastPieceTree p) = same_refl p
same_refl (PlusTree p s t w) = both_true (same_refl p) (both_true (bytes_refl s) (both_true (bytes_refl t) (same_refl w)))
same_refl (ElementTree w) = same_refl w
same_refl (ChunkTree w) = same_refl w
same_refl (PairTree v s t w) = both_true (same_refl v) (both_true (bytes_refl s) (both_true (bytes_refl t) (same_refl w)))
same_refl (EmptyTree i s) = both_true (indicator_refl i) (bytes_refl s)
same_refl (FullTree h s m) = both_true (head_refl h) (both_true (bytes_refl s) (same_refl m))
same_refl (LastTree e s) = both_true (same_refl e) (bytes_refl s)
same_refl (MoreTree e s m) = both_true (same_refl e) (both_true (bytes_refl s) (same_refl m))
same_refl (NothingTree s) = bytes_refl s
same_refl (SequenceTree s m) = both_true (bytes_refl s) (same_refl m)
same_refl (StandaloneTree s w t) = both_true (bytes_refl s) (both_true (same_refl w) (bytes_refl t))

pub same_if : {s : Rule} (a b : Tree s) → a ≡ b → same_tree a b ≡ true
same_if a b e = subst (λ c. same_tree a c ≡ true) e (same_refl a)

-- what an answer of the test says
pub same_exactly : {s : Rule} (a b : Tree s) (answer : Bool) → answer ≡ same_tree a b → IsTrue answer ↔ (a ≡ b)
same_exactly a b answer e = (λ t. same_are a b (sym e ∙ t), λ p. e ∙ same_if a b p)

equal_if : (a b : Bool) → (a ≡ true → b ≡ true) → (b ≡ true → a ≡ true) → a ≡ b
equal_if true true f g = refl
equal_if true false f g = sym (f refl)
equal_if false true f g = g refl
equal_if false false f g = refl

-- the test, at what a function reads of two values
pub same_laws : {K : Type 0} {s : Rule} (f : K → Tree s) → IsPartialEquivalence (λ (x y : K). same_tree (f x) (f y))
same_laws f = record {
  symm = λ x y. equal_if _ _ (λ e. same_if _ _ (sym (same_are (f x) (f y) e))) (λ e. same_if _ _ (sym (same_are (f y) (f x) e)));
  trans = λ x y z p q. same_if _ _ (same_are (f x) (f y) p ∙ same_are (f y) (f z) q);
}
