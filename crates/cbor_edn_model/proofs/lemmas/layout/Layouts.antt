-- A layout changes spaces alone, keeps each of them in its set, and forgets an earlier layout that kept the comments.
use Rattle.std.proofs.Common.{ℕ, ◌≡◌, ◌⊎◌, inl, inr, List, Option, None, Some, true, refl, sym, ap, ◌∙◌, subst}
use Rattle.std.specs.Prelude.{nat_lt, length}
use mathlib.Core.Logic.{⊎_elim}
use Rattle.std.proofs.lemmas.Bool.{cond_both}
use Rattle.cbor_edn_parts.specs.space.Spacing.{SpaceKind, Optional, Mandatory, Separating, AtEnd}
use Rattle.cbor_edn_parts.specs.declared.space.policy.DelimiterPolicy.{DelimiterPolicy}
use Rattle.cbor_edn_parts.specs.declared.space.policy.DelimiterPolicy.TheVariants.{DiscardAll}
use Rattle.cbor_edn_parts.specs.declared.space.policy.Spacing.{Spacing}
use Rattle.cbor_edn_parts.specs.declared.space.policy.Spacing.TheVariants.{Least, Comments, OneLine, NewLine, OneSpace}
use Rattle.cbor_edn_parts.specs.space.SpacingLaws.{is_of, KeepsComments}
use Rattle.cbor_edn_parts.proofs.lemmas.space.Spacings.{spaced_stays, spaced_forgets, least_forgets}
use Rattle.cbor_edn_model.specs.tree.Items.{Listed, String, Stream, Plus, Element, Pair, Chunk, End, Then}
use Rattle.cbor_edn_model.specs.text.Spelling.{SpellsOne, SpellsSequence}
use Rattle.cbor_edn_model.specs.tree.Trees.{Rule, OneItem, Seq, Standalone, Tree, ListHead, NoIndicator, WithIndicator, head_indicator, NumberTree, FloatTree, NamedTree, EnclosedTree, ListTree, StringTree, StreamTree, LiteralTree, EllipsisTree, EmbeddedTree, LastPieceTree, PlusTree, ElementTree, PairTree, ChunkTree, EmptyTree, FullTree, LastTree, MoreTree, NothingTree, SequenceTree, StandaloneTree, labelled, items, text}
use Rattle.cbor_edn_model.proofs.lemmas.text.Tested.{IsTestedListHead, Tested, tested, valid}
use Rattle.cbor_edn_model.specs.layout.Layout.{Layout, Kept, Inline, Lines, layout, Slot, First, Between, Last, BeforePlus, AfterPlus, AfterColon, Elsewhere, spacing, spaced_or_kept, respaced, saturating_add, of_parts, fitted, in_chunk, laid_list_head, laid, laid_out}
use Rattle.cbor_edn_model.specs.layout.LayoutLaws.{KeepsItems, StaysValid, SpellsTheSame, KeepsAllComments, ForgetsLayout, SameTwice}
use Rattle.cbor_edn_model.proofs.lemmas.text.GrammarLaws.{spelled_by_trees}

-- an item whose parts are laid out is one of the items that its parts give
fitted_any : (P : Tree OneItem → Type 0) (l : Layout) (part : Layout → Tree OneItem) → ((m : Layout) → P (part m)) → P (fitted l part)
fitted_any P l part h = h (of_parts l (length (text (part (Inline OneLine)))))

-- ---- items

head_indicator_kept : (l : Layout) (h : ListHead) → head_indicator (laid_list_head l h) ≡ head_indicator h
head_indicator_kept l NoIndicator = refl
head_indicator_kept l (WithIndicator i ms) = refl

pub items_kept : {s : Rule} (l : Layout) (w : Tree s) → items (laid l w) ≡ items w
unfolding items laid
items_kept l (NumberTree x i) = refl
items_kept l (FloatTree f i) = refl
items_kept l (NamedTree b) = refl
items_kept l (EnclosedTree opener w) = fitted_any (λ v. items v ≡ labelled opener (items w)) l (λ l. EnclosedTree opener (laid l w)) (λ m. ap (labelled opener) (items_kept m w))
items_kept l (ListTree k w) = fitted_any (λ v. items v ≡ Listed k (items w).0 (items w).1) l (λ l. ListTree k (laid l w)) (λ m. ap (λ p. Listed k p.0 p.1) (items_kept m w))
items_kept l (StringTree w) = fitted_any (λ v. items v ≡ String (items w)) l (λ l. StringTree (laid l w)) (λ m. ap String (items_kept m w))
items_kept l (StreamTree ms m) = fitted_any (λ v. items v ≡ Stream (items m)) l (λ l. StreamTree (respaced Mandatory First l ms) (laid l m)) (λ l. ap Stream (items_kept l m))
items_kept l (LiteralTree x i) = refl
items_kept l (EllipsisTree x) = refl
items_kept l (EmbeddedTree w i) = refl
items_kept l (LastPieceTree p) = refl
items_kept l (PlusTree p s t w) = ap (Plus (items p)) (items_kept l w)
items_kept l (ElementTree w) = ap Element (items_kept l w)
items_kept l (PairTree v s t w) = ap (λ v. Pair v (items (laid l w))) (items_kept l v) ∙ ap (Pair (items v)) (items_kept l w)
items_kept l (ChunkTree w) = ap Chunk (items_kept (in_chunk l) w)
items_kept l (EmptyTree i s) = refl
items_kept l (FullTree h s m) = ap (λ i. (i, items (laid l m))) (head_indicator_kept l h) ∙ ap (λ m. (head_indicator h, m)) (items_kept l m)
items_kept l (LastTree e s) = ap (λ e. Then e End) (items_kept l e)
items_kept l (MoreTree e s m) = ap (λ e. Then e (items (laid l m))) (items_kept l e) ∙ ap (Then (items e)) (items_kept l m)
items_kept l (NothingTree s) = refl
items_kept l (SequenceTree s m) = items_kept l m
items_kept l (StandaloneTree s w t) = items_kept l w

pub keeps_items : KeepsItems
keeps_items s policy w = items_kept (layout policy) w

-- ---- texts in their sets

space_stays : (k : SpaceKind) (p : Slot) (l : Layout) (x : List ℕ) → is_of k x ≡ true → is_of k (respaced k p l x) ≡ true
space_stays k p l x e = column_stays (spacing l p) where
  column_stays : (o : Option Spacing) → is_of k (spaced_or_kept k o x) ≡ true
  column_stays None = e
  column_stays (Some c) = spaced_stays k c x e

head_stays : (l : Layout) (h : ListHead) → IsTestedListHead h → IsTestedListHead (laid_list_head l h)
head_stays l NoIndicator v = tt
head_stays l (WithIndicator i ms) v = space_stays Mandatory Elsewhere l ms v

pub stays : {s : Rule} (l : Layout) (w : Tree s) → Tested w → Tested (laid l w)
unfolding Tested laid
stays l (NumberTree x i) v = v
stays l (FloatTree f i) v = v
stays l (NamedTree b) v = v
stays l (EnclosedTree opener w) v = fitted_any Tested l (λ l. EnclosedTree opener (laid l w)) (λ m. (v.0, stays m w v.1))
stays l (ListTree k w) v = fitted_any Tested l (λ l. ListTree k (laid l w)) (λ m. stays m w v)
stays l (StringTree w) v = fitted_any Tested l (λ l. StringTree (laid l w)) (λ m. stays m w v)
stays l (StreamTree ms m) v = fitted_any Tested l (λ l. StreamTree (respaced Mandatory First l ms) (laid l m)) (λ l. (space_stays Mandatory First l ms v.0, stays l m v.1))
stays l (LiteralTree x i) v = v
stays l (EllipsisTree x) v = v
stays l (EmbeddedTree w i) v = v
stays l (LastPieceTree p) v = v
stays l (PlusTree p s t w) v = (v.0, space_stays Optional BeforePlus l s v.1, space_stays Optional AfterPlus l t v.2, stays l w v.3)
stays l (ElementTree w) v = stays l w v
stays l (PairTree k s t w) v = (stays l k v.0, space_stays Optional Elsewhere l s v.1, space_stays Optional AfterColon l t v.2, stays l w v.3)
stays l (ChunkTree w) v = stays (in_chunk l) w v
stays l (EmptyTree i s) v = space_stays Optional Elsewhere l s v
stays l (FullTree h s m) v = (head_stays l h v.0, space_stays Optional First l s v.1, stays l m v.2)
stays l (LastTree e s) v = (stays l e v.0, space_stays AtEnd Last l s v.1)
stays l (MoreTree e s m) v = (stays l e v.0, space_stays Separating Between l s v.1, stays l m v.2)
stays l (NothingTree s) v = space_stays Optional Elsewhere l s v
stays l (SequenceTree s m) v = (space_stays Optional Elsewhere l s v.0, stays l m v.1)
stays l (StandaloneTree s w t) v = (space_stays Optional Elsewhere l s v.0, stays l w v.1, space_stays Optional Elsewhere l t v.2)

pub stays_valid : StaysValid
stays_valid s policy w v = valid (laid_out policy w) (stays (layout policy) w (tested w v))

pub spells_the_same : SpellsTheSame
spells_the_same = (
  λ policy w v. subst (λ x. SpellsOne x (text (laid_out policy w))) (keeps_items Standalone policy w) (spelled_by_trees.3 (laid_out policy w) (stays_valid Standalone policy w v)),
  λ policy w v. subst (λ x. SpellsSequence x (text (laid_out policy w))) (keeps_items Seq policy w) (spelled_by_trees.2 (laid_out policy w) (stays_valid Seq policy w v)),
)

-- ---- an earlier layout

-- the layouts that keep the comments, and those that set spaces
abbrev Keeps : Layout → Type 0
Keeps (Inline column) = KeepsComments column
Keeps _ = Unit {0}

abbrev Sets : Layout → Type 0
Sets Kept = ⊥
Sets _ = Unit {0}

abbrev IsLeast : Layout → Type 0
IsLeast (Inline Least) = Unit {0}
IsLeast _ = ⊥

-- the layout l forgets m
abbrev Forgets : Layout → Layout → Type 0
Forgets l m = (Sets l × Keeps m) ⊎ IsLeast l

-- the same of one space text
abbrev ColumnKeeps : Option Spacing → Type 0
ColumnKeeps None = Unit {0}
ColumnKeeps (Some c) = KeepsComments c

abbrev IsColumn : Option Spacing → Type 0
IsColumn None = ⊥
IsColumn (Some c) = Unit {0}

spacing_keeps : (l : Layout) (p : Slot) → Keeps l → ColumnKeeps (spacing l p)
spacing_keeps (Inline Least) p k = absurd k
spacing_keeps l First k = tt
spacing_keeps l Between k = tt
spacing_keeps l Last k = tt
spacing_keeps l BeforePlus k = tt
spacing_keeps l AfterPlus k = tt
spacing_keeps l AfterColon k = tt
spacing_keeps l Elsewhere k = tt

column_sets : (c : Spacing) (p : Slot) → IsColumn (spacing (Inline c) p)
column_sets OneLine First = tt
column_sets OneLine Between = tt
column_sets OneLine Last = tt
column_sets OneLine BeforePlus = tt
column_sets OneLine AfterPlus = tt
column_sets OneLine AfterColon = tt
column_sets OneLine Elsewhere = tt
column_sets Least p = tt
column_sets Comments p = tt
column_sets (NewLine n) p = tt
column_sets OneSpace p = tt

spacing_sets : (l : Layout) (p : Slot) → Sets l → IsColumn (spacing l p)
spacing_sets Kept p h = absurd h
spacing_sets (Inline c) p h = column_sets c p
spacing_sets l First h = tt
spacing_sets l Between h = tt
spacing_sets l Last h = tt
spacing_sets l BeforePlus h = tt
spacing_sets l AfterPlus h = tt
spacing_sets l AfterColon h = tt
spacing_sets l Elsewhere h = tt

column_forgotten : (k : SpaceKind) (o q : Option Spacing) (x : List ℕ) → IsColumn o → ColumnKeeps q → is_of k x ≡ true → spaced_or_kept k o (spaced_or_kept k q x) ≡ spaced_or_kept k o x
column_forgotten k None q x i h e = absurd i
column_forgotten k (Some c) None x i h e = refl
column_forgotten k (Some c) (Some d) x i h e = spaced_forgets k c d x h e

all_forgotten : (k : SpaceKind) (p : Slot) (l m : Layout) (x : List ℕ) → IsLeast l → respaced k p l (respaced k p m x) ≡ respaced k p l x
all_forgotten k p (Inline Least) m x h = least_forgets k (respaced k p m x) x
all_forgotten k p _ m x h = absurd h

space_forgotten : (k : SpaceKind) (p : Slot) (l m : Layout) (x : List ℕ) → Forgets l m → is_of k x ≡ true → respaced k p l (respaced k p m x) ≡ respaced k p l x
space_forgotten k p l m x f e = ⊎_elim (λ h. column_forgotten k (spacing l p) (spacing m p) x (spacing_sets l p h.0) (spacing_keeps m p h.1) e) (all_forgotten k p l m x) f

chunk_forgets : (l m : Layout) → Forgets l m → Forgets (in_chunk l) (in_chunk m)
chunk_forgets l m f = ⊎_elim (λ h. inl (sets_in l h.0, keeps_in m h.1)) (λ least. inr (least_in l least)) f where
  sets_in : (l : Layout) → Sets l → Sets (in_chunk l)
  sets_in (Inline OneLine) h = tt
  sets_in l h = h

  keeps_in : (m : Layout) → Keeps m → Keeps (in_chunk m)
  keeps_in (Inline OneLine) k = tt
  keeps_in m k = k

  least_in : (l : Layout) → IsLeast l → IsLeast (in_chunk l)
  least_in (Inline Least) h = tt
  least_in _ h = absurd h

-- The layout of the parts of an item that has lines: a single line, or lines again.
parts_any : (P : Layout → Type 0) (base end level width n : ℕ) → P (Inline OneLine) → P (Lines (saturating_add base level) base level width) → P (of_parts (Lines base end level width) n)
parts_any P base end level width n a b = cond_both (nat_lt (saturating_add n base) width) (Inline OneLine) (Lines (saturating_add base level) base level width) P (λ e. a) (λ e. b)

forgets_parts : (l m : Layout) (n : ℕ) → Forgets l m → Forgets l (of_parts m n)
forgets_parts l Kept n f = f
forgets_parts l (Inline column) n f = f
forgets_parts l (Lines base end level width) n f = parts_any (Forgets l) base end level width n f f

-- an item that was laid out earlier
fitted_earlier : (P : Tree OneItem → Type 0) (l m : Layout) (part : Layout → Tree OneItem) → Forgets l m → ((n : Layout) → Forgets l n → P (part n)) → P (fitted m part)
fitted_earlier P l m part f h = let n = length (text (part (Inline OneLine))) in h (of_parts m n) (forgets_parts l m n f)

only_keeps : (base end level width : ℕ) (m : Layout) → Forgets (Lines base end level width) m → Keeps m
only_keeps base end level width m f = ⊎_elim (λ h. h.1) (λ h. absurd h) f

-- and is laid out now
fitted_now : (l m : Layout) (f g : Layout → Tree OneItem) → Forgets l m → ((n : Layout) → Forgets n m → f n ≡ g n) → fitted l f ≡ fitted l g
fitted_now Kept m f g forgets h = h Kept forgets
fitted_now (Inline column) m f g forgets h = h (Inline column) forgets
fitted_now (Lines base end level width) m f g forgets h =
    let keeps : Keeps m = only_keeps base end level width m forgets in
    let l : Layout = Lines base end level width in
    let n : ℕ = length (text (g (Inline OneLine))) in
    ap (λ v. f (of_parts l (length (text v)))) (h (Inline OneLine) (inl (tt, keeps))) ∙ h (of_parts l n) (parts_any (λ l. Forgets l m) base end level width n (inl (tt, keeps)) (inl (tt, keeps)))

head_forgotten : (l m : Layout) (h : ListHead) → Forgets l m → IsTestedListHead h → laid_list_head l (laid_list_head m h) ≡ laid_list_head l h
head_forgotten l m NoIndicator f v = refl
head_forgotten l m (WithIndicator i ms) f v = ap (WithIndicator i) (space_forgotten Mandatory Elsewhere l m ms f v)

forgotten : {s : Rule} (l m : Layout) (w : Tree s) → Forgets l m → Tested w → laid l (laid m w) ≡ laid l w
unfolding Tested laid
forgotten l m (NumberTree x i) f v = refl
forgotten l m (FloatTree x i) f v = refl
forgotten l m (NamedTree b) f v = refl
forgotten l m (EnclosedTree opener w) f v =
    fitted_earlier (λ x. laid l x ≡ fitted l (λ l. EnclosedTree opener (laid l w))) l m (λ l. EnclosedTree opener (laid l w)) f (λ n k. fitted_now l n (λ l. EnclosedTree opener (laid l (laid n w))) (λ l. EnclosedTree opener (laid l w)) k (λ o g. ap (EnclosedTree opener) (forgotten o n w g v.1)))
forgotten l m (ListTree kind w) f v =
    fitted_earlier (λ x. laid l x ≡ fitted l (λ l. ListTree kind (laid l w))) l m (λ l. ListTree kind (laid l w)) f (λ n k. fitted_now l n (λ l. ListTree kind (laid l (laid n w))) (λ l. ListTree kind (laid l w)) k (λ o g. ap (ListTree kind) (forgotten o n w g v)))
forgotten l m (StringTree w) f v =
    fitted_earlier (λ x. laid l x ≡ fitted l (λ l. StringTree (laid l w))) l m (λ l. StringTree (laid l w)) f (λ n k. fitted_now l n (λ l. StringTree (laid l (laid n w))) (λ l. StringTree (laid l w)) k (λ o g. ap StringTree (forgotten o n w g v)))
forgotten l m (StreamTree ms w) f v =
    fitted_earlier (λ x. laid l x ≡ fitted l (λ l. StreamTree (respaced Mandatory First l ms) (laid l w))) l m (λ l. StreamTree (respaced Mandatory First l ms) (laid l w)) f
    (λ n k. fitted_now l n (λ l. StreamTree (respaced Mandatory First l (respaced Mandatory First n ms)) (laid l (laid n w))) (λ l. StreamTree (respaced Mandatory First l ms) (laid l w)) k
    (λ o g. ap (λ t. StreamTree t (laid o (laid n w))) (space_forgotten Mandatory First o n ms g v.0) ∙ ap (StreamTree (respaced Mandatory First o ms)) (forgotten o n w g v.1)))
forgotten l m (LiteralTree x i) f v = refl
forgotten l m (EllipsisTree x) f v = refl
forgotten l m (EmbeddedTree w i) f v = refl
forgotten l m (LastPieceTree p) f v = refl
forgotten l m (PlusTree p s t w) f v =
    ap (λ a. PlusTree p a (respaced Optional AfterPlus l (respaced Optional AfterPlus m t)) (laid l (laid m w))) (space_forgotten Optional BeforePlus l m s f v.1)
    ∙ (ap (λ a. PlusTree p (respaced Optional BeforePlus l s) a (laid l (laid m w))) (space_forgotten Optional AfterPlus l m t f v.2) ∙ ap (PlusTree p (respaced Optional BeforePlus l s) (respaced Optional AfterPlus l t)) (forgotten l m w f v.3))
forgotten l m (ElementTree w) f v = ap ElementTree (forgotten l m w f v)
forgotten l m (PairTree k s t w) f v =
    ap (λ a. PairTree a (respaced Optional Elsewhere l (respaced Optional Elsewhere m s)) (respaced Optional AfterColon l (respaced Optional AfterColon m t)) (laid l (laid m w))) (forgotten l m k f v.0)
    ∙ (ap (λ a. PairTree (laid l k) a (respaced Optional AfterColon l (respaced Optional AfterColon m t)) (laid l (laid m w))) (space_forgotten Optional Elsewhere l m s f v.1)
    ∙ (ap (λ a. PairTree (laid l k) (respaced Optional Elsewhere l s) a (laid l (laid m w))) (space_forgotten Optional AfterColon l m t f v.2) ∙ ap (PairTree (laid l k) (respaced Optional Elsewhere l s) (respaced Optional AfterColon l t)) (forgotten l m w f v.3)))
forgotten l m (ChunkTree w) f v = ap ChunkTree (forgotten (in_chunk l) (in_chunk m) w (chunk_forgets l m f) v)
forgotten l m (EmptyTree i s) f v = ap (EmptyTree i) (space_forgotten Optional Elsewhere l m s f v)
forgotten l m (FullTree h s w) f v =
    ap (λ a. FullTree a (respaced Optional First l (respaced Optional First m s)) (laid l (laid m w))) (head_forgotten l m h f v.0)
    ∙ (ap (λ a. FullTree (laid_list_head l h) a (laid l (laid m w))) (space_forgotten Optional First l m s f v.1) ∙ ap (FullTree (laid_list_head l h) (respaced Optional First l s)) (forgotten l m w f v.2))
forgotten l m (LastTree e s) f v = ap (λ a. LastTree a (respaced AtEnd Last l (respaced AtEnd Last m s))) (forgotten l m e f v.0) ∙ ap (LastTree (laid l e)) (space_forgotten AtEnd Last l m s f v.1)
forgotten l m (MoreTree e s w) f v =
    ap (λ a. MoreTree a (respaced Separating Between l (respaced Separating Between m s)) (laid l (laid m w))) (forgotten l m e f v.0)
    ∙ (ap (λ a. MoreTree (laid l e) a (laid l (laid m w))) (space_forgotten Separating Between l m s f v.1) ∙ ap (MoreTree (laid l e) (respaced Separating Between l s)) (forgotten l m w f v.2))
forgotten l m (NothingTree s) f v = ap NothingTree (space_forgotten Optional Elsewhere l m s f v)
forgotten l m (SequenceTree s w) f v = ap (λ a. SequenceTree a (laid l (laid m w))) (space_forgotten Optional Elsewhere l m s f v.0) ∙ ap (SequenceTree (respaced Optional Elsewhere l s)) (forgotten l m w f v.1)
forgotten l m (StandaloneTree s w t) f v =
    ap (λ a. StandaloneTree a (laid l (laid m w)) (respaced Optional Elsewhere l (respaced Optional Elsewhere m t))) (space_forgotten Optional Elsewhere l m s f v.0)
    ∙ (ap (λ a. StandaloneTree (respaced Optional Elsewhere l s) a (respaced Optional Elsewhere l (respaced Optional Elsewhere m t))) (forgotten l m w f v.1) ∙ ap (StandaloneTree (respaced Optional Elsewhere l s) (laid l w)) (space_forgotten Optional Elsewhere l m t f v.2))

policy_keeps : (q : DelimiterPolicy) → KeepsAllComments q → Keeps (layout q)
policy_keeps DiscardAll k = absurd k
policy_keeps q k = tt

policy_sets : (p : DelimiterPolicy) → Sets (layout p)
policy_sets DiscardAll = tt
policy_sets p = tt

pub forgets_layout : ForgetsLayout
forgets_layout s p q w h v = forgotten (layout p) (layout q) w (⊎_elim (λ k. inl (policy_sets p, policy_keeps q k)) (λ e. inr (subst (λ p. IsLeast (layout p)) (sym e) tt)) h) (tested w v)

keeps_or_all : (p : DelimiterPolicy) → KeepsAllComments p ⊎ (p ≡ DiscardAll)
keeps_or_all DiscardAll = inr refl
keeps_or_all p = inl tt

pub same_twice : SameTwice
same_twice s p w v = forgets_layout s p p w (keeps_or_all p) v
