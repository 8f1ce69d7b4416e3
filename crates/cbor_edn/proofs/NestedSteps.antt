-- The steps of a run over an array in a sequence are the steps over its elements.
use Rattle.std.proofs.Common.{◌≡◌, ℕ, suc, Bool, true, false, List, [], ◌++◌, Option, Some, None, refl, sym, ap, subst, ◌∙◌}
use Rattle.std.specs.Prelude.{All, not, ◌||◌}
use Rattle.std.proofs.lemmas.Bool.{or_parts}
use Rattle.std.proofs.lemmas.List.Elements.{All-append}
use Rattle.cbor_edn_parts.specs.declared.space.policy.DelimiterPolicy.TheVariants.{DiscardAll}
use Rattle.cbor_edn_parts.specs.space.Spacing.{indented}
use Rattle.cbor_edn_model.specs.layout.Layout.{laid_out}
use Rattle.cbor_edn_model.specs.tree.Items.{Elements}
use Rattle.cbor_edn_model.specs.tree.Trees.{Tree, OneItem, OneEntry, Rest, Seq, ListHead, ElementTree, LastTree, MoreTree, NothingTree, SequenceTree}
use Rattle.cbor_edn_model.specs.visit.Seeking.{CallArguments, number, prefix_and_text, IsTag, SoughtCall, VisitItem, passed, entered, stayed, refused, not_called, VisitParts, of_number, of_list, of_all_inside, of_last, of_more, of_more_cut, of_sequence, VisitEntry, of_element}
use Rattle.cbor_edn_model.specs.visit.Visits.{Ending, whole}
use Rattle.cbor_edn_conversions.specs.Addresses.{pretty_address}
use Rattle.cbor_edn_conversions.specs.Annotations.{comment_lang}
use Rattle.cbor_edn_conversions.specs.Bignums.{pretty_bignum}
use Rattle.cbor_edn_conversions.specs.Resolving.{AnswersBy}
use Rattle.cbor_edn_conversions.specs.Tag999.{to_tag999}
use Rattle.cbor_edn_conversions.specs.Times.{pretty_time}
use Rattle.cbor_edn_application.specs.Acts.{Act}
use Rattle.cbor_edn_command.specs.declared.options.Options.{Options}
use Rattle.cbor_edn.specs.Elements.{elements, Changes, zero_item}
use Rattle.cbor_edn.specs.LongArrays.{ChangesTags, array_of, alone}
use Rattle.cbor_edn.specs.RunSteps.{Step, Where, InTurn, IsLaidOut, TagsVisited, LiteralsVisited, AnnotatesTags, ResolvesLiterals, HasClaims, StepsGive}
use Rattle.cbor_edn.proofs.SplitSteps.{in_turn, give, no_tag}

-- an array in front of other elements
abbrev pub before : ListHead → Tree (Rest Elements) → List ℕ → Tree (Rest Elements) → Tree Seq
before h m s x = elements (MoreTree (ElementTree (array_of h m)) s x)

abbrev pub row_length : Tree (Rest Elements) → ℕ
row_length (LastTree e s) = 1
row_length (MoreTree e s m) = suc (row_length m)

pub some_same : {X : Type 0} {x y : X} → Some x ≡ Some y → x ≡ y
some_same {x = x} is = ap (unwrapped x) is where
  unwrapped : {X : Type 0} → X → Option X → X
  unwrapped x None = x
  unwrapped x (Some y) = y

-- What the step makes of an array is what it makes of its elements.
pub record Nests (P : Step) : Type 0 where
  pub closes : (m : Tree (Rest Elements)) (v : Tree Seq) → P (elements m) v → (n : Tree (Rest Elements)) × (v ≡ elements n)
  pub enters : (h : ListHead) (m : Tree (Rest Elements)) (v : Tree Seq) → P (alone h m) v → (n : Tree (Rest Elements)) × (v ≡ alone h n) × P (elements m) (elements n)
  pub nests : (h : ListHead) (m n : Tree (Rest Elements)) → P (elements m) (elements n) → P (alone h m) (alone h n)
  pub goes_before : (h : ListHead) (m n : Tree (Rest Elements)) (s : List ℕ) → P (elements m) (elements n) → (x y : Tree (Rest Elements)) → P (elements x) (elements y) → P (before h m s x) (before h n s y)
  pub skips : (s : List ℕ) (m : Tree (Rest Elements)) (v : Tree Seq) → P (elements (MoreTree (ElementTree zero_item) s m)) v → (n : Tree (Rest Elements)) × (v ≡ elements (MoreTree (ElementTree zero_item) s n)) × P (elements m) (elements n)
  pub keeps_length : (m n : Tree (Rest Elements)) → P (elements m) (elements n) → row_length n ≡ row_length m

pub nests_turn : (P Q : Step) → Nests P → Nests Q → Nests (InTurn P Q)
nests_turn P Q p q = record {
  closes = λ m v h.
      let a = p.closes m h.0 h.1 in
      q.closes a.0 v (subst (λ (t : Tree Seq). Q t v) a.1 h.2);
  enters = λ k m v h.
      let a = p.enters k m h.0 h.1 in
      let b = q.enters k a.0 v (subst (λ (t : Tree Seq). Q t v) a.1 h.2) in
      (b.0, b.1, (elements a.0, a.2, b.2));
  nests = λ k m n h.
      let a = p.closes m h.0 h.1 in
      (alone k a.0, p.nests k m a.0 (subst (λ (t : Tree Seq). P (elements m) t) a.1 h.1), q.nests k a.0 n (subst (λ (t : Tree Seq). Q t (elements n)) a.1 h.2));
  goes_before = λ k m n s h x y i.
      let a = p.closes m h.0 h.1 in
      let b = p.closes x i.0 i.1 in (
        before k a.0 s b.0,
        p.goes_before k m a.0 s (subst (λ (t : Tree Seq). P (elements m) t) a.1 h.1) x b.0 (subst (λ (t : Tree Seq). P (elements x) t) b.1 i.1),
        q.goes_before k a.0 n s (subst (λ (t : Tree Seq). Q t (elements n)) a.1 h.2) b.0 y (subst (λ (t : Tree Seq). Q t (elements y)) b.1 i.2),
      );
  skips = λ s m v h.
      let a = p.skips s m h.0 h.1 in
      let b = q.skips s a.0 v (subst (λ (t : Tree Seq). Q t v) a.1 h.2) in
      (b.0, b.1, (elements a.0, a.2, b.2));
  keeps_length = λ m n h.
      let a = p.closes m h.0 h.1 in
      q.keeps_length a.0 n (subst (λ (t : Tree Seq). Q t (elements n)) a.1 h.2) ∙ p.keeps_length m a.0 (subst (λ (t : Tree Seq). P (elements m) t) a.1 h.1);
}

-- the same sequences, in an array and in front of others
nested_in : ListHead → Tree Seq → Tree Seq
nested_in h (NothingTree s) = NothingTree s
nested_in h (SequenceTree s m) = alone h m

put_before : ListHead → List ℕ → Tree Seq → Tree Seq → Tree Seq
put_before h s (NothingTree t) w = w
put_before h s (SequenceTree t m) (NothingTree u) = NothingTree u
put_before h s (SequenceTree t m) (SequenceTree u x) = before h m s x

length_of : Tree Seq → ℕ
length_of (NothingTree s) = 0
length_of (SequenceTree s m) = row_length m

abbrev pub Same : Step
Same w v = v ≡ w

pub nests_same : Nests Same
unfolding nested_in put_before length_of
nests_same = record {
  closes = λ m v h. (m, h);
  enters = λ k m v h. (m, h, refl);
  nests = λ k m n h. ap (nested_in k) h;
  goes_before = λ k m n s h x y i. ap (λ (t : Tree Seq). put_before k s t (elements y)) h ∙ ap (put_before k s (elements m)) i;
  skips = λ s m v h. (m, h, refl);
  keeps_length = λ m n h. ap length_of h;
}

-- ---- visits

module _ (IsSought : Tree OneItem → CallArguments → Type 0) (A : SoughtCall → Type 0) where
  abbrev Visited : Step
  Visited w v = (cs : List SoughtCall) × All A cs × VisitParts IsSought Seq w cs v whole

  sequence_visited : {s : List ℕ} {m : Tree (Rest Elements)} {v : Tree Seq} {cs : List SoughtCall} {r : Ending} → VisitParts IsSought Seq (SequenceTree s m) cs v r
      → (n : Tree (Rest Elements)) × VisitParts IsSought _ m cs n r × (v ≡ SequenceTree s n)
  sequence_visited (of_sequence {n = n} a) = (n, a, refl)

  row_visited : {s t : List ℕ} {m n : Tree (Rest Elements)} {cs : List SoughtCall} {r : Ending} → VisitParts IsSought Seq (SequenceTree s m) cs (SequenceTree t n) r → VisitParts IsSought _ m cs n r
  row_visited (of_sequence a) = a

  same_length : {m n : Tree (Rest Elements)} {cs : List SoughtCall} {r : Ending} → VisitParts IsSought (Rest Elements) m cs n r → row_length n ≡ row_length m
  same_length (of_last a) = refl
  same_length (of_more a b is) = ap suc (same_length b)
  same_length (of_more_cut a) = refl

  module _ (h : ListHead) (m : Tree (Rest Elements)) (none : (a : CallArguments) → IsSought (array_of h m) a → ⊥) where
    item_entered : {w v : Tree OneItem} {s t : List ℕ} {cs : List SoughtCall} {r : Ending} → VisitItem IsSought w s cs v t r → w ≡ array_of h m → VisitParts IsSought OneItem (array_of h m) cs v r × (t ≡ s)
    item_entered (passed {v = v} {cs = cs} {r = r} n a) is = (subst (λ (w : Tree OneItem). VisitParts IsSought OneItem w cs v r) is a, refl)
    item_entered (entered {c = c} sought fine shallow a) is = absurd (none c.arguments (subst (λ (w : Tree OneItem). IsSought w c.arguments) is sought))
    item_entered (stayed {c = c} sought fine deep) is = absurd (none c.arguments (subst (λ (w : Tree OneItem). IsSought w c.arguments) is sought))
    item_entered (refused {c = c} sought told) is = absurd (none c.arguments (subst (λ (w : Tree OneItem). IsSought w c.arguments) is sought))
    item_entered (not_called {a = a} sought) is = absurd (none a (subst (λ (w : Tree OneItem). IsSought w a) is sought))

    list_entered : {v : Tree OneItem} {cs : List SoughtCall} {r : Ending} → VisitParts IsSought OneItem (array_of h m) cs v r → (n : Tree (Rest Elements)) × (v ≡ array_of h n) × VisitParts IsSought _ m cs n r
    list_entered (of_list (of_all_inside {n = n} a)) = (n, refl, a)

    entry_entered : {f : Tree (OneEntry Elements)} {s t : List ℕ} {cs : List SoughtCall} {r : Ending} → VisitEntry IsSought Elements (ElementTree (array_of h m)) s cs f t r
        → (n : Tree (Rest Elements)) × (f ≡ ElementTree (array_of h n)) × (t ≡ s) × VisitParts IsSought _ m cs n r
    entry_entered (of_element a) =
        let b = item_entered a refl in
        let c = list_entered b.0 in
        (c.0, ap ElementTree c.1, b.1, c.2)

    last_entered : {s : List ℕ} {v : Tree (Rest Elements)} {cs : List SoughtCall} {r : Ending} → VisitParts IsSought (Rest Elements) (LastTree (ElementTree (array_of h m)) s) cs v r
        → (n : Tree (Rest Elements)) × (v ≡ LastTree (ElementTree (array_of h n)) s) × VisitParts IsSought _ m cs n r
    last_entered {s = s} (of_last {t = t} a) =
        let b = entry_entered a in
        (b.0, ap (λ (f : Tree (OneEntry Elements)). LastTree f t) b.1 ∙ ap (LastTree (ElementTree (array_of h b.0))) b.2, b.3)

    entry_around : {n : Tree (Rest Elements)} {s : List ℕ} {cs : List SoughtCall} {r : Ending} → VisitParts IsSought _ m cs n r → VisitEntry IsSought Elements (ElementTree (array_of h m)) s cs (ElementTree (array_of h n)) s r
    entry_around a = of_element (passed none (of_list (of_all_inside a)))

  module _ (none : (a : CallArguments) → IsSought zero_item a → ⊥) where
    number_left : {v : Tree OneItem} {cs : List SoughtCall} {r : Ending} → VisitParts IsSought OneItem zero_item cs v r → (v ≡ zero_item) × (cs ≡ [])
    number_left of_number = (refl, refl)

    item_left : {w v : Tree OneItem} {s t : List ℕ} {cs : List SoughtCall} {r : Ending} → VisitItem IsSought w s cs v t r → w ≡ zero_item → (v ≡ zero_item) × (t ≡ s) × (cs ≡ [])
    item_left (passed {v = v} {cs = cs} {r = r} n a) is = let b = number_left (subst (λ (w : Tree OneItem). VisitParts IsSought OneItem w cs v r) is a) in (b.0, refl, b.1)
    item_left (entered {c = c} sought fine shallow a) is = absurd (none c.arguments (subst (λ (w : Tree OneItem). IsSought w c.arguments) is sought))
    item_left (stayed {c = c} sought fine deep) is = absurd (none c.arguments (subst (λ (w : Tree OneItem). IsSought w c.arguments) is sought))
    item_left (refused {c = c} sought told) is = absurd (none c.arguments (subst (λ (w : Tree OneItem). IsSought w c.arguments) is sought))
    item_left (not_called {a = a} sought) is = absurd (none a (subst (λ (w : Tree OneItem). IsSought w a) is sought))

    entry_left : {f : Tree (OneEntry Elements)} {s t : List ℕ} {cs : List SoughtCall} {r : Ending} → VisitEntry IsSought Elements (ElementTree zero_item) s cs f t r → (f ≡ ElementTree zero_item) × (t ≡ s) × (cs ≡ [])
    entry_left (of_element a) = let b = item_left a refl in (ap ElementTree b.0, b.1, b.2)

    more_left : {s : List ℕ} {m v : Tree (Rest Elements)} {cs : List SoughtCall} {r : Ending} → VisitParts IsSought (Rest Elements) (MoreTree (ElementTree zero_item) s m) cs v r → r ≡ whole
        → (n : Tree (Rest Elements)) × (v ≡ MoreTree (ElementTree zero_item) s n) × VisitParts IsSought _ m cs n whole
    more_left {m = m} (of_more {t = t} {n = n} {ds = ds} {r = r} a b is) ends =
        let c = entry_left a in
        let same : _ ≡ ds = is ∙ ap (λ (l : List SoughtCall). l ++ ds) c.2 in (
          n,
          ap (λ (f : Tree (OneEntry Elements)). MoreTree f t n) c.0 ∙ ap (λ (u : List ℕ). MoreTree (ElementTree zero_item) u n) c.1,
          subst (λ (l : List SoughtCall). VisitParts IsSought (Rest Elements) m l n whole) (sym same) (subst (λ (e : Ending). VisitParts IsSought (Rest Elements) m ds n e) ends b),
        )
    more_left (of_more_cut a) ends = absurd cc

  pub nests_visit : ((h : ListHead) (m : Tree (Rest Elements)) (a : CallArguments) → IsSought (array_of h m) a → ⊥) → ((a : CallArguments) → IsSought zero_item a → ⊥) → Nests Visited
  nests_visit no_array no_number = record {
    closes = λ m v h. let a = sequence_visited h.2 in (a.0, a.2);
    enters = λ k m v h.
        let a = sequence_visited h.2 in
        let b = last_entered k m (no_array k m) a.1 in
        (b.0, a.2 ∙ ap elements b.1, (h.0, h.1, of_sequence b.2));
    nests = λ k m n h. (h.0, h.1, of_sequence (of_last (entry_around k m (no_array k m) (row_visited h.2))));
    goes_before = λ k m n s h x y i. (h.0 ++ i.0, All-append A h.0 i.0 h.1 i.1, of_sequence (of_more (entry_around k m (no_array k m) (row_visited h.2)) (row_visited i.2) refl));
    skips = λ s m v h.
        let a = sequence_visited h.2 in
        let b = more_left no_number a.1 refl in
        (b.0, a.2 ∙ ap elements b.1, (h.0, h.1, of_sequence b.2));
    keeps_length = λ m n h. same_length (row_visited h.2);
  }

-- ---- the steps that are taken where only tags are changed

no_array : (h : ListHead) (m : Tree (Rest Elements)) (a : CallArguments) → IsTag (array_of h m) a → ⊥
no_array h m (number n) is = cc
no_array h m (prefix_and_text p t) is = is

nests_tags : (act : Act) → Nests (TagsVisited act)
nests_tags act = nests_visit IsTag (AnswersBy act) no_array no_tag

nests_where : (asked : Bool) (P : Step) → Nests P → Nests (Where asked P)
nests_where true P p = p
nests_where false P p = nests_same

-- a step that is not asked for
nests_not : (asked : Bool) (P : Step) → asked ≡ false → Nests (Where asked P)
nests_not asked P off = subst (λ (b : Bool). Nests (Where b P)) (sym off) nests_same

nests_annotates : Nests AnnotatesTags
nests_annotates = nests_turn (TagsVisited pretty_address) (InTurn (TagsVisited pretty_time) (TagsVisited comment_lang)) (nests_tags pretty_address) (nests_turn (TagsVisited pretty_time) (TagsVisited comment_lang) (nests_tags pretty_time) (nests_tags comment_lang))

-- none of the other steps is asked for
record AreOff (o : Options) : Type 0 where
  comments : o.remove_comments ≡ false
  literals : o.aol_to_item ≡ false
  claims : o.annotate_ccs ≡ false
  others : o.apply_999 ≡ false
  spaces : o.preserve_space ≡ false

are_off : (o : Options) → ChangesTags o → AreOff o
are_off o off =
    let a = or_parts o.remove_comments (o.aol_to_item || (o.annotate_ccs || (o.apply_999 || o.preserve_space))) off in
    let b = or_parts o.aol_to_item (o.annotate_ccs || (o.apply_999 || o.preserve_space)) a.1 in
    let c = or_parts o.annotate_ccs (o.apply_999 || o.preserve_space) b.1 in
    let d = or_parts o.apply_999 o.preserve_space c.1 in
    record { comments = a.0; literals = b.0; claims = c.0; others = d.0; spaces = d.1 }

pub nests_changes : (o : Options) → ChangesTags o → Nests (Changes o)
nests_changes o tags =
    let off = are_off o tags in
    nests_turn (Where o.annotate_tags AnnotatesTags) _ (nests_where o.annotate_tags AnnotatesTags nests_annotates)
    (nests_turn (Where o.remove_comments (IsLaidOut DiscardAll)) _ (nests_not o.remove_comments (IsLaidOut DiscardAll) off.comments)
    (nests_turn (Where o.aol_to_item ResolvesLiterals) _ (nests_not o.aol_to_item ResolvesLiterals off.literals)
    (nests_turn (Where o.annotate_ccs HasClaims) _ (nests_not o.annotate_ccs HasClaims off.claims)
    (nests_turn (Where o.bignum_from_tags (TagsVisited pretty_bignum)) (Where o.apply_999 (LiteralsVisited to_tag999)) (nests_where o.bignum_from_tags (TagsVisited pretty_bignum) (nests_tags pretty_bignum))
    (nests_not o.apply_999 (LiteralsVisited to_tag999) off.others)))))

-- ---- the last step

pub changes_given : (o : Options) (w v : Tree Seq) → ChangesTags o → StepsGive o w v → (u : Tree Seq) × Changes o w u × (v ≡ laid_out indented u)
changes_given o w v tags h =
    let a = in_turn o w v h in
    (a.0, a.1, subst (λ (b : Bool). Where (not b) (IsLaidOut indented) a.0 v) (are_off o tags).spaces a.2)

pub given_changes : (o : Options) (w u : Tree Seq) → ChangesTags o → Changes o w u → StepsGive o w (laid_out indented u)
given_changes o w u tags h = give o w (laid_out indented u) (u, h, subst (λ (b : Bool). Where (not b) (IsLaidOut indented) u (laid_out indented u)) (sym (are_off o tags).spaces) refl)
