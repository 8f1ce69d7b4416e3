-- Visits whose calls keep a meaning, and those that replace the literals of a resolver.
use Rattle.std.proofs.Common.{ℕ, ◌≡◌, List, Option, Some, None, All, refl, sym, ap, ◌∙◌, subst, le_trans}
use Rattle.cbor_edn_model.specs.declared.text.opener.OpenerKind.{OpenerKind}
use Rattle.cbor_edn_model.specs.declared.text.opener.OpenerKind.TheVariants as opener
use Rattle.cbor_edn_model.specs.tree.Items.{Row, Item, Node}
use Rattle.cbor_edn_model.specs.cbor.Meaning.{◌>>=◌, MeaningOf}
use Rattle.cbor_edn_model.specs.visit.Seeking.{CallArguments, prefix_and_text, IsApplication, SoughtCall, VisitItem, VisitParts, VisitEntry}
use Rattle.cbor_edn_model.specs.tree.Trees.{Rule, Tree, OneItem, OneEntry, NumberTree, FloatTree, NamedTree, EnclosedTree, ListTree, StringTree, StreamTree, LiteralTree, EllipsisTree, EmbeddedTree, LastPieceTree, PlusTree, labelled, items}
use Rattle.cbor_edn_model.specs.cbor.Value.{Value}
use Rattle.cbor_edn_model.specs.visit.Visits.{Ending, whole}
use Rattle.cbor_edn_conversions.specs.Resolving.{Resolver, resolved_item, means_by, DifferAtPrefixes, Turns, TurnsExactly}
use Rattle.cbor_edn_conversions.proofs.resolving.Flat.{still, application_flat}
use Rattle.cbor_edn_conversions.proofs.resolving.Keeping as keeping
use Rattle.cbor_edn_conversions.proofs.resolving.Keeping.{Relates, Premises}

-- ---- the two relations

abbrev pub Equal : (A : Type 0) → Option A → Option A → Type 0
Equal A o p = o ≡ p

-- where the first is something, the second is the same
abbrev pub Below : (A : Type 0) → Option A → Option A → Type 0
Below A o p = (x : A) → o ≡ Some x → p ≡ Some x

step_equal : (A B : Type 0) (o : Option A) (f g : A → Option B) → ((x : A) → f x ≡ g x) → (o >>= f) ≡ (o >>= g)
step_equal A B None f g e = refl
step_equal A B (Some x) f g e = e x

step_below : (A B : Type 0) (o p : Option A) (f g : A → Option B) → Below A o p → ((x : A) → Below B (f x) (g x)) → Below B (o >>= f) (p >>= g)
step_below A B None p f g e h y is = absurd cc
step_below A B (Some x) p f g e h y is = ap (λ o. o >>= g) (e x refl) ∙ h x y is

pub equals : Relates Equal
equals = record { same = λ A o. refl; step = λ A B o p f g e h. ap (λ o. o >>= f) e ∙ step_equal A B p f g h }

pub belows : Relates Below
belows = record { same = λ A o x e. e; step = step_below }

-- ---- what holds by either relation

-- however the visit ended
abbrev pub Any : Ending → Type 0
Any r = Unit {0}

abbrev pub IsWhole : Ending → Type 0
IsWhole r = r ≡ whole

module _ (Rel : (A : Type 0) → Option A → Option A → Type 0) (relates : Relates Rel) where
  abbrev pub Turned : Resolver → Resolver → SoughtCall → Type 0
  Turned B A c = Rel Value (means_by B (items c.before)) (means_by A (items c.after))

  pub keeps : (trans : (o p q : Option Value) → Rel Value o p → Rel Value p q → Rel Value o q) (Sought : Tree OneItem → CallArguments → Type 0) (R : Resolver) → Premises Rel R R Sought (Turned R R) Any
  keeps trans Sought R = record {
    done = tt;
    untouched = λ {s} x d. relates.same (MeaningOf s) (means_by R x);
    unsought = λ w n. refl;
    called = λ c k is. k;
    entering = λ c v cs r k is d a e. trans (means_by R (items c.before)) (means_by R (items c.after)) (means_by R (items v)) k (e refl);
  }

  agree_enclosed : (B A : Resolver) (l : OpenerKind) (x : Node Item) → resolved_item B (labelled l x) ≡ resolved_item A (labelled l x)
  agree_enclosed B A (opener.Tag i n) x = refl
  agree_enclosed B A opener.Simple x = refl

  unsought_agree : (B A : Resolver) → DifferAtPrefixes B A → (w : Tree OneItem) → ((a : CallArguments) → IsApplication w a → ⊥) → resolved_item B (items w) ≡ resolved_item A (items w)
  unfolding items
  unsought_agree B A q (StringTree (LastPieceTree (LiteralTree x i))) n = q x i (λ p t is. n (prefix_and_text p t) (LiteralTree x i, refl, is))
  unsought_agree B A q (StringTree (LastPieceTree (EllipsisTree x))) n = refl
  unsought_agree B A q (StringTree (LastPieceTree (EmbeddedTree w i))) n = refl
  unsought_agree B A q (StringTree (PlusTree p s t w)) n = refl
  unsought_agree B A q (NumberTree x i) n = refl
  unsought_agree B A q (FloatTree f i) n = refl
  unsought_agree B A q (NamedTree b) n = refl
  unsought_agree B A q (EnclosedTree l w) n = agree_enclosed B A l (items w)
  unsought_agree B A q (ListTree k w) n = refl
  unsought_agree B A q (StreamTree s m) n = refl

  pub resolves : (B A : Resolver) → DifferAtPrefixes B A → Premises Rel B A IsApplication (Turned B A) IsWhole
  resolves B A q = record {
    done = refl;
    untouched = λ {s} x d. absurd cc;
    unsought = unsought_agree B A q;
    called = λ c k is. k;
    entering = λ c v cs r k is d a e.
        let flat : items v ≡ items c.after = still a (le_trans d (application_flat c.before c.arguments is)) in
        subst (λ x. Rel Value (means_by B (items c.before)) (means_by A x)) (sym flat) k;
  }

-- ---- the visits of trees that callers see

pub trans_equal : (o p q : Option Value) → o ≡ p → p ≡ q → o ≡ q
trans_equal o p q e f = e ∙ f

pub trans_below : (o p q : Option Value) → Below Value o p → Below Value p q → Below Value o q
trans_below o p q e f x is = f x (e x is)

module _ (Sought : Tree OneItem → CallArguments → Type 0) (R : Resolver) (cs : List SoughtCall) (r : Ending) where
  pub visit_keeps : All (Turns R R) cs → (k : Rule) (w v : Tree k) → VisitParts Sought k w cs v r → keeping.KeptOf Below R R k (items w) (items v)
  visit_keeps all k w v a = keeping.parts_kept Below belows R R Sought (Turns R R) Any (keeps Below belows trans_below Sought R) a all tt

  pub item_visit_keeps : All (Turns R R) cs → (w v : Tree OneItem) (s t : List ℕ) → VisitItem Sought w s cs v t r → keeping.Kept Below R R (items w) (items v)
  item_visit_keeps all w v s t a = keeping.item_kept Below belows R R Sought (Turns R R) Any (keeps Below belows trans_below Sought R) a all tt

  pub entry_visit_keeps : All (Turns R R) cs → (k : Row) (e f : Tree (OneEntry k)) (s t : List ℕ) → VisitEntry Sought k e s cs f t r → keeping.Kept Below R R (items e) (items f)
  entry_visit_keeps all k e f s t a = keeping.entry_kept Below belows R R Sought (Turns R R) Any (keeps Below belows trans_below Sought R) a all tt

  pub visit_keeps_exactly : All (TurnsExactly R R) cs → (k : Rule) (w v : Tree k) → VisitParts Sought k w cs v r → keeping.KeptOf Equal R R k (items w) (items v)
  visit_keeps_exactly all k w v a = keeping.parts_kept Equal equals R R Sought (TurnsExactly R R) Any (keeps Equal equals trans_equal Sought R) a all tt

module _ (B A : Resolver) (differ : DifferAtPrefixes B A) (cs : List SoughtCall) where
  pub visit_resolves : All (Turns B A) cs → (k : Rule) (w v : Tree k) → VisitParts IsApplication k w cs v whole → keeping.KeptOf Below B A k (items w) (items v)
  visit_resolves all k w v a = keeping.parts_kept Below belows B A IsApplication (Turns B A) IsWhole (resolves Below belows B A differ) a all refl

  pub visit_resolves_exactly : All (TurnsExactly B A) cs → (k : Rule) (w v : Tree k) → VisitParts IsApplication k w cs v whole → keeping.KeptOf Equal B A k (items w) (items v)
  visit_resolves_exactly all k w v a = keeping.parts_kept Equal equals B A IsApplication (TurnsExactly B A) IsWhole (resolves Equal equals B A differ) a all refl
