-- Visits of arrays whose elements are answered and left by a function of their number.
use Rattle.std.proofs.Common.{ℕ, suc, List, ◌≡◌, Option, None, Result, MutBor, refl, ap, ◌∙◌}
use Rattle.std.specs.Fn.{Called}
use Rattle.std.specs.declared.string.String.{String}
use Rattle.std.specs.declared.alloc.Global.{Global}
use Rattle.cbor_edn_parts.specs.declared.base.error.CallbackError.{CallbackError}
use Rattle.cbor_edn_core.specs.visit.Callbacks.{Callback, IsCall, answer_of}
use Rattle.cbor_edn_core.specs.tree.View.{Item, item_tree}
use Rattle.cbor_edn_model.specs.access.Accessed.{array_items}
use Rattle.cbor_edn_model.specs.tree.Items as kind
use Rattle.cbor_edn_model.specs.tree.Items.{Node, Elements, Array, Map, Entry, Entries}
use Rattle.cbor_edn_model.specs.tree.Trees.{Tree, OneItem, OneEntry, Rest, NumberTree, FloatTree, NamedTree, EnclosedTree, ListTree, StringTree, StreamTree, ElementTree, FullTree, LastTree, MoreTree, head_indicator, items}
use Rattle.cbor_edn_model.specs.visit.Visits as visits
use Rattle.cbor_edn_model.specs.visit.Visits.{no_memory, answered, Call, Ending, whole, VisitElement, VisitEntries, last, more, stops, full, empty, VisitArray, elements, Chain}
use Rattle.cbor_edn_conversions.specs.Annotations.{turned}
use Rattle.cbor_edn_conversions.specs.Conversions.{Reply}
use Rattle.cbor_edn_conversions.specs.Cose.{replied, with_elements}
use Rattle.cbor_edn_application.specs.Handlers.{ValueAnswers}
use Rattle.cbor_edn_application.proofs.MapVisits.{value_is, value_same, value_answer}
use Rattle.cbor_edn_application.proofs.VisitChains.{chain_first}

last_same : {e f : Tree (OneEntry Elements)} {s t : List ℕ} → f ≡ e → t ≡ s → LastTree f t ≡ LastTree e s
last_same a b = cc

more_same : {e f : Tree (OneEntry Elements)} {s t : List ℕ} {m n : Tree (Rest Elements)} → f ≡ e → t ≡ s → n ≡ m → MoreTree f t n ≡ MoreTree e s m
more_same a b c = cc

then_same : (x y : Node (Entry Elements)) (m n : Node (Entries Elements)) → x ≡ y → m ≡ n → kind.Then x m ≡ kind.Then y n
then_same x y m n e f = ap (λ z. kind.Then z m) e ∙ ap (λ z. kind.Then y z) f

-- what is no array stays
pub no_elements : (f : ℕ → Tree OneItem → Reply) (w : Tree OneItem) → array_items w ≡ None → with_elements f w ≡ w
no_elements f (NumberTree x i) none = refl
no_elements f (FloatTree g i) none = refl
no_elements f (NamedTree b) none = refl
no_elements f (EnclosedTree l w) none = refl
no_elements f (ListTree Array w) none = absurd cc
no_elements f (ListTree Map w) none = refl
no_elements f (StringTree w) none = refl
no_elements f (StreamTree s m) none = refl

module _ (f : ℕ → Tree OneItem → Reply) (leaves : (i : ℕ) (w : Tree OneItem) → items (f i w).1 ≡ items w) where
  one_whole : {e g : Tree (OneEntry Elements)} {s t : List ℕ} {c : Call} {r : Ending} (i : ℕ) → VisitElement e s c g t r → r ≡ whole → ValueAnswers (f i) c.before c.answer c.after
      → (g ≡ (replied f i e s).0) × (t ≡ (replied f i e s).1)
  one_whole i (visits.called {c = c} {s = s} had) is h = let a = value_is (f i) c.before c.after c.answer had h in (ap (λ w. ElementTree w) a.1, ap (λ b. answered b s) a.0)
  one_whole i (visits.refused n) is h = absurd cc

  one_kept : {e g : Tree (OneEntry Elements)} {s t : List ℕ} {c : Call} {r : Ending} (i : ℕ) → VisitElement e s c g t r → ValueAnswers (f i) c.before c.answer c.after → items g ≡ items e
  unfolding items
  one_kept i (visits.called {c = c} had) h = ap (λ x. kind.Element x) (value_answer (f i) (leaves i) c.before c.after c.answer h)
  one_kept i (visits.refused {c = c} n) h = ap (λ x. kind.Element x) (value_answer (f i) (leaves i) c.before c.after c.answer h)

  module _ {F : Type 0} (Holds : ℕ → F → Type 0) (callback : Callback Item (Result (Option (String Global)) CallbackError) F)
      (each : (i : ℕ) (p q : F) (x y : MutBor Item) (z : Result (Option (String Global)) CallbackError) → Holds i p → Called callback p (x, tt) (z, (y, tt)) q
      → Holds (suc i) q × ValueAnswers (f i) (item_tree x.now) (answer_of z) (item_tree y.now)) where
    abbrev Step : F → Call → F → Type 0
    Step = IsCall item_tree callback

    called : (p q : F) (c : Call) (i : ℕ) → Holds i p → Step p c q → Holds (suc i) q × ValueAnswers (f i) c.before c.answer c.after
    called p q c i here s =
        let h = each i p q s.called.shown s.called.left s.answer here s.called.called in
        let before : item_tree s.called.shown.now ≡ c.before = ap item_tree s.called.shows ∙ s.begins in
        let after : item_tree s.called.left.now ≡ c.after = ap item_tree s.called.leaves ∙ s.leaves in
        (h.0, value_same (f i) _ _ _ _ _ _ before s.answers after h.1)

    row_whole : {m n : Tree (Rest Elements)} {cs : List Call} {r : Ending} {p q : F} (i : ℕ) → VisitEntries VisitElement m cs n r → r ≡ whole → Chain Step p cs q → Holds i p → n ≡ turned (replied f) i m
    row_whole {p = p} i (last {c = c} one) is chain here =
        let h = chain_first chain in let k = called p h.0 c i here h.1 in let x = one_whole i one is k.1 in last_same x.0 x.1
    row_whole {p = p} i (more {c = c} one rest) is chain here =
        let h = chain_first chain in let k = called p h.0 c i here h.1 in let x = one_whole i one refl k.1 in more_same x.0 x.1 (row_whole (suc i) rest is h.2 k.0)
    row_whole i (stops one) is chain here = absurd cc

    row_kept : {m n : Tree (Rest Elements)} {cs : List Call} {r : Ending} {p q : F} (i : ℕ) → VisitEntries VisitElement m cs n r → Chain Step p cs q → Holds i p → items n ≡ items m
    unfolding items
    row_kept {p = p} i (last {c = c} one) chain here =
        let h = chain_first chain in let k = called p h.0 c i here h.1 in then_same _ _ _ _ (one_kept i one k.1) refl
    row_kept {p = p} i (more {c = c} one rest) chain here =
        let h = chain_first chain in let k = called p h.0 c i here h.1 in then_same _ _ _ _ (one_kept i one k.1) (row_kept (suc i) rest h.2 k.0)
    row_kept {p = p} i (stops {c = c} one) chain here =
        let h = chain_first chain in let k = called p h.0 c i here h.1 in then_same _ _ _ _ (one_kept i one k.1) refl

    pub elements_whole : {w v : Tree OneItem} {cs : List Call} {r : Ending} {p q : F} → VisitArray w cs v r → r ≡ whole → Chain Step p cs q → Holds 0 p → v ≡ with_elements f w
    elements_whole (elements (full {h = h} {s = s} a)) is chain here = ap (λ m. ListTree Array (FullTree h s m)) (row_whole 0 a is chain here)
    elements_whole (elements empty) is chain here = refl

    pub elements_kept : {w v : Tree OneItem} {cs : List Call} {r : Ending} {p q : F} → VisitArray w cs v r → Chain Step p cs q → Holds 0 p → items v ≡ items w
    unfolding items
    elements_kept (elements (full {h = h} a)) chain here = ap (λ x. kind.Listed Array (head_indicator h) x) (row_kept 0 a chain here)
    elements_kept (elements empty) chain here = refl
