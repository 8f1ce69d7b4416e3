-- Visits of arrays that put a comment at the third element.
use Rattle.std.proofs.Common.{ℕ, zero, suc, ◌<◌, List, ◌≡◌, ◌≢◌, ◌⊎◌, inl, inr, Option, None, Result, codes, MutBor, refl, sym, ap, subst, ◌∙◌, arith, lit<}
use Rattle.std.specs.Fn.{Called}
use Rattle.std.specs.declared.string.String.{String}
use Rattle.std.specs.declared.alloc.Global.{Global}
use Rattle.cbor_edn_parts.specs.declared.base.error.CallbackError.{CallbackError}
use Rattle.cbor_edn_core.specs.visit.Callbacks.{Callback, IsCall, answer_of}
use Rattle.cbor_edn_core.specs.tree.View.{Item, item_tree}
use Rattle.cbor_edn_model.specs.access.Accessed.{array_items, element}
use Rattle.cbor_edn_model.specs.tree.Items.{Elements, Array, Map}
use Rattle.cbor_edn_model.specs.tree.Trees.{Tree, OneItem, OneEntry, Rest, NumberTree, FloatTree, NamedTree, EnclosedTree, ListTree, StringTree, StreamTree, FullTree, LastTree, MoreTree, ElementTree}
use Rattle.cbor_edn_model.specs.visit.Visits as visits
use Rattle.cbor_edn_model.specs.visit.Visits.{Answer, fine, comment, no_memory, answered, Call, Ending, whole, cut, VisitElement, VisitEntries, last, more, stops, full, empty, VisitArray, elements, Chain}
use Rattle.cbor_edn_conversions.specs.Annotations.{turned, commented, direction_at, with_direction}
use Rattle.cbor_edn_application.specs.Acts.{AnswersSo}
use Rattle.cbor_edn_application.specs.Ordinals.{next_ordinal, direction_in}
use Rattle.cbor_edn_application.specs.declared.language.Ordinal.{Ordinal}
use Rattle.cbor_edn_application.specs.declared.language.Ordinal.TheVariants.{First, Second, Third, Later}
use Rattle.cbor_edn_application.proofs.VisitChains.{chain_first}

-- ---- ordinals by numbers

abbrev pub ordinal_of : ℕ → Ordinal
ordinal_of zero = First
ordinal_of (suc zero) = Second
ordinal_of (suc (suc zero)) = Third
ordinal_of (suc (suc (suc n))) = Later

ordinal_next : (i : ℕ) → next_ordinal (ordinal_of i) ≡ ordinal_of (suc i)
ordinal_next zero = refl
ordinal_next (suc zero) = refl
ordinal_next (suc (suc zero)) = refl
ordinal_next (suc (suc (suc n))) = refl

ordinal_answer : (i : ℕ) (w : Tree OneItem) → direction_in (ordinal_of i) w ≡ direction_at i w
ordinal_answer zero w = refl
ordinal_answer (suc zero) w = refl
ordinal_answer (suc (suc zero)) w = refl
ordinal_answer (suc (suc (suc n))) w = refl

ordinal_third : (i : ℕ) → i ≢ 2 → ordinal_of i ≢ Third
ordinal_third zero n e = cc
ordinal_third (suc zero) n e = cc
ordinal_third (suc (suc zero)) n e = n refl
ordinal_third (suc (suc (suc m))) n e = cc

front_quiet : (i : ℕ) (w : Tree OneItem) → i < 2 → direction_at i w ≡ fine
front_quiet zero w front = refl
front_quiet (suc zero) w front = refl
front_quiet (suc (suc n)) w front = absurd (omega arith)

front_next : (i : ℕ) → i < 2 → (suc i ≡ 2) ⊎ (suc i < 2)
front_next zero front = inr (lit< tt)
front_next (suc zero) front = inl refl
front_next (suc (suc n)) front = absurd (omega arith)

-- ---- the turn of one element

-- what is known of a call at the element i
record Noted (i : ℕ) (c : Call) : Type 0 where
  same : c.after ≡ c.before
  answers : AnswersSo (direction_at i c.before) c.answer
  quiet : i ≢ 2 → c.answer ≡ fine

answer_is : (a r : Answer) → r ≢ no_memory → AnswersSo a r → r ≡ a
answer_is a fine n e = e
answer_is a (comment c) n e = e
answer_is a no_memory n e = absurd (n refl)

one_whole : {e f : Tree (OneEntry Elements)} {s t : List ℕ} {c : Call} {r : Ending} (i : ℕ) → VisitElement e s c f t r → r ≡ whole → Noted i c → (f ≡ e) × (t ≡ answered (direction_at i (element e)) s)
one_whole i (visits.called {c = c} {s = s} had) is h = (ap (λ w. ElementTree w) h.same, ap (λ a. answered a s) (answer_is _ _ had h.answers))
one_whole i (visits.refused f) is h = absurd cc

one_cut : {e f : Tree (OneEntry Elements)} {s t : List ℕ} {c : Call} {r : Ending} (i : ℕ) → VisitElement e s c f t r → r ≡ cut → Noted i c → (f ≡ e) × (t ≡ s) × (c.answer ≢ fine)
one_cut i (visits.called had) is h = absurd cc
one_cut i (visits.refused f) is h = (ap (λ w. ElementTree w) h.same, refl, f)

last_same : {e f : Tree (OneEntry Elements)} {s t : List ℕ} → f ≡ e → t ≡ s → LastTree f t ≡ LastTree e s
last_same a b = cc

more_same : {e f : Tree (OneEntry Elements)} {s t : List ℕ} {m n : Tree (Rest Elements)} → f ≡ e → t ≡ s → n ≡ m → MoreTree f t n ≡ MoreTree e s m
more_same a b c = cc

module _ {F : Type 0} (ordinal : F → Ordinal) (callback : Callback Item (Result (Option (String Global)) CallbackError) F)
    (each : (p q : F) (x y : MutBor Item) (z : Result (Option (String Global)) CallbackError) → Called callback p (x, tt) (z, (y, tt)) q
    → (ordinal q ≡ next_ordinal (ordinal p)) × (item_tree y.now ≡ item_tree x.now) × AnswersSo (direction_in (ordinal p) (item_tree x.now)) (answer_of z) × (ordinal p ≢ Third → answer_of z ≡ fine)) where
  abbrev Step : F → Call → F → Type 0
  Step = IsCall item_tree callback

  noted_call : (f g : F) (c : Call) (i : ℕ) → ordinal f ≡ ordinal_of i → Step f c g → (ordinal g ≡ ordinal_of (suc i)) × Noted i c
  noted_call f g c i here s =
      let h = each f g s.called.shown s.called.left s.answer s.called.called in
      let before : item_tree s.called.shown.now ≡ c.before = ap item_tree s.called.shows ∙ s.begins in
      let after : item_tree s.called.left.now ≡ c.after = ap item_tree s.called.leaves ∙ s.leaves in
      let wanted : direction_in (ordinal f) (item_tree s.called.shown.now) ≡ direction_at i c.before = ap (λ p. direction_in p (item_tree s.called.shown.now)) here ∙ (ap (direction_in (ordinal_of i)) before ∙ ordinal_answer i c.before) in
      let answers : AnswersSo (direction_at i c.before) c.answer = subst (λ a. AnswersSo a c.answer) wanted (subst (λ r. AnswersSo (direction_in (ordinal f) (item_tree s.called.shown.now)) r) s.answers h.2) in (
        h.0 ∙ (ap next_ordinal here ∙ ordinal_next i),
        record {
          same = sym after ∙ (h.1 ∙ before);
          answers = answers;
          quiet = λ n. sym s.answers ∙ h.3 (λ e. ordinal_third i n (sym here ∙ e));
        },
      )

  row_whole : {m n : Tree (Rest Elements)} {cs : List Call} {r : Ending} {f g : F} (i : ℕ) → VisitEntries VisitElement m cs n r → r ≡ whole → Chain Step f cs g → ordinal f ≡ ordinal_of i → n ≡ turned (commented direction_at) i m
  row_whole {f = f} i (last {c = c} one) is chain here =
      let h = chain_first chain in let k = noted_call f h.0 c i here h.1 in let x = one_whole i one is k.1 in last_same x.0 x.1
  row_whole {f = f} i (more {c = c} one rest) is chain here =
      let h = chain_first chain in let k = noted_call f h.0 c i here h.1 in let x = one_whole i one refl k.1 in more_same x.0 x.1 (row_whole (suc i) rest is h.2 k.0)
  row_whole i (stops one) is chain here = absurd cc

  -- behind the third no call is refused
  late : {m n : Tree (Rest Elements)} {cs : List Call} {r : Ending} {f g : F} (i : ℕ) → 2 < i → VisitEntries VisitElement m cs n r → r ≡ cut → Chain Step f cs g → ordinal f ≡ ordinal_of i → ⊥
  late {f = f} i behind (last {c = c} one) is chain here =
      let h = chain_first chain in let k = noted_call f h.0 c i here h.1 in (one_cut i one is k.1).2 (k.1.quiet (λ e. omega (arith, e)))
  late {f = f} i behind (more {c = c} one rest) is chain here =
      let h = chain_first chain in let k = noted_call f h.0 c i here h.1 in late (suc i) (omega arith) rest is h.2 k.0
  late {f = f} i behind (stops {c = c} one) is chain here =
      let h = chain_first chain in let k = noted_call f h.0 c i here h.1 in (one_cut i one refl k.1).2 (k.1.quiet (λ e. omega (arith, e)))

  row_cut : {m n : Tree (Rest Elements)} {cs : List Call} {r : Ending} {f g : F} (i : ℕ) → (i ≡ 2) ⊎ (i < 2) → VisitEntries VisitElement m cs n r → r ≡ cut → Chain Step f cs g → ordinal f ≡ ordinal_of i → n ≡ m
  row_cut {f = f} i at (last {c = c} one) is chain here =
      let h = chain_first chain in let k = noted_call f h.0 c i here h.1 in let x = one_cut i one is k.1 in last_same x.0 x.1
  row_cut {f = f} i at (stops {c = c} one) is chain here =
      let h = chain_first chain in let k = noted_call f h.0 c i here h.1 in let x = one_cut i one refl k.1 in more_same x.0 x.1 refl
  row_cut {f = f} i (inl third) (more {c = c} one rest) is chain here =
      let h = chain_first chain in let k = noted_call f h.0 c i here h.1 in absurd (late (suc i) (omega (arith, third)) rest is h.2 k.0)
  row_cut {f = f} i (inr front) (more {e = e} {s = s} {c = c} one rest) is chain here =
      let h = chain_first chain in let k = noted_call f h.0 c i here h.1 in let x = one_whole i one refl k.1 in
      more_same x.0 (x.1 ∙ ap (λ a. answered a s) (front_quiet i (element e) front)) (row_cut (suc i) (front_next i front) rest is h.2 k.0)

  pub array_whole : {w v : Tree OneItem} {cs : List Call} {r : Ending} {f g : F} → VisitArray w cs v r → r ≡ whole → Chain Step f cs g → ordinal f ≡ First → (fine ≡ (with_direction w).0) × (v ≡ (with_direction w).1)
  array_whole (elements (full {h = h} {s = s} a)) is chain here = (refl, ap (λ m. ListTree Array (FullTree h s m)) (row_whole 0 a is chain here))
  array_whole (elements empty) is chain here = (refl, refl)

  pub array_cut : {w v : Tree OneItem} {cs : List Call} {r : Ending} {f g : F} → VisitArray w cs v r → r ≡ cut → Chain Step f cs g → ordinal f ≡ First → v ≡ w
  array_cut (elements (full {h = h} {s = s} a)) is chain here = ap (λ m. ListTree Array (FullTree h s m)) (row_cut 0 (inr (lit< tt)) a is chain here)
  array_cut (elements empty) is chain here = absurd cc

pub no_array : (w : Tree OneItem) → array_items w ≡ None → with_direction w ≡ (comment (codes "Expected array"), w)
no_array (NumberTree x i) none = refl
no_array (FloatTree f i) none = refl
no_array (NamedTree b) none = refl
no_array (EnclosedTree l w) none = refl
no_array (ListTree Array w) none = absurd cc
no_array (ListTree Map w) none = refl
no_array (StringTree w) none = refl
no_array (StreamTree s m) none = refl
