-- Visits of maps whose keys are answered by a function, with what is done at their values.
use Rattle.std.proofs.Common.{ℕ, suc, List, [], All, ◌≡◌, ◌≢◌, Option, None, Some, option_map, Result, MutBor, refl, sym, ap, subst, ◌∙◌, codes}
use Rattle.std.proofs.lemmas.List.Elements.{All-head, All-tail}
use Rattle.std.specs.Fn.{Called}
use Rattle.std.specs.declared.string.String.{String}
use Rattle.std.specs.declared.alloc.Global.{Global}
use Rattle.cbor_edn_parts.specs.declared.base.error.CallbackError.{CallbackError}
use Rattle.cbor_edn_core.specs.visit.Callbacks.{Callback, Handles, IsKeyCall, Spends, none, drops, spends, answer_of, key_answer, handler_of}
use Rattle.cbor_edn_core.specs.tree.View.{Item, item_tree}
use Rattle.cbor_edn_model.specs.access.Accessed.{map_items}
use Rattle.cbor_edn_model.specs.tree.Items as kind
use Rattle.cbor_edn_model.specs.tree.Items.{Node, Entry, Entries, Pairs, Array, Map}
use Rattle.cbor_edn_model.specs.tree.Trees.{Tree, OneItem, OneEntry, Rest, NumberTree, FloatTree, NamedTree, EnclosedTree, ListTree, StringTree, StreamTree, EmptyTree, FullTree, LastTree, MoreTree, PairTree, head_indicator, items}
use Rattle.cbor_edn_model.specs.visit.Visits as visits
use Rattle.cbor_edn_model.specs.visit.Visits.{Answer, fine, comment, no_memory, answered, Call, KeyCall, Handler, no_handler, dropped, spent, Ending, whole, VisitPair, VisitEntries, last, more, stops, full, empty, VisitMap, pairs, Chain}
use Rattle.cbor_edn_conversions.specs.Annotations.{turned}
use Rattle.cbor_edn_conversions.specs.Claims.{KeyReply, value_turn, key_turn, with_keys}
use Rattle.cbor_edn_conversions.specs.Conversions.{Reply}
use Rattle.cbor_edn_application.specs.Handlers.{KeyAnswers, ValueAnswers, HandledBy, Keyed, AreKeysVisited}
use Rattle.cbor_edn_application.proofs.VisitChains.{chain_first, chain_all}

last_same : {e f : Tree (OneEntry Pairs)} {s t : List ℕ} → f ≡ e → t ≡ s → LastTree f t ≡ LastTree e s
last_same a b = cc

more_same : {e f : Tree (OneEntry Pairs)} {s t : List ℕ} {m n : Tree (Rest Pairs)} → f ≡ e → t ≡ s → n ≡ m → MoreTree f t n ≡ MoreTree e s m
more_same a b c = cc

pair_same : {k l v x : Tree OneItem} {s t u : List ℕ} → l ≡ k → t ≡ s → x ≡ v → PairTree l t u x ≡ PairTree k s u v
pair_same a b c = cc

-- what is done at a value
abbrev AtValue : Type 0
AtValue = Tree OneItem → Reply

key_is : (p : KeyReply) (r : Answer) (f : Option AtValue) → r ≢ no_memory → KeyAnswers p r f → (r ≡ p.0) × (f ≡ p.1)
key_is p fine f n e = e
key_is p (comment c) f n e = e
key_is p no_memory f n e = absurd (n refl)

pub value_is : (f : AtValue) (w v : Tree OneItem) (r : Answer) → r ≢ no_memory → ValueAnswers f w r v → (r ≡ (f w).0) × (v ≡ (f w).1)
value_is f w v fine n e = e
value_is f w v (comment c) n e = e
value_is f w v no_memory n e = absurd (n refl)

pub value_same : (f : AtValue) (w x : Tree OneItem) (r q : Answer) (v y : Tree OneItem) → w ≡ x → r ≡ q → v ≡ y → ValueAnswers f w r v → ValueAnswers f x q y
value_same f w x r q v y a b c h = subst (λ t. ValueAnswers f t q y) a (subst (λ t. ValueAnswers f w t y) b (subst (λ t. ValueAnswers f w r t) c h))

passed_value : (o : Option AtValue) (v : Tree OneItem) (r : List ℕ) → HandledBy o no_handler → value_turn o v r ≡ (v, r)
passed_value None v r h = refl
passed_value (Some f) v r h = absurd h

handled_value : (o : Option AtValue) (d : Call) (r : List ℕ) → d.answer ≢ no_memory → HandledBy o (spent d) → value_turn o d.before r ≡ (d.after, answered d.answer r)
handled_value None d r had h = absurd h
handled_value (Some f) d r had h = let is = value_is f d.before d.after d.answer had h in both is.0 is.1
  where
    both : d.answer ≡ (f d.before).0 → d.after ≡ (f d.before).1 → value_turn (Some f) d.before r ≡ (d.after, answered d.answer r)
    both e g = ap (λ w. (w, answered (f d.before).0 r)) (sym g) ∙ ap (λ a. (d.after, answered a r)) (sym e)

module _ (at_key : Tree OneItem → KeyReply) where
  pair_whole : {e f : Tree (OneEntry Pairs)} {s t : List ℕ} {c : KeyCall} {r : Ending} (i : ℕ) → VisitPair e s c f t r → r ≡ whole → Keyed at_key c → (f ≡ (key_turn at_key i e s).0) × (t ≡ (key_turn at_key i e s).1)
  pair_whole i (visits.passed_over {c = c} {v = v} {s = s} {t = t} {r = r} had) is k =
      let a = k.answers had in let x = passed_value (at_key c.before).1 v r a.1 in
      (pair_same k.same (ap (λ b. answered b s) a.0) (sym (ap (λ p. p.0) x)), sym (ap (λ p. p.1) x))
  pair_whole i (visits.handled {c = c} {d = d} {s = s} {t = t} {r = r} had kept) is k =
      let a = k.answers had in let x = handled_value (at_key c.before).1 d r kept a.1 in
      (pair_same k.same (ap (λ b. answered b s) a.0) (sym (ap (λ p. p.0) x)), sym (ap (λ p. p.1) x))
  pair_whole i (visits.refused_at_key had spends_none) is k = absurd cc
  pair_whole i (visits.refused_at_value had kept) is k = absurd cc

  pub no_map : (w : Tree OneItem) → map_items w ≡ None → with_keys at_key w ≡ (comment (codes "Expected map"), w)
  no_map (NumberTree x i) e = refl
  no_map (FloatTree f i) e = refl
  no_map (NamedTree b) e = refl
  no_map (EnclosedTree l w) e = refl
  no_map (ListTree Array w) e = refl
  no_map (ListTree Map w) e = absurd cc
  no_map (StringTree w) e = refl
  no_map (StreamTree s m) e = refl

-- ---- values that keep their items

-- what is done at a value, if something is, changes spaces alone
abbrev pub Keeps : Option AtValue → Type 0
Keeps None = Unit {0}
Keeps (Some f) = (v : Tree OneItem) → items (f v).1 ≡ items v

pub value_answer : (f : AtValue) → ((v : Tree OneItem) → items (f v).1 ≡ items v) → (w v : Tree OneItem) (r : Answer) → ValueAnswers f w r v → items v ≡ items w
value_answer f kept w v fine h = ap (λ x. items x) h.1 ∙ kept w
value_answer f kept w v (comment c) h = ap (λ x. items x) h.1 ∙ kept w
value_answer f kept w v no_memory h = h

handled_kept : (o : Option AtValue) → Keeps o → (d : Call) → HandledBy o (spent d) → items d.after ≡ items d.before
handled_kept None kept d h = absurd h
handled_kept (Some f) kept d h = value_answer f kept d.before d.after d.answer h

turn_kept : (o : Option AtValue) → Keeps o → (v : Tree OneItem) (r : List ℕ) → items (value_turn o v r).0 ≡ items v
turn_kept None kept v r = refl
turn_kept (Some f) kept v r = kept v

then_same : (x y : Node (Entry Pairs)) (m n : Node (Entries Pairs)) → x ≡ y → m ≡ n → kind.Then x m ≡ kind.Then y n
then_same x y m n e f = ap (λ z. kind.Then z m) e ∙ ap (λ z. kind.Then y z) f

items_pair : (k l v x : Tree OneItem) → items l ≡ items k → items x ≡ items v → kind.Pair (items l) (items x) ≡ kind.Pair (items k) (items v)
items_pair k l v x e f = ap (λ z. kind.Pair z (items x)) e ∙ ap (λ z. kind.Pair (items k) z) f

module _ (at_key : Tree OneItem → KeyReply) (kept : (k : Tree OneItem) → Keeps (at_key k).1) where
  row_turned : (i : ℕ) (m : Tree (Rest Pairs)) → items (turned (key_turn at_key) i m) ≡ items m
  unfolding items
  row_turned i (LastTree (PairTree k s t v) r) = then_same _ _ _ _ (ap (λ z. kind.Pair (items k) z) (turn_kept (at_key k).1 (kept k) v r)) refl
  row_turned i (MoreTree (PairTree k s t v) r m) = then_same _ _ _ _ (ap (λ z. kind.Pair (items k) z) (turn_kept (at_key k).1 (kept k) v r)) (row_turned (suc i) m)

  -- a map with comments has the same items
  pub keys_kept : (w : Tree OneItem) → items (with_keys at_key w).1 ≡ items w
  unfolding items
  keys_kept (NumberTree x i) = refl
  keys_kept (FloatTree f i) = refl
  keys_kept (NamedTree b) = refl
  keys_kept (EnclosedTree l w) = refl
  keys_kept (ListTree Array w) = refl
  keys_kept (ListTree Map (FullTree h s m)) = ap (λ x. kind.Listed Map (head_indicator h) x) (row_turned 0 m)
  keys_kept (ListTree Map (EmptyTree i s)) = refl
  keys_kept (StringTree w) = refl
  keys_kept (StreamTree s m) = refl

  pair_kept : {e f : Tree (OneEntry Pairs)} {s t : List ℕ} {c : KeyCall} {r : Ending} → VisitPair e s c f t r → Keyed at_key c → items f ≡ items e
  unfolding items
  pair_kept (visits.passed_over {c = c} {v = v} had) k = items_pair c.before c.after v v (ap (λ x. items x) k.same) refl
  pair_kept (visits.handled {c = c} {d = d} had done) k =
      items_pair c.before c.after d.before d.after (ap (λ x. items x) k.same) (handled_kept (at_key c.before).1 (kept c.before) d (k.answers had).1)
  pair_kept (visits.refused_at_key {c = c} {v = v} had n) k = items_pair c.before c.after v v (ap (λ x. items x) k.same) refl
  pair_kept (visits.refused_at_value {c = c} {d = d} had done) k =
      items_pair c.before c.after d.before d.after (ap (λ x. items x) k.same) (handled_kept (at_key c.before).1 (kept c.before) d (k.answers had).1)

  row_kept : {m n : Tree (Rest Pairs)} {cs : List KeyCall} {r : Ending} → VisitEntries VisitPair m cs n r → All (Keyed at_key) cs → items n ≡ items m
  unfolding items
  row_kept (last {c = c} one) all = then_same _ _ _ _ (pair_kept one (All-head (Keyed at_key) c [] all)) refl
  row_kept (more {c = c} {cs = cs} one rest) all = then_same _ _ _ _ (pair_kept one (All-head (Keyed at_key) c cs all)) (row_kept rest (All-tail (Keyed at_key) c cs all))
  row_kept (stops {c = c} one) all = then_same _ _ _ _ (pair_kept one (All-head (Keyed at_key) c [] all)) refl

  map_kept : {w v : Tree OneItem} {cs : List KeyCall} {r : Ending} → VisitMap w cs v r → All (Keyed at_key) cs → items v ≡ items w
  unfolding items
  map_kept (pairs (full {h = h} a)) all = ap (λ x. kind.Listed Map (head_indicator h) x) (row_kept a all)
  map_kept (pairs empty) all = refl

  -- and so has one whose visit was cut
  pub visit_kept : {w v : Tree OneItem} {r : Ending} → AreKeysVisited at_key w r v → items v ≡ items w
  visit_kept h = map_kept h.2 h.1

-- Visits, by what one call of the closure does: the closure keeps what `Keeps` says.
module _ {H F : Type 0} (at_key : Tree OneItem → KeyReply) (at_value : H → Tree OneItem → Reply) (callback : Callback Item (Result (Option (String Global) × Option H) CallbackError) F) (handles : Handles Item H) (Keeps : F → Type 0)
    (each : (p q : F) (x y : MutBor Item) (z : Result (Option (String Global) × Option H) CallbackError) → Keeps p → Called callback p (x, tt) (z, (y, tt)) q
    → ((item_tree y.now ≡ item_tree x.now) × KeyAnswers (at_key (item_tree x.now)) (key_answer z) (option_map at_value (handler_of z))) × Keeps q)
    (valued : (h : H) (x : Item) (r : Result (Option (String Global)) CallbackError) (y : Item) → handles h x r y → ValueAnswers (at_value h) (item_tree x) (answer_of r) (item_tree y)) where
  abbrev Step : F → KeyCall → F → Type 0
  Step = IsKeyCall item_tree callback handles

  spent_by : {o : Option H} {h : Handler} → Spends item_tree handles o h → HandledBy (option_map at_value o) h
  spent_by none = tt
  spent_by drops = tt
  spent_by (spends {h = h} {x = x} {y = y} {r = r} {c = c} did before answer after) = value_same (at_value h) _ _ _ _ _ _ before answer after (valued h x r y did)

  keyed : (f g : F) (c : KeyCall) → Keeps f → Step f c g → Keyed at_key c × Keeps g
  keyed f g c kept s =
      let both = each f g s.called.shown s.called.left s.answer kept s.called.called in
      let h = both.0 in
      let before : item_tree s.called.shown.now ≡ c.at_key.before = ap item_tree s.called.shows ∙ s.begins in
      let after : item_tree s.called.left.now ≡ c.at_key.after = ap item_tree s.called.leaves ∙ s.leaves in (
        record {
          same = sym after ∙ (h.0 ∙ before);
          answers = λ had.
              let is = key_is (at_key (item_tree s.called.shown.now)) (key_answer s.answer) (option_map at_value (handler_of s.answer)) (λ e. had (sym s.answers ∙ e)) h.1 in
              (sym s.answers ∙ (is.0 ∙ ap (λ w. (at_key w).0) before), subst (λ o. HandledBy o c.handler) (is.1 ∙ ap (λ w. (at_key w).1) before) (spent_by s.spending));
        },
        both.1,
      )

  row_whole : {m n : Tree (Rest Pairs)} {cs : List KeyCall} {r : Ending} {f g : F} (i : ℕ) → VisitEntries VisitPair m cs n r → r ≡ whole → Chain Step f cs g → Keeps f → n ≡ turned (key_turn at_key) i m
  row_whole {f = f} i (last {c = c} one) is chain kept =
      let h = chain_first chain in let k = keyed f h.0 c kept h.1 in let x = pair_whole at_key i one is k.0 in last_same x.0 x.1
  row_whole {f = f} i (more {c = c} one rest) is chain kept =
      let h = chain_first chain in let k = keyed f h.0 c kept h.1 in let x = pair_whole at_key i one refl k.0 in more_same x.0 x.1 (row_whole (suc i) rest is h.2 k.1)
  row_whole i (stops one) is chain kept = absurd cc

  pub kept_whole : {w v : Tree OneItem} {cs : List KeyCall} {r : Ending} {f g : F} → VisitMap w cs v r → r ≡ whole → Chain Step f cs g → Keeps f → (fine ≡ (with_keys at_key w).0) × (v ≡ (with_keys at_key w).1)
  kept_whole (pairs (full {h = h} {s = s} a)) is chain kept = (refl, ap (λ m. ListTree Map (FullTree h s m)) (row_whole 0 a is chain kept))
  kept_whole (pairs empty) is chain kept = (refl, refl)

  -- the calls of a visit, however it ended
  pub kept_visited : {w v : Tree OneItem} {cs : List KeyCall} {r : Ending} {f g : F} → VisitMap w cs v r → Chain Step f cs g → Keeps f → AreKeysVisited at_key w r v
  kept_visited {cs = cs} visit chain kept = (cs, chain_all Step Keeps (Keyed at_key) keyed chain kept, visit)

-- the same where nothing has to be kept
module _ {H F : Type 0} (at_key : Tree OneItem → KeyReply) (at_value : H → Tree OneItem → Reply) (callback : Callback Item (Result (Option (String Global) × Option H) CallbackError) F) (handles : Handles Item H)
    (each : (p q : F) (x y : MutBor Item) (z : Result (Option (String Global) × Option H) CallbackError) → Called callback p (x, tt) (z, (y, tt)) q
    → (item_tree y.now ≡ item_tree x.now) × KeyAnswers (at_key (item_tree x.now)) (key_answer z) (option_map at_value (handler_of z)))
    (valued : (h : H) (x : Item) (r : Result (Option (String Global)) CallbackError) (y : Item) → handles h x r y → ValueAnswers (at_value h) (item_tree x) (answer_of r) (item_tree y)) where
  pub map_whole : {w v : Tree OneItem} {cs : List KeyCall} {r : Ending} {f g : F} → VisitMap w cs v r → r ≡ whole → Chain (IsKeyCall item_tree callback handles) f cs g → (fine ≡ (with_keys at_key w).0) × (v ≡ (with_keys at_key w).1)
  map_whole visit is chain = kept_whole at_key at_value callback handles (λ _. Unit {0}) (λ p q x y z _ s. (each p q x y z s, tt)) valued visit is chain tt

  pub map_visited : {w v : Tree OneItem} {cs : List KeyCall} {r : Ending} {f g : F} → VisitMap w cs v r → Chain (IsKeyCall item_tree callback handles) f cs g → AreKeysVisited at_key w r v
  map_visited visit chain = kept_visited at_key at_value callback handles (λ _. Unit {0}) (λ p q x y z _ s. (each p q x y z s, tt)) valued visit chain tt
