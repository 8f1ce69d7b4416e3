-- From the calls of a visit to what it leaves.
use Rattle.std.proofs.Common.{ℕ, Result, MutBor, List, [], ◌∷◌, ◌++◌, ◌≡◌, ◌≢◌, All, refl, sym, subst, string_bytes}
use Rattle.std.proofs.lemmas.List.Elements.{All-nil, All-cons, All-append, All-head, All-tail}
use Rattle.cbor_edn_model.specs.tree.Items.{Row}
use Rattle.cbor_edn_model.specs.visit.Seeking.{CallArguments, IsTag, IsApplication, SoughtCall, number, prefix_and_text, VisitItem, passed, entered, stayed, refused, not_called, VisitParts, of_number, of_float, of_name, of_tag, of_simple, of_list, of_string, of_stream, of_literal, of_ellipsis, of_embedded, of_last_piece, of_pieces, of_pieces_cut, of_none_inside, of_all_inside, of_last, of_more, of_more_cut, of_nothing, of_sequence, of_standalone, VisitEntry, of_element, of_pair, of_pair_cut, of_chunk}
use Rattle.cbor_edn_model.specs.tree.Trees.{Rule, Tree, OneItem, OneEntry}
use Rattle.cbor_edn_model.specs.visit.Visits.{Answer, fine, comment, no_memory, Ending, whole, cut, Chain, no_calls, one_call}
use Rattle.std.specs.Fn.{Called}
use Rattle.std.specs.declared.alloc.Global.{Global}
use Rattle.std.specs.declared.string.String.{String}
use Rattle.cbor_edn_parts.specs.declared.base.error.CallbackError.{CallbackError}
use Rattle.cbor_edn_core.specs.visit.Sought.{IsTagCall, IsLiteralCall, IsItemCall, TagCallback, LiteralCallback, ItemCallback, sought_answer}
use Rattle.cbor_edn_core.specs.tree.View.{Item, item_tree}
use Rattle.cbor_edn_application.specs.Acts.{Act, ActsBy, EndsBy, IsVisited}
use Rattle.cbor_edn_conversions.specs.Resolving.{AnswersBy}

-- a chain from its first call
pub chain_first : {F C : Type 0} {Step : F → C → F → Type 0} {f h : F} {c : C} {cs : List C} → Chain Step f (c ∷ cs) h → (g : F) × Step f c g × Chain Step g cs h
chain_first (one_call {g = g} s rest) = (g, s, rest)

-- what holds of each call, where the closure keeps what it holds
pub chain_all : {F C : Type 0} (Step : F → C → F → Type 0) (Keeps : F → Type 0) (P : C → Type 0) → ((f g : F) (c : C) → Keeps f → Step f c g → P c × Keeps g)
    → {f g : F} {cs : List C} → Chain Step f cs g → Keeps f → All P cs
chain_all Step Keeps P each no_calls keeps = All-nil P
chain_all Step Keeps P each (one_call {f = f} {g = g} {c = c} {cs = cs} s rest) keeps =
    let h = each f g c keeps s in All-cons P c cs h.0 (chain_all Step Keeps P each rest h.1)

-- what the closure holds behind a chain of calls that keep it
pub chain_keeps : {F C : Type 0} (Step : F → C → F → Type 0) (Keeps : F → Type 0) → ((f g : F) (c : C) → Keeps f → Step f c g → Keeps g) → {f g : F} {cs : List C} → Chain Step f cs g → Keeps f → Keeps g
chain_keeps Step Keeps each no_calls keeps = keeps
chain_keeps Step Keeps each (one_call {f = f} {g = g} {c = c} s rest) keeps = chain_keeps Step Keeps each rest (each f g c keeps s)

pub all_split : {X : Type 0} (P : X → Type 0) (xs ys : List X) → All P (xs ++ ys) → All P xs × All P ys
all_split P [] ys all = (All-nil P, all)
all_split P (x ∷ xs) ys all = let rest = all_split P xs ys (All-tail P x (xs ++ ys) all) in (All-cons P x xs (All-head P x (xs ++ ys) all) rest.0, rest.1)

-- the call had memory
abbrev pub HadMemory : SoughtCall → Type 0
HadMemory c = c.answer ≢ no_memory

abbrev pub Acted : Act → SoughtCall → Type 0
Acted act c = ActsBy act c.arguments c.before c.answer c.after

abbrev ActedAnswer : Act → CallArguments → Tree OneItem → Tree OneItem → Answer → Type 0
ActedAnswer act a w v r = r ≢ no_memory → ActsBy act a w r v → (r ≡ (act a w).0) × (v ≡ (act a w).1)

acted_answer : (act : Act) (a : CallArguments) (w v : Tree OneItem) (r : Answer) → ActedAnswer act a w v r
acted_answer act a w v fine had h = h
acted_answer act a w v (comment c) had h = h
acted_answer act a w v no_memory had h = absurd (had refl)

-- what is known of each call, and says its answer where it had memory
module _ (Sought : Tree OneItem → CallArguments → Type 0) (act : Act) (Known : SoughtCall → Type 0) (said : (c : SoughtCall) → HadMemory c → Known c → AnswersBy act c) where
  both : (cs ds all : List SoughtCall) → all ≡ cs ++ ds → (All Known cs → All (AnswersBy act) cs) → (All Known ds → All (AnswersBy act) ds) → All Known all → All (AnswersBy act) all
  both cs ds all e p q acted = let h = all_split Known cs ds (subst (All Known) e acted) in subst (All (AnswersBy act)) (sym e) (All-append (AnswersBy act) cs ds (p h.0) (q h.1))

  -- In a whole visit no call was refused memory.
  mutual
    item_whole : {w v : Tree OneItem} {s t : List _} {cs : List SoughtCall} {r : Ending} → VisitItem Sought w s cs v t r → r ≡ whole → All Known cs → All (AnswersBy act) cs
    item_whole (passed n a) is all = parts_whole a is all
    item_whole (entered {c = c} {cs = cs} s had d a) is all = All-cons (AnswersBy act) c cs (said c had (All-head Known c cs all)) (parts_whole a is (All-tail Known c cs all))
    item_whole (stayed {c = c} s had d) is all = All-cons (AnswersBy act) c [] (said c had (All-head Known c [] all)) (All-nil (AnswersBy act))
    item_whole (refused s f) is all = absurd cc
    item_whole (not_called s) is all = absurd cc

    pub parts_whole : {k : Rule} {w v : Tree k} {cs : List SoughtCall} {r : Ending} → VisitParts Sought k w cs v r → r ≡ whole → All Known cs → All (AnswersBy act) cs
    parts_whole of_number is all = All-nil (AnswersBy act)
    parts_whole of_float is all = All-nil (AnswersBy act)
    parts_whole of_name is all = All-nil (AnswersBy act)
    parts_whole (of_tag a) is all = parts_whole a is all
    parts_whole of_simple is all = All-nil (AnswersBy act)
    parts_whole (of_list a) is all = parts_whole a is all
    parts_whole (of_string a) is all = parts_whole a is all
    parts_whole (of_stream a) is all = parts_whole a is all
    parts_whole of_literal is all = All-nil (AnswersBy act)
    parts_whole of_ellipsis is all = All-nil (AnswersBy act)
    parts_whole (of_embedded a) is all = parts_whole a is all
    parts_whole (of_last_piece a) is all = parts_whole a is all
    parts_whole (of_pieces {cs = cs} {ds = ds} {all = xs} a b e) is all = both cs ds xs e (parts_whole a refl) (parts_whole b is) all
    parts_whole (of_pieces_cut a) is all = absurd cc
    parts_whole of_none_inside is all = All-nil (AnswersBy act)
    parts_whole (of_all_inside a) is all = parts_whole a is all
    parts_whole (of_last a) is all = entry_whole a is all
    parts_whole (of_more {cs = cs} {ds = ds} {all = xs} a b e) is all = both cs ds xs e (entry_whole a refl) (parts_whole b is) all
    parts_whole (of_more_cut a) is all = absurd cc
    parts_whole of_nothing is all = All-nil (AnswersBy act)
    parts_whole (of_sequence a) is all = parts_whole a is all
    parts_whole (of_standalone a) is all = item_whole a is all

    entry_whole : {k : Row} {e f : Tree (OneEntry k)} {s t : List _} {cs : List SoughtCall} {r : Ending} → VisitEntry Sought k e s cs f t r → r ≡ whole → All Known cs → All (AnswersBy act) cs
    entry_whole (of_element a) is all = item_whole a is all
    entry_whole (of_pair {cs = cs} {ds = ds} {all = xs} a b e) is all = both cs ds xs e (item_whole a refl) (item_whole b is) all
    entry_whole (of_pair_cut a) is all = absurd cc
    entry_whole (of_chunk a) is all = parts_whole a is all

module _ (Sought : Tree OneItem → CallArguments → Type 0) (act : Act) where
  answers : (c : SoughtCall) → HadMemory c → Acted act c → AnswersBy act c
  answers c had acted = acted_answer act c.arguments c.before c.after c.answer had acted

  ends : {k : Rule} {w v : Tree k} {cs : List SoughtCall} (r : Ending) → VisitParts Sought k w cs v r → All (Acted act) cs → EndsBy act cs r
  ends whole a all = parts_whole Sought act (Acted act) answers a refl all
  ends cut a all = all

  -- What a visit leaves, of its chain of calls: `each` says it of one call.
  pub visited : {F : Type 0} (Step : F → SoughtCall → F → Type 0) (Keeps : F → Type 0) → ((f g : F) (c : SoughtCall) → Keeps f → Step f c g → Acted act c × Keeps g)
      → (k : Rule) (w v : Tree k) (f g : F) (r : Ending) → Keeps f → (cs : List SoughtCall) → Chain Step f cs g → VisitParts Sought k w cs v r → IsVisited Sought act w r v
  visited Step Keeps each k w v f g r keeps cs chain a = (cs, ends r a (chain_all Step Keeps (Acted act) each chain keeps), a)

-- ---- one call

acted_same : (act : Act) (a b : CallArguments) (w x : Tree OneItem) (r q : Answer) (v y : Tree OneItem) → a ≡ b → w ≡ x → r ≡ q → v ≡ y → ActsBy act a w r v → ActsBy act b x q y
acted_same act a b w x r q v y e f g h acts = let P : CallArguments → Type 0 = λ t. ActsBy act t x q y in subst P e (subst (λ t. ActsBy act a t q y) f (subst (λ t. ActsBy act a w t y) g (subst (λ t. ActsBy act a w r t) h acts)))

-- Visits, by what one call of the closure does: the closure keeps what `Keeps` says.
module _ (act : Act) {F : Type 0} (Keeps : F → Type 0) (k : Rule) (w v : Tree k) (f g : F) (r : Ending) (keeps : Keeps f) where
  pub tags_visited : (callback : TagCallback Item F)
      → ((p q : F) (n : ℕ) (x y : MutBor Item) (z : Result (Unit {0}) CallbackError) → Keeps p → Called callback p (n, (x, tt)) (z, (y, tt)) q
      → ActsBy act (number n) (item_tree x.now) (sought_answer z) (item_tree y.now) × Keeps q)
      → (cs : List SoughtCall) × Chain (IsTagCall item_tree callback) f cs g × VisitParts IsTag k w cs v r → IsVisited IsTag act w r v
  tags_visited callback each h = visited IsTag act (IsTagCall item_tree callback) Keeps
      (λ p q c kept s. let both = each p q s.tag s.shown s.left s.answer kept s.called in (acted_same act _ _ _ _ _ _ _ _ (sym s.arguments) s.begins s.answers s.leaves both.0, both.1))
      k w v f g r keeps h.0 h.1 h.2

  pub literals_visited : (callback : LiteralCallback Item F)
      → ((p q : F) (s t : String Global) (x y : MutBor Item) (z : Result (Unit {0}) CallbackError) → Keeps p → Called callback p (s, (t, (x, tt))) (z, (y, tt)) q
      → ActsBy act (prefix_and_text (string_bytes s) (string_bytes t)) (item_tree x.now) (sought_answer z) (item_tree y.now) × Keeps q)
      → (cs : List SoughtCall) × Chain (IsLiteralCall item_tree callback) f cs g × VisitParts IsApplication k w cs v r → IsVisited IsApplication act w r v
  literals_visited callback each h = visited IsApplication act (IsLiteralCall item_tree callback) Keeps
      (λ p q c kept s. let both = each p q s.prefix s.text s.shown s.left s.answer kept s.called in (acted_same act _ _ _ _ _ _ _ _ (sym s.arguments) s.begins s.answers s.leaves both.0, both.1))
      k w v f g r keeps h.0 h.1 h.2

  pub items_visited : (callback : ItemCallback Item F)
      → ((p q : F) (x y : MutBor Item) (z : Result (Unit {0}) CallbackError) → Keeps p → Called callback p (x, tt) (z, (y, tt)) q
      → ((a : CallArguments) → IsApplication (item_tree x.now) a → ActsBy act a (item_tree x.now) (sought_answer z) (item_tree y.now)) × Keeps q)
      → (cs : List SoughtCall) × Chain (IsItemCall item_tree callback) f cs g × VisitParts IsApplication k w cs v r → IsVisited IsApplication act w r v
  items_visited callback each h = visited IsApplication act (IsItemCall item_tree callback) Keeps
      (λ p q c kept s.
      let both = each p q s.shown s.left s.answer kept s.called in
      let acts = both.0 c.arguments (subst (λ w. IsApplication w c.arguments) (sym s.begins) s.sought) in
      (acted_same act c.arguments c.arguments _ _ _ _ _ _ refl s.begins s.answers s.leaves acts, both.1))
      k w v f g r keeps h.0 h.1 h.2
