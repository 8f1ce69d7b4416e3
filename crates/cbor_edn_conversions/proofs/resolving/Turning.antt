-- The laws.
use Rattle.std.proofs.Common.{ℕ, ◌≡◌, List, Option, Some, None, All, ◌↔◌, refl, sym, ap, ◌∙◌, subst}
use Rattle.std.proofs.lemmas.List.Elements.{All-nil, All-cons}
use Rattle.cbor_edn_parts.specs.declared.base.indicator.Indicator.{Indicator}
use Rattle.cbor_edn_model.specs.cbor.Decoded.{item_of, items_of}
use Rattle.cbor_edn_model.specs.tree.Items as kind
use Rattle.cbor_edn_model.specs.tree.Items.{Item, Items, Node, Literal, LastPiece, Entries, Elements}
use Rattle.cbor_edn_model.specs.visit.Seeking.{CallArguments, SoughtCall, VisitParts, IsTag, IsApplication}
use Rattle.cbor_edn_model.specs.tree.Trees.{Tree, OneItem, Seq, Standalone, items}
use Rattle.cbor_edn_model.specs.cbor.Value.{Value, Values, Fits, ValuesFit}
use Rattle.cbor_edn_model.specs.visit.Visits.{Answer, Ending, whole, Chain, no_calls, one_call}
use Rattle.cbor_edn_model.proofs.lemmas.cbor.Decoding.{item_means, items_mean}
use Rattle.cbor_edn_model.proofs.lemmas.cbor.MeaningSteps.{bind}
use Rattle.cbor_edn_parts.specs.string.Contents.{h}
use Rattle.cbor_edn_parts.specs.internal.ContentReading.{literal_content}
use Rattle.cbor_edn_model.specs.cbor.Meaning.{means, string_of}
use Rattle.cbor_edn_conversions.specs.Resolving.{Resolver, or_else, no_resolver, either, means_by, IsUnprefixed, DifferAtPrefixes, ResolvesApplications, ResolvesNoContent, Turns, AnswersBy}
use Rattle.cbor_edn_conversions.specs.VisitedItems.{ReachedItem, VisitedNode, IsTagNode, IsApplicationNode, Answered, LeavesAnswer, TurnsItem}
use Rattle.cbor_edn_conversions.specs.ResolvingLaws.{NoneResolved, DecodedUnresolved, VisitKeeps, VisitKeepsExactly, VisitResolves, VisitResolvesExactly, ResolvedAgain, ResolvedInTurn, ResolversByPrefix, VisitedOnce, VisitsItems, ItemsVisitedOnce, VisitsTurnItems, ItemsComeBack, ItemsResolvedAgain, AnswersResolvedAgain}
use Rattle.cbor_edn_conversions.proofs.resolving.ByPrefix.{by_prefix_applications, by_prefix_no_content, by_prefix_is}
use Rattle.cbor_edn_conversions.proofs.resolving.Determined.{parts_once, tag_arguments_once, application_arguments_once}
use Rattle.cbor_edn_conversions.proofs.resolving.OnItems.{parts_visited, tag_node, application_node}
use Rattle.cbor_edn_conversions.proofs.resolving.ItemsKept as kept
use Rattle.cbor_edn_conversions.proofs.resolving.ItemsOnce as once
use Rattle.cbor_edn_conversions.proofs.resolving.ItemsOnce.{tag_node_once, application_node_once}
use Rattle.cbor_edn_conversions.proofs.resolving.Resolved.{none_means, more_means, item_same, items_same}
use Rattle.cbor_edn_conversions.proofs.resolving.VisitsKept.{visit_keeps, visit_keeps_exactly, visit_resolves, visit_resolves_exactly, Below, belows, trans_below}

pub none_resolved : NoneResolved
none_resolved = (λ s x. none_means x, λ R n s x. more_means R n x)

pub decoded_unresolved : DecodedUnresolved
decoded_unresolved R n = (item_same R n, items_same R n)

pub visits_keep : (IsSought : Tree OneItem → CallArguments → Type 0) → VisitKeeps IsSought
visits_keep IsSought R cs r all = (λ w v a. visit_keeps IsSought R cs r all Standalone w v a, λ w v a. visit_keeps IsSought R cs r all Seq w v a)

pub visits_keep_exactly : (IsSought : Tree OneItem → CallArguments → Type 0) → VisitKeepsExactly IsSought
visits_keep_exactly IsSought R cs r all = (λ w v a. visit_keeps_exactly IsSought R cs r all Standalone w v a, λ w v a. visit_keeps_exactly IsSought R cs r all Seq w v a)

pub tag_visits_keep : VisitKeeps IsTag
tag_visits_keep = visits_keep IsTag

pub tag_visits_keep_exactly : VisitKeepsExactly IsTag
tag_visits_keep_exactly = visits_keep_exactly IsTag

pub literal_visits_keep : VisitKeeps IsApplication
literal_visits_keep = visits_keep IsApplication

pub literal_visits_keep_exactly : VisitKeepsExactly IsApplication
literal_visits_keep_exactly = visits_keep_exactly IsApplication

pub visits_resolve : VisitResolves
visits_resolve B A differ cs all = (λ w v a. visit_resolves B A differ cs all Standalone w v a, λ w v a. visit_resolves B A differ cs all Seq w v a)

pub visits_resolve_exactly : VisitResolvesExactly
visits_resolve_exactly B A differ cs all = (λ w v a. visit_resolves_exactly B A differ cs all Standalone w v a, λ w v a. visit_resolves_exactly B A differ cs all Seq w v a)

-- ---- the laws of decoded items

unprefixed_none : (R : Resolver) → ResolvesApplications R → (x : List ℕ) (i : Option Indicator) → IsUnprefixed x → R x i ≡ None
unprefixed_none R n x i none = n x i (λ p t is. absurd (none p t is))

pub both_differ : (R Q : Resolver) → ResolvesApplications R → ResolvesApplications Q → DifferAtPrefixes R Q
both_differ R Q n m x i none = unprefixed_none R n x i none ∙ sym (unprefixed_none Q m x i none)

pub none_applications : ResolvesApplications no_resolver
none_applications x i n = refl

-- The items of a value mean it by resolvers of application literals.
item_start : (R : Resolver) → ResolvesApplications R → (v : Value) → Fits v → (x : Node Item) → x ≡ item_of v → means_by R x ≡ Some v
item_start R n v fit x is = ap (λ x. means_by R x) is ∙ item_same R n v ∙ item_means v fit

items_start : (R : Resolver) → ResolvesApplications R → (vs : Values) → ValuesFit vs → (x : Items) → x ≡ items_of vs → means_by R x ≡ Some vs
items_start R n vs fit x is = ap (λ x. means_by R x) is ∙ items_same R n vs ∙ items_mean vs fit

module _ (R Q : Resolver) (r_is : ResolvesApplications R) (q_is : ResolvesApplications Q) where
  -- A visit of tags and then one of literals, whatever became of the spaces between them.
  item_turned : (cs ds : List SoughtCall) (r : Ending) → All (Turns R R) cs → All (Turns R Q) ds → (a b c d : Tree Standalone) → VisitParts IsTag Standalone a cs b r → items b ≡ items c → VisitParts IsApplication Standalone c ds d whole
      → (v : Value) → means_by R (items a) ≡ Some v → means_by Q (items d) ≡ Some v
  item_turned cs ds r keep turn a b c d first same second v start =
      visit_resolves R Q (both_differ R Q r_is q_is) ds turn Standalone c d second v (subst (λ x. means_by R x ≡ Some v) same (visit_keeps IsTag R cs r keep Standalone a b first v start))

  items_turned : (cs ds : List SoughtCall) (r : Ending) → All (Turns R R) cs → All (Turns R Q) ds → (a b c d : Tree Seq) → VisitParts IsTag Seq a cs b r → items b ≡ items c → VisitParts IsApplication Seq c ds d whole
      → (v : Values) → means_by R (items a) ≡ Some v → means_by Q (items d) ≡ Some v
  items_turned cs ds r keep turn a b c d first same second v start =
      visit_resolves R Q (both_differ R Q r_is q_is) ds turn Seq c d second v (subst (λ x. means_by R x ≡ Some v) same (visit_keeps IsTag R cs r keep Seq a b first v start))

pub resolved_again : ResolvedAgain
resolved_again R n cs ds r keep turn = (
  λ v fit a b c d is first same second. sym (none_means (items d)) ∙ item_turned R no_resolver n none_applications cs ds r keep turn a b c d first same second v (item_start R n v fit (items a) is),
  λ vs fit a b c d is first same second. sym (none_means (items d)) ∙ items_turned R no_resolver n none_applications cs ds r keep turn a b c d first same second vs (items_start R n vs fit (items a) is),
)

pub resolved_in_turn : ResolvedInTurn
resolved_in_turn R Q n m cs ds es r keep turn end = (
  λ v fit a b c d e f is first same second again third.
      let turned = item_turned R Q n m cs ds r keep turn a b c d first same second v (item_start R n v fit (items a) is) in
      sym (none_means (items f)) ∙ visit_resolves Q no_resolver (both_differ Q no_resolver m none_applications) es end Standalone e f third v (subst (λ x. means_by Q x ≡ Some v) again turned),
  λ v fit a b c d e f is first same second again third.
      let turned = items_turned R Q n m cs ds r keep turn a b c d first same second v (items_start R n v fit (items a) is) in
      sym (none_means (items f)) ∙ visit_resolves Q no_resolver (both_differ Q no_resolver m none_applications) es end Seq e f third v (subst (λ x. means_by Q x ≡ Some v) again turned),
)

-- ---- the laws of one result, and of items alone

pub resolvers_by_prefix : ResolversByPrefix
resolvers_by_prefix F = (by_prefix_applications F, by_prefix_no_content F, by_prefix_is F)

module _ (f : CallArguments → Tree OneItem → Answer × Tree OneItem) where
  answers_once : (c d : SoughtCall) → AnswersBy f c → AnswersBy f d → c.arguments ≡ d.arguments → c.before ≡ d.before → (c.answer ≡ d.answer) × (c.after ≡ d.after)
  answers_once c d a b arguments before =
      let same : f c.arguments c.before ≡ f d.arguments d.before = ap (λ t. f t c.before) arguments ∙ ap (f d.arguments) before in
      (a.0 ∙ (ap (λ p. p.0) same ∙ sym b.0), a.1 ∙ (ap (λ p. p.1) same ∙ sym b.1))

visited_once : (IsSought : Tree OneItem → CallArguments → Type 0) → ((w : Tree OneItem) (a b : CallArguments) → IsSought w a → IsSought w b → a ≡ b) → VisitedOnce IsSought
visited_once IsSought arguments_once f cs ds g h = (
  λ w v u a b. parts_once IsSought arguments_once (AnswersBy f) (answers_once f) a refl g u ds whole b refl h,
  λ w v u a b. parts_once IsSought arguments_once (AnswersBy f) (answers_once f) a refl g u ds whole b refl h,
)

pub tags_visited_once : VisitedOnce IsTag
tags_visited_once = visited_once IsTag tag_arguments_once

pub literals_visited_once : VisitedOnce IsApplication
literals_visited_once = visited_once IsApplication application_arguments_once

visits_items : (IsSought : Tree OneItem → CallArguments → Type 0) (IsSoughtNode : Node Item → CallArguments → Type 0) → ((w : Tree OneItem) (a : CallArguments) → IsSought w a ↔ IsSoughtNode (items w) a) → VisitsItems IsSought IsSoughtNode
visits_items IsSought IsSoughtNode sought f cs all = (
  λ w v a. parts_visited IsSought IsSoughtNode sought (LeavesAnswer f) (Answered f) (λ c e. e) a refl all,
  λ w v a. parts_visited IsSought IsSoughtNode sought (LeavesAnswer f) (Answered f) (λ c e. e) a refl all,
)

pub tag_visits_items : VisitsItems IsTag IsTagNode
tag_visits_items = visits_items IsTag IsTagNode tag_node

pub literal_visits_items : VisitsItems IsApplication IsApplicationNode
literal_visits_items = visits_items IsApplication IsApplicationNode application_node

items_once : (IsSought : Node Item → CallArguments → Type 0) → ((x : Node Item) (a b : CallArguments) → IsSought x a → IsSought x b → a ≡ b) → ItemsVisitedOnce IsSought
items_once IsSought arguments_once f = (
  λ x y z a b. once.reached_once IsSought (Answered f) arguments_once (λ a x y z e g. e ∙ sym g) a z b,
  λ x y z a b. once.visited_once IsSought (Answered f) arguments_once (λ a x y z e g. e ∙ sym g) a z b,
)

pub tag_items_once : ItemsVisitedOnce IsTagNode
tag_items_once = items_once IsTagNode tag_node_once

pub literal_items_once : ItemsVisitedOnce IsApplicationNode
literal_items_once = items_once IsApplicationNode application_node_once

turn_items : (IsSought : Tree OneItem → CallArguments → Type 0) (IsSoughtNode : Node Item → CallArguments → Type 0) → ((w : Tree OneItem) (a : CallArguments) → IsSought w a ↔ IsSoughtNode (items w) a) → VisitsTurnItems IsSought IsSoughtNode
turn_items IsSought IsSoughtNode sought B A cs all = (
  λ w v a. parts_visited IsSought IsSoughtNode sought (Turns B A) (TurnsItem B A) (λ c e. e) a refl all,
  λ w v a. parts_visited IsSought IsSoughtNode sought (Turns B A) (TurnsItem B A) (λ c e. e) a refl all,
)

pub tag_visits_turn_items : VisitsTurnItems IsTag IsTagNode
tag_visits_turn_items = turn_items IsTag IsTagNode tag_node

pub literal_visits_turn_items : VisitsTurnItems IsApplication IsApplicationNode
literal_visits_turn_items = turn_items IsApplication IsApplicationNode application_node

module _ (R : Resolver) (n : ResolvesApplications R) (Pretty Resolved : CallArguments → Node Item → Node Item → Type 0)
    (pretty : (a : CallArguments) (x y : Node Item) → IsTagNode x a → Pretty a x y → TurnsItem R R a x y) (resolved : (a : CallArguments) (x y : Node Item) → IsApplicationNode x a → Resolved a x y → TurnsItem R no_resolver a x y) where
  item_again : (v : Value) → Fits v → (x y : Node Item) → ReachedItem IsTagNode Pretty (item_of v) x → ReachedItem IsApplicationNode Resolved x y → means y ≡ Some v
  item_again v fit x y a b =
      let still = kept.reached_kept Below belows R R IsTagNode Pretty (kept.keeps Below belows trans_below IsTagNode Pretty R pretty) a v (item_start R n v fit (item_of v) refl) in
      sym (none_means y) ∙ kept.reached_kept Below belows R no_resolver IsApplicationNode Resolved (kept.resolves Below belows R no_resolver (both_differ R no_resolver n none_applications) Resolved resolved) b v still

  items_again : (vs : Values) → ValuesFit vs → (x y : Items) → VisitedNode IsTagNode Pretty (Entries Elements) (items_of vs) x → VisitedNode IsApplicationNode Resolved (Entries Elements) x y → means y ≡ Some vs
  items_again v fit x y a b =
      let still = kept.visited_kept Below belows R R IsTagNode Pretty (kept.keeps Below belows trans_below IsTagNode Pretty R pretty) a v (items_start R n v fit (items_of v) refl) in
      sym (none_means y) ∙ kept.visited_kept Below belows R no_resolver IsApplicationNode Resolved (kept.resolves Below belows R no_resolver (both_differ R no_resolver n none_applications) Resolved resolved) b v still

  pub items_back : ItemsComeBack Pretty Resolved
  items_back = (item_again, items_again)

pub items_resolved_again : ItemsResolvedAgain
items_resolved_again R n = items_back R n (TurnsItem R R) (TurnsItem R no_resolver) (λ a x y s e. e) (λ a x y s e. e)

pub answers_resolved_again : AnswersResolvedAgain
answers_resolved_again R n pretty resolved keeps turns =
    items_back R n (Answered pretty) (Answered resolved)
    (λ a x y s e. subst (TurnsItem R R a x) (sym e) (keeps a x s))
    (λ a x y s e. subst (TurnsItem R no_resolver a x) (sym e) (turns a x s))

-- ---- what a call has to show

module _ (B A : Resolver) (c : SoughtCall) (x : List ℕ) (i : Option Indicator) (is : items c.before ≡ kind.String (LastPiece (Literal x i))) where
  -- A literal that has a value by the first resolver, replaced by an item of this value,
  pub given_turns : (v : Value) → B x i ≡ Some v → means_by A (items c.after) ≡ Some v → Turns B A c
  unfolding means_by
  given_turns v given after u e =
      let value : Some v ≡ means_by B (items c.before) = sym (ap (λ y. means_by B y) is ∙ ap (λ o. or_else o (bind (literal_content x) (λ c. string_of c i))) given) in
      after ∙ (value ∙ e)

  -- which it has whatever literals without a content stand for,
  pub plain_turns : ResolvesNoContent A → (v : Value) → B x i ≡ Some v → means (items c.after) ≡ Some v → Turns B A c
  plain_turns n v given after = given_turns v given (more_means A n (items c.after) v after)

  -- one that means nothing, whatever it is replaced by,
  pub nothing_turns : B x i ≡ None → literal_content x ≡ None → Turns B A c
  unfolding means_by
  nothing_turns given content u e =
      let nothing : None ≡ means_by B (items c.before) = sym (ap (λ y. means_by B y) is ∙ ap (λ o. or_else o (bind (literal_content x) (λ c. string_of c i))) given ∙ ap (λ o. bind o (λ c. string_of c i)) content) in
      let none : None ≡ Some u = nothing ∙ e in
      absurd cc

  -- and one at which the resolvers agree, left as it is.
  pub unchanged_turns : B x i ≡ A x i → items c.after ≡ items c.before → Turns B A c
  unfolding means_by
  unchanged_turns agree same u e =
      ap (λ y. means_by A y) (same ∙ is) ∙ sym (ap (λ o. or_else o (bind (literal_content x) (λ c. string_of c i))) agree) ∙ sym (ap (λ y. means_by B y) is) ∙ e

-- An item replaced by a literal that the resolver gives what the item meant.
pub literal_keeps : (R : Resolver) (c : SoughtCall) (x : List ℕ) (i : Option Indicator) → items c.after ≡ kind.String (LastPiece (Literal x i)) → ((v : Value) → means_by R (items c.before) ≡ Some v → R x i ≡ Some v) → Turns R R c
unfolding means_by
literal_keeps R c x i is gives v e = ap (λ y. means_by R y) is ∙ ap (λ o. or_else o (bind (literal_content x) (λ c. string_of c i))) (gives v e)

-- What holds of each call of a chain by its step.
pub chain_all : {F C : Type 0} (Step : F → C → F → Type 0) (P : C → Type 0) → ((f g : F) (c : C) → Step f c g → P c) → {f g : F} {cs : List C} → Chain Step f cs g → All P cs
chain_all Step P each no_calls = All-nil P
chain_all Step P each (one_call {f = f} {g = g} {c = c} {cs = cs} s rest) = All-cons P c cs (each f g c s) (chain_all Step P each rest)

-- ---- two resolvers as one

module _ (Q R : Resolver) where
  pub either_applications : ResolvesApplications Q → ResolvesApplications R → ResolvesApplications (either Q R)
  either_applications q r x i n = ap (λ o. or_else o (R x i)) (q x i n) ∙ r x i n

  -- they differ from the second at literals with a prefix alone,
  pub either_differs : ResolvesApplications Q → DifferAtPrefixes (either Q R) R
  either_differs q x i none = ap (λ o. or_else o (R x i)) (unprefixed_none Q q x i none)

  pub either_no_content : ResolvesNoContent Q → ResolvesNoContent R → ResolvesNoContent (either Q R)
  either_no_content q r x i v e = by_first (Q x i) refl e
    where
      by_first : (o : Option Value) → Q x i ≡ o → or_else o (R x i) ≡ Some v → literal_content x ≡ None
      by_first None is e = r x i v e
      by_first (Some u) is e = q x i u is
