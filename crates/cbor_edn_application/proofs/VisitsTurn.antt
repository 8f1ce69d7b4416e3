-- What the calls of a visit turn, by what the function of these calls does.
use Rattle.std.proofs.Common.{◌≡◌, Some, All, ap, ◌∙◌}
use Rattle.cbor_edn_model.specs.visit.Seeking.{CallArguments, SoughtCall}
use Rattle.cbor_edn_model.specs.tree.Trees.{Rule, Tree, OneItem, Seq, items}
use Rattle.cbor_edn_model.specs.cbor.Value.{Values}
use Rattle.cbor_edn_model.specs.visit.Visits.{Answer, fine, comment, no_memory, Ending, whole, cut}
use Rattle.cbor_edn_conversions.specs.Resolvers.{TurnsTo}
use Rattle.cbor_edn_conversions.specs.Resolving.{Resolver, means_by, Turns, AnswersBy}
use Rattle.cbor_edn_conversions.proofs.conversions.Calls.{turns_to}
use Rattle.cbor_edn_conversions.proofs.conversions.SoughtCalls.{Sought, sought_all}
use Rattle.cbor_edn_conversions.proofs.resolving.VisitsKept as kept
use Rattle.cbor_edn_application.specs.Acts.{Act, ActsBy, IsVisited}
use Rattle.cbor_edn_application.proofs.VisitChains.{Acted}

module _ (IsSought : Tree OneItem → CallArguments → Type 0) (act : Act) where
  -- the function turns the one resolver into the other at what is sought
  abbrev ActTurns : Resolver → Resolver → Type 0
  ActTurns B A = (a : CallArguments) (w : Tree OneItem) → IsSought w a → TurnsTo B A w (act a w).1

  module _ (B A : Resolver) (turns : ActTurns B A) where
    answered_turn : (c : SoughtCall) → Sought IsSought c → AnswersBy act c → Turns B A c
    answered_turn c sought h = turns_to B A act c h (turns c.arguments c.before sought)

    -- so do the calls of a whole visit
    pub whole_calls : {k : Rule} {w v : Tree k} (h : IsVisited IsSought act w whole v) → All (Turns B A) h.0
    whole_calls h = sought_all IsSought (AnswersBy act) (Turns B A) answered_turn h.2 h.1

  module _ (R : Resolver) (turns : ActTurns R R) where
    -- where memory is refused, the item stays
    acted_turn : (a : CallArguments) (w v : Tree OneItem) (r : Answer) → IsSought w a → ActsBy act a w r v → TurnsTo R R w v
    acted_turn a w v no_memory sought same x e = ap (λ (t : Tree OneItem). means_by R (items t)) same ∙ e
    acted_turn a w v fine sought acts x e = ap (λ (t : Tree OneItem). means_by R (items t)) acts.1 ∙ turns a w sought x e
    acted_turn a w v (comment c) sought acts x e = ap (λ (t : Tree OneItem). means_by R (items t)) acts.1 ∙ turns a w sought x e

    -- A visit's calls keep what its function keeps, however it ended,
    pub ended_calls : {k : Rule} {w v : Tree k} (r : Ending) (h : IsVisited IsSought act w r v) → All (Turns R R) h.0
    ended_calls whole h = whole_calls R R turns h
    ended_calls cut h = sought_all IsSought (Acted act) (Turns R R) (λ c s a. acted_turn c.arguments c.before c.after c.answer s a) h.2 h.1

    -- and so does the visit.
    pub visit_keeps : (w v : Tree Seq) (r : Ending) → IsVisited IsSought act w r v → (xs : Values) → means_by R (items w) ≡ Some xs → means_by R (items v) ≡ Some xs
    visit_keeps w v r h = kept.visit_keeps IsSought R h.0 r (ended_calls r h) Seq w v h.2
