-- What is answered and left by a conversion.
use Rattle.std.proofs.Common.{ℕ, List, Option, Some, None, Ok, Err, ◌≡◌, ◌∙◌, refl, sym, ap, subst}
use Rattle.cbor_edn_parts.specs.declared.base.error.Fault.{Fault}
use Rattle.cbor_edn_parts.specs.declared.base.error.Fault.TheVariants as fault
use Rattle.cbor_edn_parts.specs.base.Refusals.{IfTold}
use Rattle.cbor_edn_model.specs.tree.Trees.{Tree, OneItem}
use Rattle.cbor_edn_model.specs.visit.Visits.{Answer, fine, comment, no_memory}
use Rattle.cbor_edn_conversions.specs.Conversions.{Conversion, Reply, reply}
use Rattle.cbor_edn_application.specs.Acts.{ActsSo}
use Rattle.cbor_edn_application.specs.Refused.{AnswersFault}
use Rattle.cbor_edn_application.proofs.RefusedVisits.{refusal_acts}

-- the item stays where there is no conversion
pub none_acts : (o : Option Conversion) (w v : Tree OneItem) → o ≡ None → v ≡ w → ActsSo (λ w. reply w o) w fine v
none_acts o w v is same = (ap (λ o. (reply w o).0) (sym is), same ∙ ap (λ o. (reply w o).1) (sym is))

-- what acts by one function acts by another that gives the same
pub acts_as : (f g : Tree OneItem → Reply) (w v : Tree OneItem) (r : Answer) → g w ≡ f w → ActsSo f w r v → ActsSo g w r v
acts_as f g w v no_memory same acts = acts
acts_as f g w v fine same acts = (acts.0 ∙ ap (λ (p : Reply). p.0) (sym same), acts.1 ∙ ap (λ (p : Reply). p.1) (sym same))
acts_as f g w v (comment t) same acts = (acts.0 ∙ ap (λ (p : Reply). p.0) (sym same), acts.1 ∙ ap (λ (p : Reply). p.1) (sym same))

-- what an item became
pub done_acts : (o : Option Conversion) (w v u : Tree OneItem) → o ≡ Some (Ok v) → u ≡ v → ActsSo (λ x. reply x o) w fine u
done_acts o w v u is same = (ap (λ o. (reply w o).0) (sym is), same ∙ ap (λ o. (reply w o).1) (sym is))

-- the message of why it stays, or want of memory
pub stays_for : {E : Type 0} (message : E → List ℕ) (o : Option Conversion) (c : Conversion) (w : Tree OneItem) (f : Fault E) (r : Answer) → o ≡ Some c → IfTold {X = Unit {0}} (Err f) (λ e. c ≡ Err (message e)) → AnswersFault f message r → ActsSo (λ x. reply x o) w r w
stays_for message o c w (fault.Memory e) r is told answers = subst (λ r. ActsSo (λ x. reply x o) w r w) (sym answers) refl
stays_for message o c w (fault.Told e) r is told answers = refusal_acts (λ x. reply x o) w w (message e) r (ap (reply w) (is ∙ ap (λ c. Some c) told)) refl answers
