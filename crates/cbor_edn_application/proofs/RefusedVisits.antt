-- What is answered after a visit that was refused.
use Rattle.std.proofs.Common.{ℕ, List, ◌≡◌, Result, Err, sym, ap, subst, ◌∙◌}
use Rattle.cbor_edn_parts.specs.declared.base.error.Fault.{Fault}
use Rattle.cbor_edn_parts.specs.declared.base.error.Fault.TheVariants as fault
use Rattle.cbor_edn_parts.specs.base.Refusals.{IfTold}
use Rattle.cbor_edn_core.specs.visit.Callbacks.{IfVisited}
use Rattle.cbor_edn_model.specs.tree.Trees.{Tree, OneItem, items}
use Rattle.cbor_edn_model.specs.visit.Visits.{Answer, fine, comment, no_memory, Ending, cut}
use Rattle.cbor_edn_conversions.specs.Conversions.{Reply}
use Rattle.cbor_edn_application.specs.Acts.{ActsSo, AnswersSo}
use Rattle.cbor_edn_application.specs.Refused.{AnswersFault}
use Rattle.cbor_edn_application.specs.Handlers.{ValueAnswers}

abbrev err : {X : Type 0} → Fault X → Result (Unit {0}) (Fault X)
err x = Err x

pub refusal_acts : (f : Tree OneItem → Reply) (w v : Tree OneItem) (message : List ℕ) (a : Answer) → f w ≡ (comment message, w) → v ≡ w → AnswersSo (comment message) a → ActsSo f w a v
refusal_acts f w v message fine is same h = (h ∙ sym (ap (λ p. p.0) is), same ∙ sym (ap (λ p. p.1) is))
refusal_acts f w v message (comment c) is same h = (h ∙ sym (ap (λ p. p.0) is), same ∙ sym (ap (λ p. p.1) is))
refusal_acts f w v message no_memory is same h = same

fault_acts : {X : Type 0} (f : Tree OneItem → Reply) (w v : Tree OneItem) (message : List ℕ) (a : Answer) (P : Ending → Type 0) (Q : X → Type 0) (x : Fault X) → AnswersFault x (λ _. message) a
    → IfVisited (err x) P → IfTold (err x) Q → (P cut → v ≡ w) → ((e : X) → Q e → (f w ≡ (comment message, w)) × (v ≡ w)) → ActsSo f w a v
fault_acts f w v message a P Q (fault.Memory e) answers visited told when_cut when_told = subst (λ r. ActsSo f w r v) (sym answers) (when_cut visited)
fault_acts f w v message a P Q (fault.Told e) answers visited told when_cut when_told = let h = when_told e told in refusal_acts f w v message a h.0 h.1 answers

-- A visit that was refused is answered by the message, or want of memory.
pub refused_acts : {X : Type 0} (f : Tree OneItem → Reply) (w v : Tree OneItem) (message : List ℕ) (a : Answer) (P : Ending → Type 0) (Q : X → Type 0) (r : Result (Unit {0}) (Fault X)) (x : Fault X) → r ≡ Err x → AnswersFault x (λ _. message) a
    → IfVisited r P → IfTold r Q → (P cut → v ≡ w) → ((e : X) → Q e → (f w ≡ (comment message, w)) × (v ≡ w)) → ActsSo f w a v
refused_acts f w v message a P Q r x is answers visited told when_cut when_told = fault_acts f w v message a P Q x answers (subst (λ o. IfVisited o P) is visited) (subst (λ o. IfTold o Q) is told) when_cut when_told

-- ---- the same at a value

refusal_value : (f : Tree OneItem → Reply) (w v : Tree OneItem) (message : List ℕ) (a : Answer) → f w ≡ (comment message, w) → v ≡ w → AnswersSo (comment message) a → ValueAnswers f w a v
refusal_value f w v message fine is same h = (h ∙ sym (ap (λ p. p.0) is), same ∙ sym (ap (λ p. p.1) is))
refusal_value f w v message (comment c) is same h = (h ∙ sym (ap (λ p. p.0) is), same ∙ sym (ap (λ p. p.1) is))
refusal_value f w v message no_memory is same h = ap (λ x. items x) same

fault_value : {X : Type 0} (f : Tree OneItem → Reply) (w v : Tree OneItem) (message : List ℕ) (a : Answer) (P : Ending → Type 0) (Q : X → Type 0) (x : Fault X) → AnswersFault x (λ _. message) a
    → IfVisited (err x) P → IfTold (err x) Q → (P cut → items v ≡ items w) → ((e : X) → Q e → (f w ≡ (comment message, w)) × (v ≡ w)) → ValueAnswers f w a v
fault_value f w v message a P Q (fault.Memory e) answers visited told when_cut when_told = subst (λ r. ValueAnswers f w r v) (sym answers) (when_cut visited)
fault_value f w v message a P Q (fault.Told e) answers visited told when_cut when_told = let h = when_told e told in refusal_value f w v message a h.0 h.1 answers

pub refused_value : {X : Type 0} (f : Tree OneItem → Reply) (w v : Tree OneItem) (message : List ℕ) (a : Answer) (P : Ending → Type 0) (Q : X → Type 0) (r : Result (Unit {0}) (Fault X)) (x : Fault X) → r ≡ Err x → AnswersFault x (λ _. message) a
    → IfVisited r P → IfTold r Q → (P cut → items v ≡ items w) → ((e : X) → Q e → (f w ≡ (comment message, w)) × (v ≡ w)) → ValueAnswers f w a v
refused_value f w v message a P Q r x is answers visited told when_cut when_told =
    fault_value f w v message a P Q x answers (subst (λ o. IfVisited o P) is visited) (subst (λ o. IfTold o Q) is told) when_cut when_told
