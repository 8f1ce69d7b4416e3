-- What is answered for a refusal.
use Rattle.std.specs.Prelude.{◌≡◌, List, ℕ}
use Rattle.cbor_edn_parts.specs.declared.base.error.Fault.{Fault}
use Rattle.cbor_edn_parts.specs.declared.base.error.Fault.TheVariants.{Memory, Told}
use Rattle.cbor_edn_model.specs.visit.Visits.{Answer, comment, no_memory}
use Rattle.cbor_edn_application.specs.Acts.{AnswersSo}

-- Its message as a comment, unless memory is refused for it; want of memory as such.
abbrev pub AnswersFault : {E : Type 0} → Fault E → (E → List ℕ) → Answer → Type 0
AnswersFault (Memory e) message r = r ≡ no_memory
AnswersFault (Told e) message r = AnswersSo (comment (message e)) r
