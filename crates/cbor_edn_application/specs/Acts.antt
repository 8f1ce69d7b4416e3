-- Calls at items: what is answered and left by a function of the arguments and of the item before, and what a visit of such calls leaves.
use Rattle.std.specs.Prelude.{◌≡◌, List, All}
use Rattle.cbor_edn_model.specs.visit.Seeking.{CallArguments, SoughtCall, VisitParts}
use Rattle.cbor_edn_model.specs.tree.Trees.{Rule, Tree, OneItem, Standalone, StandaloneTree}
use Rattle.cbor_edn_model.specs.visit.Visits.{Answer, no_memory, Ending, whole, cut}
use Rattle.cbor_edn_conversions.specs.Conversions.{Reply}
use Rattle.cbor_edn_conversions.specs.Resolving.{AnswersBy}

-- what is answered at an item, and left of it, by the arguments and the item before
abbrev pub Act : Type 0
Act = CallArguments → Tree OneItem → Reply

-- An item is answered and left by a function, unless memory was refused; then it is as before.
abbrev pub ActsSo : (Tree OneItem → Reply) → Tree OneItem → Answer → Tree OneItem → Type 0
ActsSo act w no_memory v = v ≡ w
ActsSo act w r v = (r ≡ (act w).0) × (v ≡ (act w).1)

-- the same of an item between spaces, which stay
abbrev pub ActsInside : (Tree OneItem → Reply) → Tree Standalone → Answer → Tree Standalone → Type 0
ActsInside act (StandaloneTree s w t) r v = (x : Tree OneItem) × (v ≡ StandaloneTree s x t) × ActsSo act w r x

-- the same by the arguments too
abbrev pub ActsBy : Act → CallArguments → Tree OneItem → Answer → Tree OneItem → Type 0
ActsBy act a = ActsSo (act a)

-- A visit is cut short at the first call that is refused memory, or whose comment is.
abbrev pub EndsBy : Act → List SoughtCall → Ending → Type 0
EndsBy act cs whole = All (AnswersBy act) cs
EndsBy act cs cut = All (λ c. ActsBy act c.arguments c.before c.answer c.after) cs

-- What a visit with the function leaves of a tree.
abbrev pub IsVisited : (Tree OneItem → CallArguments → Type 0) → Act → {k : Rule} → Tree k → Ending → Tree k → Type 0
IsVisited IsSought act w r v = (cs : List SoughtCall) × EndsBy act cs r × VisitParts IsSought _ w cs v r

-- so it is answered, unless memory was refused
abbrev pub AnswersSo : Answer → Answer → Type 0
AnswersSo a no_memory = Unit {0}
AnswersSo a r = r ≡ a
