use Rattle.std.proofs.Common.{ℕ, ◌≡◌, List, refl, sym, ap, subst, ◌∙◌, string_bytes, rules}
use Rattle.cbor_edn_core.specs.tree.View.{item_tree}
use Rattle.cbor_edn_core.proofs.lemmas.visit.SoughtChains.{no_literal_arguments}
use Rattle.cbor_edn_model.specs.access.Accessed.{IsApplicationItem}
use Rattle.cbor_edn_model.specs.visit.Seeking.{CallArguments, prefix_and_text}
use Rattle.cbor_edn_model.specs.tree.Trees.{Tree, OneItem}
use Rattle.cbor_edn_model.specs.visit.Visits.{Answer, fine}
use Rattle.cbor_edn_conversions.specs.Conversions.{Reply}
use Rattle.cbor_edn_conversions.proofs.resolving.Determined.{application_arguments_once}
use Rattle.cbor_edn_application.specs.Acts.{Act, ActsBy}
use Rattle.cbor_edn_application.specs.VisitActs.{literal_act}
use Rattle.cbor_edn_application.proofs.visits.at_literal.Goals as goal

-- an item at which nothing is done stays
idle_acts : (act : Act) (w : Tree OneItem) (a b : CallArguments) → a ≡ b → act b w ≡ (fine, w) → ActsBy act a w fine w
idle_acts act w a b e idle = let is : act a w ≡ (fine, w) = ap (λ a. act a w) e ∙ idle in (sym (ap (λ (p : Reply). p.0) is), sym (ap (λ (p : Reply). p.1) is))

acts_with : (act : Act) (a b : CallArguments) (w : Tree OneItem) (r : Answer) (v : Tree OneItem) → b ≡ a → ActsBy act b w r v → ActsBy act a w r v
acts_with act a b w r v e acts = subst (λ a. ActsBy act a w r v) e acts

pub returns-in_default : goal.returns-in_default
returns-in_default c a is = absurd (no_literal_arguments (item_tree c.args.item.now) c.in_default.ensures.none a is)

pub returns-then-not-is_sought : goal.returns-then-not-is_sought
returns-then-not-is_sought c a is =
    let found = c.in-Some.ensures.found in
    idle_acts (literal_act c.args.act) (item_tree c.args.item.now) a (prefix_and_text c.in-Some.prefix.now found.0) (application_arguments_once (item_tree c.args.item.now) a _ is found.1) (c.if-not-is_sought.ensures refl found.0 (item_tree c.args.item.now))

pub returns-in-Err-Told : goal.returns-in-Err-Told
returns-in-Err-Told c a is =
    let none : (p v : List ℕ) → IsApplicationItem (item_tree c.args.item.now) p v → ⊥ = search rules in
    absurd (no_literal_arguments (item_tree c.args.item.now) none a is)

pub returns : goal.returns
returns c a is =
    let once = application_arguments_once (item_tree c.args.item.now) (prefix_and_text (string_bytes c.in-Ok.literal.0) (string_bytes c.in-Ok.literal.1)) a c.in-Ok.ensures.found is in
    acts_with (literal_act c.args.act) a _ (item_tree c.args.item.now) _ _ once c.act_at.ensures
