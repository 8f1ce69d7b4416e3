-- What is called at a tag leaves no item that nests deeper.
use Rattle.std.proofs.Common.{ℕ, ◌≤◌, Result, MutBor, sym, subst, arith}
use Rattle.std.specs.Fn.{Called}
use Rattle.cbor_edn_parts.specs.declared.base.error.CallbackError.{CallbackError}
use Rattle.cbor_edn_model.specs.visit.Depth.{depth}
use Rattle.cbor_edn_model.specs.visit.Seeking.{CallArguments, number}
use Rattle.cbor_edn_model.specs.tree.Trees.{Tree, OneItem}
use Rattle.cbor_edn_model.specs.visit.Visits.{Answer, fine, comment, no_memory}
use Rattle.cbor_edn_core.specs.visit.Sought.{LeavesNoneDeeper, TagCallback, sought_answer}
use Rattle.cbor_edn_core.specs.tree.View.{Item, item_tree}
use Rattle.cbor_edn_core.proofs.lemmas.visit.SoughtChains.{none_deeper}
use Rattle.cbor_edn_conversions.proofs.nesting.TagDepths.{NoDeeper, times_no_deeper, addresses_no_deeper, bignums_no_deeper, all_no_deeper, languages_no_deeper, comments_no_deeper}
use Rattle.cbor_edn_application.proofs.MessageDepths.{messages_no_deeper}
use Rattle.cbor_edn_application.specs.Acts.{Act, ActsBy}
use Rattle.cbor_edn_application.specs.VisitActs.{tag_act}
use Rattle.cbor_edn_application.specs.declared.visits.TagAct.{TagAct}
use Rattle.cbor_edn_application.specs.declared.visits.TagAct.TheVariants as tag

acts_no_deeper : (t : TagAct) (a : CallArguments) → NoDeeper (tag_act t a)
acts_no_deeper tag.Prettify a = all_no_deeper a
acts_no_deeper tag.Addresses a = addresses_no_deeper a
acts_no_deeper tag.Times a = times_no_deeper a
acts_no_deeper tag.Bignums a = bignums_no_deeper a
acts_no_deeper tag.Languages a = languages_no_deeper a
acts_no_deeper tag.Messages a = messages_no_deeper a
acts_no_deeper (tag.Comment c) a = comments_no_deeper c.now a

left_no_deeper : (act : Act) (a : CallArguments) (w v : Tree OneItem) (r : Answer) → NoDeeper (act a) → ActsBy act a w r v → depth v ≤ depth w
left_no_deeper act a w v fine n h = let l = n w in subst (λ x. depth x ≤ depth w) (sym h.1) l
left_no_deeper act a w v (comment c) n h = let l = n w in subst (λ x. depth x ≤ depth w) (sym h.1) l
left_no_deeper act a w v no_memory n h = subst (λ x. depth x ≤ depth w) (sym h) (omega arith)

-- the acts of a closure, by the one that each of its states calls
pub acts_leave : {F : Type 0} (callback : TagCallback Item F) (act_of : F → TagAct)
    → ((p q : F) (n : ℕ) (x y : MutBor Item) (z : Result (Unit {0}) CallbackError) → Called callback p (n, (x, tt)) (z, (y, tt)) q
    → ActsBy (tag_act (act_of p)) (number n) (item_tree x.now) (sought_answer z) (item_tree y.now))
    → LeavesNoneDeeper item_tree callback
acts_leave callback act_of each = none_deeper item_tree callback
    (λ p q n x y z s. left_no_deeper (tag_act (act_of p)) (number n) (item_tree x.now) (item_tree y.now) (sought_answer z) (acts_no_deeper (act_of p) (number n)) (each p q n x y z s))
