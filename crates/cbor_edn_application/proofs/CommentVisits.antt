-- Visits of tags whose calls put comments.
use Rattle.std.proofs.Common.{ℕ, ◌≤◌, ◌≡◌, List, Result, Ok, Err, MutBor, refl, sym, ap, subst, arith}
use Rattle.std.specs.Fn.{Called}
use Rattle.std.specs.Prelude.{OnOk}
use Rattle.cbor_edn_parts.specs.declared.base.error.CallbackError.{CallbackError}
use Rattle.cbor_edn_model.specs.visit.Depth.{depth}
use Rattle.cbor_edn_model.specs.visit.Seeking.{CallArguments, IsTag, SoughtCall, number, VisitParts}
use Rattle.cbor_edn_model.specs.tree.Trees.{Rule, Tree, OneItem, items}
use Rattle.cbor_edn_model.specs.visit.Visits.{Answer, Ending, whole, Chain}
use Rattle.cbor_edn_core.specs.visit.Callbacks.{ending}
use Rattle.cbor_edn_core.specs.visit.Sought.{IsTagCall, TagCallback, LeavesNoneDeeper, sought_answer}
use Rattle.cbor_edn_core.specs.tree.View.{Item, item_tree}
use Rattle.cbor_edn_core.proofs.lemmas.visit.SoughtChains.{none_deeper}
use Rattle.cbor_edn_conversions.proofs.resolving.OnItems.{item_depth}
use Rattle.cbor_edn_conversions.specs.Resolving.{AnswersBy}
use Rattle.cbor_edn_conversions.specs.VisitedItems.{node_depth}
use Rattle.cbor_edn_application.specs.Acts.{Act, IsVisited}
use Rattle.cbor_edn_application.specs.Comments.{CommentsBy}
use Rattle.cbor_edn_application.proofs.MapVisits.{value_is, value_answer}
use Rattle.cbor_edn_application.proofs.Unmoved.{Unmoved, parts_unmoved}
use Rattle.cbor_edn_application.proofs.VisitChains.{HadMemory, chain_all, parts_whole}

-- what holds of a whole visit
pub on_whole : {X E : Type 0} (r : Result X E) (N : Type 0) → (ending r ≡ whole → N) → OnOk r N
on_whole (Ok x) N each = each refl
on_whole (Err e) N each = tt

pub items_depth : (w v : Tree OneItem) → items v ≡ items w → depth v ≤ depth w
items_depth w v same = let a = item_depth v in let b = item_depth w in let e = ap node_depth same in omega (arith, a, b, e)

module _ (act : Act) (leaves : (a : CallArguments) (w : Tree OneItem) → items (act a w).1 ≡ items w) where
  -- the call put comments
  abbrev Commented : SoughtCall → Type 0
  Commented c = CommentsBy act c.arguments c.before c.answer c.after

  said : (c : SoughtCall) → HadMemory c → Commented c → AnswersBy act c
  said c had h = value_is (act c.arguments) c.before c.after c.answer had h

  unmoved : (c : SoughtCall) → Commented c → Unmoved c
  unmoved c h = value_answer (act c.arguments) (leaves c.arguments) c.before c.after c.answer h

  same_call : (a b : CallArguments) (w x : Tree OneItem) (r q : Answer) (v y : Tree OneItem) → a ≡ b → w ≡ x → r ≡ q → v ≡ y → CommentsBy act a w r v → CommentsBy act b x q y
  same_call a b w x r q v y e f g h h' =
      let P : CallArguments → Type 0 = λ t. CommentsBy act t x q y in subst P e (subst (λ t. CommentsBy act a t q y) f (subst (λ t. CommentsBy act a w t y) g (subst (λ t. CommentsBy act a w r t) h h')))

  module _ {F : Type 0} (callback : TagCallback Item F)
      (each : (p q : F) (n : ℕ) (x y : MutBor Item) (z : Result (Unit {0}) CallbackError) → Called callback p (n, (x, tt)) (z, (y, tt)) q
      → CommentsBy act (number n) (item_tree x.now) (sought_answer z) (item_tree y.now)) where
    one_call : (p q : F) (c : SoughtCall) → Unit {0} → IsTagCall item_tree callback p c q → Commented c × Unit {0}
    one_call p q c _ s = (same_call _ _ _ _ _ _ _ _ (sym s.arguments) s.begins s.answers s.leaves (each p q s.tag s.shown s.left s.answer s.called), tt)

    unmoved_call : (p q : F) (c : SoughtCall) → Unit {0} → IsTagCall item_tree callback p c q → Unmoved c × Unit {0}
    unmoved_call p q c _ s = (unmoved c (one_call p q c tt s).0, tt)

    pub comments_no_deeper : LeavesNoneDeeper item_tree callback
    comments_no_deeper = none_deeper item_tree callback
        (λ p q n x y z s. items_depth (item_tree x.now) (item_tree y.now) (value_answer (act (number n)) (leaves (number n)) (item_tree x.now) (item_tree y.now) (sought_answer z) (each p q n x y z s)))

    module _ (k : Rule) (w v : Tree k) (f g : F) (r : Ending) (h : (cs : List SoughtCall) × Chain (IsTagCall item_tree callback) f cs g × VisitParts IsTag k w cs v r) where
      pub comments_kept : items v ≡ items w
      comments_kept = parts_unmoved IsTag h.2 (chain_all (IsTagCall item_tree callback) (λ _. Unit {0}) Unmoved unmoved_call h.1 tt)

      pub comments_whole : r ≡ whole → IsVisited IsTag act w whole v
      comments_whole is = (
        h.0,
        parts_whole IsTag act Commented said h.2 is (chain_all (IsTagCall item_tree callback) (λ _. Unit {0}) Commented one_call h.1 tt),
        subst (λ r. VisitParts IsTag k w h.0 v r) is h.2,
      )
