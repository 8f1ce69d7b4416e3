-- Chains of calls at tags and at literals, and what they leave of their closure.
use Rattle.std.proofs.Common.{ℕ, List, ◌++◌, ◌≡◌, ◌≤◌, Result, MutBor, subst, Option, Some, None}
use Rattle.std.specs.Fn.{Called}
use Rattle.cbor_edn_parts.specs.declared.base.error.CallbackError.{CallbackError}
use Rattle.cbor_edn_model.specs.access.Accessed.{tag_number, IsApplicationItem}
use Rattle.cbor_edn_model.specs.visit.Depth.{depth}
use Rattle.cbor_edn_model.specs.visit.Seeking.{CallArguments, IsTag, IsApplication, number, prefix_and_text}
use Rattle.cbor_edn_model.specs.visit.Seeking.{SoughtCall}
use Rattle.cbor_edn_model.specs.tree.Trees.{Tree, OneItem}
use Rattle.cbor_edn_model.specs.visit.Visits.{Chain}
use Rattle.cbor_edn_model.proofs.lemmas.visit.VisitedRows.{Chain-append}
use Rattle.cbor_edn_core.specs.visit.Sought.{TagCallback, LiteralCallback, ItemCallback, IsTagCall, IsLiteralCall, IsItemCall, LeavesNoneDeeper, MayVisitTags, MayVisitLiterals, MayVisitItems}

-- what may be called may be called behind any calls
module _ {T F : Type 0} (look : T → Tree OneItem) where
  pub tags_after : (callback : TagCallback T F) {f g : F} {cs : List SoughtCall} → MayVisitTags look callback f → Chain (IsTagCall look callback) f cs g → MayVisitTags look callback g
  tags_after callback m k = record { at = λ ds h j n x i l. m.at (_ ++ ds) h (Chain-append k j) n x i l }

  pub literals_after : (callback : LiteralCallback T F) {f g : F} {cs : List SoughtCall} → MayVisitLiterals look callback f → Chain (IsLiteralCall look callback) f cs g → MayVisitLiterals look callback g
  literals_after callback m k = record { at = λ ds h j p s x i. m.at (_ ++ ds) h (Chain-append k j) p s x i }

  pub items_after : (callback : ItemCallback T F) {f g : F} {cs : List SoughtCall} → MayVisitItems look callback f → Chain (IsItemCall look callback) f cs g → MayVisitItems look callback g
  items_after callback m k = record { at = λ ds h j a x i. m.at (_ ++ ds) h (Chain-append k j) a x i }

-- calls at tags leave no item that nests deeper, where no call of the closure does
pub none_deeper : {T F : Type 0} (look : T → Tree OneItem) (callback : TagCallback T F)
    → ((f g : F) (n : ℕ) (x y : MutBor T) (r : Result (Unit {0}) CallbackError) → Called callback f (n, (x, tt)) (r, (y, tt)) g → depth (look y.now) ≤ depth (look x.now))
    → LeavesNoneDeeper look callback
none_deeper look callback each f g c is =
    subst (λ w. depth c.after ≤ depth w) is.begins (subst (λ v. depth v ≤ depth (look is.shown.now)) is.leaves (each f g is.tag is.shown is.left is.answer is.called))

some_none : {A : Type 0} {x : A} {o : Option A} → o ≡ Some x → o ≡ None → ⊥
some_none h k = cc

-- an item without a number has no arguments of a call
pub no_arguments : (w : Tree OneItem) → tag_number w ≡ None → (a : CallArguments) → IsTag w a → ⊥
no_arguments w h (number n) k = some_none k h
no_arguments w h (prefix_and_text p v) k = k

pub no_literal_arguments : (w : Tree OneItem) → ((p v : List ℕ) → IsApplicationItem w p v → ⊥) → (a : CallArguments) → IsApplication w a → ⊥
no_literal_arguments w h (number n) k = k
no_literal_arguments w h (prefix_and_text p v) k = h p v k
