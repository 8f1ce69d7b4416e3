-- A callback by a function that leaves no item that nests deeper.
use Rattle.std.proofs.Common.{◌≤◌, ℕ, Result, MutBor, sym, subst, arith}
use Rattle.std.specs.Fn.{Called}
use Rattle.cbor_edn.specs.CallbackError.{CallbackError}
use Rattle.cbor_edn.specs.Trees.{Tree, OneItem}
use Rattle.cbor_edn.specs.Depth.{depth}
use Rattle.cbor_edn.specs.Seeking.{CallArguments, number}
use Rattle.cbor_edn.specs.Visits.{Answer, fine, comment, no_memory}
use Rattle.cbor_edn.specs.Sought.{LeavesNoneDeeper, TagCallback, sought_answer}
use Rattle.cbor_edn.specs.View.{Item, item_tree}
use Rattle.cbor_edn.proofs.SoughtChains.{none_deeper}
use Rattle.cbor_edn.proofs.TagDepths.{NoDeeper}
use Rattle.cbor_edn.specs.Acts.{Act, ActsBy}

module _ (act : Act) (no_deeper : (a : CallArguments) → NoDeeper (act a)) where
  left_no_deeper : (a : CallArguments) (w v : Tree OneItem) (r : Answer) → ActsBy act a w r v → depth v ≤ depth w
  left_no_deeper a w v fine h = let l = no_deeper a w in subst (λ x. depth x ≤ depth w) (sym h.1) l
  left_no_deeper a w v (comment c) h = let l = no_deeper a w in subst (λ x. depth x ≤ depth w) (sym h.1) l
  left_no_deeper a w v no_memory h = subst (λ x. depth x ≤ depth w) (sym h) (omega arith)

  pub act_leaves : {F : Type 0} (callback : TagCallback Item F)
      → ((p q : F) (n : ℕ) (x y : MutBor Item) (z : Result (Unit {0}) CallbackError) → Called callback p (n, (x, tt)) (z, (y, tt)) q
      → ActsBy act (number n) (item_tree x.now) (sought_answer z) (item_tree y.now))
      → LeavesNoneDeeper item_tree callback
  act_leaves callback each = none_deeper item_tree callback (λ p q n x y z s. left_no_deeper (number n) (item_tree x.now) (item_tree y.now) (sought_answer z) (each p q n x y z s))
