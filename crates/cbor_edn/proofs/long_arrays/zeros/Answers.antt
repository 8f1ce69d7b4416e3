use Rattle.std.proofs.Common.{◌≡◌, ◌++◌, ◌∷◌, [], List, ap, ◌∙◌, arith}
use Rattle.std.specs.Prelude.{replicate}
use Rattle.std.proofs.lemmas.List.{replicate_more}
use Rattle.cbor_edn_model.specs.tree.Trees.{Tree, OneItem}
use Rattle.cbor_edn_core.specs.tree.View.{item_tree}
use Rattle.cbor_edn.specs.Elements.{zero_item}
use Rattle.cbor_edn.proofs.ElementTexts.{items_pushed}
use Rattle.cbor_edn.proofs.long_arrays.zeros.Goals as goal

pub loop-preserved : goal.loop-preserved
loop-preserved c =
    items_pushed item_tree c.loop.items.items c.push.new.self.items c.in_ok-new_integer_decimal.field-0 c.in_ok-push.ensures.items c.in_ok-new_integer_decimal.ensures
    ∙ ap (λ (ws : List (Tree OneItem)). ws ++ zero_item ∷ []) c.loop.invariant
    ∙ replicate_more c.loop.counter zero_item

pub returns : goal.returns
returns c = let all : c.loop.counter ≡ 80 = omega (arith, c.loop-test.false, c.loop.auto.counter-end) in c.loop.invariant ∙ ap (λ n. replicate n zero_item) all
