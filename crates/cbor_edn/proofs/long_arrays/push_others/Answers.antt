use Rattle.std.proofs.Common.{◌≡◌, ◌++◌, List, ℕ, length, map, ap, subst, ◌∙◌, arith}
use Rattle.cbor_edn_model.specs.tree.Trees.{Tree, OneItem}
use Rattle.cbor_edn_core.specs.tree.View.{item_tree}
use Rattle.cbor_edn.specs.LongArrays.{IsTextBehindZeros, cut}
use Rattle.cbor_edn.proofs.ElementTexts.{lines_pushed}
use Rattle.cbor_edn.proofs.LongArrays.{long_for_others, text_within}
use Rattle.cbor_edn.proofs.long_arrays.push_others.Goals as goal

pub text_behind_zeros-requires-clause-lines : goal.text_behind_zeros-requires-clause-lines
text_behind_zeros-requires-clause-lines c = lines_pushed (map item_tree c.args.elements.items) _ c.requires.lines c.in_ok-with_zero.ensures

pub cut-requires : goal.cut-requires
cut-requires c =
    let text = subst (λ (ws : List (Tree OneItem)). IsTextBehindZeros c.args.options.now ws c.in_ok-text.text.items) c.in_ok-with_zero.ensures c.in_ok-text.ensures in
    let h = long_for_others c.args.options.now (map item_tree c.args.elements.items) c.in_ok-text.text.items text in
    let same : length c.deref.result.now ≡ length c.in_ok-text.text.items = ap length c.deref.ensures.value in
    omega (arith, h, same)

pub returns : goal.returns
returns c =
    let text = subst (λ (ws : List (Tree OneItem)). IsTextBehindZeros c.args.options.now ws c.in_ok-text.text.items) c.in_ok-with_zero.ensures c.in_ok-text.ensures in
    let left : c.cut.result.now ≡ cut 4 c.in_ok-text.text.items = c.cut.ensures ∙ ap (cut 4) c.deref.ensures.value in (
      cut 4 c.in_ok-text.text.items,
      text_within c.args.options.now (map item_tree c.args.elements.items) c.in_ok-text.text.items text,
      c.in_ok-extend_from_slice.ensures.items ∙ ap (λ (l : List ℕ). c.args.out.now.items ++ l) left,
    )
