use Rattle.std.proofs.Common.{◌≡◌, ◌++◌, List, ℕ, length, map, ap, ◌∙◌, arith}
use Rattle.cbor_edn_core.specs.tree.View.{item_tree}
use Rattle.cbor_edn.specs.LongArrays.{cut}
use Rattle.cbor_edn.proofs.LongArrays.{long_enough, text_at_end}
use Rattle.cbor_edn.proofs.long_arrays.push_last.Goals as goal

pub cut-requires : goal.cut-requires
cut-requires c = let h = long_enough c.args.options.now (map item_tree c.args.elements.items) c.in_ok-text.text.items c.in_ok-text.ensures in let same : length c.deref.result.now ≡ length c.in_ok-text.text.items = ap length c.deref.ensures.value in omega (arith, h, same)

pub returns : goal.returns
returns c =
    let left : c.cut.result.now ≡ cut 1 c.in_ok-text.text.items = c.cut.ensures ∙ ap (cut 1) c.deref.ensures.value in (
      cut 1 c.in_ok-text.text.items,
      text_at_end c.args.options.now (map item_tree c.args.elements.items) c.in_ok-text.text.items c.in_ok-text.ensures,
      c.in_ok-extend_from_slice.ensures.items ∙ ap (λ (l : List ℕ). c.args.out.now.items ++ l) left,
    )
