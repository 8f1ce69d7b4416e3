use Rattle.std.proofs.Common.{ℕ, ◌≡◌, ◌-◌, List, length, map, take, ap, subst, ◌∙◌, arith}
use Rattle.cbor_edn_model.specs.tree.Trees.{Tree, OneItem}
use Rattle.cbor_edn_core.specs.tree.View.{item_tree}
use Rattle.cbor_edn.specs.Elements.{zero_text, IsTextOf}
use Rattle.cbor_edn.proofs.ElementTexts.{lines_pushed, text_in_front}
use Rattle.cbor_edn.proofs.elements.text_in_front.Goals as goal

pub text_of-requires : goal.text_of-requires
text_of-requires c = lines_pushed (map item_tree c.args.items.items) _ c.requires c.in_ok-items.ensures

pub returns : goal.returns
returns c =
    let o = c.args.options.now in
    let out = c.in_ok-text.text.items in
    let left : c.saturating_sub.result ≡ length out - length (zero_text o.preserve_space) = grind arith in
    text_in_front o (map item_tree c.args.items.items) out c.truncate.new.self.items (subst (λ (l : List (Tree OneItem)). IsTextOf o l out) c.in_ok-items.ensures c.in_ok-text.ensures)
    (c.truncate.ensures.items ∙ ap (λ (n : ℕ). take n out) left)
