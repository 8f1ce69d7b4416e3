use Rattle.std.proofs.Common.{◌≡◌, ◌+◌, ◌<◌, length, ap, ◌∙◌, arith}
use Rattle.std.proofs.lemmas.List.{length_push}
use Rattle.cbor_edn_core.specs.tree.View.{item_tree}
use Rattle.cbor_edn.proofs.ElementTexts.{read_pushed}
use Rattle.cbor_edn.proofs.elements.front_items.Goals as goal

pub items-preserved : goal.items-preserved
items-preserved c =
    let longer : length c.push.new.self.items ≡ length c.items.items.items + 1 = ap length c.in_ok-push.ensures.items ∙ length_push _ _ in
    let count : c.len.result ≡ length c.items.items.items = grind arith in
    let less : c.len.result < c.args.most = (c.goes_on.ensures.some c.items-test.true).1 in
    record {
      read = read_pushed item_tree c.args.limit c.args.bytes.now c.items.rest.now c.in_ok-item.behind.now c.items.items.items c.push.new.self.items c.in_ok-item.item c.in_ok-push.ensures.items c.items.invariant.read c.in_ok-item.ensures.value c.in_ok-item.ensures.shorter;
      left = omega (arith, c.in_ok-item.ensures.shorter, c.items.invariant.left);
      most = omega (arith, longer, count, less);
      moved = λ some. omega (arith, c.in_ok-item.ensures.shorter, c.items.invariant.left);
    }
