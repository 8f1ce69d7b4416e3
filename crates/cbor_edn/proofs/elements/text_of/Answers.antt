use Rattle.cbor_edn_core.specs.tree.View.{item_tree, sequence_tree}
use Rattle.std.proofs.Common.{◌≡◌, length, ap, arith}
use Rattle.std.specs.Prelude.{nat_lt}
use Rattle.cbor_edn.proofs.ElementTexts.{text_given}
use Rattle.cbor_edn.proofs.elements.text_of.Goals as goal

pub returns : goal.returns
returns c =
    let count : c.len-several.result ≡ length c.args.items.items = grind arith in
    text_given item_tree sequence_tree c.args.options.now c.args.items.items (nat_lt 1 c.len-several.result) c.in_ok-sequence_of.field-0 c.in_ok-sequence.sequence.value c.deref_mut.result.now c.lay_separators.new.sequence c.deref_mut-2.result.now c.printed.result
    c.requires (ap (nat_lt 1) count) c.in_ok-sequence_of.ensures c.in_ok-sequence.ensures.ok c.deref_mut.ensures.value c.in_ok-lay_separators.ensures c.deref_mut-2.ensures.value c.printed.ensures
