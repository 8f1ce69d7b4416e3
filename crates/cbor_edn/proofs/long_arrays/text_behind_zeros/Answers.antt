use Rattle.cbor_edn_core.specs.tree.View.{item_tree, sequence_tree}
use Rattle.cbor_edn.proofs.LongArrays.{printed_behind_zeros}
use Rattle.cbor_edn.proofs.long_arrays.text_behind_zeros.Goals as goal

pub returns : goal.returns
returns c = printed_behind_zeros item_tree sequence_tree c.args.options.now c.args.elements.items c.in_ok-zeros.field-0.items c.in_ok-items.items.items c.in_ok-array_sequence.field-0 c.in_ok-sequence.sequence.value c.deref_mut.result.now c.set_delimiters.new.self c.deref_mut-2.result.now c.printed.result
    c.requires.tags c.requires.some c.requires.lines c.in_ok-zeros.ensures c.in_ok-items.ensures c.in_ok-array_sequence.ensures c.in_ok-sequence.ensures.ok c.deref_mut.ensures.value c.in_ok-set_delimiters.ensures.laid c.deref_mut-2.ensures.value c.printed.ensures
