use Rattle.std.proofs.Common.{subst}
use Rattle.std.specs.String.{string_bytes}
use Rattle.cbor_edn_model.specs.text.Spelling.{SpellsOne}
use Rattle.cbor_edn_model.specs.tree.Trees.{items}
use Rattle.cbor_edn_core.specs.tree.View.{StandaloneItem, standalone_tree}
use Rattle.cbor_edn_parts.specs.declared.base.nesting.TheConstants.{NESTING_LIMIT}
use Rattle.cbor_edn.proofs.Loading.{of_boxed}
use Rattle.cbor_edn.proofs.RecodedTexts.{text_of_decoded_item}
use Rattle.cbor_edn.proofs.laws.recode.item.decoded_text.Goals as goal

pub returns-clause-text : goal.returns-clause-text
returns-clause-text c =
    text_of_decoded_item NESTING_LIMIT c.args.bytes.now _ (standalone_tree c.in_ok-item.item.value) (of_boxed _ _ _ c.in_ok-item.ensures.ok c.from_cbor.ensures.accepted)
    (subst (λ (x : StandaloneItem). SpellsOne (items (standalone_tree x)) (string_bytes c.in_ok-laid_out_text.field-0)) c.deref_mut.ensures.value c.in_ok-laid_out_text.ensures)
