use Rattle.std.proofs.Common.{subst}
use Rattle.std.specs.String.{string_bytes}
use Rattle.cbor_edn_model.specs.text.Spelling.{SpellsSequence}
use Rattle.cbor_edn_model.specs.tree.Trees.{items}
use Rattle.cbor_edn_core.specs.tree.View.{Sequence, sequence_tree}
use Rattle.cbor_edn_parts.specs.declared.base.nesting.TheConstants.{NESTING_LIMIT}
use Rattle.cbor_edn.proofs.Loading.{of_boxed}
use Rattle.cbor_edn.proofs.RecodedTexts.{text_of_decoded}
use Rattle.cbor_edn.proofs.laws.recode.decoded_text.Goals as goal

pub returns-clause-text : goal.returns-clause-text
returns-clause-text c =
    text_of_decoded NESTING_LIMIT c.args.bytes.now _ (sequence_tree c.in_ok-sequence.sequence.value) (of_boxed _ _ _ c.in_ok-sequence.ensures.ok c.from_cbor.ensures.accepted)
    (subst (λ (x : Sequence). SpellsSequence (items (sequence_tree x)) (string_bytes c.in_ok-laid_out_text.field-0)) c.deref_mut.ensures.value c.in_ok-laid_out_text.ensures)
