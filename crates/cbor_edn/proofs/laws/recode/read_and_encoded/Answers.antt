use Rattle.std.proofs.Common.{sym, subst}
use Rattle.cbor_edn_model.specs.text.Spelling.{SpellsSequence}
use Rattle.cbor_edn_model.specs.tree.Trees.{items}
use Rattle.cbor_edn_core.specs.text.Parsing.{ParsedSequence}
use Rattle.cbor_edn_core.specs.tree.View.{Sequence, sequence_tree}
use Rattle.cbor_edn_parts.specs.declared.base.nesting.TheConstants.{NESTING_LIMIT}
use Rattle.cbor_edn.proofs.Loading.{of_boxed}
use Rattle.cbor_edn.proofs.RecodedTexts.{meant_by_text}
use Rattle.cbor_edn.proofs.laws.recode.read_and_encoded.Goals as goal

pub to_cbor-requires : goal.to_cbor-requires
to_cbor-requires c =
    let read : ParsedSequence NESTING_LIMIT c.args.text.now c.in-Ok.sequence.value = of_boxed _ _ _ c.in-Ok.ensures.ok c.parse.ensures.parsed in
    meant_by_text NESTING_LIMIT c.requires.0 c.args.text.now (items (sequence_tree c.deref.result.now)) c.requires.1
    (subst (λ (x : Sequence). SpellsSequence (items (sequence_tree x)) c.args.text.now) (sym c.deref.ensures) read.accepted.spelled)
