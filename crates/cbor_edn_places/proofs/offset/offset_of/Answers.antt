use Rattle.std.proofs.Common.{◌∙◌, ap, sym, subst}
use Rattle.std.specs.Str.{IsUtf8}
use Rattle.std.proofs.lemmas.Str.{IsUtf8-string_bytes}
use Rattle.cbor_edn_core.specs.tree.View.{sequence_tree}
use Rattle.cbor_edn_model.specs.access.Paths.{with_at_sequence}
use Rattle.cbor_edn_model.specs.tree.Trees.{text}
use Rattle.cbor_edn_places.proofs.Offsets.{offset_is}
use Rattle.cbor_edn_places.proofs.offset.offset_of.Goals as goal

pub returns : goal.returns
returns c =
    offset_is (sequence_tree c.args.sequence.now) c.args.path.now c.as_bytes.result.now c.as_bytes-2.result.now c.common_length.result
    (c.as_bytes.ensures.value ∙ c.in_ok-number.ensures ∙ ap (λ x. text (with_at_sequence c.args.path.now x (sequence_tree c.args.sequence.now))) c.in_ok-new_integer_decimal.ensures)
    (c.as_bytes-2.ensures.value ∙ c.in_ok-string.ensures ∙ ap (λ x. text (with_at_sequence c.args.path.now x (sequence_tree c.args.sequence.now))) c.in_ok-new_text.ensures)
    (subst IsUtf8 (sym c.as_bytes.ensures.value) (IsUtf8-string_bytes c.in_ok-number.number))
    c.common_length.ensures
