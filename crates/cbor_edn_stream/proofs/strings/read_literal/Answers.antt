use Rattle.std.proofs.Common.{◌≡◌, false, take, ap, refl, sym, ◌∙◌}
use Rattle.std.specs.Str.{is_utf8}
use Rattle.std.proofs.lemmas.Str.{is_utf8-from_IsUtf8}
use Rattle.cbor_edn_parts.specs.string.Contents.{kind_literal}
use Rattle.cbor_edn_parts.specs.declared.string.StringKind.TheVariants.{Bytes, Text}
use Rattle.cbor_edn_model.specs.internal.CborReading.{shown}
use Rattle.cbor_edn_model.proofs.lemmas.cbor.CborStrings.{missing, invalid, literal_read, not_utf8}
use Rattle.cbor_edn_stream.proofs.strings.read_literal.Goals as goal
use Rattle.cbor_edn_stream.proofs.strings.read_literal.Goals.{in-Bytes+in_ok-literal-in-Bytes, in-Text+in-Ok+in_ok-literal-in-Ok}

pub returns-then-bytes-count-clause-value : goal.returns-then-bytes-count-clause-value
returns-then-bytes-count-clause-value c = ap (shown (kind_literal c.args.kind)) (missing c.args.kind c.args.count c.args.bytes.now c.if-bytes-count.true)

pub returns-in-Err-clause-value : goal.returns-in-Err-clause-value
returns-in-Err-clause-value c =
    let none : is_utf8 (take c.args.count c.args.bytes.now) ≡ false = ap is_utf8 (sym c.split_at.ensures.front) ∙ not_utf8 c.split_at.result.0.now c.in-Err.ensures.cases.0 in
    rw c.in-Text.is (ap (shown (kind_literal Text)) (invalid Text c.args.count c.args.bytes.now c.if-bytes-count.false none))

pub returns-clause-value : goal.returns-clause-value
returns-clause-value c =
    elim c.match-kind.branch [
      | in-Bytes+in_ok-literal-in-Bytes w ↦ rw (w.literal-is, w.in-Bytes.is) (literal_read Bytes c.args.count c.args.bytes.now c.split_at.result.0.now c.split_at.result.1.now _ c.if-bytes-count.false c.split_at.ensures.front c.split_at.ensures.back refl w.in_ok-literal-in-Bytes.ensures)
      | in-Text+in-Ok+in_ok-literal-in-Ok w ↦ rw (w.literal-is, w.in-Text.is) (literal_read Text c.args.count c.args.bytes.now c.split_at.result.0.now c.split_at.result.1.now _ c.if-bytes-count.false c.split_at.ensures.front c.split_at.ensures.back
          (is_utf8-from_IsUtf8 _ w.in-Ok.ensures.cases.1) (w.in_ok-literal-in-Ok.ensures ∙ ap (kind_literal Text) w.in-Ok.ensures.cases.0))
    ]
