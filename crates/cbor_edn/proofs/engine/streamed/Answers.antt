use Rattle.std.proofs.Common.{List, ℕ, ◌++◌, ◌≡◌, sym, ap, ◌∙◌}
use Rattle.cbor_edn_parts.specs.space.Spacing.{indented}
use Rattle.cbor_edn_model.specs.cbor.Value.{Values, EncAll}
use Rattle.cbor_edn_model.specs.layout.Layout.{laid_out}
use Rattle.cbor_edn_model.specs.tree.Trees.{text}
use Rattle.cbor_edn_stream.specs.Tags.{values_have_tag}
use Rattle.cbor_edn.specs.ChangedTags.{tags_changed}
use Rattle.cbor_edn.proofs.Loading.{streamed_as}
use Rattle.cbor_edn.proofs.engine.streamed.Goals as goal

pub returns-clause-ok : goal.returns-clause-ok
returns-clause-ok c =
    let p = c.in_ok-print_cbor.ensures.accepted in
    let o = c.args.options.now in
    let tells : (vs : Values) → EncAll c.args.bytes.now vs → c.in_ok-changed.changed ≡ values_have_tag (tags_changed o.annotate_tags o.bignum_from_tags) vs =
    λ vs enc. c.in_ok-changed.ensures vs enc ∙ ap (λ (l : List ℕ). values_have_tag l vs) c.changed_tags.ensures in
    streamed_as o c.args.bytes.now c.into_bytes.result.items p.0 c.in_ok-changed.changed p.1 tells c.if-changed.false (sym c.change_untagged.ensures ∙ c.if-change_untagged.false) c.into_bytes.ensures.utf8
    (c.into_bytes.ensures.bytes ∙ p.2 ∙ ap (λ (b : List ℕ). b ++ text (laid_out indented p.0)) c.new-out.ensures)
