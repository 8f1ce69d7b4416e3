use Rattle.std.proofs.Common.{length, ap, ◌∙◌, ◌+◌, ◌-◌, ◌^◌}
use Rattle.std.specs.Prelude.{min}
use Rattle.cbor_edn_parts.specs.Leaves.{separator_bytes}
use Rattle.cbor_edn_parts.specs.space.Spacing.{comments_before, comments_after}
use Rattle.cbor_edn_parts.specs.internal.Columns.{separator_length}
use Rattle.cbor_edn_parts.proofs.lemmas.space.ColumnLengths.{separating_length}
use Rattle.cbor_edn_parts.proofs.space.Separator.spaced_len.Goals as goal

pub returns : goal.returns
returns c =
    let before = c.comments_round_comma.ensures.before ∙ ap comments_before c.as_str.ensures in
    let after = c.comments_round_comma.ensures.after ∙ ap comments_after c.as_str.ensures in
    let both = c.saturating_add.ensures ∙ (λ i. min (length (before i) + length (after i)) (2 ^ 64 - 1)) in
    c.separator_len.ensures ∙ ap (λ n. min (separator_length c.args.spacing n) (2 ^ 64 - 1)) both ∙ separating_length c.args.spacing (separator_bytes c.args.self.now)
