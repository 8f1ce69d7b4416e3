use Rattle.std.proofs.Common.{length, ap, ◌∙◌, ◌+◌, ◌-◌, ◌^◌}
use Rattle.std.specs.Prelude.{min}
use Rattle.cbor_edn_parts.specs.Leaves.{list_end_bytes}
use Rattle.cbor_edn_parts.specs.space.Spacing.{comments_before, comments_after}
use Rattle.cbor_edn_parts.specs.internal.Columns.{column_length}
use Rattle.cbor_edn_parts.proofs.lemmas.space.ColumnLengths.{at_end_length}
use Rattle.cbor_edn_parts.proofs.space.ListEnd.spaced_len.Goals as goal

pub returns : goal.returns
returns c =
    let before = c.comments_round_comma.ensures.before ∙ ap comments_before c.as_str.ensures in
    let after = c.comments_round_comma.ensures.after ∙ ap comments_after c.as_str.ensures in
    let both = c.saturating_add.ensures ∙ (λ i. min (length (before i) + length (after i)) (2 ^ 64 - 1)) in
    c.column_len.ensures ∙ ap (λ n. min (column_length c.args.spacing n) (2 ^ 64 - 1)) both ∙ at_end_length c.args.spacing (list_end_bytes c.args.self.now)
