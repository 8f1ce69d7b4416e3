use Rattle.std.proofs.Common.{◌≡◌, true, sym, ap, ◌∙◌, subst}
use Rattle.cbor_edn_parts.specs.base.LeafTexts.{leaf_bytes}
use Rattle.cbor_edn_parts.specs.Leaves.{list_end_bytes}
use Rattle.cbor_edn_parts.specs.space.Spacing as table
use Rattle.cbor_edn_parts.specs.space.Spacing.{comments_before, comments_after}
use Rattle.cbor_edn_parts.specs.internal.SpaceTokens.{is_list_end}
use Rattle.cbor_edn_parts.proofs.lemmas.space.ColumnKinds.{at_end_column}
use Rattle.cbor_edn_parts.proofs.lemmas.space.Spacings.{spaced_stays}
use Rattle.cbor_edn_parts.proofs.space.ListEnd.spaced.Goals as goal

bytes : (c : goal.In_ok-text) → leaf_bytes c.in_ok-text.text ≡ table.spaced table.AtEnd c.args.spacing (list_end_bytes c.args.self.now)
bytes c =
    let before = c.comments_round_comma.ensures.before ∙ ap comments_before c.as_str.ensures in
    let after = c.comments_round_comma.ensures.after ∙ ap comments_after c.as_str.ensures in
    c.in_ok-text.ensures.bytes ∙ rw (before, after) (at_end_column c.args.spacing (list_end_bytes c.args.self.now))

pub invariant_of-result : goal.invariant_of-result
invariant_of-result c = record { spelled = subst (λ t. is_list_end t ≡ true) (sym (bytes c)) (spaced_stays table.AtEnd c.args.spacing (list_end_bytes c.args.self.now) c.args.self.now.spelled) }
