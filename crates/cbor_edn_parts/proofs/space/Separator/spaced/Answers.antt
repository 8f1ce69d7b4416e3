use Rattle.std.proofs.Common.{◌≡◌, true, sym, ap, ◌∙◌, subst}
use Rattle.cbor_edn_parts.specs.Leaves.{separator_bytes}
use Rattle.cbor_edn_parts.specs.space.Spacing as table
use Rattle.cbor_edn_parts.specs.internal.SpaceTokens.{is_separator}
use Rattle.cbor_edn_parts.proofs.lemmas.space.Spacings.{spaced_stays}
use Rattle.cbor_edn_parts.proofs.space.Separator.spaced.Goals as goal

pub invariant_of-result : goal.invariant_of-result
invariant_of-result c = record {
  spelled = subst (λ t. is_separator t ≡ true) (sym (c.in_ok-text.ensures.bytes ∙ ap (table.spaced table.Separating c.args.spacing) c.as_str.ensures))
      (spaced_stays table.Separating c.args.spacing (separator_bytes c.args.self.now) c.args.self.now.spelled);
}
