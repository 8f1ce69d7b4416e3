use Rattle.std.proofs.Common.{◌≡◌, true, sym, ◌∙◌, subst}
use Rattle.cbor_edn_parts.specs.base.LeafTexts.{leaf_bytes}
use Rattle.cbor_edn_parts.specs.Leaves.{space_bytes}
use Rattle.cbor_edn_parts.specs.space.Spacing as table
use Rattle.cbor_edn_parts.specs.internal.SpaceTokens.{is_space}
use Rattle.cbor_edn_parts.proofs.lemmas.space.ColumnKinds.{optional_column}
use Rattle.cbor_edn_parts.proofs.lemmas.space.Spacings.{spaced_stays}
use Rattle.cbor_edn_parts.proofs.space.Space.spaced.Goals as goal

bytes : (c : goal.In_ok-text) → leaf_bytes c.in_ok-text.text ≡ table.spaced table.Optional c.args.spacing (space_bytes c.args.self.now)
bytes c = c.in_ok-text.ensures.bytes ∙ optional_column c.args.spacing (space_bytes c.args.self.now)

pub invariant_of-result : goal.invariant_of-result
invariant_of-result c = record { spelled = subst (λ t. is_space t ≡ true) (sym (bytes c)) (spaced_stays table.Optional c.args.spacing (space_bytes c.args.self.now) c.args.self.now.spelled) }
