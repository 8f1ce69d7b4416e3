use Rattle.std.proofs.Common.{◌≡◌, true, sym, ap, ◌∙◌, subst}
use Rattle.cbor_edn_parts.specs.base.LeafTexts.{leaf_bytes}
use Rattle.cbor_edn_parts.specs.Leaves.{mandatory_bytes}
use Rattle.cbor_edn_parts.specs.space.Spacing as table
use Rattle.cbor_edn_parts.specs.internal.SpaceTokens.{is_mandatory_space}
use Rattle.cbor_edn_parts.proofs.lemmas.space.ColumnKinds.{mandatory_column}
use Rattle.cbor_edn_parts.proofs.lemmas.space.Spacings.{spaced_stays}
use Rattle.cbor_edn_parts.proofs.space.MandatorySpace.spaced.Goals as goal
use Rattle.cbor_edn_parts.proofs.space.MandatorySpace.spaced.Goals.{After-or_space-text}

bytes : (c : goal.After-or_space-text) → leaf_bytes c.or_space-text.result ≡ table.spaced table.Mandatory c.args.spacing (mandatory_bytes c.args.self.now)
bytes c =
    c.or_space-text.ensures
    ∙ ap table.or_space c.in_ok-comments_in_column.ensures.bytes
    ∙ mandatory_column c.args.spacing (mandatory_bytes c.args.self.now)

pub invariant_of-result : goal.invariant_of-result
invariant_of-result c = record { spelled = subst (λ t. is_mandatory_space t ≡ true) (sym (bytes c)) (spaced_stays table.Mandatory c.args.spacing (mandatory_bytes c.args.self.now) c.args.self.now.spelled) }

pub returns-clause-bytes : goal.returns-clause-bytes
returns-clause-bytes c = bytes (goal.at.returns-clause-bytes c).After-or_space-text
