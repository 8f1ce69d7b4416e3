use Rattle.std.proofs.Common.{rules, arith, ◌≡◌, ◌+◌, suc, true, false, refl, subst, ap, ◌∙◌}
use Rattle.cbor_edn_core.specs.tree.View.{sequence_tree}
use Rattle.cbor_edn_conversions.specs.CoseKeys.{with_key_names}
use Rattle.cbor_edn_application.specs.Sequences.{IsChangedAt}
use Rattle.cbor_edn_application.proofs.KeyNames.{with_first_names, names_first, names_next, names_last}
use Rattle.cbor_edn_application.proofs.key_names.comment_claims_keys.Goals as goal

pub loop-index-init : goal.loop-index-init
loop-index-init c = (names_first (sequence_tree c.args.sequence.now), refl)

pub returns-then-not-branch-clause-keys : goal.returns-then-not-branch-clause-keys
returns-then-not-branch-clause-keys c =
    let before = sequence_tree c.loop-index.sequence in
    let after = sequence_tree c.comment_at.new.sequence in
    let none : c.in_ok-comment_at.field-0 ≡ false = search rules in
    names_last c.loop-index.index (sequence_tree c.args.sequence.now) before after c.loop-index.invariant.0 (subst (λ b. IsChangedAt with_key_names c.loop-index.index b before after) none c.in_ok-comment_at.ensures.keys)

pub loop-index-preserved : goal.loop-index-preserved
loop-index-preserved c =
    let first = sequence_tree c.args.sequence.now in
    let before = sequence_tree c.loop-index.sequence in
    let after = sequence_tree c.comment_at.new.sequence in
    let there : c.in_ok-comment_at.field-0 ≡ true = search rules in
    let next : suc c.loop-index.index ≡ c.loop-index.index + 1 = omega arith in (
      names_next c.loop-index.index first before after c.loop-index.invariant.0 (subst (λ b. IsChangedAt with_key_names c.loop-index.index b before after) there c.in_ok-comment_at.ensures.keys)
          ∙ ap (λ n. with_first_names n first) next,
      c.comment_at.ensures.items ∙ c.loop-index.invariant.1,
    )
