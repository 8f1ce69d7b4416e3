use Rattle.std.proofs.Common.{rules, arith, ◌≡◌, ◌+◌, suc, true, false, subst, ap, ◌∙◌}
use Rattle.cbor_edn_core.specs.tree.View.{sequence_tree}
use Rattle.cbor_edn_application.specs.Sequences.{IsAnnotatedAt, with_first_claims_sets, between}
use Rattle.cbor_edn_application.proofs.ClaimsSets.{claims_first, claims_next, claims_last, claims_begun, err_holds}
use Rattle.cbor_edn_application.proofs.claims_sets.annotate_claims_sets.Goals as goal

pub loop-index-init : goal.loop-index-init
loop-index-init c = claims_first (sequence_tree c.args.sequence.now)

pub returns-then-not-branch-clause-annotated : goal.returns-then-not-branch-clause-annotated
returns-then-not-branch-clause-annotated c =
    let before = sequence_tree c.loop-index.sequence in
    let after = sequence_tree c.annotate_at.new.sequence in
    let none : c.in_ok-annotate_at.field-0 ≡ false = search rules in
    claims_last c.loop-index.index (sequence_tree c.args.sequence.now) before after c.loop-index.invariant (subst (λ b. IsAnnotatedAt c.loop-index.index b before after) none c.in_ok-annotate_at.ensures.annotated)

pub returns-in_err-annotate_at-clause-out_of_memory : goal.returns-in_err-annotate_at-clause-out_of_memory
returns-in_err-annotate_at-clause-out_of_memory c =
    err_holds c.from_residual.result (claims_begun c.loop-index.index (sequence_tree c.args.sequence.now) (sequence_tree c.loop-index.sequence) (sequence_tree c.annotate_at.new.sequence) c.loop-index.invariant c.in_err-annotate_at.ensures.out_of_memory)

pub returns-clause-out_of_memory : goal.returns-clause-out_of_memory
returns-clause-out_of_memory c = between c.loop-index.index c.loop-index.invariant

pub loop-index-preserved : goal.loop-index-preserved
loop-index-preserved c =
    let first = sequence_tree c.args.sequence.now in
    let before = sequence_tree c.loop-index.sequence in
    let after = sequence_tree c.annotate_at.new.sequence in
    let there : c.in_ok-annotate_at.field-0 ≡ true = search rules in
    let next : suc c.loop-index.index ≡ c.loop-index.index + 1 = omega arith in
    claims_next c.loop-index.index first before after c.loop-index.invariant (subst (λ b. IsAnnotatedAt c.loop-index.index b before after) there c.in_ok-annotate_at.ensures.annotated)
    ∙ ap (λ n. with_first_claims_sets n first) next
