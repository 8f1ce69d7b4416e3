use Rattle.std.proofs.lemmas.Result.{on_ok_weaker}
use Rattle.cbor_edn_core.specs.tree.View.{sequence_tree}
use Rattle.cbor_edn.proofs.UntaggedSteps.{guarded_steps_give}
use Rattle.cbor_edn.proofs.option_steps.take.Goals as goal

pub returns : goal.returns
returns c = on_ok_weaker c.tag_literals.result
    (guarded_steps_give c.args.options.now (sequence_tree c.args.sequence.now) _ _ _ _ _ _ c.has_tag_for-tagged.result c.may_have_tag-tagged.result c.has_tag_for-tagged.ensures c.may_have_tag-tagged.ensures
    c.in_ok-annotate_tags.ensures c.in_ok-remove_comments.ensures c.in_ok-resolve_literals.ensures c.in_ok-annotate_claims.ensures c.in_ok-show_bignums.ensures) c.tag_literals.ensures
