use Rattle.std.proofs.lemmas.Result.{on_ok_weaker}
use Rattle.cbor_edn_core.specs.tree.View.{sequence_tree}
use Rattle.cbor_edn.proofs.ShowSteps.{guarded_show_gives}
use Rattle.cbor_edn.proofs.show.take.Goals as goal

pub returns : goal.returns
returns c = on_ok_weaker c.show_bignums.result
    (guarded_show_gives c.args.options.now (sequence_tree c.args.sequence.now) _ _ _ _ _ c.has_tag-tagged.result c.may_have_tag-tagged.result c.has_tag-tagged.ensures c.may_have_tag-tagged.ensures
    c.in_ok-embedded_shown.ensures c.in_ok-annotate_tags.ensures c.in_ok-annotate_claims.ensures c.in_ok-name_messages.ensures) c.show_bignums.ensures
