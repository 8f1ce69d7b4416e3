use Rattle.std.proofs.Common.{ap, ◌∙◌}
use Rattle.std.proofs.lemmas.Result.{on_ok_weaker}
use Rattle.cbor_edn_core.specs.tree.View.{item_tree}
use Rattle.cbor_edn_conversions.specs.CoseKeys.{with_key_names}
use Rattle.cbor_edn_application.proofs.CoseKeyCalls.{claims_passed}
use Rattle.cbor_edn_application.proofs.cose.claims.annotate_map.Goals as goal

pub returns : goal.returns
returns c =
    let claims = claims_passed (item_tree c.args.claims.now) (item_tree c.annotate_claims.new.item) c.annotate_claims.result c.in_ok-any_item.ensures c.annotate_claims.ensures.claims c.annotate_claims.ensures.no_map in
    on_ok_weaker c.comment_keys.result (λ done. done ∙ ap with_key_names claims) c.comment_keys.ensures.keys
