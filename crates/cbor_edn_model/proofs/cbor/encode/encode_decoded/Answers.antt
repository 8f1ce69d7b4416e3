use Rattle.std.proofs.lemmas.Result.{err_from_is_err_and}
use Rattle.cbor_edn_parts.specs.Leaves.{literal_bytes}
use Rattle.cbor_edn_parts.proofs.lemmas.string.ContentTexts.{content_unread}
use Rattle.cbor_edn_parts.proofs.lemmas.string.WhereRefused.{told_weaker}
use Rattle.cbor_edn_model.proofs.cbor.encode.encode_decoded.Goals as goal

pub returns-in_err-kind : goal.returns-in_err-kind
returns-in_err-kind c =
    let refused = err_from_is_err_and c.from_residual.result c.from_residual.ensures.1 in
    rw (refused.1, refused.2) (told_weaker c.in_err-kind.field-0.0 _ _ (λ _. content_unread (literal_bytes c.args.literal.now) c.args.literal.now.spelled) c.in_err-kind.ensures.none)
