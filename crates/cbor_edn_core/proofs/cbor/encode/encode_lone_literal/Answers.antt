use Rattle.std.proofs.Common.{refl}
use Rattle.std.proofs.lemmas.Result.{err_from_is_err_and}
use Rattle.cbor_edn_parts.specs.Leaves.{literal_bytes}
use Rattle.cbor_edn_parts.proofs.lemmas.string.ContentTexts.{content_reads, content_unread}
use Rattle.cbor_edn_parts.proofs.lemmas.string.WhereRefused.{told_weaker}
use Rattle.cbor_edn_model.specs.cbor.Meaning.{means}
use Rattle.cbor_edn_model.specs.tree.Items.{LastPiece, Literal}
use Rattle.cbor_edn_model.proofs.lemmas.cbor.StringEncodes.{string_pushed, string_lacks}
use Rattle.cbor_edn_core.proofs.cbor.encode.encode_lone_literal.Goals as goal

pub returns-in-Some : goal.returns-in-Some
unfolding means
returns-in-Some c =
    let read = content_reads (literal_bytes c.args.literal.now) c.in-Some.kind c.in-Some.text.now c.in-Some.ensures.content in
    string_pushed (LastPiece (Literal (literal_bytes c.args.literal.now) c.args.indicator)) c.args.indicator c.in-Some.kind c.in-Some.text.now c.args.out.now.items c.encode_text.new.out.items c.encode_text.result refl read c.encode_text.ensures

pub returns-in_err-kind-in-None : goal.returns-in_err-kind-in-None
unfolding means
returns-in_err-kind-in-None c =
    let refused = err_from_is_err_and c.from_residual.result c.from_residual.ensures.1 in
    let unread = told_weaker c.in_err-kind-in-None.field-0.0 _ _ (λ _. content_unread (literal_bytes c.args.literal.now) c.args.literal.now.spelled) c.in_err-kind-in-None.ensures.none in
    rw (refused.1, refused.2) (string_lacks (LastPiece (Literal (literal_bytes c.args.literal.now) c.args.indicator)) c.args.out.now.items c.args.out.now.items c.in_err-kind-in-None.field-0.0 unread)

pub returns-in_ok-kind-in-None : goal.returns-in_ok-kind-in-None
unfolding means
returns-in_ok-kind-in-None c =
    let read = content_reads (literal_bytes c.args.literal.now) c.in_ok-kind-in-None.kind c.in_ok-kind-in-None.bytes.items c.in_ok-kind-in-None.ensures.content in
    string_pushed (LastPiece (Literal (literal_bytes c.args.literal.now) c.args.indicator)) c.args.indicator c.in_ok-kind-in-None.kind c.in_ok-kind-in-None.bytes.items c.args.out.now.items c.encode_string.new.out.items c.encode_string.result refl read (rw (← c.deref.ensures.value) c.encode_string.ensures)
