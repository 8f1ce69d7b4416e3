use Rattle.cbor_edn_model.proofs.lemmas.cbor.StringEncodes.{text_content}
use Rattle.cbor_edn_model.proofs.cbor.heads.encode_text.Goals as goal

pub encode_valid_string-requires : goal.encode_valid_string-requires
encode_valid_string-requires c = text_content c.args.kind c.as_bytes.result.now c.as_bytes.ensures.utf8
