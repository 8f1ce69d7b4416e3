use Rattle.std.proofs.Common.{sym, ◌∙◌}
use Rattle.cbor_edn_model.proofs.lemmas.cbor.StringEncodes.{no_string}
use Rattle.cbor_edn_model.proofs.cbor.heads.encode_string.Goals as goal

pub returns-then-not-is_content : goal.returns-then-not-is_content
returns-then-not-is_content c = no_string c.args.kind c.args.content.now c.args.indicator (sym c.is_content.ensures ∙ c.if-not-is_content.true)
