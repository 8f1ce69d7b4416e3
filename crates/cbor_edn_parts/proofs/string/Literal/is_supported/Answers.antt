use Rattle.std.proofs.Common.{ap, ◌∙◌}
use Rattle.cbor_edn_parts.specs.internal.ContentReading.{is_supported_prefix}
use Rattle.cbor_edn_parts.proofs.lemmas.string.ContentTexts.{supported_by}
use Rattle.cbor_edn_parts.proofs.string.Literal.is_supported.Goals as goal

pub returns : goal.returns
returns c = supported_by _ c.args.self.now.spelled _ (c.is_supported_prefix.ensures ∙ ap is_supported_prefix c.prefix.ensures)
