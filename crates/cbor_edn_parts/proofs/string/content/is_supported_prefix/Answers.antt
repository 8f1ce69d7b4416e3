use Rattle.cbor_edn_parts.proofs.lemmas.string.LiteralPrefixes.{differ}
use Rattle.cbor_edn_parts.proofs.string.content.is_supported_prefix.Goals as goal

pub returns-in_default : goal.returns-in_default
returns-in_default c =
    rw (differ _ _ c.in_default.not-empty, differ _ _ c.in_default.not-h, differ _ _ c.in_default.not-b64, differ _ _ c.in_default.not-b32, differ _ _ c.in_default.not-h32)
