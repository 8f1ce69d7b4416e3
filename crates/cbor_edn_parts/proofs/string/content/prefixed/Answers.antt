use Rattle.cbor_edn_parts.proofs.lemmas.string.LiteralPrefixes.{differ}
use Rattle.cbor_edn_parts.proofs.string.content.prefixed.Goals as goal

pub returns-in_default-clause-none : goal.returns-in_default-clause-none
returns-in_default-clause-none c = rw (differ _ _ c.in_default.not-h, differ _ _ c.in_default.not-b64, differ _ _ c.in_default.not-b32, differ _ _ c.in_default.not-h32)

pub returns-in_default-clause-told : goal.returns-in_default-clause-told
returns-in_default-clause-told c = rw (differ _ _ c.in_default.not-h, differ _ _ c.in_default.not-b64, differ _ _ c.in_default.not-b32, differ _ _ c.in_default.not-h32)
