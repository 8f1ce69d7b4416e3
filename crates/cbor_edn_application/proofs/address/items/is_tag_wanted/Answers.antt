use Rattle.cbor_edn_parts.proofs.lemmas.string.LiteralPrefixes.{differ}
use Rattle.cbor_edn_application.proofs.AddressCalls.{other_prefix}
use Rattle.cbor_edn_application.proofs.address.items.is_tag_wanted.Goals as goal

pub returns-in_default-clause-other : goal.returns-in_default-clause-other
returns-in_default-clause-other c = λ t. other_prefix c.args.prefix.now t (differ _ _ c.in_default.not-ip) (differ _ _ c.in_default.not-IP)
