use Rattle.cbor_edn_parts.proofs.base.scan.scan.Goals as goal

pub token_end-requires : goal.token_end-requires
token_end-requires g c = record { place = c.requires; here = c.byte-first.ensures.value; behind = c.byte-first.ensures.behind }
