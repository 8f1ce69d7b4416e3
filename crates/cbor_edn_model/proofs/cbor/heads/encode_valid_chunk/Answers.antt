use Rattle.std.proofs.Common.{length, Ok, subst}
use Rattle.cbor_edn_model.specs.cbor.Value.{head}
use Rattle.cbor_edn_model.specs.cbor.Meaning.{width_of}
use Rattle.cbor_edn_model.specs.internal.Encoding.{Encodes}
use Rattle.cbor_edn_model.proofs.lemmas.cbor.StringEncodes.{chunk_pushed}
use Rattle.cbor_edn_model.proofs.cbor.heads.encode_valid_chunk.Goals as goal

pub returns : goal.returns
returns c =
    let bs = c.args.content.now in
    chunk_pushed c.args.kind bs c.args.indicator c.args.out.now.items c.encode_indicated_head.new.out.items c.extend_from_slice.new.self.items c.requires
    (subst (λ m. Encodes (λ w. head m w (length bs)) (width_of c.args.indicator (length bs)) c.args.out.now.items c.encode_indicated_head.new.out.items (Ok tt)) c.string_major.ensures.major c.in_ok-encode_indicated_head.ensures)
    c.in_ok-extend_from_slice.ensures.items
