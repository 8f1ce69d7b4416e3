use Rattle.std.proofs.Common.{◌≡◌, length}
use Rattle.cbor_edn_stream.proofs.lemmas.TagBytes.{shows_tag}
use Rattle.cbor_edn_stream.proofs.tags.has_tag_byte.Given as goal

-- none stands in front
abbrev pub invariant-fronts : goal.invariant-fronts
invariant-fronts l = record {
  same : shows_tag l.rest ≡ shows_tag l.bytes;
}

abbrev pub decreases-fronts : goal.decreases-fronts
decreases-fronts l = length l.rest
