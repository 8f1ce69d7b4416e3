use Rattle.std.proofs.Common.{Bool, length}
use Rattle.cbor_edn_stream.proofs.lemmas.Heads.{Meets}
use Rattle.cbor_edn_stream.proofs.tags.has_tag_of.Given as goal

-- what is met from the start on is met from there on
abbrev pub invariant-heads : goal.invariant-heads
invariant-heads l = record {
  met : (b : Bool) → Meets l.numbers l.bytes b → Meets l.numbers l.rest b;
}

abbrev pub decreases-heads : goal.decreases-heads
decreases-heads l = length l.rest
