use Rattle.std.proofs.Common.{◌≡◌, ◌^◌, ◌<◌, drop}
use Rattle.cbor_edn_parts.specs.internal.Alphabets.{alphabet}
use Rattle.cbor_edn_parts.specs.internal.ContentReading.{base_bytes}
use Rattle.cbor_edn_parts.proofs.lemmas.string.ByteLoops.{after}
use Rattle.cbor_edn_parts.proofs.string.base.Alphabet.decode.Given as goal

abbrev pub invariant-loop-byte : goal.invariant-loop-byte
invariant-loop-byte l = record {
  few : l.count < 8;
  below : l.number < 2 ^ l.count;
  reads : base_bytes (alphabet l.self) 0 0 l.text ≡ after l.bytes.items (base_bytes (alphabet l.self) l.count l.number (drop l.byte-index l.text));
}
