use Rattle.std.proofs.Common.{◌≡◌, ◌<◌, drop, None}
use Rattle.std.specs.Prelude.{IfSome}
use Rattle.cbor_edn_parts.specs.internal.ContentReading.{hex_bytes}
use Rattle.cbor_edn_parts.specs.declared.space.SpaceState.TheVariants.{Between}
use Rattle.cbor_edn_parts.proofs.lemmas.string.ByteLoops.{after}
use Rattle.cbor_edn_parts.proofs.string.hexadecimal.decode.Given as goal

abbrev pub invariant-loop-byte : goal.invariant-loop-byte
invariant-loop-byte l = record {
  digit : IfSome l.waiting (λ d. d < 16);
  reads : hex_bytes Between None l.text ≡ after l.bytes.items (hex_bytes l.within l.waiting (drop l.byte-index l.text));
}
