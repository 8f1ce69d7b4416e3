use Rattle.std.proofs.Common.{◌≡◌, ℕ, suc, ◌≤◌, ◌<◌, length, map}
use Rattle.cbor_edn_model.specs.declared.cbor.decode.head.Stop.TheVariants.{Break}
use Rattle.cbor_edn_core.specs.tree.View.{view_string}
use Rattle.cbor_edn_model.specs.tree.TreeLeaves.{texts}
use Rattle.cbor_edn_core.specs.internal.RowBuilder.{grown}
use Rattle.cbor_edn_model.specs.internal.CborReading.{until}
use Rattle.cbor_edn_model.proofs.lemmas.cbor.CborStrings.{one}
use Rattle.cbor_edn_model.proofs.lemmas.cbor.CborTurns.{with_front}
use Rattle.cbor_edn_core.proofs.cbor.decode.strings.decode_chunks_until.Given as goal

abbrev pub invariant-turns : goal.invariant-turns
invariant-turns l = record {
  read : (n : ℕ) × (length l.rest < n) × (with_front (map (view_string texts) (grown l.found)) (until Break (one l.kind) n l.rest) ≡ until Break (one l.kind) (suc (length l.bytes)) l.bytes);
  shorter : length l.rest ≤ length l.bytes;
}

abbrev pub decreases-turns : goal.decreases-turns
decreases-turns l = length l.rest
