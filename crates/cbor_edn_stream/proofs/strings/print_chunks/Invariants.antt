use Rattle.std.proofs.Common.{◌≡◌, suc, ◌≤◌, length, None}
use Rattle.cbor_edn_parts.specs.base.Buffer.{buffer_bytes}
use Rattle.cbor_edn_model.specs.declared.cbor.decode.head.Stop.TheVariants.{Break}
use Rattle.cbor_edn_model.specs.tree.Items.{Strings}
use Rattle.cbor_edn_model.specs.internal.CborReading.{until, past_stop}
use Rattle.cbor_edn_stream.specs.Printed.{chunk_entry}
use Rattle.cbor_edn_stream.proofs.lemmas.Loops.{Until}
use Rattle.cbor_edn_stream.proofs.strings.print_chunks.Given as goal

abbrev pub invariant-chunks : goal.invariant-chunks
invariant-chunks l = record {
  read : Until Strings l.layout (chunk_entry l.kind) Break (until Break (chunk_entry l.kind) (suc (length l.bytes)) l.bytes) l.rest (buffer_bytes l.initial.out) (buffer_bytes l.out);
  going : past_stop Break l.rest ≡ None;
  shorter : length l.rest ≤ length l.bytes;
}

abbrev pub decreases-chunks : goal.decreases-chunks
decreases-chunks l = length l.rest
