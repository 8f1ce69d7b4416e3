use Rattle.std.proofs.Common.{◌<◌, [], suc, length, sym, arith}
use Rattle.std.proofs.lemmas.List.{append-nil}
use Rattle.std.proofs.lemmas.Result.{err_from_is_err_and}
use Rattle.cbor_edn_parts.specs.base.Buffer.{buffer_bytes}
use Rattle.cbor_edn_model.specs.declared.cbor.decode.head.Stop.TheVariants.{Break}
use Rattle.cbor_edn_model.specs.tree.Items.{Strings}
use Rattle.cbor_edn_model.specs.internal.CborReading.{until}
use Rattle.cbor_edn_model.proofs.lemmas.cbor.CborTurns.{until_fails}
use Rattle.cbor_edn_stream.specs.Printed.{chunk_entry}
use Rattle.cbor_edn_stream.proofs.lemmas.Loops.{until_on, until_last}
use Rattle.cbor_edn_stream.proofs.lemmas.Turns.{front_none}
use Rattle.cbor_edn_stream.proofs.strings.print_chunks.Goals as goal

pub chunks-init : goal.chunks-init
chunks-init c =
    record { read = ([], suc (length c.args.bytes.now), omega arith, front_none (until Break (chunk_entry c.args.kind) (suc (length c.args.bytes.now)) c.args.bytes.now), sym (append-nil (buffer_bytes c.args.out.now))); going = c.requires; shorter = omega arith }

pub returns-in_err-after-clause-value : goal.returns-in_err-after-clause-value
returns-in_err-after-clause-value c =
    let so_far = c.chunks.invariant.read in
    let p = err_from_is_err_and c.from_residual.result c.from_residual.ensures.1 in
    rw (p.1, p.2) (until_fails Break c.in_err-after.field-0.0 (chunk_entry c.args.kind) so_far.0 so_far.1 c.chunks.rest.now _ (omega (arith, so_far.2)) c.chunks.invariant.going c.in_err-after.ensures.value so_far.3)

pub returns-in-Some-clause-value : goal.returns-in-Some-clause-value
returns-in-Some-clause-value c =
    let e = c.in_ok-after.ensures.value in
    let less : length c.in_ok-after.after.now < length c.chunks.rest.now = grind arith in
    until_last Strings c.args.layout (chunk_entry c.args.kind) Break _ c.chunks.rest.now c.in_ok-after.after.now c.in-Some.behind.now (buffer_bytes c.args.out.now) (buffer_bytes c.chunks.out) (buffer_bytes c.print_chunk.new.out) (buffer_bytes c.print_end.new.out)
    c.chunks.invariant.going less (grind arith) c.chunks.invariant.read (e.0, e.1, e.2 c.args.layout) (grind arith)

pub chunks-preserved : goal.chunks-preserved
chunks-preserved c =
    let e = c.in_ok-after.ensures.value in
    let less : length c.in_ok-after.after.now < length c.chunks.rest.now = grind arith in
    record {
      read = until_on Strings c.args.layout (chunk_entry c.args.kind) Break _ c.chunks.rest.now c.in_ok-after.after.now (buffer_bytes c.args.out.now) (buffer_bytes c.chunks.out) (buffer_bytes c.print_chunk.new.out) (buffer_bytes c.print_separator.new.out)
          c.chunks.invariant.going less c.chunks.invariant.read (e.0, e.1, e.2 c.args.layout) (grind arith);
      going = grind arith;
      shorter = omega (arith, less, c.chunks.invariant.shorter);
    }
