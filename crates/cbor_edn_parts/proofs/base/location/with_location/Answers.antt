use Rattle.std.proofs.Common.{arith, refl}
use Rattle.cbor_edn_parts.proofs.lemmas.base.Locations.{turn, nothing_before}
use Rattle.cbor_edn_parts.proofs.base.location.with_location.Goals as goal

pub bytes-init : goal.bytes-init
bytes-init c =
    record {
      line = refl;
      column = rw nothing_before refl;
      line_small = omega arith;
      column_small = omega arith;
      cost = omega arith;
    }

pub bytes-preserved : goal.bytes-preserved
bytes-preserved c =
    let next = turn c.args.text.now.all.now c.bytes.at c.bytes.line c.bytes.column c.byte.result c.location_after.result c.byte.ensures.value (omega (arith, c.requires.0)) c.bytes.invariant.line c.bytes.invariant.column c.location_after.ensures in
    record {
      line = next.0;
      column = next.1;
      line_small = omega (arith, next.2);
      column_small = omega (arith, next.3);
      cost = omega arith;
    }
