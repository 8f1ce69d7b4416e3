use Rattle.std.proofs.Common.{◌≡◌, ◌<◌, ◌+◌, ◌∷◌, Some, arith, refl, drop, length, get_or, sym, ap, ◌∙◌, drop-cons, add-one}
use Rattle.cbor_edn_parts.proofs.lemmas.base.Locations.{turn, nothing_before}
use Rattle.cbor_edn_findings.proofs.location.location_behind.Goals as goal

pub bytes-init : goal.bytes-init
bytes-init c = record {
  line = refl;
  column = rw nothing_before refl;
  line_small = omega arith;
  column_small = omega arith;
}

pub bytes-preserved : goal.bytes-preserved
bytes-preserved c =
    let text = c.args.front.now in
    let within : c.bytes.at < length c.args.front.now = omega arith in
    let here : drop c.bytes.at c.args.front.now ≡ get_or c.args.front.now c.bytes.at 0 ∷ drop (c.bytes.at + 1) c.args.front.now = rw (add-one, drop-cons c.args.front.now c.bytes.at 0) in
    let next = turn c.args.front.now c.bytes.at c.bytes.line c.bytes.column (Some (get_or c.args.front.now c.bytes.at 0)) c.behind_byte.result (here, within) within c.bytes.invariant.line c.bytes.invariant.column c.behind_byte.ensures in
    record {
      line = next.0;
      column = next.1;
      line_small = omega (arith, next.2);
      column_small = omega (arith, next.3);
    }
