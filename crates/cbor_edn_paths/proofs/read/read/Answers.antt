use Rattle.std.proofs.Common.{arith, ◌≡◌, None, sym, ap, length, map, get_or}
use Rattle.cbor_edn_paths.specs.Views.{step_of}
use Rattle.cbor_edn_paths.specs.internal.Places as places
use Rattle.cbor_edn_paths.proofs.Runs.{at}
use Rattle.cbor_edn_paths.proofs.Slices.{stands}
use Rattle.cbor_edn_paths.proofs.Turns.{begun, turned, refused, spelled_whole, refused_early}
use Rattle.cbor_edn_paths.proofs.read.read.Goals as goal

-- src/read.rt:35:5
pub bytes-init : goal.bytes-init
bytes-init c = record {
  so_far = begun c.args.text.now _ places.Start (ap (λ s. at (record { start = None; steps = map step_of s }) places.Start) c.new.ensures.items);
  here = tt;
}

-- src/read.rt:36:37
pub next-requires-clause-stands : goal.next-requires-clause-stands
next-requires-clause-stands c =
    let same = c.as_bytes-bytes.ensures.value in
    stands c.args.text.now c.bytes.at _ c.utf8.text (rw same at c.bytes-test.true) (ap (λ t. get_or t c.bytes.at 0) (sym same))

-- src/read.rt:37:13
pub returns-in_default-clause-refused : goal.returns-in_default-clause-refused
returns-in_default-clause-refused c =
    let same = c.as_bytes-bytes.ensures.value in
    rw c.fault_at.ensures (refused c.args.text.now c.bytes.at _ _ _ (rw same at c.bytes-test.true) (ap (λ t. get_or t c.bytes.at 0) (sym same)) c.bytes.invariant.so_far c.in_default.ensures.value)

-- src/read.rt:35:5
pub bytes-preserved : goal.bytes-preserved
bytes-preserved c =
    let same = c.as_bytes-bytes.ensures.value in
    record {
      so_far = turned c.args.text.now c.bytes.at _ _ _ _ _ _ (rw same at c.bytes-test.true) (ap (λ t. get_or t c.bytes.at 0) (sym same)) c.bytes.invariant.so_far c.in-Some.ensures.value c.in_ok-path.ensures;
      here = c.in-Some.ensures.here;
    }

-- src/read.rt:28:1
pub returns-in-Some-end-clause-spelled : goal.returns-in-Some-end-clause-spelled
returns-in-Some-end-clause-spelled c =
    let same = c.as_bytes-bytes.ensures.value in
    let whole : c.bytes.at ≡ length c.args.text.now = omega (arith, rw same at c.bytes-test.false, rw same at c.bytes.auto.at-end) in
    spelled_whole c.args.text.now _ _ _ _ (rw whole at c.bytes.invariant.so_far) (sym c.in-Some-end.ensures) c.in_ok-with_outcome-in-Some-end.ensures

-- src/read.rt:25:1
pub returns-clause-refused : goal.returns-clause-refused
returns-clause-refused c =
    let same = c.as_bytes-bytes.ensures.value in
    let whole : c.bytes.at ≡ length c.args.text.now = omega (arith, rw same at c.bytes-test.false, rw same at c.bytes.auto.at-end) in
    rw c.fault_at-in-None.ensures (refused_early c.args.text.now _ _ (rw whole at c.bytes.invariant.so_far) (sym c.in-None.ensures))
