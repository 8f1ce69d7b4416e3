use Rattle.std.proofs.Common.{◌≡◌, ◌<◌, true, Some, None, subst, arith}
use Rattle.cbor_edn_parts.specs.internal.Scans.{IsRead}
use Rattle.cbor_edn_parts.specs.internal.Input.{text_bytes}
use Rattle.cbor_edn_parts.proofs.lemmas.base.ScanLoops.{begun, onward, over, over_read}
use Rattle.cbor_edn_parts.proofs.base.scan.run.Goals as goal

pub bytes-init : goal.bytes-init
bytes-init g c = record {
  order = omega arith;
  within = omega arith;
  here = c.requires.here;
  behind = c.requires.behind;
  place = λ d long e. c.requires.place;
  reads = begun g.T.State.automaton c.args.start (text_bytes c.args.text.now) c.args.from;
  cost = omega arith;
}

pub kept-init : goal.kept-init
kept-init g c = record { since = omega arith; stands = c.bytes.invariant }

pub kept-preserved : goal.kept-preserved
kept-preserved g c =
    let kept : c.is_kept.result ≡ true = cc in
    let read = c.is_kept.ensures kept in
    record {
      since = omega arith;
      stands = onward g.T.State.automaton g.met.T.State.stays _ _ _ _ _ _ _ _ _ _ _ _ c.kept.invariant.stands read.1 read.2 read.3 c.byte-byte.ensures.value c.byte-byte.ensures.behind c.byte-byte.ensures.count;
    }

pub bytes-preserved : goal.bytes-preserved
bytes-preserved g c =
    let small : c.in-Some.read < 256 = omega arith in
    let some : g.T.State.automaton.step c.in-Some.read c.bytes.state ≡ Some c.in-Some-step.next = cc in
    onward g.T.State.automaton g.met.T.State.stays _ _ _ _ _ _ _ _ _ _ _ _ c.kept.invariant.stands c.in-Some.is small some c.byte-byte-in-bytes.ensures.value c.byte-byte-in-bytes.ensures.behind c.byte-byte-in-bytes.ensures.count

pub returns-in_default-clause-value : goal.returns-in_default-clause-value
returns-in_default-clause-value g c = over g.T.State.automaton _ _ _ _ _ _ _ _ c.kept.invariant.stands (rw c.in_default.is tt)

pub returns-in_default-clause-read : goal.returns-in_default-clause-read
returns-in_default-clause-read g c = over_read g.T.State.automaton _ _ _ _ _ _ _ _ c.kept.invariant.stands (rw c.in_default.is tt)

pub returns-in_default-step-clause-value : goal.returns-in_default-step-clause-value
returns-in_default-step-clause-value g c =
    let none : g.T.State.automaton.step c.in-Some.read c.bytes.state ≡ None = cc in
    over g.T.State.automaton _ _ _ _ _ _ _ _ c.kept.invariant.stands (rw c.in-Some.is none)

pub returns-in_default-step-clause-read : goal.returns-in_default-step-clause-read
returns-in_default-step-clause-read g c =
    let small : c.in-Some.read < 256 = omega arith in
    let none : g.T.State.automaton.step c.in-Some.read c.bytes.state ≡ None = cc in
    subst (IsRead (text_bytes c.args.text.now) c.kept.at) c.in-Some.is (over_read g.T.State.automaton _ _ _ _ _ _ _ _ c.kept.invariant.stands (rw c.in-Some.is (small, λ _. none)))
