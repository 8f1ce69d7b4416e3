use Rattle.std.proofs.Common.{sym, ap, ◌∙◌}
use Rattle.cbor_edn_parts.specs.internal.ContentReading.{hex_bytes}
use Rattle.cbor_edn_parts.specs.internal.SpaceTokens.{space_step}
use Rattle.cbor_edn_parts.proofs.lemmas.string.ByteLoops.{after_none, going, pushed, refused, ended, unended}
use Rattle.cbor_edn_parts.proofs.lemmas.string.Hexadecimals.{digit_small, hex_first, hex_second, hex_on, hex_refused, hex_all, hex_in_comment, hex_waiting}
use Rattle.cbor_edn_parts.proofs.string.hexadecimal.decode.Goals as goal
use Rattle.cbor_edn_parts.proofs.string.hexadecimal.decode.Goals.{in-Some-None, in-Some-Some+in_ok-push-in-Some-Some, in-None-default+in-Some}

pub loop-byte-init : goal.loop-byte-init
loop-byte-init c = record { digit = tt; reads = rw c.new-bytes.ensures.items (after_none _) }

pub returns-in-None-clause-none : goal.returns-in-None-clause-none
returns-in-None-clause-none c =
    refused (hex_bytes c.loop-byte.within c.loop-byte.waiting) _ _ _ _ c.loop-byte.invariant.reads c.loop-byte-test.true
    (hex_refused _ _ c.loop-byte.within _ (sym c.in-None-default.is-0 ∙ c.hex_digit_at.ensures) (c.in-None.ensures ∙ ap (λ k. space_step k c.loop-byte.within) c.of.ensures))

pub loop-byte-preserved : goal.loop-byte-preserved
loop-byte-preserved c = elim c.match-hex_digit_at.branch [
  | in-Some-None w ↦ let some = w.in-Some-None.ensures in rw (w.bytes-is, w.within-is, w.waiting-is) (record {
    digit = digit_small c.loop-byte.within _ _ some;
    reads = going (hex_bytes c.loop-byte.within c.loop-byte.waiting) _ _ _ _ c.loop-byte.invariant.reads c.loop-byte-test.true _ (rw w.in-Some-None.is-1 (hex_first _ _ c.loop-byte.within _ some));
  })
  | in-Some-Some+in_ok-push-in-Some-Some w ↦ rw (w.bytes-is, w.in_ok-push-in-Some-Some.ensures.items, w.within-is, w.waiting-is) (record {
    digit = tt;
    reads = pushed (hex_bytes c.loop-byte.within c.loop-byte.waiting) _ _ _ _ c.loop-byte.invariant.reads c.loop-byte-test.true _ _ (rw w.in-Some-Some.is-1 (hex_second _ _ c.loop-byte.within _ _ w.in-Some-Some.ensures));
  })
  | in-None-default+in-Some w ↦ rw (w.bytes-is, w.within-is, w.waiting-is) (record {
    digit = c.loop-byte.invariant.digit;
    reads = going (hex_bytes c.loop-byte.within c.loop-byte.waiting) _ _ _ _ c.loop-byte.invariant.reads c.loop-byte-test.true _
        (hex_on _ _ c.loop-byte.within _ _ (sym w.in-None-default.is-0 ∙ c.hex_digit_at.ensures) (w.in-Some.ensures ∙ ap (λ k. space_step k c.loop-byte.within) w.of.ensures));
  })
]

pub returns-then-is_some-clause-none : goal.returns-then-is_some-clause-none
returns-then-is_some-clause-none c =
    unended (hex_bytes c.loop-byte.within c.loop-byte.waiting) _ _ _ _ c.loop-byte.invariant.reads c.loop-byte-test.false (hex_waiting c.loop-byte.within _ c.if-is_some.ensures)

pub returns-in-InSlashes-clause-none : goal.returns-in-InSlashes-clause-none
returns-in-InSlashes-clause-none c =
    unended (hex_bytes c.loop-byte.within c.loop-byte.waiting) _ _ _ _ c.loop-byte.invariant.reads c.loop-byte-test.false (rw c.in-InSlashes.is (hex_in_comment _))

pub returns-in-Between-clause-bytes : goal.returns-in-Between-clause-bytes
returns-in-Between-clause-bytes c =
    ended (hex_bytes c.loop-byte.within c.loop-byte.waiting) _ _ _ _ c.loop-byte.invariant.reads c.loop-byte-test.false (hex_all c.loop-byte.within _ c.if-is_some.ensures c.in-Between.is)
