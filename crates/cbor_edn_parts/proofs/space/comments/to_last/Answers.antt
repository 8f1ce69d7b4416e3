use Rattle.std.proofs.Common.{◌≡◌, ◌<◌, inl, inr, length, get_or, take, true, refl, sym, ap, ◌∙◌, subst, arith}
use Rattle.std.specs.Prelude.{◌&&◌}
use Rattle.std.specs.Str.{IsCharBoundary}
use Rattle.std.proofs.Math.Nat.{sub-zero}
use Rattle.std.proofs.lemmas.List.{drop_all}
use Rattle.std.proofs.lemmas.Str.{IsCharBoundary-end}
use mathlib.Core.Logic.{⊎_elim}
use Rattle.cbor_edn_parts.specs.internal.CommentReading.{is_between, is_blank, past, to_last}
use Rattle.cbor_edn_parts.proofs.lemmas.space.CommentScans.{kept_with, kept_start, kept_end, blank_here, other_here, before_blank}
use Rattle.cbor_edn_parts.proofs.space.comments.to_last.Goals as goal
use Rattle.cbor_edn_parts.proofs.space.comments.to_last.Goals.{then-not-is_blank, else-not-is_blank}

pub bytes-init : goal.bytes-init
bytes-init c = record { order = omega arith; place = inl refl; kept = sym (kept_start c.args.text.now) }

pub bytes-preserved : goal.bytes-preserved
bytes-preserved c =
    let lt : c.bytes.at < length c.args.text.now = rw c.as_bytes-byte-items.ensures.value at c.bytes-test.true in
    let on : c.past-within.result ≡ past c.bytes.within (get_or c.args.text.now c.bytes.at 0) = rw c.as_bytes-byte-items.ensures.value at c.past-within.ensures in
    let is : c.is_blank.result ≡ (is_between c.bytes.within && is_blank (get_or c.args.text.now c.bytes.at 0)) = rw c.as_bytes-byte-items.ensures.value at c.is_blank.ensures in
    elim c.if-not-is_blank.branch [
      | then-not-is_blank w ↦
          rw (w.end-is, on) (record {
            order = omega arith;
            place = inl refl;
            kept = c.bytes.invariant.kept ∙ other_here c.args.text.now (take c.bytes.end c.args.text.now) c.bytes.within c.bytes.at lt (sym is ∙ w.if-not-is_blank.true);
          })
      | else-not-is_blank w ↦
          let blank : (is_between c.bytes.within && is_blank (get_or c.args.text.now c.bytes.at 0)) ≡ true = sym is ∙ w.if-not-is_blank.false in
          rw (w.end-is, on) (record {
            order = omega arith;
            place = inr (⊎_elim (λ e. subst (IsCharBoundary c.args.text.now) (sym e) (before_blank c.args.text.now c.bytes.within c.bytes.at lt blank)) (λ h. h) c.bytes.invariant.place);
            kept = c.bytes.invariant.kept ∙ blank_here c.args.text.now (take c.bytes.end c.args.text.now) c.bytes.within c.bytes.at lt blank;
          })
    ]

at_end : (c : goal.After-bytes) → c.bytes.at ≡ length c.args.text.now
at_end c = let e : length c.as_bytes-byte-items.result.now ≡ length c.args.text.now = ap length c.as_bytes-byte-items.ensures.value in omega arith

pub range-requires-clause-end_boundary : goal.range-requires-clause-end_boundary
range-requires-clause-end_boundary c =
    ⊎_elim
    (λ e. subst (IsCharBoundary c.args.text.now) (sym (e ∙ at_end c)) (IsCharBoundary-end c.args.text.now))
    (λ h. h)
    c.bytes.invariant.place

pub returns : goal.returns
returns c =
    let all = drop_all c.bytes.at c.args.text.now (rw c.as_bytes-byte-items.ensures.value at c.bytes-test.false) in
    rw (c.range.ensures.value, sub-zero)
    (sym (c.bytes.invariant.kept ∙ (ap (λ t. kept_with (take c.bytes.end c.args.text.now) (take c.bytes.at c.args.text.now) (to_last c.bytes.within t)) all ∙ kept_end (take c.bytes.end c.args.text.now) (take c.bytes.at c.args.text.now) c.bytes.within)))
