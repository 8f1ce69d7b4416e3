use Rattle.std.proofs.Common.{ℕ, suc, ◌≡◌, ◌+◌, ◌-◌, ◌*◌, ◌^◌, ◌<◌, ◌≤◌, List, [], ◌∷◌, length, get_or, take, drop, drop-cons, add-one, Some, None, sym, ap, ◌∙◌, arith}
use Rattle.std.proofs.lemmas.List.{length-take, length-drop}
use Rattle.cbor_edn_parts.specs.internal.Input.{text_bytes}
use Rattle.cbor_edn_model.specs.internal.Lookahead.{digit_in_front}
use Rattle.cbor_edn_model.specs.internal.Reading.{tag_number}
use Rattle.cbor_edn_model.proofs.lemmas.text.TagDigits.{tag_after, first_none, first_zero, first_next, after_none, after_wide, after_next}
use Rattle.cbor_edn_model.proofs.text.lookahead.tag_number.Goals as goal
use Rattle.cbor_edn_model.proofs.text.lookahead.tag_number.Goals.{else-number-eq0-via-then-number-eq0+else-from-to, else-number-eq0-via-else-number-eq0}

abbrev piece : List ℕ → ℕ → ℕ → List ℕ
piece text from to = take (to - from) (drop from text)

at_end : (n : ℕ) (text : List ℕ) (at to : ℕ) → to ≤ at → tag_after n (piece text at to) ≡ Some n
unfolding tag_after
at_end n text at to h = let none : to - at ≡ 0 = omega arith in rw none

module _ (text : List ℕ) (at to : ℕ) (before : at < to) (within : to ≤ length text) where
  byte : ℕ
  byte = get_or text at 0

  begins : piece text at to ≡ byte ∷ piece text (at + 1) to
  unfolding byte
  begins =
      let more : to - at ≡ suc (to - (at + 1)) = omega arith in
      ap (λ n. take n (drop at text)) more ∙ ap (take (suc (to - (at + 1)))) (drop-cons text at 0 (omega arith)) ∙ ap (λ n. get_or text at 0 ∷ take (to - (at + 1)) (drop n text)) (sym (add-one at))

  in_front : digit_in_front (drop at text) ≡ digit_in_front (byte ∷ [])
  unfolding byte
  in_front = ap digit_in_front (drop-cons text at 0 (omega arith))

  counted : length (piece text (at + 1) to) ≡ to - (at + 1)
  counted = omega (arith, length-take (to - (at + 1)) (drop (at + 1) text), length-drop (at + 1) text)

  first_is_none : None ≡ digit_in_front (drop at text) → None ≡ tag_number (piece text at to)
  first_is_none e = sym (ap tag_number begins ∙ first_none byte _ (e ∙ in_front))

  first_is_zero : (d : ℕ) → Some d ≡ digit_in_front (drop at text) → d ≡ 0 → at + 1 < to → None ≡ tag_number (piece text at to)
  first_is_zero d e zero more = sym (ap tag_number begins ∙ first_zero byte d _ (e ∙ in_front) zero (omega (arith, counted)))

  first : (d : ℕ) → Some d ≡ digit_in_front (drop at text) → (d ≡ 0 → to ≤ at + 1) → tag_number (piece text at to) ≡ tag_after d (piece text (at + 1) to)
  first d e alone = ap tag_number begins ∙ first_next byte d _ (e ∙ in_front) (λ zero. omega (arith, counted, alone zero))

  none : (n : ℕ) → None ≡ digit_in_front (drop at text) → tag_after n (piece text at to) ≡ None
  none n e = ap (tag_after n) begins ∙ after_none n byte _ (e ∙ in_front)

  wide : (n d : ℕ) → Some d ≡ digit_in_front (drop at text) → 2 ^ 64 ≤ n * 10 + d → tag_after n (piece text at to) ≡ None
  wide n d e h = ap (tag_after n) begins ∙ after_wide byte d _ (e ∙ in_front) n h

  next : (n d m : ℕ) → Some d ≡ digit_in_front (drop at text) → n * 10 + d < 2 ^ 64 → m ≡ n * 10 + d → tag_after n (piece text at to) ≡ tag_after m (piece text (at + 1) to)
  next n d m e h is = ap (tag_after n) begins ∙ after_next byte d _ (e ∙ in_front) n h ∙ ap (λ k. tag_after k (piece text (at + 1) to)) (sym is)

pub returns-in_err-digit_at-clause-value : goal.returns-in_err-digit_at-clause-value
returns-in_err-digit_at-clause-value c = c.from_residual.ensures ∙ first_is_none (text_bytes c.args.text.now) c.args.from c.args.to c.requires.0 c.requires.1 c.in_err-digit_at.ensures.value

pub returns-then-from-to-clause-value : goal.returns-then-from-to-clause-value
returns-then-from-to-clause-value c =
    first_is_zero (text_bytes c.args.text.now) c.args.from c.args.to c.requires.0 c.requires.1 _ c.in_ok-digit_at.ensures.value (sym c.from-number.ensures ∙ c.if-number-eq0.true) c.if-from-to.true

pub loop-at-init : goal.loop-at-init
loop-at-init c =
    let alone : c.in_ok-digit_at.field-0 ≡ 0 → c.args.to ≤ c.args.from + 1 = elim c.else-number-eq0.branch [
      | else-number-eq0-via-then-number-eq0+else-from-to w ↦ λ zero. w.if-from-to.false
      | else-number-eq0-via-else-number-eq0 w ↦ λ zero. absurd (w.if-number-eq0.false (c.from-number.ensures ∙ zero))
    ] in
    record {
      value = first (text_bytes c.args.text.now) c.args.from c.args.to c.requires.0 c.requires.1 _ c.in_ok-digit_at.ensures.value alone ∙ ap (λ n. tag_after n (piece (text_bytes c.args.text.now) (c.args.from + 1) c.args.to)) (sym c.from-number.ensures);
      looked = omega (arith, c.in_ok-digit_at.ensures.count);
    }

pub returns-in_err-digit-clause-value : goal.returns-in_err-digit-clause-value
returns-in_err-digit-clause-value c =
    c.from_residual-in_err-digit.ensures ∙ sym (c.loop-at.invariant.value ∙ none (text_bytes c.args.text.now) c.loop-at.at c.args.to c.loop-at-test.true c.requires.1 c.loop-at.number c.in_err-digit.ensures.value)

pub returns-in_err-checked_mul-clause-value : goal.returns-in_err-checked_mul-clause-value
returns-in_err-checked_mul-clause-value c =
    let large : 2 ^ 64 ≤ c.loop-at.number * 10 + c.in_ok-digit.digit = omega (arith, c.in_err-checked_mul.ensures) in
    c.from_residual-in_err-checked_mul.ensures ∙ sym (c.loop-at.invariant.value ∙ wide (text_bytes c.args.text.now) c.loop-at.at c.args.to c.loop-at-test.true c.requires.1 c.loop-at.number _ c.in_ok-digit.ensures.value large)

pub returns-in_err-number-clause-value : goal.returns-in_err-number-clause-value
returns-in_err-number-clause-value c =
    let large : 2 ^ 64 ≤ c.loop-at.number * 10 + c.in_ok-digit.digit = omega (arith, c.in_ok-checked_mul.ensures, c.in_err-number.ensures) in
    c.from_residual-in_err-number.ensures ∙ sym (c.loop-at.invariant.value ∙ wide (text_bytes c.args.text.now) c.loop-at.at c.args.to c.loop-at-test.true c.requires.1 c.loop-at.number _ c.in_ok-digit.ensures.value large)

pub loop-at-preserved : goal.loop-at-preserved
loop-at-preserved c =
    let same : c.in_ok-number.number ≡ c.loop-at.number * 10 + c.in_ok-digit.digit = omega (arith, c.in_ok-checked_mul.ensures, c.in_ok-number.ensures) in
    let small : c.loop-at.number * 10 + c.in_ok-digit.digit < 2 ^ 64 = omega (arith, c.in_ok-checked_mul.ensures, c.in_ok-number.ensures) in
    record {
      value = c.loop-at.invariant.value ∙ next (text_bytes c.args.text.now) c.loop-at.at c.args.to c.loop-at-test.true c.requires.1 c.loop-at.number _ _ c.in_ok-digit.ensures.value small same;
      looked = omega (arith, c.in_ok-digit.ensures.count);
    }

pub returns-clause-value : goal.returns-clause-value
returns-clause-value c = sym (c.loop-at.invariant.value ∙ at_end c.loop-at.number (text_bytes c.args.text.now) c.loop-at.at c.args.to c.loop-at-test.false)
