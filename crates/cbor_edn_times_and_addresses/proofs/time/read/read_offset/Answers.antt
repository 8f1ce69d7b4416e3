use Rattle.std.proofs.Common.{ℕ, List, take, ◌≤◌, ◌==◌, true, sym, to_z, of_z, w32, FitsSigned, ◌*ℤ◌, ◌-ℤ◌, ap, ◌∙◌, pos, neg_ℤ, ◌≡◌, refl, arith, length, drop, ◌<◌, ◌*◌, ◌-◌}
use Rattle.std.proofs.lemmas.List.{take_rest, length-drop}
use Rattle.std.proofs.lemmas.Bool.{eqb-true}
use Rattle.std.proofs.lemmas.Int.{to_z_pos, to_z-of_z}
use Rattle.jiff_core.proofs.SignedLemmas.{signed_arith}
use Rattle.cbor_edn_times_and_addresses.proofs.TimeParts.{utc_of, plus_of, minus_of, no_offset}
use Rattle.cbor_edn_times_and_addresses.proofs.time.read.read_offset.Goals as goal

-- the seconds of minutes, as the code computes them
seconds_are : (n : ℕ) → n < 1440 → to_z w32 (of_z w32 (pos 60 *ℤ to_z w32 n)) ≡ pos (60 * n)
seconds_are n h =
    let fits : FitsSigned w32 (pos (60 * n)) = omega arith in
    ap (λ z. to_z w32 (of_z w32 (pos 60 *ℤ z))) (to_z_pos w32 n (omega arith)) ∙ to_z-of_z w32 (pos (60 * n)) fits

minus_seconds_are : (n : ℕ) → n < 1440 → to_z w32 (of_z w32 (pos 0 -ℤ to_z w32 (of_z w32 (pos 60 *ℤ to_z w32 n)))) ≡ neg_ℤ (pos (60 * n))
minus_seconds_are n h =
    let fits : FitsSigned w32 (pos 0 -ℤ pos (60 * n)) = omega (arith, signed_arith) in
    ap (λ z. to_z w32 (of_z w32 (pos 0 -ℤ z))) (seconds_are n h) ∙ (to_z-of_z w32 (pos 0 -ℤ pos (60 * n)) fits ∙ omega (arith, signed_arith))

one_byte : (t : List ℕ) → 1 ≤ length t → (length (take (length t - 1) (drop 1 t)) == 0) ≡ true → length t ≡ 1
one_byte t some e =
    let none = eqb-true (length (take (length t - 1) (drop 1 t))) 0 e in
    omega (arith, ap length (take_rest t 1), length-drop 1 t)

pub returns-in_err-read_hour_minute-in-45-clause-none :
    goal.returns-in_err-read_hour_minute-in-45-clause-none
returns-in_err-read_hour_minute-in-45-clause-none c = λ q z h.
    no_offset c.args.text.now z (omega arith) (omega arith) (rw take_rest at c.in_err-read_hour_minute-in-45.ensures.none refl) h

pub returns-in_err-read_hour_minute-in-43-clause-none :
    goal.returns-in_err-read_hour_minute-in-43-clause-none
returns-in_err-read_hour_minute-in-43-clause-none c = λ q z h.
    no_offset c.args.text.now z (omega arith) (omega arith) (rw take_rest at c.in_err-read_hour_minute-in-43.ensures.none refl) h

pub returns-in-90-clause-some : goal.returns-in-90-clause-some
returns-in-90-clause-some c = utc_of c.args.text.now (one_byte c.args.text.now c.in-len1-up.len_at_least (sym c.if-is_empty.ensures)) (grind arith)

pub returns-in_ok-read_hour_minute-in-45-clause-some :
    goal.returns-in_ok-read_hour_minute-in-45-clause-some
returns-in_ok-read_hour_minute-in-45-clause-some c =
    let a = c.in_ok-read_hour_minute-in-45 in
    let b = a.ensures.bound in
    minus_of c.args.text.now a.field-0 _ (omega arith) (omega arith) (rw take_rest at a.ensures.some) (minus_seconds_are a.field-0 b)

pub returns-in_ok-read_hour_minute-in-43-clause-some :
    goal.returns-in_ok-read_hour_minute-in-43-clause-some
returns-in_ok-read_hour_minute-in-43-clause-some c =
    let a = c.in_ok-read_hour_minute-in-43 in
    let b = a.ensures.bound in
    plus_of c.args.text.now a.field-0 _ (omega arith) (omega arith) (rw take_rest at a.ensures.some) (seconds_are a.field-0 b)
