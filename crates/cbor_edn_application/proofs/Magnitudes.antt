-- The number that bytes write, byte by byte, and its text.
use Rattle.std.proofs.Common.{ℕ, pos, negsuc, suc, ◌+◌, ◌*◌, ◌^◌, ◌<◌, ◌≤◌, ◌≡◌, ◌==◌, Bool, true, false, cond, List, [], ◌∷◌, length, get_or, drop, Option, Some, None, Result, Ok, Err, IfOk, IfSome, IfNone, refl, sym, ap, ◌∙◌, subst, arith}
use Rattle.std.specs.Prelude.{option_map}
use Rattle.std.specs.Fmt.{signed_decimal}
use Rattle.std.proofs.Math.Nat.{one-le-pow, pow-le-pow_right, pow-suc, mul-le-mul_left, mul-le-mul_right}
use Rattle.std.proofs.lemmas.List.{at_drop_more}
use Rattle.cbor_edn_parts.specs.base.Refusals.{IfTold}
use Rattle.cbor_edn_parts.specs.declared.base.error.Fault.{Fault}
use Rattle.cbor_edn_parts.specs.declared.base.error.Fault.TheVariants.{Told}
use Rattle.cbor_edn_parts.specs.number.Number.{IsNumber, integer}
use Rattle.cbor_edn_parts.proofs.lemmas.number.Decimals.{signed_literal}
use Rattle.cbor_edn_model.proofs.lemmas.cbor.MeaningSteps.{some_is}
use Rattle.cbor_edn_conversions.specs.Bignums.{magnitude, bignum_integer}

abbrev pub AreBelow : List ℕ → Type 0
AreBelow bs = (i : ℕ) → get_or bs i 0 < 256

magnitude_below : (bs : List ℕ) → AreBelow bs → magnitude bs < 256 ^ length bs
magnitude_below [] below = omega arith
magnitude_below (b ∷ bs) below =
    let first : b < 256 = below 0 in
    let rest : magnitude bs < 256 ^ length bs = magnitude_below bs (λ i. below (suc i)) in
    let high : b * 256 ^ length bs ≤ 255 * 256 ^ length bs = mul-le-mul_right (256 ^ length bs) (omega arith) in
    omega (arith, pow-suc 256 (length bs))

short_below : (bs : List ℕ) → AreBelow bs → length bs ≤ 16 → magnitude bs < 2 ^ 128
short_below bs below short =
    let most : 256 ^ length bs ≤ 256 ^ 16 = pow-le-pow_right (omega arith) short in
    omega (arith, magnitude_below bs below, most)

-- The first i bytes write n.
pub record HasRead (bs : List ℕ) (i n : ℕ) : Type 0 where
  pub whole : n * 256 ^ length (drop i bs) + magnitude (drop i bs) ≡ magnitude bs

-- one byte more
abbrev next : List ℕ → ℕ → ℕ → ℕ
next bs i n = n * 256 + get_or bs i 0

next_whole : (n b p q m : ℕ) → p ≡ q * 256 → n * p + (b * q + m) ≡ (n * 256 + b) * q + m
next_whole n b p q m e = rw e (grind arith)

pub read_more : (bs : List ℕ) (i n : ℕ) → i < length bs → HasRead bs i n → HasRead bs (i + 1) (next bs i n)
read_more bs i n lt h =
    let b = get_or bs i 0 in
    let rest = drop (i + 1) bs in
    let first : n * 256 ^ length (drop i bs) + magnitude (drop i bs) ≡ n * 256 ^ length (b ∷ rest) + magnitude (b ∷ rest) = at_drop_more (λ l. n * 256 ^ length l + magnitude l) bs i 0 lt in
    record { whole = sym (next_whole n b (256 ^ suc (length rest)) (256 ^ length rest) (magnitude rest) (pow-suc 256 (length rest))) ∙ (sym first ∙ h.whole) }

-- what was read is no more than the whole
read_below : (bs : List ℕ) (i n : ℕ) → HasRead bs i n → n ≤ magnitude bs
read_below bs i n h =
    let some : 1 ≤ 256 ^ length (drop i bs) = one-le-pow (length (drop i bs)) 256 (omega arith) in
    let more : n * 1 ≤ n * 256 ^ length (drop i bs) = mul-le-mul_left n some in
    omega (arith, h.whole)

-- The next byte leaves the number below 2^128.
pub next_fits : (bs : List ℕ) (i n : ℕ) → AreBelow bs → length bs ≤ 16 → i < length bs → HasRead bs i n → next bs i n < 2 ^ 128
next_fits bs i n below short lt h = omega (arith, short_below bs below short, read_below bs (i + 1) (next bs i n) (read_more bs i n lt h))

-- ---- the text

text_by : (a b : Bool) (n : ℕ) (t : List ℕ) → n < 2 ^ 128 → Some t ≡ option_map signed_decimal (cond a (Some (pos n)) (cond b (Some (negsuc n)) None)) → IsNumber t
text_by true b n t lt e = subst IsNumber (sym (some_is t (signed_decimal (pos n)) e)) (integer (signed_literal (pos n) (omega arith)))
text_by false true n t lt e = subst IsNumber (sym (some_is t (signed_decimal (negsuc n)) e)) (integer (signed_literal (negsuc n) (omega arith)))
text_by false false n t lt e = absurd cc

-- The text of a bignum's integer is a number.
pub text_is : (tag n : ℕ) (t : List ℕ) → n < 2 ^ 128 → Some t ≡ option_map signed_decimal (bignum_integer tag n) → IsNumber t
text_is tag n t lt e = text_by (tag == 2) (tag == 3) n t lt e

-- A call that gives nothing only where Q is false, which holds.
pub never_none : {X E : Type 0} (r : Result (Option X) E) (P Q : Type 0) → Q → IfOk r (λ o. o ≡ None → Q → ⊥) → IfOk r (λ o. IfNone o P)
never_none (Ok None) P Q q h = absurd (h refl q)
never_none (Ok (Some x)) P Q q h = tt
never_none (Err e) P Q q h = tt

-- what holds of a value that is there
pub some_holds : {X : Type 0} (P : X → Type 0) (o : Option X) (x : X) → o ≡ Some x → IfSome o P → P x
some_holds P o x is h = subst (λ p. IfSome p P) is h

-- what holds where a call told something
pub told_holds : {X E : Type 0} (P : E → Type 0) (r : Result X (Fault E)) (f : Fault E) (e : E) → r ≡ Err f → f ≡ Told e → IfTold r P → P e
told_holds P r f e is told h = subst (λ q. IfTold q P) (is ∙ ap (λ g. Err g) told) h
