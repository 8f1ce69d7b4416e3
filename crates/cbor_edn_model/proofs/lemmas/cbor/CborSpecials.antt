-- Simple values and floating-point numbers: their heads, and what is read of them.
use Rattle.std.proofs.Common.{◌≡◌, ℕ, ◌<◌, ◌≤◌, Bool, true, false, cond, leb, ltb, eqb, Some, refl, sym, ap, subst, ◌∙◌, arith, inl, inr}
use Rattle.std.specs.Prelude.{◌&&◌}
use Rattle.std.proofs.lemmas.Bool.{lt-ltb, le-ltb, eqb-true, eqb-false}
use Rattle.cbor_edn_model.specs.declared.cbor.heads.Width.{Width}
use Rattle.cbor_edn_model.specs.declared.cbor.heads.Width.TheVariants.{Immediate, One, Two, Four, Eight}
use Rattle.cbor_edn_model.specs.declared.text.keyword.NonFinite.{NonFinite}
use Rattle.cbor_edn_model.specs.declared.text.keyword.NonFinite.TheVariants.{Infinity, NegativeInfinity, NaN}
use Rattle.cbor_edn_model.specs.cbor.Value.{ArgumentFits, float_bits, simple_width, IsSimple, IsFloatWidth}
use Rattle.cbor_edn_model.specs.internal.CborReading.{float_of, simple_nesting}
use Rattle.cbor_edn_model.proofs.lemmas.cbor.CborHeads.{chosen}
use Rattle.cbor_edn_model.proofs.lemmas.cbor.MeaningSteps.{some_is}

-- the major type that is none of the others
pub last_major : (major : ℕ) → major < 8 → eqb major 0 ≡ false → eqb major 1 ≡ false → eqb major 2 ≡ false → eqb major 3 ≡ false → eqb major 4 ≡ false → eqb major 5 ≡ false → eqb major 6 ≡ false → major ≡ 7
last_major major lt a b c d e f g = omega (arith, eqb-false major 0 a, eqb-false major 1 b, eqb-false major 2 c, eqb-false major 3 d, eqb-false major 4 e, eqb-false major 5 f, eqb-false major 6 g)

-- ---- simple values

pub one_byte : (n : ℕ) → n < 24 → simple_width n ≡ Immediate
one_byte n lt = let e : ltb n 24 ≡ true = lt-ltb n 24 lt in rw e refl

pub two_bytes : (n : ℕ) → 24 ≤ n → simple_width n ≡ One
two_bytes n le = let e : ltb n 24 ≡ false = le-ltb n 24 le in rw e refl

pub simple_fits : (n : ℕ) → IsSimple n → ArgumentFits (simple_width n) n
simple_fits n (inl lt) = subst (λ w. ArgumentFits w n) (sym (one_byte n lt)) lt
simple_fits n (inr wide) = subst (λ w. ArgumentFits w n) (sym (two_bytes n (omega (arith, wide.0)))) wide.1

shallow_by : (named : Bool) → cond named 0 1 ≤ 1
shallow_by true = omega arith
shallow_by false = omega arith

pub simple_shallow : (n : ℕ) → simple_nesting n ≤ 1
simple_shallow n = shallow_by (leb 20 n && ltb n 24)

-- ---- floating-point numbers

pub float_fits : (w : Width) (f : NonFinite) → IsFloatWidth w → ArgumentFits w (float_bits w f)
float_fits Immediate f is = absurd is
float_fits One f is = absurd is
float_fits Two Infinity is = omega arith
float_fits Two NegativeInfinity is = omega arith
float_fits Two NaN is = omega arith
float_fits Four Infinity is = omega arith
float_fits Four NegativeInfinity is = omega arith
float_fits Four NaN is = omega arith
float_fits Eight Infinity is = omega arith
float_fits Eight NegativeInfinity is = omega arith
float_fits Eight NaN is = omega arith

-- the bits of a floating-point number are read again
pub float_again : (w : Width) (f : NonFinite) → IsFloatWidth w → float_of w (float_bits w f) ≡ Some f
float_again Immediate f is = absurd is
float_again One f is = absurd is
float_again Two Infinity is = refl
float_again Two NegativeInfinity is = refl
float_again Two NaN is = refl
float_again Four Infinity is = refl
float_again Four NegativeInfinity is = refl
float_again Four NaN is = refl
float_again Eight Infinity is = refl
float_again Eight NegativeInfinity is = refl
float_again Eight NaN is = refl

module _ (w : Width) (n : ℕ) (f : NonFinite) where
  is_bits : (g : NonFinite) → eqb n (float_bits w g) ≡ true → Some g ≡ Some f → n ≡ float_bits w f
  is_bits g same is = eqb-true n (float_bits w g) same ∙ ap (float_bits w) (some_is g f is)

  -- what is read has the bits of what it is read as
  pub float_found : float_of w n ≡ Some f → n ≡ float_bits w f
  float_found e =
      elim (chosen (eqb n (float_bits w Infinity)) _ _ _ e) [
        | inl a ↦ is_bits Infinity a.0 a.1
        | inr a ↦ elim (chosen (eqb n (float_bits w NegativeInfinity)) _ _ _ a.1) [
          | inl b ↦ is_bits NegativeInfinity b.0 b.1
          | inr b ↦ elim (chosen (eqb n (float_bits w NaN)) _ _ _ b.1) [
            | inl c ↦ is_bits NaN c.0 c.1
            | inr c ↦ absurd (let g = c.1 in cc)
          ]
        ]
      ]
