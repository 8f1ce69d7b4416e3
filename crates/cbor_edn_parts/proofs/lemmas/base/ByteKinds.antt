-- What the kind of a byte says of it.
use Rattle.std.proofs.Common.{ℕ, ◌≡◌, ◌≤◌, ◌<◌, arith, Bool, true, false, refl, sym, ap, ◌∙◌, subst, ◌⊎◌, inl, inr}
use Rattle.std.specs.Prelude.{eqb, ltb, ◌||◌}
use Rattle.std.specs.Char.{digit_value}
use Rattle.std.proofs.lemmas.Bool.{cases_lt, agree_below_at, eqb-true, or_cases, lt-ltb, ltb-true, false≢true, false_from_ne_true, both_ways}
use Rattle.std.proofs.lemmas.Bool.Decides.{nat_tests}
use Rattle.cbor_edn_parts.specs.base.Bytes.{Kind, Control, Comma, Colon, Close, Plus, Minus, Zero, One, TwoToSeven, EightOrNine, Dot, B, E, HexLetter, O, P, X, Underscore, IsLong, kind, follows, closing}
use Rattle.cbor_edn_parts.specs.number.Number.{Base, Binary, Octal, Decimal, Hexadecimal, radix, IsDigitOf}
use mathlib.Core.Logic.{⊎_elim}

pub kind-no_byte : (c : ℕ) → 256 ≤ c → kind c ≡ Control
unfolding kind
kind-no_byte c far = grind (arith, nat_tests)

pub ascii_or_long : {P : Type 0} (c : ℕ) → c < 256 → (c < 128 → P) → (IsLong c → P) → P
ascii_or_long c small ascii long = ⊎_elim ascii (λ low. long (low, small)) (cases_lt c 128)

-- A test of kinds that agrees with a test of bytes agrees with it at each number, where neither takes what is no byte.
pub at_each : (f : Kind → Bool) (g : ℕ → Bool) → ((c : ℕ) → c < 256 → f (kind c) ≡ g c) → f Control ≡ false → ((c : ℕ) → 256 ≤ c → g c ≡ false) → (c : ℕ) → f (kind c) ≡ g c
at_each f g bytes none far c = ⊎_elim (bytes c) (λ h. ap f (kind-no_byte c h) ∙ none ∙ sym (far c h)) (cases_lt c 256)

-- A byte of a kind is none of another kind.
pub differs : (p : Kind → Bool) (c b : ℕ) → p (kind c) ≡ true → p (kind b) ≡ false → eqb c b ≡ false
differs p c b h n = false_from_ne_true (eqb c b) (λ e. both_ways (p (kind b)) n (rw (eqb-true c b e) at h))

-- the kinds of the digits of each base
abbrev pub is_digit : Base → Kind → Bool
is_digit Binary Zero = true
is_digit Binary One = true
is_digit Binary _ = false
is_digit Octal Zero = true
is_digit Octal One = true
is_digit Octal TwoToSeven = true
is_digit Octal _ = false
is_digit Decimal Zero = true
is_digit Decimal One = true
is_digit Decimal TwoToSeven = true
is_digit Decimal EightOrNine = true
is_digit Decimal _ = false
is_digit Hexadecimal Zero = true
is_digit Hexadecimal One = true
is_digit Hexadecimal TwoToSeven = true
is_digit Hexadecimal EightOrNine = true
is_digit Hexadecimal B = true
is_digit Hexadecimal E = true
is_digit Hexadecimal HexLetter = true
is_digit Hexadecimal _ = false

far_digit : (base c : ℕ) → base ≤ 16 → 256 ≤ c → ltb (digit_value c) base ≡ false
far_digit base c small far = grind (arith, nat_tests)

digit_bytes : (b : Base) (c : ℕ) → c < 256 → is_digit b (kind c) ≡ ltb (digit_value c) (radix b)
unfolding kind
digit_bytes Binary c small = agree_below_at (λ c. is_digit Binary (kind c)) (λ c. ltb (digit_value c) 2) 256 c refl small
digit_bytes Octal c small = agree_below_at (λ c. is_digit Octal (kind c)) (λ c. ltb (digit_value c) 8) 256 c refl small
digit_bytes Decimal c small = agree_below_at (λ c. is_digit Decimal (kind c)) (λ c. ltb (digit_value c) 10) 256 c refl small
digit_bytes Hexadecimal c small = agree_below_at (λ c. is_digit Hexadecimal (kind c)) (λ c. ltb (digit_value c) 16) 256 c refl small

control_no_digit : (b : Base) → is_digit b Control ≡ false
control_no_digit Binary = refl
control_no_digit Octal = refl
control_no_digit Decimal = refl
control_no_digit Hexadecimal = refl

pub radix_small : (b : Base) → radix b ≤ 16
radix_small Binary = omega arith
radix_small Octal = omega arith
radix_small Decimal = omega arith
radix_small Hexadecimal = omega arith

digits : (b : Base) (c : ℕ) → is_digit b (kind c) ≡ ltb (digit_value c) (radix b)
digits b = at_each (is_digit b) (λ c. ltb (digit_value c) (radix b)) (digit_bytes b) (control_no_digit b) (λ c far. far_digit (radix b) c (radix_small b) far)

pub digit_kind : (b : Base) (c : ℕ) → IsDigitOf b c → is_digit b (kind c) ≡ true
digit_kind b c h = digits b c ∙ lt-ltb (digit_value c) (radix b) h

pub kind_digit : (b : Base) (c : ℕ) → is_digit b (kind c) ≡ true → IsDigitOf b c
kind_digit b c e = ltb-true (digit_value c) (radix b) (sym (digits b c) ∙ e)

-- the bytes of the kinds that stand for one byte, and of the letters
is : Kind → ℕ → Bool
is Comma c = eqb c 44
is Colon c = eqb c 58
is Plus c = eqb c 43
is Minus c = eqb c 45
is Zero c = eqb c 48
is Dot c = eqb c 46
is B c = eqb c 98 || eqb c 66
is E c = eqb c 101 || eqb c 69
is O c = eqb c 111 || eqb c 79
is P c = eqb c 112 || eqb c 80
is X c = eqb c 120 || eqb c 88
is Underscore c = eqb c 95
is _ c = true

is_bytes : (c : ℕ) → c < 256 → is (kind c) c ≡ true
unfolding kind is
is_bytes c small = agree_below_at (λ c. is (kind c) c) (λ c. true) 256 c refl small

is_far : (c : ℕ) → 256 ≤ c → is (kind c) c ≡ true
unfolding is
is_far c far = rw (kind-no_byte c far)

is_kind : (c : ℕ) → is (kind c) c ≡ true
is_kind c = ⊎_elim (is_bytes c) (is_far c) (cases_lt c 256)

is_at : (c : ℕ) (k : Kind) → kind c ≡ k → is k c ≡ true
is_at c k e = subst (λ j. is j c ≡ true) e (is_kind c)

one_of : (c a b : ℕ) → (eqb c a || eqb c b) ≡ true → (c ≡ a) ⊎ (c ≡ b)
one_of c a b e = ⊎_elim (λ h. inl (eqb-true c a h)) (λ h. inr (eqb-true c b h)) (or_cases (eqb c a) (eqb c b) e)

pub kind-comma : (c : ℕ) → kind c ≡ Comma → c ≡ 44
unfolding is
kind-comma c e = eqb-true c 44 (is_at c Comma e)

pub kind-colon : (c : ℕ) → kind c ≡ Colon → c ≡ 58
unfolding is
kind-colon c e = eqb-true c 58 (is_at c Colon e)

pub kind-plus : (c : ℕ) → kind c ≡ Plus → c ≡ 43
unfolding is
kind-plus c e = eqb-true c 43 (is_at c Plus e)

pub kind-minus : (c : ℕ) → kind c ≡ Minus → c ≡ 45
unfolding is
kind-minus c e = eqb-true c 45 (is_at c Minus e)

pub kind-zero : (c : ℕ) → kind c ≡ Zero → c ≡ 48
unfolding is
kind-zero c e = eqb-true c 48 (is_at c Zero e)

pub kind-dot : (c : ℕ) → kind c ≡ Dot → c ≡ 46
unfolding is
kind-dot c e = eqb-true c 46 (is_at c Dot e)

pub kind-underscore : (c : ℕ) → kind c ≡ Underscore → c ≡ 95
unfolding is
kind-underscore c e = eqb-true c 95 (is_at c Underscore e)

pub kind-b : (c : ℕ) → kind c ≡ B → (c ≡ 98) ⊎ (c ≡ 66)
unfolding is
kind-b c e = one_of c 98 66 (is_at c B e)

pub kind-e : (c : ℕ) → kind c ≡ E → (c ≡ 101) ⊎ (c ≡ 69)
unfolding is
kind-e c e = one_of c 101 69 (is_at c E e)

pub kind-o : (c : ℕ) → kind c ≡ O → (c ≡ 111) ⊎ (c ≡ 79)
unfolding is
kind-o c e = one_of c 111 79 (is_at c O e)

pub kind-p : (c : ℕ) → kind c ≡ P → (c ≡ 112) ⊎ (c ≡ 80)
unfolding is
kind-p c e = one_of c 112 80 (is_at c P e)

pub kind-x : (c : ℕ) → kind c ≡ X → (c ≡ 120) ⊎ (c ≡ 88)
unfolding is
kind-x c e = one_of c 120 88 (is_at c X e)

-- What may follow a list may follow an item.
pub closing-follows : (k : Kind) → closing k ≡ true → follows k ≡ true
closing-follows Close h = refl
closing-follows _ h = absurd (false≢true h)
