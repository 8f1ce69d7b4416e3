-- The texts of numbers are those that the automaton accepts.
use Rattle.std.proofs.Common.{ℕ, ◌≡◌, ◌≢◌, ◌⊎◌, inl, inr, List, [], ◌∷◌, ◌++◌, true, false, Some, refl, sym, ap, ◌∙◌, subst, append_assoc}
use mathlib.Core.Logic.{⊎_elim}
use Rattle.std.proofs.lemmas.Bool.{false≢true}
use Rattle.std.proofs.lemmas.List.{append-nil}
use Rattle.std.proofs.lemmas.Option.{same_Some}
use Rattle.cbor_edn_parts.specs.base.Bytes.{Kind, Plus, Minus, Zero, One, TwoToSeven, EightOrNine, Dot, B, E, HexLetter, O, P, X, kind}
use Rattle.cbor_edn_parts.specs.internal.Lex.{Accepts, Is}
use Rattle.cbor_edn_parts.specs.number.Number.{Sign, NoSign, PlusSign, MinusSign, sign_text, Base, Binary, Octal, Decimal, Hexadecimal, IsPrefixOf, IsDigitOf, AreDigits, IsMantissa, whole, pointed, fraction, IsExponent, IsDecimalExponent, none, small_e, large_e, IsBinaryExponent, small_p, large_p, IsNumber, integer, decimal, hex_float}
use Rattle.cbor_edn_parts.specs.internal.NumberTokens as tokens
use Rattle.cbor_edn_parts.specs.internal.NumberTokens.{number_step, number_final, is_number}
use Rattle.cbor_edn_parts.specs.declared.number.NumberState.{NumberState}
use Rattle.cbor_edn_parts.specs.declared.number.NumberState.TheVariants.{Start, Signed, AfterZero, DecimalDigits, Point, Fraction, Exponent, ExponentSigned, ExponentDigits, AfterX, HexadecimalDigits, HexadecimalPoint, HexadecimalFraction, BinaryExponent, BinaryExponentSigned, BinaryExponentDigits, AfterO, OctalDigits, AfterB, BinaryDigits}
use Rattle.cbor_edn_parts.proofs.lemmas.base.Each.{Each, end, next, each, each_of, all}
use Rattle.cbor_edn_parts.proofs.lemmas.base.ByteKinds.{is_digit, digit_kind, kind_digit, kind-plus, kind-minus, kind-zero, kind-dot, kind-b, kind-e, kind-o, kind-p, kind-x}
use Rattle.cbor_edn_parts.proofs.lemmas.base.Tokens.{token_texts}

-- A number with a fraction or an exponent is read in one of two ways.
data Form : Type 0 where
  Ten : Form
  Sixteen : Form

abbrev base : Form → Base
base Ten = Decimal
base Sixteen = Hexadecimal

abbrev letter : Form → Kind
letter Ten = E
letter Sixteen = P

abbrev digits : Form → NumberState
digits Ten = DecimalDigits
digits Sixteen = HexadecimalDigits

abbrev point : Form → NumberState
point Ten = Point
point Sixteen = HexadecimalPoint

abbrev fractional : Form → NumberState
fractional Ten = Fraction
fractional Sixteen = HexadecimalFraction

abbrev power : Form → NumberState
power Ten = Exponent
power Sixteen = BinaryExponent

abbrev power_signed : Form → NumberState
power_signed Ten = ExponentSigned
power_signed Sixteen = BinaryExponentSigned

abbrev power_digits : Form → NumberState
power_digits Ten = ExponentDigits
power_digits Sixteen = BinaryExponentDigits

-- what may follow a fraction
abbrev Tail : Form → List ℕ → Type 0
Tail Ten = IsDecimalExponent
Tail Sixteen = IsBinaryExponent

-- From one state the digits of a base lead to another, and nothing else leads on.
record Leads (b : Base) (m n : NumberState) : Type 0 where
  to : (k : Kind) → is_digit b k ≡ true → number_step k m ≡ Some n
  only : (k : Kind) (i : NumberState) → number_step k m ≡ Some i → (is_digit b k ≡ true) × (i ≡ n)

along : (m n : NumberState) (t : List ℕ) → m ≡ n → Accepts tokens.number m t → Accepts tokens.number n t
along m n t e a = subst (λ i. Accepts tokens.number i t) e a

filled : (c : ℕ) (t : List ℕ) → c ∷ t ≢ []
filled c t = λ e. cc

-- Digits in a row are accepted, in front of what is.
run-is : (b : Base) (m : NumberState) {x : List ℕ} (t : List ℕ) → ((k : Kind) → is_digit b k ≡ true → number_step k m ≡ Some m) → Each (IsDigitOf b) x → Accepts tokens.number m t → Accepts tokens.number m (x ++ t)
run-is b m t to end a = a
run-is b m t to (next {c = c} h more) a = (m, to (kind c) (digit_kind b c h), run-is b m t to more a)

into-is : (b : Base) (m n : NumberState) {x : List ℕ} (t : List ℕ) → ((k : Kind) → is_digit b k ≡ true → number_step k m ≡ Some n) → ((k : Kind) → is_digit b k ≡ true → number_step k n ≡ Some n) → Each (IsDigitOf b) x → x ≢ [] → Accepts tokens.number n t
    → Accepts tokens.number m (x ++ t)
into-is b m n t to on end some a = absurd (some refl)
into-is b m n t to on (next {c = c} h more) some a = (n, to (kind c) (digit_kind b c h), run-is b n t on more a)

-- What is accepted where nothing else leads on is digits in a row.
each-from : (b : Base) (m : NumberState) → Leads b m m → (t : List ℕ) → Accepts tokens.number m t → Each (IsDigitOf b) t
each-from b m l [] a = end
each-from b m l (c ∷ t) a =
    let h = l.only (kind c) a.0 a.1 in
    next (kind_digit b c h.0) (each-from b m l t (along a.0 m t h.1 a.2))

digits-from : (b : Base) (m n : NumberState) → Leads b m n → Leads b n n → number_final m ≡ false → (t : List ℕ) → Accepts tokens.number m t → AreDigits b t
digits-from b m n l on unended [] a = absurd (false≢true (sym unended ∙ a))
digits-from b m n l on unended (c ∷ t) a =
    let h = l.only (kind c) a.0 a.1 in
    (all (next (kind_digit b c h.0) (each-from b n on t (along a.0 n t h.1 a.2))), filled c t)

digits-is : (b : Base) (m n : NumberState) {x : List ℕ} → Leads b m n → Leads b n n → number_final n ≡ true → AreDigits b x → Accepts tokens.number m x
digits-is b m n {x = x} l on closed d = subst (Accepts tokens.number m) (append-nil x) (into-is b m n [] l.to on.to (each d.0) d.1 closed)

-- The states of integers in octal and binary.
octal_to : (k : Kind) → is_digit Octal k ≡ true → (number_step k AfterO ≡ Some OctalDigits) × (number_step k OctalDigits ≡ Some OctalDigits)
octal_to Zero e = (refl, refl)
octal_to One e = (refl, refl)
octal_to TwoToSeven e = (refl, refl)
octal_to _ e = absurd (false≢true e)

octal_only : (k : Kind) (i : NumberState) → number_step k AfterO ≡ Some i → (is_digit Octal k ≡ true) × (i ≡ OctalDigits)
octal_only Zero i e = (refl, cc)
octal_only One i e = (refl, cc)
octal_only TwoToSeven i e = (refl, cc)
octal_only _ i e = absurd (cc)

octals_only : (k : Kind) (i : NumberState) → number_step k OctalDigits ≡ Some i → (is_digit Octal k ≡ true) × (i ≡ OctalDigits)
octals_only Zero i e = (refl, cc)
octals_only One i e = (refl, cc)
octals_only TwoToSeven i e = (refl, cc)
octals_only _ i e = absurd (cc)

binary_to : (k : Kind) → is_digit Binary k ≡ true → (number_step k AfterB ≡ Some BinaryDigits) × (number_step k BinaryDigits ≡ Some BinaryDigits)
binary_to Zero e = (refl, refl)
binary_to One e = (refl, refl)
binary_to _ e = absurd (false≢true e)

binary_only : (k : Kind) (i : NumberState) → number_step k AfterB ≡ Some i → (is_digit Binary k ≡ true) × (i ≡ BinaryDigits)
binary_only Zero i e = (refl, cc)
binary_only One i e = (refl, cc)
binary_only _ i e = absurd (cc)

binaries_only : (k : Kind) (i : NumberState) → number_step k BinaryDigits ≡ Some i → (is_digit Binary k ≡ true) × (i ≡ BinaryDigits)
binaries_only Zero i e = (refl, cc)
binaries_only One i e = (refl, cc)
binaries_only _ i e = absurd (cc)

after_o : Leads Octal AfterO OctalDigits
after_o = record { to = λ k e. (octal_to k e).0; only = octal_only }

octals : Leads Octal OctalDigits OctalDigits
octals = record { to = λ k e. (octal_to k e).1; only = octals_only }

after_b : Leads Binary AfterB BinaryDigits
after_b = record { to = λ k e. (binary_to k e).0; only = binary_only }

binaries : Leads Binary BinaryDigits BinaryDigits
binaries = record { to = λ k e. (binary_to k e).1; only = binaries_only }

-- The states of an exponent.
power_to : (f : Form) (k : Kind) → is_digit Decimal k ≡ true → (number_step k (power f) ≡ Some (power_digits f)) × (number_step k (power_signed f) ≡ Some (power_digits f)) × (number_step k (power_digits f) ≡ Some (power_digits f))
power_to Ten Zero e = (refl, refl, refl)
power_to Ten One e = (refl, refl, refl)
power_to Ten TwoToSeven e = (refl, refl, refl)
power_to Ten EightOrNine e = (refl, refl, refl)
power_to Sixteen Zero e = (refl, refl, refl)
power_to Sixteen One e = (refl, refl, refl)
power_to Sixteen TwoToSeven e = (refl, refl, refl)
power_to Sixteen EightOrNine e = (refl, refl, refl)
power_to _ _ e = absurd (false≢true e)

power_only : (f : Form) (k : Kind) (i : NumberState) → number_step k (power f) ≡ Some i → ((is_digit Decimal k ≡ true) × (i ≡ power_digits f)) ⊎ (((k ≡ Plus) ⊎ (k ≡ Minus)) × (i ≡ power_signed f))
power_only Ten Zero i e = inl (refl, cc)
power_only Ten One i e = inl (refl, cc)
power_only Ten TwoToSeven i e = inl (refl, cc)
power_only Ten EightOrNine i e = inl (refl, cc)
power_only Ten Plus i e = inr (inl refl, cc)
power_only Ten Minus i e = inr (inr refl, cc)
power_only Sixteen Zero i e = inl (refl, cc)
power_only Sixteen One i e = inl (refl, cc)
power_only Sixteen TwoToSeven i e = inl (refl, cc)
power_only Sixteen EightOrNine i e = inl (refl, cc)
power_only Sixteen Plus i e = inr (inl refl, cc)
power_only Sixteen Minus i e = inr (inr refl, cc)
power_only _ _ i e = absurd (cc)

power_signed_only : (f : Form) (k : Kind) (i : NumberState) → number_step k (power_signed f) ≡ Some i → (is_digit Decimal k ≡ true) × (i ≡ power_digits f)
power_signed_only Ten Zero i e = (refl, cc)
power_signed_only Ten One i e = (refl, cc)
power_signed_only Ten TwoToSeven i e = (refl, cc)
power_signed_only Ten EightOrNine i e = (refl, cc)
power_signed_only Sixteen Zero i e = (refl, cc)
power_signed_only Sixteen One i e = (refl, cc)
power_signed_only Sixteen TwoToSeven i e = (refl, cc)
power_signed_only Sixteen EightOrNine i e = (refl, cc)
power_signed_only _ _ i e = absurd (cc)

power_digits_only : (f : Form) (k : Kind) (i : NumberState) → number_step k (power_digits f) ≡ Some i → (is_digit Decimal k ≡ true) × (i ≡ power_digits f)
power_digits_only Ten Zero i e = (refl, cc)
power_digits_only Ten One i e = (refl, cc)
power_digits_only Ten TwoToSeven i e = (refl, cc)
power_digits_only Ten EightOrNine i e = (refl, cc)
power_digits_only Sixteen Zero i e = (refl, cc)
power_digits_only Sixteen One i e = (refl, cc)
power_digits_only Sixteen TwoToSeven i e = (refl, cc)
power_digits_only Sixteen EightOrNine i e = (refl, cc)
power_digits_only _ _ i e = absurd (cc)

after_power_sign : (f : Form) → Leads Decimal (power_signed f) (power_digits f)
after_power_sign f = record { to = λ k e. (power_to f k e).1; only = power_signed_only f }

powers : (f : Form) → Leads Decimal (power_digits f) (power_digits f)
powers f = record { to = λ k e. (power_to f k e).2; only = power_digits_only f }

open_sign : (f : Form) → number_final (power_signed f) ≡ false
open_sign Ten = refl
open_sign Sixteen = refl

closed_power : (f : Form) → number_final (power_digits f) ≡ true
closed_power Ten = refl
closed_power Sixteen = refl

signed_power : (f : Form) → (number_step (kind 43) (power f) ≡ Some (power_signed f)) × (number_step (kind 45) (power f) ≡ Some (power_signed f))
unfolding kind
signed_power Ten = (refl, refl)
signed_power Sixteen = (refl, refl)

power-is : (f : Form) {t : List ℕ} → IsExponent t → Accepts tokens.number (power f) t
power-is f {t = t} r = subst (Accepts tokens.number (power f)) (sym r.spelled) (go r.sign)
  where
    behind : Accepts tokens.number (power_signed f) r.digits
    behind = digits-is Decimal (power_signed f) (power_digits f) (after_power_sign f) (powers f) (closed_power f) r.digits_are

    go : (s : Sign) → Accepts tokens.number (power f) (sign_text s ++ r.digits)
    go NoSign = subst (Accepts tokens.number (power f)) (append-nil r.digits) (into-is Decimal (power f) (power_digits f) [] (λ k e. (power_to f k e).0) (λ k e. (power_to f k e).2) (each r.digits_are.0) r.digits_are.1 (closed_power f))
    go PlusSign = (power_signed f, (signed_power f).0, behind)
    go MinusSign = (power_signed f, (signed_power f).1, behind)

exponent : (s : Sign) (t x : List ℕ) → t ≡ sign_text s ++ x → AreDigits Decimal x → IsExponent t
exponent s t x e d = record { sign = s; digits = x; digits_are = d; spelled = e }

power-from : (f : Form) (t : List ℕ) → Accepts tokens.number (power f) t → IsExponent t
power-from Ten [] a = absurd (false≢true a)
power-from Sixteen [] a = absurd (false≢true a)
power-from f (c ∷ t) a =
    ⊎_elim
    (λ (d, to). exponent NoSign (c ∷ t) (c ∷ t) refl (all (next (kind_digit Decimal c d) (each-from Decimal (power_digits f) (powers f) t (along a.0 (power_digits f) t to a.2))), filled c t))
    (λ (k, to).
    let x = digits-from Decimal (power_signed f) (power_digits f) (after_power_sign f) (powers f) (open_sign f) t (along a.0 (power_signed f) t to a.2) in
    ⊎_elim (λ p. exponent PlusSign (c ∷ t) t (ap (◌∷ t) (kind-plus c p)) x) (λ m. exponent MinusSign (c ∷ t) t (ap (◌∷ t) (kind-minus c m)) x) k)
    (power_only f (kind c) a.0 a.1)

-- The states of a mantissa.
mantissa_to : (f : Form) (k : Kind) → is_digit (base f) k ≡ true → (number_step k (digits f) ≡ Some (digits f)) × (number_step k (point f) ≡ Some (fractional f)) × (number_step k (fractional f) ≡ Some (fractional f))
mantissa_to Ten Zero e = (refl, refl, refl)
mantissa_to Ten One e = (refl, refl, refl)
mantissa_to Ten TwoToSeven e = (refl, refl, refl)
mantissa_to Ten EightOrNine e = (refl, refl, refl)
mantissa_to Sixteen Zero e = (refl, refl, refl)
mantissa_to Sixteen One e = (refl, refl, refl)
mantissa_to Sixteen TwoToSeven e = (refl, refl, refl)
mantissa_to Sixteen EightOrNine e = (refl, refl, refl)
mantissa_to Sixteen B e = (refl, refl, refl)
mantissa_to Sixteen E e = (refl, refl, refl)
mantissa_to Sixteen HexLetter e = (refl, refl, refl)
mantissa_to _ _ e = absurd (false≢true e)

digits_only : (f : Form) (k : Kind) (i : NumberState) → number_step k (digits f) ≡ Some i
    → ((is_digit (base f) k ≡ true) × (i ≡ digits f)) ⊎ (((k ≡ Dot) × (i ≡ fractional f)) ⊎ ((k ≡ letter f) × (i ≡ power f)))
digits_only Ten Zero i e = inl (refl, cc)
digits_only Ten One i e = inl (refl, cc)
digits_only Ten TwoToSeven i e = inl (refl, cc)
digits_only Ten EightOrNine i e = inl (refl, cc)
digits_only Ten Dot i e = inr (inl (refl, cc))
digits_only Ten E i e = inr (inr (refl, cc))
digits_only Sixteen Zero i e = inl (refl, cc)
digits_only Sixteen One i e = inl (refl, cc)
digits_only Sixteen TwoToSeven i e = inl (refl, cc)
digits_only Sixteen EightOrNine i e = inl (refl, cc)
digits_only Sixteen B i e = inl (refl, cc)
digits_only Sixteen E i e = inl (refl, cc)
digits_only Sixteen HexLetter i e = inl (refl, cc)
digits_only Sixteen Dot i e = inr (inl (refl, cc))
digits_only Sixteen P i e = inr (inr (refl, cc))
digits_only _ _ i e = absurd (cc)

fractional_only : (f : Form) (k : Kind) (i : NumberState) → number_step k (fractional f) ≡ Some i → ((is_digit (base f) k ≡ true) × (i ≡ fractional f)) ⊎ ((k ≡ letter f) × (i ≡ power f))
fractional_only Ten Zero i e = inl (refl, cc)
fractional_only Ten One i e = inl (refl, cc)
fractional_only Ten TwoToSeven i e = inl (refl, cc)
fractional_only Ten EightOrNine i e = inl (refl, cc)
fractional_only Ten E i e = inr (refl, cc)
fractional_only Sixteen Zero i e = inl (refl, cc)
fractional_only Sixteen One i e = inl (refl, cc)
fractional_only Sixteen TwoToSeven i e = inl (refl, cc)
fractional_only Sixteen EightOrNine i e = inl (refl, cc)
fractional_only Sixteen B i e = inl (refl, cc)
fractional_only Sixteen E i e = inl (refl, cc)
fractional_only Sixteen HexLetter i e = inl (refl, cc)
fractional_only Sixteen P i e = inr (refl, cc)
fractional_only _ _ i e = absurd (cc)

point_only : (f : Form) (k : Kind) (i : NumberState) → number_step k (point f) ≡ Some i → (is_digit (base f) k ≡ true) × (i ≡ fractional f)
point_only Ten Zero i e = (refl, cc)
point_only Ten One i e = (refl, cc)
point_only Ten TwoToSeven i e = (refl, cc)
point_only Ten EightOrNine i e = (refl, cc)
point_only Sixteen Zero i e = (refl, cc)
point_only Sixteen One i e = (refl, cc)
point_only Sixteen TwoToSeven i e = (refl, cc)
point_only Sixteen EightOrNine i e = (refl, cc)
point_only Sixteen B i e = (refl, cc)
point_only Sixteen E i e = (refl, cc)
point_only Sixteen HexLetter i e = (refl, cc)
point_only _ _ i e = absurd (cc)

digits_point : (f : Form) → number_step (kind 46) (digits f) ≡ Some (fractional f)
unfolding kind
digits_point Ten = refl
digits_point Sixteen = refl

-- What follows digits, with a point or none.
tail-is : (f : Form) (t : List ℕ) → Tail f t → Accepts tokens.number (digits f) t × Accepts tokens.number (fractional f) t
unfolding kind
tail-is Ten _ none = (refl, refl)
tail-is Ten _ (small_e x) = ((Exponent, refl, power-is Ten x), (Exponent, refl, power-is Ten x))
tail-is Ten _ (large_e x) = ((Exponent, refl, power-is Ten x), (Exponent, refl, power-is Ten x))
tail-is Sixteen _ (small_p x) = ((BinaryExponent, refl, power-is Sixteen x), (BinaryExponent, refl, power-is Sixteen x))
tail-is Sixteen _ (large_p x) = ((BinaryExponent, refl, power-is Sixteen x), (BinaryExponent, refl, power-is Sixteen x))

tail_of : (f : Form) (c : ℕ) (t : List ℕ) → kind c ≡ letter f → IsExponent t → Tail f (c ∷ t)
tail_of Ten c t e x = ⊎_elim (λ h. subst (λ d. IsDecimalExponent (d ∷ t)) (sym h) (small_e x)) (λ h. subst (λ d. IsDecimalExponent (d ∷ t)) (sym h) (large_e x)) (kind-e c e)
tail_of Sixteen c t e x = ⊎_elim (λ h. subst (λ d. IsBinaryExponent (d ∷ t)) (sym h) (small_p x)) (λ h. subst (λ d. IsBinaryExponent (d ∷ t)) (sym h) (large_p x)) (kind-p c e)

-- What leads into a mantissa: its first digit, or a point.
record Enters (f : Form) (m : NumberState) : Type 0 where
  digit : (c : ℕ) (t : List ℕ) → IsDigitOf (base f) c → Accepts tokens.number (digits f) t → Accepts tokens.number m (c ∷ t)
  dot : number_step (kind 46) m ≡ Some (point f)

digits_row-is : (f : Form) (m : NumberState) {x : List ℕ} (t : List ℕ) → Enters f m → Each (IsDigitOf (base f)) x → x ≢ [] → Accepts tokens.number (digits f) t → Accepts tokens.number m (x ++ t)
digits_row-is f m t n end some a = absurd (some refl)
digits_row-is f m t n (next {c = c} {x = x} h more) some a = n.digit c (x ++ t) h (run-is (base f) (digits f) t (λ k e. (mantissa_to f k e).0) more a)

row-is : (f : Form) (m : NumberState) {x : List ℕ} (t : List ℕ) → Enters f m → AreDigits (base f) x → Accepts tokens.number (digits f) t → Accepts tokens.number m (x ++ t)
row-is f m t n (h, some) a = digits_row-is f m t n (each h) some a

mantissa-is : (f : Form) (m : NumberState) {x : List ℕ} (t : List ℕ) → Enters f m → IsMantissa (base f) x → Tail f t → Accepts tokens.number m (x ++ t)
mantissa-is f m t n (whole d) e = row-is f m t n d (tail-is f t e).0
mantissa-is f m t n (pointed {x = x} y d h) e =
    subst (Accepts tokens.number m) (sym (append_assoc x (46 ∷ y) t))
    (row-is f m (46 ∷ (y ++ t)) n d (fractional f, digits_point f, run-is (base f) (fractional f) t (λ k e. (mantissa_to f k e).2) (each_of y h) (tail-is f t e).1))
mantissa-is f m t n (fraction d) e = (point f, n.dot, into-is (base f) (point f) (fractional f) t (λ k e. (mantissa_to f k e).1) (λ k e. (mantissa_to f k e).2) (each d.0) d.1 (tail-is f t e).1)

-- What is left behind the point, and behind a digit in front of it.
record LeftOfFraction (f : Form) (t : List ℕ) : Type 0 where
  digits_left : List ℕ
  tail : List ℕ
  digits_are : Each (IsDigitOf (base f)) digits_left
  tail_is : Tail f tail
  spelled : t ≡ digits_left ++ tail

data LeftOfDigits (f : Form) (t : List ℕ) : Type 0 where
  digits_alone : Each (IsDigitOf (base f)) t → LeftOfDigits f t
  no_point : LeftOfFraction f t → LeftOfDigits f t
  a_point : {x y : List ℕ} → Each (IsDigitOf (base f)) x → LeftOfFraction f y → t ≡ x ++ (46 ∷ y) → LeftOfDigits f t

left_digit : (f : Form) (c : ℕ) (t : List ℕ) → IsDigitOf (base f) c → LeftOfFraction f t → LeftOfFraction f (c ∷ t)
left_digit f c t h l = record { digits_left = c ∷ l.digits_left; tail = l.tail; digits_are = next h l.digits_are; tail_is = l.tail_is; spelled = ap (c ∷◌) l.spelled }

left_tail : (f : Form) (t : List ℕ) → Tail f t → LeftOfFraction f t
left_tail f t e = record { digits_left = []; tail = t; digits_are = end; tail_is = e; spelled = refl }

left_power : (f : Form) (c : ℕ) (t : List ℕ) → kind c ≡ letter f → Accepts tokens.number (power f) t → LeftOfFraction f (c ∷ t)
left_power f c t k a = left_tail f (c ∷ t) (tail_of f c t k (power-from f t a))

fraction-from : (f : Form) (t : List ℕ) → Accepts tokens.number (fractional f) t → LeftOfFraction f t
fraction-from Ten [] a = left_tail Ten [] none
fraction-from Sixteen [] a = absurd (false≢true a)
fraction-from f (c ∷ t) a =
    ⊎_elim
    (λ (d, to). left_digit f c t (kind_digit (base f) c d) (fraction-from f t (along a.0 (fractional f) t to a.2)))
    (λ (k, to). left_power f c t k (along a.0 (power f) t to a.2))
    (fractional_only f (kind c) a.0 a.1)

one_more : (f : Form) (c : ℕ) (t : List ℕ) → IsDigitOf (base f) c → LeftOfDigits f t → LeftOfDigits f (c ∷ t)
one_more f c t h (digits_alone ds) = digits_alone (next h ds)
one_more f c t h (no_point l) = no_point (left_digit f c t h l)
one_more f c t h (a_point ds l e) = a_point (next h ds) l (ap (c ∷◌) e)

digits_left-from : (f : Form) (t : List ℕ) → Accepts tokens.number (digits f) t → LeftOfDigits f t
digits_left-from f [] a = digits_alone end
digits_left-from f (c ∷ t) a =
    ⊎_elim
    (λ (d, to). one_more f c t (kind_digit (base f) c d) (digits_left-from f t (along a.0 (digits f) t to a.2)))
    (⊎_elim
    (λ (k, to). a_point end (fraction-from f t (along a.0 (fractional f) t to a.2)) (ap (◌∷ t) (kind-dot c k)))
    (λ (k, to). no_point (left_power f c t k (along a.0 (power f) t to a.2))))
    (digits_only f (kind c) a.0 a.1)

-- A mantissa and what follows it.
record Pointed (f : Form) (t : List ℕ) : Type 0 where
  mantissa : List ℕ
  tail : List ℕ
  mantissa_is : IsMantissa (base f) mantissa
  tail_is : Tail f tail
  spelled : t ≡ mantissa ++ tail

point-from : (f : Form) (t : List ℕ) → Accepts tokens.number (point f) t → Pointed f (46 ∷ t)
point-from Ten [] a = absurd (false≢true a)
point-from Sixteen [] a = absurd (false≢true a)
point-from f (c ∷ t) a =
    let h = point_only f (kind c) a.0 a.1 in
    let l = fraction-from f t (along a.0 (fractional f) t h.1 a.2) in
    record {
      mantissa = 46 ∷ c ∷ l.digits_left;
      tail = l.tail;
      mantissa_is = fraction (all (next (kind_digit (base f) c h.0) l.digits_are), filled c l.digits_left);
      tail_is = l.tail_is;
      spelled = ap (λ x. 46 ∷ c ∷ x) l.spelled;
    }

-- a first digit and what is left behind it
of_digits : (f : Form) (c : ℕ) (t : List ℕ) → IsDigitOf (base f) c → LeftOfDigits f t → AreDigits (base f) (c ∷ t) ⊎ Pointed f (c ∷ t)
of_digits f c t h (digits_alone ds) = inl (all (next h ds), filled c t)
of_digits f c t h (no_point l) =
    inr (record { mantissa = c ∷ l.digits_left; tail = l.tail; mantissa_is = whole (all (next h l.digits_are), filled c l.digits_left); tail_is = l.tail_is; spelled = ap (c ∷◌) l.spelled })
of_digits f c t h (a_point {x = x} {y = y} ds l e) =
    inr (record {
      mantissa = (c ∷ x) ++ (46 ∷ l.digits_left);
      tail = l.tail;
      mantissa_is = pointed l.digits_left (all (next h ds), filled c x) (all l.digits_are);
      tail_is = l.tail_is;
      spelled = ap (c ∷◌) (e ∙ (ap (λ u. x ++ (46 ∷ u)) l.spelled ∙ sym (append_assoc x (46 ∷ l.digits_left) l.tail)));
    })

-- The states in front of a number without its sign.
data Fresh : NumberState → Type 0 where
  at_start : Fresh Start
  at_sign : Fresh Signed

-- Behind a zero leads on what does behind other digits, and the letter of a base.
zero_to : (k : Kind) (n : NumberState) → number_step k DecimalDigits ≡ Some n → number_step k AfterZero ≡ Some n
zero_to Zero n e = e
zero_to One n e = e
zero_to TwoToSeven n e = e
zero_to EightOrNine n e = e
zero_to Dot n e = e
zero_to E n e = e
zero_to _ n e = absurd (cc)

zero_only : (k : Kind) (n : NumberState) → number_step k AfterZero ≡ Some n
    → (number_step k DecimalDigits ≡ Some n) ⊎ (((k ≡ X) × (n ≡ AfterX)) ⊎ (((k ≡ O) × (n ≡ AfterO)) ⊎ ((k ≡ B) × (n ≡ AfterB))))
zero_only Zero n e = inl e
zero_only One n e = inl e
zero_only TwoToSeven n e = inl e
zero_only EightOrNine n e = inl e
zero_only Dot n e = inl e
zero_only E n e = inl e
zero_only X n e = inr (inl (refl, cc))
zero_only O n e = inr (inr (inl (refl, cc)))
zero_only B n e = inr (inr (inr (refl, cc)))
zero_only _ n e = absurd (cc)

after_zero-is : (t : List ℕ) → Accepts tokens.number DecimalDigits t → Accepts tokens.number AfterZero t
after_zero-is [] a = refl
after_zero-is (c ∷ t) a = (a.0, zero_to (kind c) a.0 a.1, a.2)

first_digit : (m : NumberState) → Fresh m → (k : Kind) → is_digit Decimal k ≡ true → (number_step k m ≡ Some AfterZero) ⊎ (number_step k m ≡ Some DecimalDigits)
first_digit _ at_start Zero e = inl refl
first_digit _ at_start One e = inr refl
first_digit _ at_start TwoToSeven e = inr refl
first_digit _ at_start EightOrNine e = inr refl
first_digit _ at_sign Zero e = inl refl
first_digit _ at_sign One e = inr refl
first_digit _ at_sign TwoToSeven e = inr refl
first_digit _ at_sign EightOrNine e = inr refl
first_digit _ _ _ e = absurd (false≢true e)

first_point : (m : NumberState) → Fresh m → number_step (kind 46) m ≡ Some Point
unfolding kind
first_point _ at_start = refl
first_point _ at_sign = refl

first_zero : (m : NumberState) → Fresh m → number_step (kind 48) m ≡ Some AfterZero
unfolding kind
first_zero _ at_start = refl
first_zero _ at_sign = refl

decimal_enters : (m : NumberState) → Fresh m → Enters Ten m
decimal_enters m f = record {
  digit = λ c t h a. ⊎_elim (λ e. (AfterZero, e, after_zero-is t a)) (λ e. (DecimalDigits, e, a)) (first_digit m f (kind c) (digit_kind Decimal c h));
  dot = first_point m f;
}

x_digit : (k : Kind) → is_digit Hexadecimal k ≡ true → number_step k AfterX ≡ Some HexadecimalDigits
x_digit Zero e = refl
x_digit One e = refl
x_digit TwoToSeven e = refl
x_digit EightOrNine e = refl
x_digit B e = refl
x_digit E e = refl
x_digit HexLetter e = refl
x_digit _ e = absurd (false≢true e)

x_point : number_step (kind 46) AfterX ≡ Some HexadecimalPoint
unfolding kind
x_point = refl

hexadecimal_enters : Enters Sixteen AfterX
hexadecimal_enters = record { digit = λ c t h a. (HexadecimalDigits, x_digit (kind c) (digit_kind Hexadecimal c h), a); dot = x_point }

x_only : (k : Kind) (n : NumberState) → number_step k AfterX ≡ Some n → ((is_digit Hexadecimal k ≡ true) × (n ≡ HexadecimalDigits)) ⊎ ((k ≡ Dot) × (n ≡ HexadecimalPoint))
x_only Zero n e = inl (refl, cc)
x_only One n e = inl (refl, cc)
x_only TwoToSeven n e = inl (refl, cc)
x_only EightOrNine n e = inl (refl, cc)
x_only B n e = inl (refl, cc)
x_only E n e = inl (refl, cc)
x_only HexLetter n e = inl (refl, cc)
x_only Dot n e = inr (refl, cc)
x_only _ n e = absurd (cc)

signed_only : (k : Kind) (n : NumberState) → number_step k Signed ≡ Some n
    → ((k ≡ Zero) × (n ≡ AfterZero)) ⊎ (((is_digit Decimal k ≡ true) × (n ≡ DecimalDigits)) ⊎ ((k ≡ Dot) × (n ≡ Point)))
signed_only Zero n e = inl (refl, cc)
signed_only One n e = inr (inl (refl, cc))
signed_only TwoToSeven n e = inr (inl (refl, cc))
signed_only EightOrNine n e = inr (inl (refl, cc))
signed_only Dot n e = inr (inr (refl, cc))
signed_only _ n e = absurd (cc)

start_only : (k : Kind) (n : NumberState) → number_step k Start ≡ Some n → (((k ≡ Plus) ⊎ (k ≡ Minus)) × (n ≡ Signed)) ⊎ (number_step k Signed ≡ Some n)
start_only Plus n e = inl (inl refl, cc)
start_only Minus n e = inl (inr refl, cc)
start_only Zero n e = inr e
start_only One n e = inr e
start_only TwoToSeven n e = inr e
start_only EightOrNine n e = inr e
start_only Dot n e = inr e
start_only _ n e = absurd (cc)

-- A number without its sign.
pub data Unsigned (t : List ℕ) : Type 0 where
  unsigned_integer : (b : Base) (p x : List ℕ) → IsPrefixOf b p → AreDigits b x → t ≡ p ++ x → Unsigned t
  unsigned_decimal : (x e : List ℕ) → IsMantissa Decimal x → IsDecimalExponent e → t ≡ x ++ e → Unsigned t
  unsigned_hex : (p x e : List ℕ) → IsPrefixOf Hexadecimal p → IsMantissa Hexadecimal x → IsBinaryExponent e → t ≡ p ++ (x ++ e) → Unsigned t

-- the state behind a prefix
abbrev pub behind_prefix : Base → NumberState
behind_prefix Binary = AfterB
behind_prefix Octal = AfterO
behind_prefix Decimal = Signed
behind_prefix Hexadecimal = AfterX

letters : (number_step (kind 98) AfterZero ≡ Some AfterB) × (number_step (kind 66) AfterZero ≡ Some AfterB) × (number_step (kind 111) AfterZero ≡ Some AfterO) × (number_step (kind 79) AfterZero ≡ Some AfterO) × (number_step (kind 120) AfterZero ≡ Some AfterX) × (number_step (kind 88) AfterZero ≡ Some AfterX)
unfolding kind
letters = (refl, refl, refl, refl, refl, refl)

named-is : (m n : NumberState) (a b : ℕ) (p t : List ℕ) → Fresh m → number_step (kind a) AfterZero ≡ Some n → number_step (kind b) AfterZero ≡ Some n → (p ≡ 48 ∷ a ∷ []) ⊎ (p ≡ 48 ∷ b ∷ []) → Accepts tokens.number n t → Accepts tokens.number m (p ++ t)
named-is m n a b p t f ea eb e h =
    ⊎_elim
    (λ q. subst (λ r. Accepts tokens.number m (r ++ t)) (sym q) (AfterZero, first_zero m f, (n, ea, h)))
    (λ q. subst (λ r. Accepts tokens.number m (r ++ t)) (sym q) (AfterZero, first_zero m f, (n, eb, h)))
    e

integer-is : (m : NumberState) (b : Base) (p x : List ℕ) → Fresh m → IsPrefixOf b p → AreDigits b x → Accepts tokens.number m (p ++ x)
integer-is m Binary p x f e d = named-is m AfterB 98 66 p x f letters.0 letters.1 e (digits-is Binary AfterB BinaryDigits after_b binaries refl d)
integer-is m Octal p x f e d = named-is m AfterO 111 79 p x f letters.2 letters.3 e (digits-is Octal AfterO OctalDigits after_o octals refl d)
integer-is m Decimal p x f e d =
    subst (λ q. Accepts tokens.number m (q ++ x)) (sym e)
    (subst (Accepts tokens.number m) (append-nil x) (row-is Ten m [] (decimal_enters m f) d refl))
integer-is m Hexadecimal p x f e d = named-is m AfterX 120 88 p x f letters.4 letters.5 e (subst (Accepts tokens.number AfterX) (append-nil x) (row-is Sixteen AfterX [] hexadecimal_enters d refl))

unsigned-is : (m : NumberState) (t : List ℕ) → Fresh m → Unsigned t → Accepts tokens.number m t
unsigned-is m t f (unsigned_integer b p x e d q) = subst (Accepts tokens.number m) (sym q) (integer-is m b p x f e d)
unsigned-is m t f (unsigned_decimal _ e x h q) = subst (Accepts tokens.number m) (sym q) (mantissa-is Ten m e (decimal_enters m f) x h)
unsigned-is m t f (unsigned_hex p x e i d h q) =
    subst (Accepts tokens.number m) (sym q) (named-is m AfterX 120 88 p (x ++ e) f letters.4 letters.5 i (mantissa-is Sixteen AfterX e hexadecimal_enters d h))

-- What is behind a prefix is accepted there.
behind_named : (n : NumberState) (a b : ℕ) (p t : List ℕ) → number_step (kind a) AfterZero ≡ Some n → number_step (kind b) AfterZero ≡ Some n → (p ≡ 48 ∷ a ∷ []) ⊎ (p ≡ 48 ∷ b ∷ []) → Accepts tokens.number Signed (p ++ t) → Accepts tokens.number n t
behind_named n a b p t ea eb e h = ⊎_elim (λ q. behind_letter a ea (subst (λ r. Accepts tokens.number Signed (r ++ t)) q h)) (λ q. behind_letter b eb (subst (λ r. Accepts tokens.number Signed (r ++ t)) q h)) e
  where
    behind_letter : (c : ℕ) → number_step (kind c) AfterZero ≡ Some n → Accepts tokens.number Signed (48 ∷ c ∷ t) → Accepts tokens.number n t
    behind_letter c step (m, zero, (i, there, a)) =
        let at : AfterZero ≡ m = same_Some AfterZero m (sym (first_zero Signed at_sign) ∙ zero) in
        let to : n ≡ i = same_Some n i (sym step ∙ (ap (number_step (kind c)) at ∙ there)) in
        along i n t (sym to) a

pub after_prefix : (b : Base) (p t : List ℕ) → IsPrefixOf b p → Accepts tokens.number Signed (p ++ t) → Accepts tokens.number (behind_prefix b) t
after_prefix Binary p t e a = behind_named AfterB 98 66 p t letters.0 letters.1 e a
after_prefix Octal p t e a = behind_named AfterO 111 79 p t letters.2 letters.3 e a
after_prefix Decimal p t e a = subst (λ r. Accepts tokens.number Signed (r ++ t)) e a
after_prefix Hexadecimal p t e a = behind_named AfterX 120 88 p t letters.4 letters.5 e a

plus_step : number_step (kind 43) Start ≡ Some Signed
unfolding kind
plus_step = refl

minus_step : number_step (kind 45) Start ≡ Some Signed
unfolding kind
minus_step = refl

signed-is : (s : Sign) (t : List ℕ) → Unsigned t → Is tokens.number (sign_text s ++ t)
signed-is NoSign t u = unsigned-is Start t at_start u
signed-is PlusSign t u = (Signed, plus_step, unsigned-is Signed t at_sign u)
signed-is MinusSign t u = (Signed, minus_step, unsigned-is Signed t at_sign u)

pub behind_sign-is : (t : List ℕ) → Unsigned t → Accepts tokens.number Signed t
behind_sign-is t u = unsigned-is Signed t at_sign u

-- a number's sign, and what is behind it
pub record Parted (t : List ℕ) : Type 0 where
  pub sign : Sign
  pub rest : List ℕ
  pub rest_is : Unsigned rest
  pub spelled : t ≡ sign_text sign ++ rest

abbrev pub number_parts : {t : List ℕ} → IsNumber t → Parted t
number_parts (integer r) = record { sign = r.sign; rest = r.prefix ++ r.digits; rest_is = unsigned_integer r.base r.prefix r.digits r.prefix_is r.digits_are refl; spelled = r.spelled }
number_parts (decimal r) = record { sign = r.sign; rest = r.mantissa ++ r.exponent; rest_is = unsigned_decimal r.mantissa r.exponent r.mantissa_is r.exponent_is refl; spelled = r.spelled }
number_parts (hex_float r) = record { sign = r.sign; rest = r.prefix ++ (r.mantissa ++ r.exponent); rest_is = unsigned_hex r.prefix r.mantissa r.exponent r.prefix_is r.mantissa_is r.exponent_is refl; spelled = r.spelled }

pub number-is : {t : List ℕ} → IsNumber t → Is tokens.number t
number-is n = let r = number_parts n in subst (Is tokens.number) (sym r.spelled) (signed-is r.sign r.rest r.rest_is)

-- What is accepted is a number.
named_by : (c x small large : ℕ) → c ≡ 48 → (x ≡ small) ⊎ (x ≡ large) → (c ∷ x ∷ [] ≡ 48 ∷ small ∷ []) ⊎ (c ∷ x ∷ [] ≡ 48 ∷ large ∷ [])
named_by c x small large e k = ⊎_elim (λ h. inl (cc)) (λ h. inr (cc)) k

of_ten : (t : List ℕ) → AreDigits Decimal t ⊎ Pointed Ten t → Unsigned t
of_ten t (inl d) = unsigned_integer Decimal [] t refl d refl
of_ten t (inr p) = unsigned_decimal p.mantissa p.tail p.mantissa_is p.tail_is p.spelled

of_sixteen : (c x : ℕ) (t : List ℕ) → c ≡ 48 → (x ≡ 120) ⊎ (x ≡ 88) → AreDigits Hexadecimal t ⊎ Pointed Sixteen t → Unsigned (c ∷ x ∷ t)
of_sixteen c x t e k (inl d) = unsigned_integer Hexadecimal (c ∷ x ∷ []) t (named_by c x 120 88 e k) d refl
of_sixteen c x t e k (inr p) = unsigned_hex (c ∷ x ∷ []) p.mantissa p.tail (named_by c x 120 88 e k) p.mantissa_is p.tail_is (ap (λ u. c ∷ x ∷ u) p.spelled)

hexadecimal-from : (t : List ℕ) → Accepts tokens.number AfterX t → AreDigits Hexadecimal t ⊎ Pointed Sixteen t
hexadecimal-from [] a = absurd (false≢true a)
hexadecimal-from (c ∷ t) a =
    ⊎_elim
    (λ (d, to). of_digits Sixteen c t (kind_digit Hexadecimal c d) (digits_left-from Sixteen t (along a.0 HexadecimalDigits t to a.2)))
    (λ (k, to). inr (subst (λ d. Pointed Sixteen (d ∷ t)) (sym (kind-dot c k)) (point-from Sixteen t (along a.0 HexadecimalPoint t to a.2))))
    (x_only (kind c) a.0 a.1)

zero_digit : (c : ℕ) → kind c ≡ Zero → is_digit Decimal (kind c) ≡ true
zero_digit c e = rw e

of_zero : (c : ℕ) (t : List ℕ) → kind c ≡ Zero → Accepts tokens.number AfterZero t → Unsigned (c ∷ t)
of_zero c [] k a = of_ten (c ∷ []) (inl (all {P = IsDigitOf Decimal} (next (kind_digit Decimal c (zero_digit c k)) end), filled c []))
of_zero c (d ∷ t) k a =
    ⊎_elim
    (λ to. of_ten (c ∷ d ∷ t) (of_digits Ten c (d ∷ t) (kind_digit Decimal c (zero_digit c k)) (digits_left-from Ten (d ∷ t) (a.0, to, a.2))))
    (⊎_elim
    (λ (x, to). of_sixteen c d t (kind-zero c k) (kind-x d x) (hexadecimal-from t (along a.0 AfterX t to a.2)))
    (⊎_elim
    (λ (o, to).
    unsigned_integer Octal (c ∷ d ∷ []) t (named_by c d 111 79 (kind-zero c k) (kind-o d o))
    (digits-from Octal AfterO OctalDigits after_o octals refl t (along a.0 AfterO t to a.2)) refl)
    (λ (b, to).
    unsigned_integer Binary (c ∷ d ∷ []) t (named_by c d 98 66 (kind-zero c k) (kind-b d b))
    (digits-from Binary AfterB BinaryDigits after_b binaries refl t (along a.0 AfterB t to a.2)) refl)))
    (zero_only (kind d) a.0 a.1)

unsigned-from : (t : List ℕ) → Accepts tokens.number Signed t → Unsigned t
unsigned-from [] a = absurd (false≢true a)
unsigned-from (c ∷ t) a =
    ⊎_elim
    (λ (k, to). of_zero c t k (along a.0 AfterZero t to a.2))
    (⊎_elim
    (λ (d, to). of_ten (c ∷ t) (of_digits Ten c t (kind_digit Decimal c d) (digits_left-from Ten t (along a.0 DecimalDigits t to a.2))))
    (λ (k, to). of_ten (c ∷ t) (inr (subst (λ d. Pointed Ten (d ∷ t)) (sym (kind-dot c k)) (point-from Ten t (along a.0 Point t to a.2))))))
    (signed_only (kind c) a.0 a.1)

with_sign : (s : Sign) (t u : List ℕ) → t ≡ sign_text s ++ u → Unsigned u → IsNumber t
with_sign s t u q (unsigned_integer b p x i d e) =
    integer (record { sign = s; base = b; prefix = p; digits = x; prefix_is = i; digits_are = d; spelled = q ∙ ap (λ v. sign_text s ++ v) e })
with_sign s t u q (unsigned_decimal x y m h e) =
    decimal (record { sign = s; mantissa = x; exponent = y; mantissa_is = m; exponent_is = h; spelled = q ∙ ap (λ v. sign_text s ++ v) e })
with_sign s t u q (unsigned_hex p x y i m h e) =
    hex_float (record { sign = s; prefix = p; mantissa = x; exponent = y; prefix_is = i; mantissa_is = m; exponent_is = h; spelled = q ∙ ap (λ v. sign_text s ++ v) e })

pub number-from : (t : List ℕ) → Is tokens.number t → IsNumber t
number-from [] a = absurd (false≢true a)
number-from (c ∷ t) a =
    ⊎_elim
    (λ (k, to).
    let u = unsigned-from t (along a.0 Signed t to a.2) in
    ⊎_elim (λ p. with_sign PlusSign (c ∷ t) t (ap (◌∷ t) (kind-plus c p)) u) (λ m. with_sign MinusSign (c ∷ t) t (ap (◌∷ t) (kind-minus c m)) u) k)
    (λ to. with_sign NoSign (c ∷ t) (c ∷ t) refl (unsigned-from (c ∷ t) (a.0, to, a.2)))
    (start_only (kind c) a.0 a.1)

-- The test says the same.
pub number_texts : (t : List ℕ) → (IsNumber t → is_number t ≡ true) × (is_number t ≡ true → IsNumber t)
number_texts t = (λ r. (token_texts tokens.number t).0 (number-is r), λ e. number-from t ((token_texts tokens.number t).1 e))
