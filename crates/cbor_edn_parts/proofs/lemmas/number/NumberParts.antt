-- The parts of a number as they are read from its text, and its integer.
use Rattle.std.proofs.Common.{ℕ, zero, suc, ◌+◌, ◌*◌, ◌<◌, ◌≤◌, ◌≡◌, ◌≢◌, ◌^◌, List, [], ◌∷◌, ◌++◌, length, drop, Bool, true, false, Some, None, inl, inr, refl, sym, ap, ◌∙◌, subst, arith}
use Rattle.std.specs.Prelude.{eqb, ◌||◌, ◌⊎◌, ℤ, if◌then◌else◌, ◌↔◌, IsTrue, pos, neg_ℤ, nat_lt, unsigned_abs}
use mathlib.Core.Logic.{⊎_elim}
use Rattle.std.specs.Char.{digit_value}
use Rattle.std.specs.List.{list_all}
use Rattle.std.specs.Str.Parse.{digits_value, digits_value_after, AllDigits, IsNumeral, without_leading_plus}
use Rattle.std.proofs.Math.Nat.{pow-zero, pow-suc}
use Rattle.std.proofs.lemmas.Bool.{cases_lt, eqb-true, ltb-true, and_parts, or_cases, false≢true, ne_eqb, lt-ltb, and_right, or_from, and_from}
use Rattle.cbor_edn_parts.specs.base.Bytes.{Kind, Plus, Minus, kind}
use Rattle.cbor_edn_parts.specs.internal.Lex.{Accepts}
use Rattle.cbor_edn_parts.specs.number.Number.{Sign, NoSign, PlusSign, MinusSign, sign_text, Base, Binary, Octal, Decimal, Hexadecimal, radix, IsPrefixOf, IsDigitOf, AreDigits, IsInteger, IsNumber, integer, number_of, signed, HasInteger}
use Rattle.cbor_edn_parts.specs.internal.NumberReading.{sign_of, without_sign, names, named_base, prefix_length, base_of, digits_of, is_numeral, magnitude_of, integer_of}
use Rattle.cbor_edn_parts.specs.internal.NumberTokens as tokens
use Rattle.cbor_edn_parts.specs.internal.NumberTokens.{number_step}
use Rattle.cbor_edn_parts.specs.declared.number.NumberState.{NumberState}
use Rattle.cbor_edn_parts.specs.declared.number.NumberState.TheVariants.{Signed}
use Rattle.cbor_edn_parts.proofs.lemmas.base.Each.{Each, end, next, each, all}
use Rattle.cbor_edn_parts.proofs.lemmas.base.ByteKinds.{differs}
use Rattle.cbor_edn_parts.proofs.lemmas.number.NumberTexts.{number_parts, behind_sign-is, behind_prefix, after_prefix}

-- A fold from the left is the sum by places.
pub number_after : (base n : ℕ) (ds : List ℕ) → digits_value_after base n ds ≡ n * base ^ length ds + number_of base ds
number_after base n [] = rw pow-zero (omega arith)
number_after base n (d ∷ ds) = rw (number_after base (n * base + digit_value d) ds, pow-suc base (length ds)) (omega arith)

pub number_is : (base : ℕ) (ds : List ℕ) → digits_value base ds ≡ number_of base ds
number_is base ds = number_after base 0 ds ∙ omega arith

-- The sign, and what is behind it.
abbrev no_sign : Kind → Bool
no_sign Plus = false
no_sign Minus = false
no_sign _ = true

after_sign : (k : Kind) (n : NumberState) → number_step k Signed ≡ Some n → no_sign k ≡ true
after_sign Plus n e = absurd (cc)
after_sign Minus n e = absurd (cc)
after_sign _ n e = refl

sign_none : (t : List ℕ) → Accepts tokens.number Signed t → sign_of t ≡ NoSign
unfolding kind
sign_none [] a = absurd (false≢true a)
sign_none (c ∷ t) a = let h = after_sign (kind c) a.0 a.1 in rw (differs no_sign c 45 h refl, differs no_sign c 43 h refl)

sign_is : (s : Sign) (t : List ℕ) → Accepts tokens.number Signed t → sign_of (sign_text s ++ t) ≡ s
sign_is NoSign t a = sign_none t a
sign_is PlusSign t a = refl
sign_is MinusSign t a = refl

behind_sign : (s : Sign) (u : List ℕ) → drop (length (sign_text s)) (sign_text s ++ u) ≡ u
behind_sign NoSign u = refl
behind_sign PlusSign u = refl
behind_sign MinusSign u = refl

module _ (t : List ℕ) (n : IsNumber t) where
  rest_accepted : Accepts tokens.number Signed (number_parts n).rest
  rest_accepted = behind_sign-is (number_parts n).rest (number_parts n).rest_is

  pub sign_of_is : sign_of t ≡ (number_parts n).sign
  sign_of_is = ap sign_of (number_parts n).spelled ∙ sign_is (number_parts n).sign (number_parts n).rest rest_accepted

  pub unsigned_of : without_sign t ≡ (number_parts n).rest
  unsigned_of = ap (λ s. drop (length (sign_text s)) t) sign_of_is ∙ (ap (drop (length (sign_text (number_parts n).sign))) (number_parts n).spelled ∙ behind_sign (number_parts n).sign (number_parts n).rest)

  unsigned_accepted : Accepts tokens.number Signed (without_sign t)
  unsigned_accepted = subst (Accepts tokens.number Signed) (sym unsigned_of) rest_accepted

-- The base that an integer literal names, and its digits.
no_digit : (base c k : ℕ) → base ≤ digit_value k → digit_value c < base → c ≢ k
no_digit base c k large small = λ same. let as_large : digit_value c ≡ digit_value k = ap digit_value same in omega arith

names_none : (small large : ℕ) → 10 ≤ digit_value small → 10 ≤ digit_value large → 0 < small → 0 < large → (x : List ℕ) → Each (IsDigitOf Decimal) x → names small large x ≡ false
names_none small large s l a b _ end = refl
names_none small large s l a b _ (next {c = c} h end) = and_right _ _ (or_from _ _ (ne_eqb 0 small (omega arith)) (ne_eqb 0 large (omega arith)))
names_none small large s l a b _ (next {c = c} h (next {c = d} {x = x} k more)) = and_right _ _ (or_from _ _ (ne_eqb d small (no_digit 10 d small s k)) (ne_eqb d large (no_digit 10 d large l k)))

names_decimal : (x : List ℕ) → Each (IsDigitOf Decimal) x → named_base x ≡ Decimal
names_decimal x ds =
    rw (
      names_none 120 88 (omega arith) (omega arith) (omega arith) (omega arith) x ds,
      names_none 111 79 (omega arith) (omega arith) (omega arith) (omega arith) x ds,
      names_none 98 66 (omega arith) (omega arith) (omega arith) (omega arith) x ds,
    )

names_is : (b : Base) (p x : List ℕ) → IsPrefixOf b p → AreDigits b x → named_base (p ++ x) ≡ b
names_is Binary p x e d = ⊎_elim (λ q. rw q) (λ q. rw q) e
names_is Octal p x e d = ⊎_elim (λ q. rw q) (λ q. rw q) e
names_is Decimal p x e d = rw e (names_decimal x (each d.0))
names_is Hexadecimal p x e d = ⊎_elim (λ q. rw q) (λ q. rw q) e

digits_behind : (b : Base) (p x : List ℕ) → IsPrefixOf b p → drop (prefix_length b) (p ++ x) ≡ x
digits_behind Binary p x e = ⊎_elim (λ q. rw q) (λ q. rw q) e
digits_behind Octal p x e = ⊎_elim (λ q. rw q) (λ q. rw q) e
digits_behind Decimal p x e = rw e
digits_behind Hexadecimal p x e = ⊎_elim (λ q. rw q) (λ q. rw q) e

module _ (t : List ℕ) (r : IsInteger t) where
  base_of_is : base_of t ≡ r.base
  base_of_is = ap named_base (unsigned_of t (integer r)) ∙ names_is r.base r.prefix r.digits r.prefix_is r.digits_are

  digits_of_is : digits_of t ≡ r.digits
  digits_of_is = ap (λ b. drop (prefix_length b) (without_sign t)) base_of_is ∙ (ap (drop (prefix_length r.base)) (unsigned_of t (integer r)) ∙ digits_behind r.base r.prefix r.digits r.prefix_is)

  magnitude_of_is : magnitude_of t ≡ number_of (radix r.base) r.digits
  magnitude_of_is = ap (λ b. number_of (radix b) (digits_of t)) base_of_is ∙ ap (number_of (radix r.base)) digits_of_is

-- Where the digits are a numeral, there is an integer.
each_passes : (b : Base) {x : List ℕ} → Each (IsDigitOf b) x → list_all (λ c. nat_lt (digit_value c) (radix b)) x ≡ true
each_passes b end = refl
each_passes b (next {c = c} {x = x} h more) = and_from (nat_lt (digit_value c) (radix b)) _ (lt-ltb (digit_value c) (radix b) h) (each_passes b more)

numeral : (b : Base) (x : List ℕ) → AreDigits b x → is_numeral (radix b) x ≡ true
numeral b [] d = absurd (d.1 refl)
numeral b (c ∷ x) d = each_passes b (each {x = c ∷ x} d.0)

has_numeral : (t : List ℕ) → IsInteger t → is_numeral (radix (base_of t)) (digits_of t) ≡ true
has_numeral t r = ap (λ b. is_numeral (radix b) (digits_of t)) (base_of_is t r) ∙ (ap (is_numeral (radix r.base)) (digits_of_is t r) ∙ numeral r.base r.digits r.digits_are)

integer_found : (t : List ℕ) → is_numeral (radix (base_of t)) (digits_of t) ≡ true → integer_of t ≡ Some (signed (sign_of t) (magnitude_of t))
unfolding integer_of
integer_found t found = rw found

-- the integer of a literal, from its parts
pub integer_is : (t : List ℕ) (r : IsInteger t) → integer_of t ≡ Some (signed r.sign (number_of (radix r.base) r.digits))
integer_is t r = integer_found t (has_numeral t r) ∙ (ap (λ s. Some (signed s (magnitude_of t))) (sign_of_is t (integer r)) ∙ ap (λ n. Some (signed r.sign n)) (magnitude_of_is t r))

-- What has an integer is a literal.
sign_text_is : (c : ℕ) (y : List ℕ) (minus plus : Bool) → eqb c 45 ≡ minus → eqb c 43 ≡ plus → c ∷ y ≡ sign_text (sign_of (c ∷ y)) ++ without_sign (c ∷ y)
sign_text_is c y true plus m p = rw m (ap (◌∷ y) (eqb-true c 45 m))
sign_text_is c y false true m p = rw (m, p) (ap (◌∷ y) (eqb-true c 43 p))
sign_text_is c y false false m p = rw (m, p) refl

signed_text : (t : List ℕ) → t ≡ sign_text (sign_of t) ++ without_sign t
signed_text [] = refl
signed_text (c ∷ y) = sign_text_is c y (eqb c 45) (eqb c 43) refl refl

record Prefixed (b : Base) (u : List ℕ) : Type 0 where
  prefix : List ℕ
  prefix_is : IsPrefixOf b prefix
  spelled : u ≡ prefix ++ drop (prefix_length b) u

abbrev Named : ℕ → ℕ → List ℕ → Type 0
Named small large u = (p : List ℕ) × ((p ≡ 48 ∷ small ∷ []) ⊎ (p ≡ 48 ∷ large ∷ [])) × (u ≡ p ++ drop 2 u)

named : (small large : ℕ) (u : List ℕ) → 0 < small → 0 < large → names small large u ≡ true → Named small large u
named small large [] s l e = absurd (false≢true e)
named small large (c ∷ []) s l e =
    let none : (eqb 0 small || eqb 0 large) ≡ false = or_from _ _ (ne_eqb 0 small (omega arith)) (ne_eqb 0 large (omega arith)) in
    absurd (false≢true (sym none ∙ (and_parts (eqb c 48) (eqb 0 small || eqb 0 large) e).1))
named small large (c ∷ d ∷ u) s l e =
    let h = and_parts (eqb c 48) (eqb d small || eqb d large) e in
    let zero_is : c ≡ 48 = eqb-true c 48 h.0 in (
      c ∷ d ∷ [],
      ⊎_elim (λ k. let at : d ≡ small = eqb-true d small k in inl (cc)) (λ k. let at : d ≡ large = eqb-true d large k in inr (cc)) (or_cases (eqb d small) (eqb d large) h.1),
      refl,
    )

prefixed_by : (u : List ℕ) (x o b : Bool) → names 120 88 u ≡ x → names 111 79 u ≡ o → names 98 66 u ≡ b → Prefixed (if x then Hexadecimal else if o then Octal else if b then Binary else Decimal) u
prefixed_by u true o b x_is o_is b_is = let n = named 120 88 u (omega arith) (omega arith) x_is in record { prefix = n.0; prefix_is = n.1; spelled = n.2 }
prefixed_by u false true b x_is o_is b_is = let n = named 111 79 u (omega arith) (omega arith) o_is in record { prefix = n.0; prefix_is = n.1; spelled = n.2 }
prefixed_by u false false true x_is o_is b_is = let n = named 98 66 u (omega arith) (omega arith) b_is in record { prefix = n.0; prefix_is = n.1; spelled = n.2 }
prefixed_by u false false false x_is o_is b_is = record { prefix = []; prefix_is = refl; spelled = refl }

prefixed : (u : List ℕ) → Prefixed (named_base u) u
prefixed u = prefixed_by u (names 120 88 u) (names 111 79 u) (names 98 66 u) refl refl refl

each_from : (b : Base) (x : List ℕ) → list_all (λ c. nat_lt (digit_value c) (radix b)) x ≡ true → Each (IsDigitOf b) x
each_from b [] e = end
each_from b (c ∷ x) e = let h = and_parts (nat_lt (digit_value c) (radix b)) _ e in next (ltb-true (digit_value c) (radix b) h.0) (each_from b x h.1)

digits_from : (b : Base) (x : List ℕ) → is_numeral (radix b) x ≡ true → AreDigits b x
digits_from b [] e = absurd (false≢true e)
digits_from b (c ∷ x) e = (all (each_from b (c ∷ x) e), λ q. cc)

literal : (t : List ℕ) → is_numeral (radix (base_of t)) (digits_of t) ≡ true → IsInteger t
literal t e =
    let p = prefixed (without_sign t) in
    record {
      sign = sign_of t;
      base = base_of t;
      prefix = p.prefix;
      digits = digits_of t;
      prefix_is = p.prefix_is;
      digits_are = digits_from (base_of t) (digits_of t) e;
      spelled = signed_text t ∙ ap (λ u. sign_text (sign_of t) ++ u) p.spelled;
    }

-- What the code splits off is what the reader splits off.
pub minus_is : (t s : List ℕ) (negative : Bool) → s ≡ t → ((sign_of s ≡ MinusSign) ↔ IsTrue negative) → (sign_of t ≡ MinusSign) ↔ IsTrue negative
minus_is t s negative a h = rw a at h

pub digits_are : (t s rest digits : List ℕ) → s ≡ t → rest ≡ without_sign s → digits ≡ drop (prefix_length (named_base rest)) rest → digits ≡ digits_of t
digits_are t s rest digits a r d = d ∙ ap (λ u. drop (prefix_length (named_base u)) u) (r ∙ ap without_sign a)

pub base_is : (t s rest : List ℕ) (base : ℕ) → s ≡ t → rest ≡ without_sign s → base ≡ radix (named_base rest) → base ≡ radix (base_of t)
base_is t s rest base a r b = b ∙ ap (λ u. radix (named_base u)) (r ∙ ap without_sign a)

-- A text is an integer literal exactly where its digits are a numeral.
pub integer_texts_by : (t digits : List ℕ) (base : ℕ) (r : Bool) → digits ≡ digits_of t → base ≡ radix (base_of t) → r ≡ is_numeral base digits → (IsTrue r → IsInteger t) × (IsInteger t → IsTrue r)
integer_texts_by t digits base r d b e =
    let same : r ≡ is_numeral (radix (base_of t)) (digits_of t) = e ∙ (ap (λ n. is_numeral n digits) b ∙ ap (is_numeral (radix (base_of t))) d) in
    (λ h. literal t (sym same ∙ h), λ h. same ∙ has_numeral t h)

literal_if : (t : List ℕ) (z : ℤ) (b : Bool) → is_numeral (radix (base_of t)) (digits_of t) ≡ b → integer_of t ≡ Some z → IsInteger t
unfolding integer_of
literal_if t z true e h = literal t e
literal_if t z false e h = let none : None ≡ Some z = rw e at h in absurd (cc)

literal_of : (t : List ℕ) (z : ℤ) → integer_of t ≡ Some z → IsInteger t
literal_of t z = literal_if t z (is_numeral (radix (base_of t)) (digits_of t)) refl

-- The reader of integers answers exactly the integer of a text.
pub integer_reads : (t : List ℕ) (z : ℤ) → HasInteger t z → integer_of t ≡ Some z
integer_reads t z h = integer_is t h.literal ∙ ap (λ n. Some n) (sym h.integer_is)

pub integer_read : (t : List ℕ) (z : ℤ) → integer_of t ≡ Some z → HasInteger t z
integer_read t z e = let r = literal_of t z e in let same = sym e ∙ integer_is t r in record { literal = r; integer_is = cc same }

pub integer_texts : (t : List ℕ) (z : ℤ) → HasInteger t z ↔ (integer_of t ≡ Some z)
integer_texts t z = (integer_reads t z, integer_read t z)

-- No plus sign stands behind a sign or a prefix, so that `from_str_radix` reads all of what is there.
no_plus_step : (b : Base) (k : Kind) (n : NumberState) → number_step k (behind_prefix b) ≡ Some n → no_sign k ≡ true
no_plus_step Binary Plus n e = absurd (cc)
no_plus_step Binary Minus n e = absurd (cc)
no_plus_step Octal Plus n e = absurd (cc)
no_plus_step Octal Minus n e = absurd (cc)
no_plus_step Decimal Plus n e = absurd (cc)
no_plus_step Decimal Minus n e = absurd (cc)
no_plus_step Hexadecimal Plus n e = absurd (cc)
no_plus_step Hexadecimal Minus n e = absurd (cc)
no_plus_step _ _ n e = refl

no_plus : (b : Base) (t : List ℕ) → Accepts tokens.number (behind_prefix b) t → without_leading_plus t ≡ t
unfolding kind
no_plus b [] a = refl
no_plus b (c ∷ t) a = rw (differs no_sign c 43 (no_plus_step b (kind c) a.0 a.1) refl)

digits_plain : (t : List ℕ) → IsNumber t → without_leading_plus (digits_of t) ≡ digits_of t
digits_plain t n =
    let p = prefixed (without_sign t) in
    no_plus (base_of t) (digits_of t) (after_prefix (base_of t) p.prefix (digits_of t) p.prefix_is (subst (Accepts tokens.number Signed) p.spelled (unsigned_accepted t n)))

-- What `from_str_radix` asks of the digits, and what it reads of them.
digits_all : (b : Base) {x : List ℕ} → Each (IsDigitOf b) x → AllDigits (radix b) x
digits_all b end = tt
digits_all b (next h more) = (h, digits_all b more)

all_digits : (b : Base) (x : List ℕ) → AllDigits (radix b) x → Each (IsDigitOf b) x
all_digits b [] h = end
all_digits b (c ∷ x) h = next h.0 (all_digits b x h.1)

pub some_digits : (b : Base) (x : List ℕ) → IsNumeral (radix b) x → AreDigits b x
some_digits b [] h = absurd (omega arith)
some_digits b (c ∷ x) h = (all (all_digits b (c ∷ x) h.1), λ q. cc)

positive : (x : List ℕ) → x ≢ [] → 0 < length x
positive [] some = absurd (some refl)
positive (c ∷ x) some = omega arith

-- the digits are a numeral where the text is a literal, and only there
numeral_from : (t : List ℕ) → IsNumeral (radix (base_of t)) (digits_of t) → is_numeral (radix (base_of t)) (digits_of t) ≡ true
numeral_from t h = numeral (base_of t) (digits_of t) (some_digits (base_of t) (digits_of t) h)

numeral_of : (t : List ℕ) → IsInteger t → IsNumeral (radix (base_of t)) (digits_of t)
numeral_of t r =
    let P : Base → List ℕ → Type 0 = λ b x. IsNumeral (radix b) x in
    let parts : P r.base r.digits = (positive r.digits r.digits_are.1, digits_all r.base (each r.digits_are.0)) in
    subst (λ b. P b (digits_of t)) (sym (base_of_is t r)) (subst (P r.base) (sym (digits_of_is t r)) parts)

no_minus : NoSign ≡ MinusSign → ⊥
no_minus e = cc

plus_minus : PlusSign ≡ MinusSign → ⊥
plus_minus e = cc

size_of : (s : Sign) (n : ℕ) → unsigned_abs (signed s n) ≡ n
size_of NoSign n = refl
size_of PlusSign n = refl
size_of MinusSign zero = refl
size_of MinusSign (suc n) = refl

signed_is : (s : Sign) (negative : Bool) (n : ℕ) → ((s ≡ MinusSign) ↔ IsTrue negative) → signed s n ≡ (if negative then neg_ℤ (pos n) else pos n)
signed_is MinusSign true n h = refl
signed_is MinusSign false n h = absurd (false≢true (h.0 refl))
signed_is NoSign true n h = absurd (no_minus (h.1 refl))
signed_is NoSign false n h = refl
signed_is PlusSign true n h = absurd (plus_minus (h.1 refl))
signed_is PlusSign false n h = refl

module _ (t digits : List ℕ) (base : ℕ) (n : IsNumber t) (digits_are : digits ≡ digits_of t) (base_is : base ≡ radix (base_of t)) where
  same : without_leading_plus digits ≡ digits_of t
  same = ap without_leading_plus digits_are ∙ digits_plain t n

  read_value : digits_value base (without_leading_plus digits) ≡ magnitude_of t
  read_value = ap (digits_value base) same ∙ (ap (λ b. digits_value b (digits_of t)) base_is ∙ number_is (radix (base_of t)) (digits_of t))

  -- what is read is the integer
  pub integer_by : (negative : Bool) (magnitude : ℕ) (z : ℤ) → ((sign_of t ≡ MinusSign) ↔ IsTrue negative) → IsNumeral base (without_leading_plus digits)
      → magnitude ≡ digits_value base (without_leading_plus digits) → z ≡ (if negative then neg_ℤ (pos magnitude) else pos magnitude) → HasInteger t z
  integer_by negative magnitude z minus found value z_is =
      let literal_found : IsNumeral (radix (base_of t)) (digits_of t) = subst (λ b. IsNumeral b (digits_of t)) base_is (subst (IsNumeral base) same found) in
      integer_read t z
      (integer_found t (numeral_from t literal_found)
      ∙ (ap (λ z. Some z) (signed_is (sign_of t) negative (magnitude_of t) minus)
      ∙ ap (λ z. Some z) (sym (z_is ∙ ap (λ k. if negative then neg_ℤ (pos k) else pos k) (value ∙ read_value)))))

  -- where nothing is read of a literal, it is too large
  pub too_large : ¬ (IsNumeral base (without_leading_plus digits) × (digits_value base (without_leading_plus digits) < 2 ^ 128)) → (z : ℤ) → HasInteger t z → 2 ^ 128 ≤ unsigned_abs z
  too_large none z h =
      let found : IsNumeral base (without_leading_plus digits) = subst (IsNumeral base) (sym same) (subst (λ b. IsNumeral b (digits_of t)) (sym base_is) (numeral_of t h.literal)) in
      let size : unsigned_abs z ≡ magnitude_of t = ap unsigned_abs h.integer_is ∙ (size_of h.literal.sign _ ∙ sym (magnitude_of_is t h.literal)) in
      ⊎_elim (λ small. absurd (none (found, omega (arith, read_value, small)))) (λ large. omega (arith, size, large)) (cases_lt (magnitude_of t) (2 ^ 128))

-- Where decimal digits alone stand behind the sign, they are the digits of the literal.
module _ (t rest : List ℕ) (n : IsNumber t) (behind_sign_is : rest ≡ without_sign t) (found : IsNumeral 10 rest) where
  decimal_base : base_of t ≡ Decimal
  decimal_base = names_decimal (without_sign t) (subst (Each (IsDigitOf Decimal)) behind_sign_is (all_digits Decimal rest found.1))

  decimal_digits : rest ≡ digits_of t
  decimal_digits = behind_sign_is ∙ ap (λ b. drop (prefix_length b) (without_sign t)) (sym decimal_base)

  no_leading_plus : without_leading_plus rest ≡ rest
  no_leading_plus = ap without_leading_plus decimal_digits ∙ digits_plain t n ∙ sym decimal_digits

  pub decimal_by : (negative : Bool) (magnitude : ℕ) (z : ℤ) → ((sign_of t ≡ MinusSign) ↔ IsTrue negative) → magnitude ≡ digits_value 10 rest → z ≡ (if negative then neg_ℤ (pos magnitude) else pos magnitude) → HasInteger t z
  decimal_by negative magnitude z minus value z_is =
      integer_by t rest 10 n decimal_digits (ap radix (sym decimal_base)) negative magnitude z minus (subst (IsNumeral 10) (sym no_leading_plus) found) (value ∙ ap (digits_value 10) (sym no_leading_plus)) z_is

-- Where what stands behind the sign is no short numeral, a decimal literal has many digits.
pub longer : (t rest : List ℕ) (n : ℕ) → rest ≡ without_sign t → (IsNumeral 10 rest → n < length rest) → (l : IsInteger t) → l.base ≡ Decimal → n < length l.digits
longer t rest n behind many l decimal =
    let named : base_of t ≡ Decimal = base_of_is t l ∙ decimal in
    let digits : rest ≡ digits_of t = behind ∙ ap (λ b. drop (prefix_length b) (without_sign t)) (sym named) in
    let found : IsNumeral 10 rest = subst (IsNumeral 10) (sym digits) (subst (λ b. IsNumeral (radix b) (digits_of t)) named (numeral_of t l)) in
    subst (λ x. n < length x) (digits ∙ digits_of_is t l) (many found)
