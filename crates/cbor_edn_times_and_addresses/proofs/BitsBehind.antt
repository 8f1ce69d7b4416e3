-- The test of the bits behind a prefix, by bytes and by bits.
use Rattle.std.proofs.Common.{◌≡◌, ◌∙◌, ◌+◌, ◌-◌, ◌*◌, ◌/◌, ◌%◌, ◌^◌, ◌<◌, ◌==◌, ◌&&◌, ◌↔◌, IsTrue, not, ℕ, zero, suc, Bool, true, false, List, [], ◌∷◌, ◌++◌, All, drop, length, refl, sym, ap, ap₂, arith, eq-eqb, ne_eqb}
use Rattle.std.proofs.lemmas.Bool.{not-true, and_parts, and_from, not_from_false, false_from_ne_true, both_ways}
use Rattle.std.proofs.lemmas.List.Elements.{All-nil, All-cons, All-head, All-tail}
use Rattle.std.proofs.lemmas.Nat.{mod-pow-add}
use lib.Pow.{pow_pos}
use Rattle.cbor_edn_parts.specs.string.Contents.{bits_of, joined_bits}
use Rattle.cbor_edn_times_and_addresses.specs.Address.{IsZeroBehind}
use Rattle.cbor_edn_times_and_addresses.specs.internal.AddressReading.{is_zero_behind}

-- none is set
abbrev none : List Bool → Bool
none [] = true
none (b ∷ bs) = not b && none bs

none-append : (xs ys : List Bool) → none (xs ++ ys) ≡ (none xs && none ys)
none-append [] ys = refl
none-append (true ∷ xs) ys = refl
none-append (false ∷ xs) ys = none-append xs ys

low_step : (q r m p : ℕ) → q < 2 → 0 < p → m ≡ q * p + r → (not (q == 1) && (r == 0)) ≡ (m == 0)
low_step zero r m p small some e = ap (λ x. x == 0) (omega arith)
low_step (suc zero) r m p small some e = sym (ne_eqb m 0 (omega arith))
low_step (suc (suc q)) r m p small some e = absurd (omega arith)

low_bits : (k b : ℕ) → none (bits_of k b) ≡ (b % 2 ^ k == 0)
low_bits zero b = sym (eq-eqb (b % 2 ^ 0) 0 (omega arith))
low_bits (suc k) b =
    let one : 1 + k ≡ suc k = omega arith in
    let parts = ap (λ j. b % 2 ^ j) (sym one) ∙ mod-pow-add b 1 k in
    ap (λ x. not (b / 2 ^ k % 2 == 1) && x) (low_bits k b)
    ∙ low_step (b / 2 ^ k % 2) (b % 2 ^ k) (b % 2 ^ suc k) (2 ^ k) (omega arith) (pow_pos k) parts

drop-bits_of : (n k b : ℕ) → drop n (bits_of k b) ≡ bits_of (k - n) b
drop-bits_of zero k b = ap (λ j. bits_of j b) (omega arith)
drop-bits_of (suc n) zero b =
    let less : 0 ≡ 0 - suc n = omega arith in
    ap (λ j. bits_of j b) less
drop-bits_of (suc n) (suc k) b =
    let less : k - n ≡ suc k - suc n = omega arith in
    drop-bits_of n k b ∙ ap (λ j. bits_of j b) less

drop-append : {A : Type 0} (n : ℕ) (xs ys : List A) → drop n (xs ++ ys) ≡ drop n xs ++ drop (n - length xs) ys
drop-append zero xs ys =
    let less : 0 ≡ 0 - length xs = omega arith in
    ap (λ j. xs ++ drop j ys) less
drop-append (suc n) [] ys =
    let less : suc n ≡ suc n - 0 = omega arith in
    ap (λ j. drop j ys) less
drop-append (suc n) (x ∷ xs) ys =
    let less : n - length xs ≡ suc n - length (x ∷ xs) = omega arith in
    drop-append n xs ys ∙ ap (λ j. drop n xs ++ drop j ys) less

same_test : (n : ℕ) (bytes : List ℕ) → is_zero_behind n bytes ≡ none (drop n (joined_bits 8 bytes))
same_test zero [] = refl
same_test (suc n) [] = refl
same_test n (b ∷ bytes) =
    let front = sym (ap none (drop-bits_of n 8 b) ∙ low_bits (8 - n) b) in
    let back = same_test (n - 8) bytes in
    ap₂ ◌&&◌ front back ∙ sym (ap none (drop-append n (bits_of 8 b) (joined_bits 8 bytes)) ∙ none-append (drop n (bits_of 8 b)) (drop (n - 8) (joined_bits 8 bytes)))

from_none : (bs : List Bool) → none bs ≡ true → All (λ b. b ≡ false) bs
from_none [] h = All-nil (λ b. b ≡ false)
from_none (b ∷ bs) h =
    let (here, later) = and_parts (not b) (none bs) h in
    All-cons (λ b. b ≡ false) b bs (not-true b here) (from_none bs later)

to_none : (bs : List Bool) → All (λ b. b ≡ false) bs → none bs ≡ true
to_none [] h = refl
to_none (b ∷ bs) h =
    and_from (not b) (none bs) (not_from_false b (All-head (λ b. b ≡ false) b bs h)) (to_none bs (All-tail (λ b. b ≡ false) b bs h))

pub zero_behind : (n : ℕ) (bytes : List ℕ) → is_zero_behind n bytes ≡ true → IsZeroBehind n bytes
zero_behind n bytes h = from_none _ (sym (same_test n bytes) ∙ h)

pub zero_behind_true : (n : ℕ) (bytes : List ℕ) → IsZeroBehind n bytes → is_zero_behind n bytes ≡ true
zero_behind_true n bytes all = same_test n bytes ∙ to_none _ all

pub zero_behind_false : (n : ℕ) (bytes : List ℕ) → ¬ (IsZeroBehind n bytes) → is_zero_behind n bytes ≡ false
zero_behind_false n bytes not_all = false_from_ne_true _ λ h. not_all (zero_behind n bytes h)

pub not_zero_behind : (n : ℕ) (bytes : List ℕ) → is_zero_behind n bytes ≡ false → ¬ (IsZeroBehind n bytes)
not_zero_behind n bytes h = λ all. both_ways _ h (zero_behind_true n bytes all)

pub zero_tells : (r : Bool) (n : ℕ) (bytes : List ℕ) → r ≡ is_zero_behind n bytes → IsTrue r ↔ IsZeroBehind n bytes
zero_tells r n bytes e = (λ h. zero_behind n bytes (sym e ∙ h), λ all. e ∙ zero_behind_true n bytes all)
