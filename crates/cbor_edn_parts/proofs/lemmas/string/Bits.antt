-- Numbers as bits, the highest first.
use Rattle.std.proofs.Common.{ℕ, zero, suc, ◌+◌, ◌-◌, ◌*◌, ◌/◌, ◌%◌, ◌^◌, ◌<◌, ◌≤◌, ◌≡◌, Bool, true, false, ◌++◌, length, eqb, eqb-true, refl, sym, ap, ◌∙◌, arith}
use Rattle.std.specs.Prelude.{All}
use Rattle.std.proofs.lemmas.Bool.{eqb-false}
use Rattle.std.proofs.lemmas.List.Elements.{All-head, All-tail, All-cons}
use Rattle.std.proofs.lemmas.Nat.{pow_pos, shr-shr, shr_high, shr_below, mod_low, mod-pow-add, field_of, shr_split, mod_below}
use Rattle.cbor_edn_parts.specs.string.Contents.{bits_of}

pub length-bits_of : (k n : ℕ) → length (bits_of k n) ≡ k
length-bits_of zero n = refl
length-bits_of (suc k) n = ap suc (length-bits_of k n)

-- the last bit, and those below m, do not depend on what stands above
odd : (n p : ℕ) → n % 2 ^ (suc p) % 2 ≡ n % 2
odd n p =
    let at : suc p ≡ p + 1 = omega arith in
    rw (at, mod-pow-add n p 1) (mod_low (n / 2 ^ 1 % 2 ^ p) 1 (n % 2 ^ 1) (mod_below n 2 (omega arith)))

bit_below : (n i p : ℕ) → n % 2 ^ (suc p + i) / 2 ^ i % 2 ≡ n / 2 ^ i % 2
bit_below n i p = rw (field_of n (suc p) i) (odd (n / 2 ^ i) p)

pub bits_below : (i m n : ℕ) → i ≤ m → bits_of i (n % 2 ^ m) ≡ bits_of i n
bits_below zero m n le = refl
bits_below (suc i) m n le =
    let at : m ≡ suc (m - suc i) + i = omega arith in
    let here : n % 2 ^ m / 2 ^ i % 2 ≡ n / 2 ^ i % 2 = rw at (bit_below n i (m - suc i)) in
    rw (here, bits_below i m n (omega arith))

-- a number whose last k bits are those of s
pub bits_split : (j k a s : ℕ) → s < 2 ^ k → bits_of (j + k) (a * 2 ^ k + s) ≡ bits_of j a ++ bits_of k s
bits_split zero k a s lt =
    let at : zero + k ≡ k = omega arith in
    rw at (sym (bits_below k k (a * 2 ^ k + s) (omega arith)) ∙ ap (bits_of k) (mod_low a k s lt))
bits_split (suc j) k a s lt =
    let at : suc j + k ≡ suc (j + k) = omega arith in
    let turned : j + k ≡ k + j = omega arith in
    let here : (a * 2 ^ k + s) / 2 ^ (j + k) ≡ a / 2 ^ j = ap (λ n. (a * 2 ^ k + s) / 2 ^ n) turned ∙ sym (shr-shr (a * 2 ^ k + s) k j) ∙ ap (λ n. n / 2 ^ j) (shr_high a k s lt) in
    rw (at, here, bits_split j k a s lt)

-- the highest of so many bits
top_small : (k n : ℕ) → n < 2 ^ suc k → n / 2 ^ k < 2
top_small k n lt = let at : suc k ≡ 1 + k = omega arith in shr_below n 1 k (rw at at lt)

bit : (a : ℕ) → a < 2 → a % 2 ≡ a
bit a lt = omega arith

same_bit : (a b : ℕ) → a < 2 → b < 2 → eqb (a % 2) 1 ≡ eqb (b % 2) 1 → a ≡ b
same_bit a b lt lt' e = by_bit (eqb b 1) refl (rw (bit a lt, bit b lt') at e)
  where
    by_bit : (t : Bool) → eqb b 1 ≡ t → eqb a 1 ≡ eqb b 1 → a ≡ b
    by_bit true f e = eqb-true a 1 (e ∙ f) ∙ sym (eqb-true b 1 f)
    by_bit false f e = let one = eqb-false a 1 (e ∙ f) in let other = eqb-false b 1 f in omega arith

-- a number by its highest bit and the rest
parts : (k n : ℕ) → n / 2 ^ k * 2 ^ k + n % 2 ^ k ≡ n
parts k n = shr_split n k

pub same_bits : (k r s : ℕ) → r < 2 ^ k → s < 2 ^ k → bits_of k r ≡ bits_of k s → r ≡ s
same_bits zero r s lt lt' e = omega arith
same_bits (suc k) r s lt lt' e =
    let head : eqb (r / 2 ^ k % 2) 1 ≡ eqb (s / 2 ^ k % 2) 1 = cc in
    let tail : bits_of k r ≡ bits_of k s = cc in
    let top = same_bit (r / 2 ^ k) (s / 2 ^ k) (top_small k r lt) (top_small k s lt') head in
    let rest = same_bits k (r % 2 ^ k) (s % 2 ^ k) (mod_below r (2 ^ k) (pow_pos k)) (mod_below s (2 ^ k) (pow_pos k)) (bits_below k k r (omega arith) ∙ tail ∙ sym (bits_below k k s (omega arith))) in
    sym (parts k r) ∙ (ap (λ n. n * 2 ^ k + r % 2 ^ k) top ∙ ap (λ n. s / 2 ^ k * 2 ^ k + n) rest) ∙ parts k s

pub zero_bits : (k : ℕ) → All (λ b. b ≡ false) (bits_of k 0)
zero_bits zero = λ i d lt. absurd (omega arith)
zero_bits (suc k) =
    let none : 0 / 2 ^ k ≡ 0 = omega arith in
    All-cons (λ b. b ≡ false) _ _ (rw none refl) (zero_bits k)

pub no_bits : (k r : ℕ) → r < 2 ^ k → All (λ b. b ≡ false) (bits_of k r) → r ≡ 0
no_bits zero r lt all = omega arith
no_bits (suc k) r lt all =
    let head = All-head (λ b. b ≡ false) (eqb (r / 2 ^ k % 2) 1) (bits_of k r) all in
    let other = eqb-false (r / 2 ^ k) 1 (rw (bit (r / 2 ^ k) (top_small k r lt)) at head) in
    let top : r / 2 ^ k ≡ 0 = omega (arith, top_small k r lt) in
    let whole : 0 * 2 ^ k + r % 2 ^ k ≡ r = rw top at (parts k r) in
    let low : r < 2 ^ k = omega (arith, mod_below r (2 ^ k) (pow_pos k)) in
    no_bits k r low (All-tail (λ b. b ≡ false) (eqb (r / 2 ^ k % 2) 1) (bits_of k r) all)
