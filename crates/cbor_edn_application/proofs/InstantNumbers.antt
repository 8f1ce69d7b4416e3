-- The text of an instant's number is a number of the grammar.
use Rattle.std.proofs.Common.{ℕ, ℤ, pos, negsuc, unsigned_abs, ◌^◌, ◌<◌, ◌-◌, ◌≡◌, ◌≢◌, inl, inr, List, ◌∷◌, ◌++◌, [], append_assoc, Option, Some, None, IsSome, IfSome, refl, sym, ap, subst, arith, rules, eq-eqb, ne_eqb}
use Rattle.std.proofs.lemmas.Bool.{cases_eq}
use Rattle.std.specs.Fmt.{decimal}
use Rattle.cbor_edn_parts.specs.number.Number.{IsNumber}
use Rattle.cbor_edn_parts.specs.number.Number as numbers
use Rattle.cbor_edn_times_and_addresses.specs.TimeDecimal.{IsNumberOf, integer, pointed}
use Rattle.cbor_edn_times_and_addresses.specs.internal.TimeWriting.{AreShortest}
use Rattle.cbor_edn_times_and_addresses.specs.internal.TimeComputing.{shortest_digits, pointed_text, instant_number}
use Rattle.cbor_edn_times_and_addresses.proofs.TimeComputedNumbers.{shortest_are}
use Rattle.cbor_edn_times_and_addresses.proofs.TimeDecimals.{positive_by, negative_by}
use Rattle.cbor_edn_times_and_addresses.proofs.TimeGrammar.{decimal_is_number, whole_number}
use Rattle.cbor_edn_times_and_addresses.proofs.TimeWritten.{written_as}

pub is_number : (t : List ℕ) (s : ℤ) (n : ℕ) → IsNumberOf t s n → unsigned_abs s < 2 ^ 64 → IsNumber t
is_number t s n (integer none e) small = numbers.integer (whole_number t s n (integer none e) none small).literal
is_number t s n (pointed d some sign whole last) small = numbers.decimal (decimal_is_number t s n d)

-- what is said to be none where the text is no number
pub number_found : {X : Type 0} (t : List ℕ) (o : Option X) → (o ≡ None → IsNumber t → ⊥) → IsNumber t → IsSome o
number_found t (Some x) none is = search rules
number_found t None none is = absurd (none refl is)

-- and what it is where it is found
pub found_is : {X : Type 0} (P : X → Type 0) (o : Option X) (x : X) → o ≡ Some x → IfSome o P → P x
found_is P o x e h = subst (λ o. IfSome o P) e h

nine_are : (n : ℕ) → n ≢ 0 → n < 1_000_000_000 → AreShortest (shortest_digits 9 n) n
nine_are n some small = shortest_are 9 n n (omega arith) (omega arith) (omega arith) (omega arith)

pointed_is : (s : ℤ) (n : ℕ) → unsigned_abs s < 2 ^ 64 → n ≢ 0 → n < 1_000_000_000 → IsNumberOf (pointed_text s n) s n
pointed_is (pos w) n h some small =
    positive_by (pointed_text (pos w) n) (decimal w ++ (46 ∷ [])) (pos w) n w refl (omega arith) refl (record { digits = shortest_digits 9 n; digits_are = nine_are n some small; spelled = sym (append_assoc (decimal w) (46 ∷ []) (shortest_digits 9 n)) }) some small
pointed_is (negsuc w) n h some small =
    negative_by (pointed_text (negsuc w) n) (45 ∷ (decimal w ++ (46 ∷ []))) (negsuc w) n w (1_000_000_000 - n) refl (omega arith) refl
    (record { digits = shortest_digits 9 (1_000_000_000 - n); digits_are = nine_are (1_000_000_000 - n) (omega arith) (omega (arith, some)); spelled = ap (λ x. 45 ∷ x) (sym (append_assoc (decimal w) (46 ∷ []) (shortest_digits 9 (1_000_000_000 - n)))) }) (omega arith) some small

computed_is : (s : ℤ) (n : ℕ) → unsigned_abs s < 2 ^ 64 → n < 1_000_000_000 → IsNumberOf (instant_number s n) s n
unfolding instant_number
computed_is s n h small =
    elim (cases_eq n 0) [
      | inl none ↦ rw (eq-eqb n 0 none) (integer none refl)
      | inr some ↦ rw (ne_eqb n 0 some) (pointed_is s n h some small)
    ]

-- also of the least second of all
pub number_is : (t : List ℕ) (s : ℤ) (n : ℕ) → IsNumberOf t s n → unsigned_abs s < 2 ^ 64 → n < 1_000_000_000 → t ≡ instant_number s n
number_is t s n is h small = (written_as s n).one t (instant_number s n) is (computed_is s n h small)
