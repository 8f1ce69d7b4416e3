-- Bytes without the zeros at their end, and filled with them.
use Rattle.std.proofs.Common.{◌≡◌, ◌≢◌, ◌∙◌, ◌+◌, ◌-◌, ◌<◌, ◌≤◌, ℕ, zero, suc, List, [], ◌∷◌, ◌++◌, take, drop, replicate, length, get_or, refl, sym, ap, arith, inl, inr, eq-eqb, ne_eqb, append-nil, append_assoc}
use Rattle.std.proofs.lemmas.Bool.{cases_eq}
use Rattle.std.proofs.lemmas.List.{take_more, length_push}
use Rattle.std.proofs.Math.Seq.{take-length}
use Rattle.cbor_edn_times_and_addresses.specs.AddressLaws.{EndZeros}
use Rattle.cbor_edn_times_and_addresses.specs.Address.{before, without_end_zeros, filled}

push_zero : (xs : List ℕ) → without_end_zeros (xs ++ 0 ∷ []) ≡ without_end_zeros xs
push_zero [] = refl
push_zero (x ∷ xs) = ap (before x) (push_zero xs)

push_other : (xs : List ℕ) (y : ℕ) → y ≢ 0 → without_end_zeros (xs ++ y ∷ []) ≡ xs ++ y ∷ []
push_other [] y ne = rw (ne_eqb y 0 ne) refl
push_other (x ∷ []) y ne = rw (ne_eqb y 0 ne) refl
push_other (x ∷ z ∷ xs) y ne = rw (push_other (z ∷ xs) y ne) refl

by_last : (xs : List ℕ) → 1 ≤ length xs → take (length xs - 1) xs ++ get_or xs (length xs - 1) 0 ∷ [] ≡ xs
by_last xs some =
    let last : length xs - 1 < length xs = omega arith in
    let whole : length xs - 1 + 1 ≡ length xs = omega arith in
    sym (take_more xs (length xs - 1) 0 last) ∙ ap (λ n. take n xs) whole ∙ take-length xs

pub without_last : (xs : List ℕ) → 1 ≤ length xs → get_or xs (length xs - 1) 0 ≡ 0 → without_end_zeros (take (length xs - 1) xs) ≡ without_end_zeros xs
without_last xs some zero_last =
    sym (push_zero (take (length xs - 1) xs))
    ∙ ap (λ y. without_end_zeros (take (length xs - 1) xs ++ y ∷ [])) (sym zero_last) ∙ ap without_end_zeros (by_last xs some)

pub without_same : (xs : List ℕ) → 1 ≤ length xs → get_or xs (length xs - 1) 0 ≢ 0 → without_end_zeros xs ≡ xs
without_same xs some other =
    ap without_end_zeros (sym (by_last xs some)) ∙ push_other (take (length xs - 1) xs) _ other ∙ by_last xs some

-- ---- the law

-- x is not a zero behind others
abbrev EndsInNoZero : List ℕ → Type 0
EndsInNoZero xs = (front : List ℕ) → xs ≢ front ++ 0 ∷ []

nil_push : (front : List ℕ) → [] ≢ front ++ 0 ∷ []
nil_push front e = absurd (omega (arith, ap length e, length_push front 0))

one_push : (b : ℕ) → b ≢ 0 → EndsInNoZero (b ∷ [])
one_push b ne [] e = ne (ap (λ t. get_or t 0 0) e)
one_push b ne (x ∷ front) e = nil_push front (ap (λ t. drop 1 t) e)

before_ends : (b : ℕ) (xs : List ℕ) → EndsInNoZero xs → EndsInNoZero (before b xs)
before_ends b [] h =
    elim (cases_eq b 0) [
      | inl same ↦ rw (eq-eqb b 0 same) nil_push
      | inr other ↦ rw (ne_eqb b 0 other) (one_push b other)
    ]
before_ends b (c ∷ cs) h = λ front. elim front as (λ f. b ∷ c ∷ cs ≢ f ++ 0 ∷ []) [
  | [] ↦ λ e. absurd (omega (arith, ap length e))
  | x ∷ f ↦ λ e. h f (ap (λ t. drop 1 t) e)
]

shortest : (xs : List ℕ) → EndsInNoZero (without_end_zeros xs)
shortest [] = nil_push
shortest (b ∷ xs) = before_ends b (without_end_zeros xs) (shortest xs)

push_zeros : (k : ℕ) (xs : List ℕ) → without_end_zeros (xs ++ replicate k 0) ≡ without_end_zeros xs
push_zeros zero xs = ap without_end_zeros (append-nil xs)
push_zeros (suc k) xs =
    ap without_end_zeros (sym (append_assoc xs (0 ∷ []) (replicate k 0))) ∙ push_zeros k (xs ++ 0 ∷ []) ∙ push_zero xs

filled_before : (b : ℕ) (xs : List ℕ) (n : ℕ) → length xs ≤ n → filled (suc n) (before b xs) ≡ b ∷ filled n xs
filled_before b [] n h =
    let more : suc n - 0 ≡ suc (n - 0) = omega arith in
    let less : suc n - 1 ≡ n - 0 = omega arith in
    elim (cases_eq b 0) [
      | inl same ↦ rw (eq-eqb b 0 same) (ap (λ k. replicate k 0) more ∙ ap (λ x. x ∷ replicate (n - 0) 0) (sym same))
      | inr other ↦ rw (ne_eqb b 0 other) (ap (λ k. b ∷ replicate k 0) less)
    ]
filled_before b (c ∷ cs) n h =
    let less : suc n - length (b ∷ c ∷ cs) ≡ n - length (c ∷ cs) = omega arith in
    ap (λ k. b ∷ (c ∷ cs ++ replicate k 0)) less

before_shorter : (b : ℕ) (xs : List ℕ) → length (before b xs) ≤ suc (length xs)
before_shorter b [] =
    elim (cases_eq b 0) [
      | inl same ↦ rw (eq-eqb b 0 same) (omega arith)
      | inr other ↦ rw (ne_eqb b 0 other) (omega arith)
    ]
before_shorter b (c ∷ cs) = omega arith

shorter : (xs : List ℕ) → length (without_end_zeros xs) ≤ length xs
shorter [] = omega arith
shorter (b ∷ xs) = omega (arith, before_shorter b (without_end_zeros xs), shorter xs)

filled_again : (xs : List ℕ) → filled (length xs) (without_end_zeros xs) ≡ xs
filled_again [] = refl
filled_again (b ∷ xs) =
    filled_before b (without_end_zeros xs) (length xs) (shorter xs) ∙ ap (λ t. b ∷ t) (filled_again xs)

pub end_zeros : (bytes : List ℕ) → EndZeros bytes
end_zeros bytes = record {
  shortest = shortest bytes;
  filled_again = filled_again bytes;
  dropped_again = λ size. push_zeros _ bytes;
  stays = λ front b ne e. ap without_end_zeros e ∙ push_other front b ne ∙ sym e;
}
