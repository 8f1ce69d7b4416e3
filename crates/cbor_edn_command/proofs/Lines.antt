-- Digits in lines, line by line.
use Rattle.std.proofs.Common.{◌≡◌, ℕ, zero, suc, ◌<◌, ◌≤◌, List, [], ◌∷◌, ◌++◌, length, take, drop, refl, ap, sym, ◌∙◌, ap₂, arith, append_assoc, inl, inr}
use Rattle.std.specs.Prelude.{min}
use Rattle.std.proofs.lemmas.Bool.{cases_lt}
use Rattle.std.proofs.lemmas.List.{take_all, drop_all, append-nil}
use Rattle.cbor_edn_command.specs.Hexadecimal.{lines_from, in_lines}

-- where all the digits that are left fit on the line
last_line : (room : ℕ) (ds : List ℕ) → length ds ≤ room → lines_from room ds ≡ ds ++ (10 ∷ [])
unfolding lines_from
last_line room [] le = refl
last_line zero (d ∷ ds) le = absurd (omega (arith, le))
last_line (suc room) (d ∷ ds) le = ap (λ l. d ∷ l) (last_line room ds (omega (arith, le)))

-- where they don't
full_line : (room : ℕ) (ds : List ℕ) → room < length ds → lines_from room ds ≡ take room ds ++ (10 ∷ in_lines (drop room ds))
unfolding lines_from
full_line room [] lt = absurd (omega (arith, lt))
full_line zero (d ∷ ds) lt = refl
full_line (suc room) (d ∷ ds) lt = ap (λ l. d ∷ l) (full_line room ds (omega (arith, lt)))

-- So a line's digits, its end and the lines of the rest are the lines of all.
pub one_line : (n : ℕ) (ds : List ℕ) → 0 < length ds → n ≡ min (length ds) 64 → in_lines ds ≡ (take n ds ++ (10 ∷ [])) ++ in_lines (drop n ds)
one_line n [] lt is = absurd (omega (arith, lt))
one_line n (d ∷ ds) lt is =
    elim (cases_lt 64 (length (d ∷ ds))) [
      | inl more ↦
          let all : n ≡ 64 = omega (arith, is, more) in
          full_line 64 (d ∷ ds) more ∙ sym (append_assoc (take 64 (d ∷ ds)) (10 ∷ []) (in_lines (drop 64 (d ∷ ds)))) ∙ ap (λ k. (take k (d ∷ ds) ++ (10 ∷ [])) ++ in_lines (drop k (d ∷ ds))) (sym all)
      | inr fits ↦
          let all : n ≡ length (d ∷ ds) = omega (arith, is, fits) in
          last_line 64 (d ∷ ds) fits ∙ sym (append-nil (d ∷ ds ++ (10 ∷ [])))
          ∙ ap₂ (λ front behind. (front ++ (10 ∷ [])) ++ in_lines behind) (sym (take_all n (d ∷ ds) (omega (arith, all)))) (sym (drop_all n (d ∷ ds) (omega (arith, all))))
    ]

-- A line goes from the digits that are left to the lines.
pub line_moved : (n : ℕ) (old rest new behind all : List ℕ) → 0 < length rest → n ≡ min (length rest) 64 → new ≡ (old ++ take n rest) ++ (10 ∷ []) → behind ≡ drop n rest
    → old ++ in_lines rest ≡ all → new ++ in_lines behind ≡ all
line_moved n old rest new behind all some is grown left before =
    ap₂ (λ x y. x ++ in_lines y) grown left
    ∙ ap (λ (l : List ℕ). l ++ in_lines (drop n rest)) (append_assoc old (take n rest) (10 ∷ []))
    ∙ append_assoc old (take n rest ++ (10 ∷ [])) (in_lines (drop n rest))
    ∙ ap (λ (l : List ℕ). old ++ l) (sym (one_line n rest some is))
    ∙ before
