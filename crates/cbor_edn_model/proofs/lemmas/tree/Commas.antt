-- A row with a comma behind each entry, and the last entry behind it, is a list with commas between its entries.
use Rattle.std.proofs.Common.{◌≡◌, ℕ, List, [], ◌∷◌, ◌++◌, map, Some, refl, ap, ◌∙◌}
use Rattle.cbor_edn_parts.specs.Leaves.{separator_bytes}
use Rattle.cbor_edn_parts.specs.declared.space.Separator.{Separator}
use Rattle.cbor_edn_model.specs.tree.Items.{Row}
use Rattle.cbor_edn_model.specs.tree.Trees.{Tree, OneEntry, LastTree, MoreTree}
use Rattle.cbor_edn_model.specs.tree.Rows.{entries_onto}
use Rattle.cbor_edn_model.specs.tree.Constructed.{comma_rest, comma_row}

abbrev pub AreCommas : {X : Type 0} → List (X × Separator) → Type 0
AreCommas row = map (λ p. separator_bytes p.1) row ≡ map (λ _. 44 ∷ []) row

module _ {X : Type 0} {k : Row} (f : X → Tree (OneEntry k)) where
  rest_made : (p : X × Separator) (row : List (X × Separator)) (last : X) → AreCommas (p ∷ row)
      → entries_onto (map (λ p. (f p.0, separator_bytes p.1)) (p ∷ row)) (LastTree (f last) []) ≡ comma_rest (f p.0) (map f (map (λ p. p.0) row ++ (last ∷ [])))
  rest_made p [] last commas =
      let first : separator_bytes p.1 ≡ 44 ∷ [] = (let g = commas in cc) in
      ap (λ s. MoreTree (f p.0) s (LastTree (f last) [])) first
  rest_made p (q ∷ row) last commas =
      let first : separator_bytes p.1 ≡ 44 ∷ [] = (let g = commas in cc) in
      let others : AreCommas (q ∷ row) = (let g = commas in cc) in
      ap (λ s. MoreTree (f p.0) s (entries_onto (map (λ p. (f p.0, separator_bytes p.1)) (q ∷ row)) (LastTree (f last) []))) first
      ∙ ap (MoreTree (f p.0) (44 ∷ [])) (rest_made q row last others)

  pub commas_made : (row : List (X × Separator)) (last : X) (s : List ℕ) (all : List X) → AreCommas row → s ≡ [] → all ≡ map (λ p. p.0) row ++ (last ∷ [])
      → Some (entries_onto (map (λ p. (f p.0, separator_bytes p.1)) row) (LastTree (f last) s)) ≡ comma_row (map f all)
  commas_made [] last s all commas empty is = rw (empty, is) refl
  commas_made (p ∷ row) last s all commas empty is = rw (empty, is) (ap (λ m. Some m) (rest_made p row last commas))
