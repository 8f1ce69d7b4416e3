-- A row that was read is the row of a regular list.
use Rattle.std.proofs.Common.{◌≡◌, ℕ, List, [], ◌∷◌, map, Option, Some, refl, ap, ◌∙◌}
use Rattle.cbor_edn_parts.specs.Leaves.{separator_bytes}
use Rattle.cbor_edn_parts.specs.declared.space.Separator.{Separator}
use Rattle.cbor_edn_model.specs.tree.Items.{Row}
use Rattle.cbor_edn_model.specs.tree.Trees.{Tree, OneEntry, LastTree, MoreTree}
use Rattle.cbor_edn_model.specs.tree.Rows.{entries_onto}
use Rattle.cbor_edn_model.specs.internal.Regular.{in_front}
use Rattle.cbor_edn_model.specs.internal.CborReading.{row_of}
use Rattle.cbor_edn_core.specs.internal.RowBuilder.{entries}

abbrev pub comma : List ℕ
comma = 44 ∷ 32 ∷ []

abbrev pub AllCommas : {X : Type 0} → List (X × Separator) → Type 0
AllCommas row = map (λ p. separator_bytes p.1) row ≡ map (λ _. comma) row

pub row_made : {X : Type 0} {k : Row} (f : X → Tree (OneEntry k)) (row : List (X × Separator)) (last : X) → AllCommas row → Some (entries_onto (map (λ p. (f p.0, separator_bytes p.1)) row) (LastTree (f last) [])) ≡ row_of (map f (entries row (Some last)))
row_made f [] last commas = refl
row_made f (p ∷ row) last commas =
    let first : separator_bytes p.1 ≡ comma = (let g = commas in cc) in
    let others : AllCommas row = (let g = commas in cc) in
    ap (λ s. Some (MoreTree (f p.0) s (entries_onto (map (λ p. (f p.0, separator_bytes p.1)) row) (LastTree (f last) [])))) first ∙ ap (λ m. Some (in_front (f p.0) m)) (row_made f row last others)

-- the last entry, with no comma behind it
pub row_finished : {X : Type 0} {k : Row} (f : X → Tree (OneEntry k)) (row : List (X × Separator)) (last : Option X) (x : X) (s : List ℕ) → AllCommas row → last ≡ Some x → s ≡ []
    → Some (entries_onto (map (λ p. (f p.0, separator_bytes p.1)) row) (LastTree (f x) s)) ≡ row_of (map f (entries row last))
row_finished f row last x s commas last_is empty = rw (last_is, empty) (row_made f row x commas)

pub map-map : {X Y Z : Type 0} (f : Y → Z) (g : X → Y) (xs : List X) → map f (map g xs) ≡ map (λ x. f (g x)) xs
map-map f g [] = refl
map-map f g (x ∷ xs) = ap (λ ys. f (g x) ∷ ys) (map-map f g xs)
