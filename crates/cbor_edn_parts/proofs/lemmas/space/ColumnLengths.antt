-- How long space texts are by a column, counted from their comments, where sums end at the greatest `usize`.
use Rattle.std.proofs.Common.{ℕ, ◌+◌, ◌-◌, ◌^◌, ◌≡◌, List, [], ◌∷◌, ◌++◌, length, refl, length-append, arith}
use Rattle.std.specs.Prelude.{min, max}
use Rattle.std.proofs.lemmas.List.{length-replicate}
use Rattle.cbor_edn_parts.specs.internal.CommentReading.{comments_of}
use Rattle.cbor_edn_parts.specs.space.Spacing.{Optional, Mandatory, Separating, AtEnd, Spacing, Least, Comments, OneLine, NewLine, OneSpace, line, or_space, comments_before, comments_after, spaced}
use Rattle.cbor_edn_parts.specs.internal.Columns.{column_length, separator_length}

length-line : (n : ℕ) → length (line n) ≡ n + 1
unfolding line
length-line n =
    let space : ℕ = 32 in
    let h = length-replicate n space in
    omega (arith, h)

length-or_space : (x : List ℕ) → length (or_space x) ≡ max (length x) 1
length-or_space [] = refl
length-or_space (c ∷ x) = omega arith

-- a length that ends at the greatest `usize`, made of one that does
pub optional_length : (c : Spacing) (x : List ℕ) → min (column_length c (length (comments_of x))) (2 ^ 64 - 1) ≡ min (length (spaced Optional c x)) (2 ^ 64 - 1)
optional_length Least x = refl
optional_length Comments x = refl
optional_length OneLine x = refl
optional_length (NewLine n) x = let h = length-append (line n) (comments_of x) in let l = length-line n in omega (arith, h, l)
optional_length OneSpace x = omega arith

pub mandatory_length : (c : Spacing) (x : List ℕ) → max (min (column_length c (length (comments_of x))) (2 ^ 64 - 1)) 1 ≡ min (length (spaced Mandatory c x)) (2 ^ 64 - 1)
mandatory_length Least x = refl
mandatory_length Comments x = let h = length-or_space (comments_of x) in omega (arith, h)
mandatory_length OneLine x = let h = length-or_space (comments_of x) in omega (arith, h)
mandatory_length (NewLine n) x = let h = length-append (line n) (comments_of x) in let l = length-line n in omega (arith, h, l)
mandatory_length OneSpace x = omega arith

pub separating_length : (c : Spacing) (x : List ℕ) → min (separator_length c (min (length (comments_before x) + length (comments_after x)) (2 ^ 64 - 1))) (2 ^ 64 - 1) ≡ min (length (spaced Separating c x)) (2 ^ 64 - 1)
separating_length Least x = refl
separating_length Comments x = let h = length-append (comments_before x) (44 ∷ comments_after x) in omega (arith, h)
separating_length OneLine x = let h = length-append (comments_before x) (44 ∷ 32 ∷ comments_after x) in omega (arith, h)
separating_length (NewLine n) x =
    let h = length-append (comments_before x) (44 ∷ (line n ++ comments_after x)) in
    let g = length-append (line n) (comments_after x) in
    let l = length-line n in
    omega (arith, h, g, l)
separating_length OneSpace x = let h = length-append (comments_before x) (44 ∷ comments_after x) in omega (arith, h)

pub at_end_length : (c : Spacing) (x : List ℕ) → min (column_length c (min (length (comments_before x) + length (comments_after x)) (2 ^ 64 - 1))) (2 ^ 64 - 1) ≡ min (length (spaced AtEnd c x)) (2 ^ 64 - 1)
at_end_length Least x = refl
at_end_length Comments x = let h = length-append (comments_before x) (comments_after x) in omega (arith, h)
at_end_length OneLine x = let h = length-append (comments_before x) (comments_after x) in omega (arith, h)
at_end_length (NewLine n) x =
    let h = length-append (line n) (comments_before x ++ comments_after x) in
    let g = length-append (comments_before x) (comments_after x) in
    let l = length-line n in
    omega (arith, h, g, l)
at_end_length OneSpace x = let h = length-append (comments_before x) (comments_after x) in omega (arith, h)
