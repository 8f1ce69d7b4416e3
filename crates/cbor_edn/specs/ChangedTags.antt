-- Which tags the steps of a run may change.
use Rattle.std.specs.Prelude.{ℕ, Bool, true, false, List, [], ◌∷◌, ◌++◌}

-- times, languages and addresses, which are annotated
abbrev pub tags_annotated : Bool → List ℕ
tags_annotated true = 1 ∷ 38 ∷ 52 ∷ 54 ∷ []
tags_annotated false = []

-- bignums, which are shown as integers
abbrev pub tags_shown : Bool → List ℕ
tags_shown true = 2 ∷ 3 ∷ []
tags_shown false = []

abbrev pub tags_changed : Bool → Bool → List ℕ
tags_changed annotate bignum = tags_annotated annotate ++ tags_shown bignum
