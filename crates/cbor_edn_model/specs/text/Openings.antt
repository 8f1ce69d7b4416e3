-- The bytes of a text that open something that can nest.
use Rattle.std.specs.Prelude.{ℕ, suc, Bool, cond, eqb, ◌+◌, ◌||◌, List, [], ◌∷◌}

abbrev pub is_opening : ℕ → Bool
is_opening c = eqb c 91 || eqb c 123 || eqb c 40

-- how many of the openings `[`, `{`, `(` and `<<` a text has
abbrev mutual
  pub openings : List ℕ → ℕ
  openings [] = 0
  openings (c ∷ cs) = cond (eqb c 60) (openings_behind cs) (cond (is_opening c) 1 0 + openings cs)

  -- behind a `<` that stands alone so far
  pub openings_behind : List ℕ → ℕ
  openings_behind [] = 0
  openings_behind (c ∷ cs) = cond (eqb c 60) (suc (openings cs)) (cond (is_opening c) 1 0 + openings cs)
