-- The space text that a comment is written as.
use Rattle.std.specs.Prelude.{ℕ, Bool, false, cond, eqb, ltb, not, ◌||◌, ◌&&◌, List, [], ◌∷◌, ◌++◌, map}

-- a control character that a comment may not hold becomes a space: those below U+0020 but HT, LF and CR
abbrev pub cleaned : ℕ → ℕ
cleaned c = cond (ltb c 32 && not (eqb c 9 || (eqb c 10 || eqb c 13))) 32 c

abbrev pub has_slash : List ℕ → Bool
has_slash [] = false
has_slash (c ∷ x) = eqb c 47 || has_slash x

-- each line but the first behind `# `
unfoldable pub hash_lines : List ℕ → List ℕ
hash_lines [] = []
hash_lines (c ∷ x) = cond (eqb c 10) (10 ∷ 35 ∷ 32 ∷ hash_lines x) (c ∷ hash_lines x)

-- Between slashes, as `/ c /`; a text that has a slash itself line by line behind `# `, with a line feed at its end.
unfoldable pub noted : List ℕ → List ℕ
noted c = cond (has_slash c) (35 ∷ 32 ∷ (hash_lines (map cleaned c) ++ (10 ∷ []))) (47 ∷ 32 ∷ (map cleaned c ++ (32 ∷ 47 ∷ [])))
