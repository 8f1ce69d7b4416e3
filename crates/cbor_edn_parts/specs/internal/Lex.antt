-- Tokens as automata, and the longest beginning of a text that is one.
use Rattle.std.specs.Prelude.{ℕ, Bool, true, false, cond, List, [], ◌∷◌, ◌++◌, ◌≡◌, Option, Some, None}

-- Which byte leads from one state to the next, where a text may end, and where it begins.
pub record Automaton (State : Type 0) : Type 0 where
  pub step : ℕ → State → Option State
  pub final : State → Bool
  pub start : State

module _ {State : Type 0} (T : Automaton State) where
  abbrev pub Accepts : State → List ℕ → Type 0
  Accepts m [] = T.final m ≡ true
  Accepts m (c ∷ x) = (n : State) × (T.step c m ≡ Some n) × Accepts n x

  -- The texts of a token.
  abbrev pub Is : List ℕ → Type 0
  Is x = Accepts T.start x

unfoldable pub push : ℕ → Option (List ℕ × List ℕ) → Option (List ℕ × List ℕ)
push c None = None
push c (Some p) = Some (c ∷ p.0, p.1)

-- a token with a beginning in front
unfoldable pub front : List ℕ → Option (List ℕ × List ℕ) → Option (List ℕ × List ℕ)
front xs None = None
front xs (Some p) = Some (xs ++ p.0, p.1)

module _ {State : Type 0} (T : Automaton State) where
  -- The longest beginning that leads on, and what follows it; none where it may not end there.
  unfoldable pub munch : State → List ℕ → Option (List ℕ × List ℕ)
  munch m [] = cond (T.final m) (Some ([], [])) None
  munch m (c ∷ xs) = elim (T.step c m) [ Some n ↦ push c (munch n xs) | None ↦ cond (T.final m) (Some ([], c ∷ xs)) None ]

  abbrev pub token : List ℕ → Option (List ℕ × List ℕ)
  token xs = munch T.start xs

-- Whether a whole text is a token.
abbrev pub is_all : Option (List ℕ × List ℕ) → Bool
is_all None = false
is_all (Some (x, [])) = true
is_all (Some (x, c ∷ r)) = false

abbrev pub is_token : {State : Type 0} → Automaton State → List ℕ → Bool
is_token T xs = is_all (token T xs)
