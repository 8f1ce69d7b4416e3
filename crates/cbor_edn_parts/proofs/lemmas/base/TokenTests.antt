-- Whether a text is a token, told byte by byte.
use Rattle.std.proofs.Common.{ℕ, List, [], ◌∷◌, ◌≡◌, Bool, true, false, cond, Option, Some, None, refl, ap, ◌∙◌}
use Rattle.cbor_edn_parts.specs.internal.Lex.{Automaton, push, munch, is_all}

pushed : (c : ℕ) (o : Option (List ℕ × List ℕ)) → is_all (push c o) ≡ is_all o
unfolding push
pushed c None = refl
pushed c (Some (x, [])) = refl
pushed c (Some (x, d ∷ r)) = refl

left_over : (b : Bool) (c : ℕ) (xs : List ℕ) → is_all (cond b (Some ([], c ∷ xs)) None) ≡ false
left_over true c xs = refl
left_over false c xs = refl

ended : (b : Bool) → is_all (cond b (Some ([], [])) None) ≡ b
ended true = refl
ended false = refl

module _ {State : Type 0} (T : Automaton State) where
  -- the test of a text that goes on, by what its first byte leads to
  abbrev test_of : State → ℕ → List ℕ → Option State → Bool
  test_of m c xs o = is_all (elim o [ Some n ↦ push c (munch T n xs) | None ↦ cond (T.final m) (Some ([], c ∷ xs)) None ])

  stops : (m : State) (c : ℕ) (xs : List ℕ) (o : Option State) → o ≡ None → test_of m c xs o ≡ false
  stops m c xs None e = left_over (T.final m) c xs
  stops m c xs (Some n) e = absurd (cc)

  steps : (m n : State) (c : ℕ) (xs : List ℕ) (o : Option State) → o ≡ Some n → test_of m c xs o ≡ is_all (munch T n xs)
  steps m n c xs None e = absurd (cc)
  steps m n c xs (Some k) e = pushed c (munch T k xs) ∙ ap (λ s. is_all (munch T s xs)) (cc)

  pub test_stops : (m : State) (c : ℕ) (xs : List ℕ) → T.step c m ≡ None → is_all (munch T m (c ∷ xs)) ≡ false
  unfolding munch
  test_stops m c xs e = stops m c xs (T.step c m) e

  pub test_steps : (m n : State) (c : ℕ) (xs : List ℕ) → T.step c m ≡ Some n → is_all (munch T m (c ∷ xs)) ≡ is_all (munch T n xs)
  unfolding munch
  test_steps m n c xs e = steps m n c xs (T.step c m) e

  pub test_ends : (m : State) → is_all (munch T m []) ≡ T.final m
  unfolding munch
  test_ends m = ended (T.final m)
