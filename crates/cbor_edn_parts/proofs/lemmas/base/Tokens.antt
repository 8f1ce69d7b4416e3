-- A token's text is taken back, whatever follows that the token does not take in.
use Rattle.std.proofs.Common.{ℕ, List, [], ◌∷◌, ◌++◌, ◌≡◌, true, cond, Option, Some, None, refl, sym, ap, ◌∙◌, subst}
use Rattle.std.proofs.lemmas.Bool.{cond_both, false≢true}
use Rattle.std.proofs.lemmas.List.{append-nil}
use Rattle.cbor_edn_parts.specs.internal.Lex.{Automaton, Accepts, Is, push, munch, is_all, is_token}

pub data Holds {A : Type 0} (P : A → Type 0) : Option A → Type 0 where
  nothing : Holds P None
  just : {x : A} → P x → Holds P (Some x)

module _ {State : Type 0} (T : Automaton State) where
  -- Where the token may end, the rest leads no further.
  abbrev pub Halts : List ℕ → Type 0
  Halts [] = Unit {0}
  Halts (c ∷ r) = (m : State) → T.final m ≡ true → T.step c m ≡ None

  pub munch-again : (m : State) (x r : List ℕ) → Accepts T m x → Halts r → munch T m (x ++ r) ≡ Some (x, r)
  unfolding munch push
  munch-again m [] [] a h = rw a
  munch-again m [] (c ∷ r) a h = rw (h m a, a)
  munch-again m (c ∷ x) r a h = rw (a.1, munch-again a.0 x r a.2 h)

  abbrev pub Took : State → List ℕ → List ℕ × List ℕ → Type 0
  Took m xs p = Accepts T m p.0 × (xs ≡ p.0 ++ p.1)

  stopped : (m : State) (xs : List ℕ) → Holds (Took m xs) (cond (T.final m) (Some ([], xs)) None)
  stopped m xs = cond_both (T.final m) (Some ([], xs)) None (Holds (Took m xs)) (λ e. just (e, refl)) (λ e. nothing)

  pushed : (m n : State) (c : ℕ) (xs : List ℕ) (o : Option (List ℕ × List ℕ)) → T.step c m ≡ Some n → Holds (Took n xs) o → Holds (Took m (c ∷ xs)) (push c o)
  unfolding push
  pushed m n c xs _ e nothing = nothing
  pushed m n c xs _ e (just t) = just ((n, e, t.0), ap (◌∷◌ c) t.1)

  stepped : (m : State) (c : ℕ) (xs : List ℕ) (o : Option State) → T.step c m ≡ o → ((n : State) → Holds (Took n xs) (munch T n xs)) → Holds (Took m (c ∷ xs)) (elim o [ Some n ↦ push c (munch T n xs) | None ↦ cond (T.final m) (Some ([], c ∷ xs)) None ])
  stepped m c xs None e ih = stopped m (c ∷ xs)
  stepped m c xs (Some n) e ih = pushed m n c xs (munch T n xs) e (ih n)

  pub munch-found : (m : State) (xs : List ℕ) → Holds (Took m xs) (munch T m xs)
  unfolding munch
  munch-found m [] = stopped m []
  munch-found m (c ∷ xs) = stepped m c xs (T.step c m) refl (λ n. munch-found n xs)

  took_of : (m : State) (xs : List ℕ) (o : Option (List ℕ × List ℕ)) (x r : List ℕ) → Holds (Took m xs) o → o ≡ Some (x, r) → Took m xs (x, r)
  took_of m xs _ x r nothing e = absurd (cc)
  took_of m xs _ x r (just {x = p} t) e = subst (Took m xs) (cc) t

  -- what is taken is accepted, and stands in front
  pub munch-took : (m : State) (xs x r : List ℕ) → munch T m xs ≡ Some (x, r) → Accepts T m x × (xs ≡ x ++ r)
  munch-took m xs x r e = took_of m xs (munch T m xs) x r (munch-found m xs) e

  whole : (m : State) (x : List ℕ) → Accepts T m x → munch T m x ≡ Some (x, [])
  whole m x a = ap (munch T m) (sym (append-nil x)) ∙ munch-again m x [] a tt

  is_token-accepts : (x : List ℕ) → Is T x → is_token T x ≡ true
  is_token-accepts x a = rw (whole T.start x a)

  all_of : (xs : List ℕ) (o : Option (List ℕ × List ℕ)) → Holds (Took T.start xs) o → is_all o ≡ true → Is T xs
  all_of xs _ nothing e = absurd (false≢true e)
  all_of xs _ (just {x = (x, [])} t) e = subst (Is T) (sym (t.1 ∙ append-nil x)) t.0
  all_of xs _ (just {x = (x, c ∷ r)} t) e = absurd (false≢true e)

  -- The test of a whole text says that the automaton accepts it.
  pub token_texts : (x : List ℕ) → (Is T x → is_token T x ≡ true) × (is_token T x ≡ true → Is T x)
  token_texts x = (is_token-accepts x, all_of x (munch T T.start x) (munch-found T.start x))

  -- what is taken is a token
  pub taken : (xs x r : List ℕ) → munch T T.start xs ≡ Some (x, r) → is_token T x ≡ true
  taken xs x r e = is_token-accepts x (munch-took T.start xs x r e).0
