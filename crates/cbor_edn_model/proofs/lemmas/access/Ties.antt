-- Loans of loans, by the relations that they follow.
use Rattle.std.proofs.Common.{◌≡◌, ℕ, suc, ◌+◌, ◌-◌, ◌<◌, Bool, true, false, [], ◌∷◌, Option, Some, None, MutBor, refl, subst, arith}
use lib.Dec.{T}
use mathlib.Core.Bool.{not}
use Rattle.std.proofs.lemmas.Bool.{false≢true}
use Rattle.std.specs.Option.{IsSome, OnSome, ghost_name_of}
use mathlib.Core.Option as maybe
use base.Logic.{ent, emp, sep, wand}
use base.Fml.{Fml, GName, fsep, feq, fex, fauth, fres}
use seplogic.Ra.Ura.{Ura}
use types.Logic.{Logic, sem}
use types.Kit.{‵, ◌$◌, ◌∵◌, !, qed, each, assume, move, done, fjoin, fpack, fpick, feq_i, use2}
use denote.Follow.{follows, follows_by, such_by, follows_so, follows_then, followed}
use denote.RattleType.{RattleType}

module _ {M : Type 1} {𝓤 : Ura M} (𝓛 : Logic 𝓤) (R T : RattleType) (γ : GName) (P Q : T.Denot → R.Denot → Type 0) (P₀ : R.Denot → Type 0) where
  -- a relation in place of a stronger one
  pub so_weaker : (m : maybe.Option GName) → ((w : T.Denot) (n : R.Denot) → P w n → Q w n) → ent 𝓤 (sem 𝓛 (follows_so R T γ m P P₀)) (sem 𝓛 (follows_so R T γ m Q P₀))
  unfolding such_by
  so_weaker m q =
      qed 𝓛 (‵ (follows_so R T γ m P P₀) ∷ []) ∵ fpick ! (λ s.
      fpack ! ((z : (T.Denot → R.Denot) × R.Denot) × ((w : T.Denot) → Q w (z.0 w)) × P₀ z.1) (λ z. follows_by R.Denot T.Denot R.coded.code T.coded.code γ m z.0.0 z.0.1) (s.0, (λ w. q w (s.0.0 w) (s.1 w)), s.2) $ done !)

module _ {M : Type 1} {𝓤 : Ura M} (𝓛 : Logic 𝓤) (R T U : RattleType) (γ γ' : GName) (P : T.Denot → R.Denot → Type 0) (P₀ : R.Denot → Type 0) where
  -- a part of a part that is lent by a function
  pub so_follow : (γ'' : GName) (G : U.Denot → T.Denot)
      → ent 𝓤 (sep 𝓤 (sem 𝓛 (follows_so R T γ (maybe.some γ') P P₀)) (sem 𝓛 (follows T U γ' γ'' G))) (sem 𝓛 (follows_so R U γ (maybe.some γ'') (λ w n. P (G w) n) P₀))
  unfolding such_by follows_by
  so_follow γ'' G =
      qed 𝓛 (‵ (follows_so R T γ (maybe.some γ') P P₀) ∷ ‵ (follows T U γ' γ'' G) ∷ []) ∵ fpick ! (λ s.
      use2 𝓛 (‵ (follows R U γ γ'' (λ w. s.0.0 (G w)))) (follows_then 𝓛 R T U s.0.0 G γ γ' γ'') $
      fpack ! ((a : (U.Denot → R.Denot) × R.Denot) × ((w : U.Denot) → P (G w) (a.0 w)) × P₀ a.1) (λ a. follows_by R.Denot U.Denot R.coded.code U.coded.code γ (maybe.some γ'') a.0.0 a.0.1) (((λ w. s.0.0 (G w)), s.0.1), (λ w. s.1 (G w)), s.2) $ done !)

  -- a part of a part, where there is one
  pub so_so : (Q : U.Denot → T.Denot → Type 0) (Q₀ : T.Denot → Type 0) (Z : U.Denot → R.Denot → Type 0) → ((w : U.Denot) (t : T.Denot) (n : R.Denot) → Q w t → P t n → Z w n)
      → (d : Option (MutBor U.Denot)) → IsSome d
      → ent 𝓤 (sep 𝓤 (sem 𝓛 (follows_so R T γ (maybe.some γ') P P₀)) (sem 𝓛 (follows_so T U γ' (ghost_name_of d) (λ w t. OnSome d (Q w t)) Q₀))) (sem 𝓛 (follows_so R U γ (ghost_name_of d) (λ w n. OnSome d (Z w n)) P₀))
  unfolding such_by follows_by
  so_so Q Q₀ Z z None there = absurd (false≢true there)
  so_so Q Q₀ Z z (Some q) there =
      let γ'' = q.ghost_name in
      qed 𝓛 (‵ (follows_so R T γ (maybe.some γ') P P₀) ∷ ‵ (follows_so T U γ' (maybe.some γ'') Q Q₀) ∷ []) ∵ fpick ! (λ s. move ! (1 ∷ []) $ fpick ! (λ t. move ! (1 ∷ 0 ∷ []) $
      use2 𝓛 (‵ (follows R U γ γ'' (λ w. s.0.0 (t.0.0 w)))) (follows_then 𝓛 R T U s.0.0 t.0.0 γ γ' γ'') $
      fpack ! ((a : (U.Denot → R.Denot) × R.Denot) × ((w : U.Denot) → Z w (a.0 w)) × P₀ a.1) (λ a. follows_by R.Denot U.Denot R.coded.code U.coded.code γ (maybe.some γ'') a.0.0 a.0.1) (((λ w. s.0.0 (t.0.0 w)), s.0.1), (λ w. z w (t.0.0 w) (s.0.0 (t.0.0 w)) (t.1 w) (s.1 (t.0.0 w))), s.2) $ done !))

module _ {M : Type 1} {𝓤 : Ura M} (𝓛 : Logic 𝓤) (R : RattleType) (γ : GName) where
  open 𝓛 use {A}

  -- a reference follows itself
  pub itself : ent 𝓤 (emp 𝓤) (sem 𝓛 (follows R R γ γ (λ w. w)))
  itself =
      let From : R.Denot → R.Denot → Fml = λ z w. fsep (feq R.Denot z w) (fauth γ (R.coded.code w)) in
      let said = qed 𝓛 [] ∵ each ! (λ (w : R.Denot). wand 𝓤 (A.res γ (R.coded.code w)) (A.res γ (R.coded.code w))) (λ w. assume ! (‵ (fres γ (R.coded.code w))) $ done !) in
      let back = qed 𝓛 [] ∵ each ! (λ (z : R.Denot). wand 𝓤 (A.auth γ (R.coded.code z)) (sem 𝓛 (fex R.Denot (From z)))) (λ z. assume ! (‵ (fauth γ (R.coded.code z))) $ feq_i ! R.Denot z z refl $ fjoin ! $ fpack ! R.Denot (From z) z $ done !) in
      record { apply = λ a p. (said.apply a p, back.apply a p) }

module _ {M : Type 1} {𝓤 : Ura M} (𝓛 : Logic 𝓤) (R T : RattleType) (γ γ' : GName) (F : T.Denot → R.Denot) (P : T.Denot → R.Denot → Type 0) (P₀ : R.Denot → Type 0) (v : R.Denot) where
  -- a function is a relation
  pub related : ((w : T.Denot) → P w (F w)) → P₀ v → ent 𝓤 (sem 𝓛 (follows R T γ γ' F)) (sem 𝓛 (follows_so R T γ (maybe.some γ') P P₀))
  unfolding such_by follows_by
  related p p₀ =
      qed 𝓛 (‵ (follows R T γ γ' F) ∷ []) ∵ fpack ! ((s : (T.Denot → R.Denot) × R.Denot) × ((w : T.Denot) → P w (s.0 w)) × P₀ s.1) (λ s. follows_by R.Denot T.Denot R.coded.code T.coded.code γ (maybe.some γ') s.0.0 s.0.1) ((F, v), p, p₀) $ done !

module _ {M : Type 1} {𝓤 : Ura M} (𝓛 : Logic 𝓤) (R T U : RattleType) (γ γ' : GName) (F : T.Denot → R.Denot) (P : U.Denot → T.Denot → Type 0) (P₀ : T.Denot → Type 0) (Q : U.Denot → R.Denot → Type 0) (Q₀ : R.Denot → Type 0) where
  -- what a part's loan gives, of the whole that follows the part
  pub so_then : (m : maybe.Option GName) → ((w : U.Denot) (t : T.Denot) → P w t → Q w (F t)) → ((t : T.Denot) → P₀ t → Q₀ (F t))
      → ent 𝓤 (sep 𝓤 (sem 𝓛 (follows R T γ γ' F)) (sem 𝓛 (follows_so T U γ' m P P₀))) (sem 𝓛 (follows_so R U γ m Q Q₀))
  unfolding such_by follows_by
  so_then maybe.none q q₀ =
      qed 𝓛 (‵ (follows R T γ γ' F) ∷ ‵ (follows_so T U γ' maybe.none P P₀) ∷ []) ∵ move ! (1 ∷ []) $ fpick ! (λ s. move ! (1 ∷ 0 ∷ []) $ use2 𝓛 (‵ (fres γ (R.coded.code (F s.0.1)))) (followed 𝓛 R T F γ γ' s.0.1) $
      fpack ! ((z : (U.Denot → R.Denot) × R.Denot) × ((w : U.Denot) → Q w (z.0 w)) × Q₀ z.1) (λ z. follows_by R.Denot U.Denot R.coded.code U.coded.code γ maybe.none z.0.0 z.0.1) (((λ w. F (s.0.0 w)), F s.0.1), (λ w. q w (s.0.0 w) (s.1 w)), q₀ s.0.1 s.2) $ done !)
  so_then (maybe.some δ) q q₀ =
      qed 𝓛 (‵ (follows R T γ γ' F) ∷ ‵ (follows_so T U γ' (maybe.some δ) P P₀) ∷ []) ∵ move ! (1 ∷ []) $ fpick ! (λ s. move ! (1 ∷ 0 ∷ []) $ use2 𝓛 (‵ (follows R U γ δ (λ w. F (s.0.0 w)))) (follows_then 𝓛 R T U F s.0.0 γ γ' δ) $
      fpack ! ((z : (U.Denot → R.Denot) × R.Denot) × ((w : U.Denot) → Q w (z.0 w)) × Q₀ z.1) (λ z. follows_by R.Denot U.Denot R.coded.code U.coded.code γ (maybe.some δ) z.0.0 z.0.1) (((λ w. F (s.0.0 w)), F s.0.1), (λ w. q w (s.0.0 w) (s.1 w)), q₀ s.0.1 s.2) $ done !)

-- ---- the test for the end of a path

pub is_true : (b : Bool) → T b → b ≡ true
is_true true t = refl
is_true false t = absurd t

pub is_false : (b : Bool) → T (not b) → b ≡ true → ⊥
is_false true t e = absurd t
is_false false t e = subst (λ (z : Bool). T (not z)) e tt

pub next_in : (k m : ℕ) → k < m → (suc k ≡ m → ⊥) → k + 1 < m
next_in k m l e = omega (arith, e)

pub next_few : (k m n : ℕ) → k < m → m - suc k < suc n → (suc k ≡ m → ⊥) → m - suc (k + 1) < n
next_few k m n l few e = omega (arith, e)
