-- An indicator's text is read as that indicator, and what is read as one is its text.
use Rattle.std.proofs.Common.{ℕ, ◌≡◌, List, [], ◌∷◌, ◌++◌, Bool, true, false, Option, Some, None, refl, ap, ◌∙◌}
use Rattle.std.specs.Prelude.{eqb}
use Rattle.std.proofs.lemmas.Bool.{eqb-true, false≢true}
use Rattle.cbor_edn_parts.specs.base.Bytes.{Kind, Underscore, kind, follows, begins, Follow}
use Rattle.cbor_edn_parts.specs.base.Indicator.{suffix_text, indicator_text, suffix_at, indicator_at}
use Rattle.cbor_edn_parts.specs.declared.base.indicator.Indicator.{Indicator}
use Rattle.cbor_edn_parts.specs.declared.base.indicator.Indicator.TheVariants.{Indefinite, Immediate, One, Two, Four, Eight}
use Rattle.cbor_edn_parts.proofs.lemmas.base.ByteKinds.{differs}

pub suffix-again : (w : Indicator) (r : List ℕ) → Follow r → suffix_at (suffix_text w ++ r) ≡ (w, r)
unfolding suffix_at kind
suffix-again Indefinite [] h = refl
suffix-again Indefinite (c ∷ r) h = rw (differs follows c 105 h refl, differs follows c 48 h refl, differs follows c 49 h refl, differs follows c 50 h refl, differs follows c 51 h refl)
suffix-again Immediate r h = refl
suffix-again One r h = refl
suffix-again Two r h = refl
suffix-again Four r h = refl
suffix-again Eight r h = refl

-- What begins no indicator.
abbrev pub plain : Kind → Bool
plain Underscore = false
plain _ = true

abbrev pub Plain : List ℕ → Type 0
Plain [] = Unit {0}
Plain (c ∷ r) = plain (kind c) ≡ true

pub follows-plain : (k : Kind) → follows k ≡ true → plain k ≡ true
follows-plain Underscore h = absurd (false≢true h)
follows-plain _ h = refl

pub begins-plain : (k : Kind) → begins k ≡ true → plain k ≡ true
begins-plain Underscore h = absurd (false≢true h)
begins-plain _ h = refl

pub Follow-plain : (r : List ℕ) → Follow r → Plain r
Follow-plain [] h = tt
Follow-plain (c ∷ r) h = follows-plain (kind c) h

pub spec-none : (r : List ℕ) → Plain r → indicator_at r ≡ (None, r)
unfolding indicator_at kind
spec-none [] h = refl
spec-none (c ∷ r) h = rw (differs plain c 95 h refl)

pub spec-some : (w : Indicator) (r : List ℕ) → Follow r → indicator_at (95 ∷ (suffix_text w ++ r)) ≡ (Some w, r)
unfolding indicator_at
spec-some w r h = rw (suffix-again w r h)

pub spec-again : (i : Option Indicator) (r : List ℕ) → Follow r → indicator_at (indicator_text i ++ r) ≡ (i, r)
spec-again None r h = spec-none r (Follow-plain r h)
spec-again (Some w) r h = spec-some w r h

-- Each suffix by its byte.
suffix_by : (c : ℕ) (xs : List ℕ) (i a b d e : Bool) → eqb c 105 ≡ i → eqb c 48 ≡ a → eqb c 49 ≡ b → eqb c 50 ≡ d → eqb c 51 ≡ e → c ∷ xs ≡ suffix_text (suffix_at (c ∷ xs)).0 ++ (suffix_at (c ∷ xs)).1
unfolding suffix_at
suffix_by c xs true a b d e is_i is_a is_b is_d is_e = rw is_i (ap (◌∷ xs) (eqb-true c 105 is_i))
suffix_by c xs false true b d e is_i is_a is_b is_d is_e = rw (is_i, is_a) (ap (◌∷ xs) (eqb-true c 48 is_a))
suffix_by c xs false false true d e is_i is_a is_b is_d is_e = rw (is_i, is_a, is_b) (ap (◌∷ xs) (eqb-true c 49 is_b))
suffix_by c xs false false false true e is_i is_a is_b is_d is_e = rw (is_i, is_a, is_b, is_d) (ap (◌∷ xs) (eqb-true c 50 is_d))
suffix_by c xs false false false false true is_i is_a is_b is_d is_e = rw (is_i, is_a, is_b, is_d, is_e) (ap (◌∷ xs) (eqb-true c 51 is_e))
suffix_by c xs false false false false false is_i is_a is_b is_d is_e = rw (is_i, is_a, is_b, is_d, is_e) refl

pub suffix-found : (xs : List ℕ) → xs ≡ suffix_text (suffix_at xs).0 ++ (suffix_at xs).1
unfolding suffix_at
suffix-found [] = refl
suffix-found (c ∷ xs) = suffix_by c xs (eqb c 105) (eqb c 48) (eqb c 49) (eqb c 50) (eqb c 51) refl refl refl refl refl

spec_by : (c : ℕ) (xs : List ℕ) (b : Bool) → eqb c 95 ≡ b → c ∷ xs ≡ indicator_text (indicator_at (c ∷ xs)).0 ++ (indicator_at (c ∷ xs)).1
unfolding indicator_at
spec_by c xs true e = rw e (ap (λ u. c ∷ u) (suffix-found xs) ∙ ap (λ d. d ∷ (suffix_text (suffix_at xs).0 ++ (suffix_at xs).1)) (eqb-true c 95 e))
spec_by c xs false e = rw e refl

pub spec-found : (xs : List ℕ) → xs ≡ indicator_text (indicator_at xs).0 ++ (indicator_at xs).1
unfolding indicator_at
spec-found [] = refl
spec-found (c ∷ xs) = spec_by c xs (eqb c 95) refl
