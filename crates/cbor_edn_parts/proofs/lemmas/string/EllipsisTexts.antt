-- Three dots or more are what the automaton of dots accepts.
use Rattle.std.proofs.Common.{ℕ, suc, ◌≡◌, ◌≤◌, List, [], ◌∷◌, length, true, refl, sym, subst, arith}
use Rattle.std.specs.Prelude.{◌==◌, ◌↔◌}
use Rattle.std.proofs.lemmas.Bool.{cond-true, eq-eqb, eqb-true, false≢true}
use Rattle.cbor_edn_parts.specs.internal.Lex.{Accepts, Is}
use Rattle.cbor_edn_parts.specs.string.Literal.{IsEllipsis}
use Rattle.cbor_edn_parts.specs.internal.LiteralTokens as tokens
use Rattle.cbor_edn_parts.specs.internal.LiteralTokens.{next_dot, is_ellipsis}
use Rattle.cbor_edn_parts.specs.declared.string.EllipsisState.{EllipsisState}
use Rattle.cbor_edn_parts.specs.declared.string.EllipsisState.TheVariants.{None as NoDot, One, Two, Enough}
use Rattle.cbor_edn_parts.proofs.lemmas.base.Each.{Each, end, next, each, all}
use Rattle.cbor_edn_parts.proofs.lemmas.string.OptionTests.{some_if}
use Rattle.cbor_edn_parts.proofs.lemmas.base.Tokens.{token_texts}

-- how many dots are wanted still
abbrev wanted : EllipsisState → ℕ
wanted NoDot = 3
wanted One = 2
wanted Two = 1
wanted Enough = 0

one_less : (m : EllipsisState) (k : ℕ) → wanted m ≤ suc k → wanted (next_dot m) ≤ k
one_less NoDot k h = omega arith
one_less One k h = omega arith
one_less Two k h = omega arith
one_less Enough k h = omega arith

one_more : (m : EllipsisState) (k : ℕ) → wanted (next_dot m) ≤ k → wanted m ≤ suc k
one_more NoDot k h = omega arith
one_more One k h = omega arith
one_more Two k h = omega arith
one_more Enough k h = omega arith

ellipsis-is : (m : EllipsisState) {t : List ℕ} → Each (λ c. c ≡ 46) t → wanted m ≤ length t → Accepts tokens.ellipsis m t
ellipsis-is NoDot end h = absurd (omega arith)
ellipsis-is One end h = absurd (omega arith)
ellipsis-is Two end h = absurd (omega arith)
ellipsis-is Enough end h = refl
ellipsis-is m (next {c = c} {x = t} e more) h = (next_dot m, cond-true (c == 46) _ _ (eq-eqb c 46 e), ellipsis-is (next_dot m) more (one_less m (length t) h))

ellipsis-from : (m : EllipsisState) (t : List ℕ) → Accepts tokens.ellipsis m t → Each (λ c. c ≡ 46) t × (wanted m ≤ length t)
ellipsis-from NoDot [] a = absurd (false≢true a)
ellipsis-from One [] a = absurd (false≢true a)
ellipsis-from Two [] a = absurd (false≢true a)
ellipsis-from Enough [] a = (end, omega arith)
ellipsis-from m (c ∷ t) a =
    let h = some_if (c == 46) (next_dot m) a.0 a.1 in
    let rest = ellipsis-from (next_dot m) t (subst (λ n. Accepts tokens.ellipsis n t) (sym h.1) a.2) in
    (next (eqb-true c 46 h.0) rest.0, one_more m (length t) rest.1)

pub ellipsis_automaton : (t : List ℕ) → IsEllipsis t ↔ Is tokens.ellipsis t
ellipsis_automaton t = (λ h. ellipsis-is NoDot (each h.0) h.1, λ a. let h = ellipsis-from NoDot t a in (all h.0, h.1))

pub ellipsis_test : (t : List ℕ) → IsEllipsis t ↔ (is_ellipsis t ≡ true)
ellipsis_test t = (λ h. (token_texts tokens.ellipsis t).0 ((ellipsis_automaton t).0 h), λ e. (ellipsis_automaton t).1 ((token_texts tokens.ellipsis t).1 e))
