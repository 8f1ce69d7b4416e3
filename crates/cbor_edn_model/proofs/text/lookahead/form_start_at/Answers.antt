use Rattle.std.proofs.Common.{ℕ, List, [], ◌∷◌, ◌≡◌, ◌≢◌, ◌+◌, ◌<◌, ◌≤◌, drop, Bool, true, false, Option, Some, None, arith, refl, sym, ap, ◌∙◌, subst}
use Rattle.std.specs.Prelude.{eqb, ltb, not, ◌&&◌, ◌||◌}
use Rattle.std.specs.Str.{IsCharBoundary}
use Rattle.std.proofs.lemmas.Bool.{ne_eqb, or_left, or_from, and_left, and_parts, or_cases, ltb-true, not-true, false≢true, agree_below_at}
use mathlib.Core.Logic.{⊎_elim}
use Rattle.cbor_edn_parts.specs.internal.Input.{text_bytes}
use Rattle.cbor_edn_model.specs.internal.Lookahead.{Opens, OpensWith}
use Rattle.cbor_edn_model.specs.internal.BytesAt.{IsNotAt}
use Rattle.cbor_edn_model.specs.internal.Reading.{begins_string, starts_with, starts_string, keyword_of, if_keyword, keyword_at}
use Rattle.cbor_edn_model.specs.declared.text.lookahead.FormStart.{FormStart}
use Rattle.cbor_edn_model.specs.declared.text.lookahead.FormStart.TheVariants.{Array, Map, Stream, Keyword, String, Number}
use Rattle.cbor_edn_model.specs.declared.text.keyword.Keyword.{Keyword as TheKeyword}
use Rattle.cbor_edn_model.proofs.text.lookahead.form_start_at.Goals as goal
use Rattle.cbor_edn_model.proofs.text.lookahead.form_start_at.Goals.{in-Some-keyword_of+in_default-keyword_at, in_default-keyword_of}

begun : (c : ℕ) (r : List ℕ) → begins_string c ≡ true → starts_string (c ∷ r) ≡ true
unfolding starts_string
begun c r e = or_left (begins_string c) (eqb c 46 && starts_with 46 r) e

not_begun : (c : ℕ) (r : List ℕ) → begins_string c ≡ false → c ≢ 46 → starts_string (c ∷ r) ≡ false
unfolding starts_string
not_begun c r e n = or_from (begins_string c) (eqb c 46 && starts_with 46 r) e (and_left (eqb c 46) (starts_with 46 r) (ne_eqb c 46 n))

one_dot : (r : List ℕ) → IsNotAt 46 r → starts_string (46 ∷ r) ≡ false
unfolding starts_string
one_dot [] n = refl
one_dot (c ∷ r) n = rw (ne_eqb c 46 n) refl

two_dots : (r : List ℕ) → starts_string (46 ∷ 46 ∷ r) ≡ true
unfolding starts_string
two_dots r = refl

-- a byte that is no dot and begins no keyword, and what it opens
opens_with : (text : List ℕ) (at c : ℕ) (o : FormStart) → drop at text ≡ c ∷ drop (at + 1) text → (c < 128 → IsCharBoundary text (at + 1)) → c ≢ 46 → keyword_at (drop at text) ≡ None → OpensWith c o → Opens text at o
opens_with text at c Array here behind n w e = (subst (λ (b : ℕ). drop at text ≡ b ∷ drop (at + 1) text) e here, behind (omega (arith, e)))
opens_with text at c Map here behind n w e = (subst (λ (b : ℕ). drop at text ≡ b ∷ drop (at + 1) text) e here, behind (omega (arith, e)))
opens_with text at c Stream here behind n w e = (subst (λ (b : ℕ). drop at text ≡ b ∷ drop (at + 1) text) e here, behind (omega (arith, e)))
opens_with text at c (Keyword v to) here behind n w e = elim e [ ]
opens_with text at c String here behind n w e = (w, rw here (begun c (drop (at + 1) text) e))
opens_with text at c Number here behind n w e = let other : starts_string (drop at text) ≡ false = rw here (not_begun c (drop (at + 1) text) e.3 n) in (rw here e.0, rw here e.1, rw here e.2, w, other)

-- a byte tells which keyword may stand there
keyword_opens : (text : List ℕ) (at c : ℕ) (o : Option TheKeyword) (a : Option (TheKeyword × List ℕ)) → drop at text ≡ c ∷ drop (at + 1) text → o ≡ keyword_of c → if_keyword o (drop at text) ≡ a → keyword_at (drop at text) ≡ a
unfolding keyword_at
keyword_opens text at c o a here e f = ap keyword_at here ∙ (ap (λ p. if_keyword p (c ∷ drop (at + 1) text)) (sym e) ∙ (ap (if_keyword o) (sym here) ∙ f))

opens_none : (text : List ℕ) (at : ℕ) → drop at text ≡ [] → Opens text at Number
unfolding starts_string keyword_at
opens_none text at e = rw e (tt, tt, tt, refl, refl)

opens_ellipsis : (text : List ℕ) (at c : ℕ) (r : List ℕ) → drop at text ≡ c ∷ drop (at + 1) text → c ≡ 46 → drop (at + 1) text ≡ 46 ∷ r → Opens text at String
unfolding keyword_at
opens_ellipsis text at c r here e next = rw (here, e, next) (refl, two_dots r)

opens_dot : (text : List ℕ) (at c : ℕ) → drop at text ≡ c ∷ drop (at + 1) text → c ≡ 46 → IsNotAt 46 (drop (at + 1) text) → Opens text at Number
unfolding keyword_at
opens_dot text at c here e n = rw (here, e) ((λ i. absurd (omega (arith, i))), (λ i. absurd (omega (arith, i))), (λ i. absurd (omega (arith, i))), refl, one_dot (drop (at + 1) text) n)

-- a digit begins neither a keyword nor a string

abbrev is_none : Option TheKeyword → Bool
is_none None = true
is_none (Some w) = false

none_is : (o : Option TheKeyword) → is_none o ≡ true → o ≡ None
none_is None e = refl
none_is (Some w) e = absurd (false≢true e)

is_plain : (c : ℕ) → 48 ≤ c → c ≤ 57 → (not (begins_string c) && is_none (keyword_of c)) ≡ true
is_plain c low high =
    ⊎_elim
    (λ below. absurd (omega (arith, low, ltb-true c 48 below)))
    (λ plain. plain)
    (or_cases (ltb c 48) (not (begins_string c) && is_none (keyword_of c)) (agree_below_at (λ c. ltb c 48 || (not (begins_string c) && is_none (keyword_of c))) (λ c. true) 58 c refl (omega arith)))

opens_digit : (text : List ℕ) (at c : ℕ) → drop at text ≡ c ∷ drop (at + 1) text → (c < 128 → IsCharBoundary text (at + 1)) → 48 ≤ c → c ≤ 57 → Opens text at Number
opens_digit text at c here behind low high =
    let plain = and_parts (not (begins_string c)) (is_none (keyword_of c)) (is_plain c low high) in
    opens_with text at c Number here behind (omega arith) (keyword_opens text at c None None here (sym (none_is (keyword_of c) plain.1)) refl) (omega arith, omega arith, omega arith, not-true (begins_string c) plain.0)

pub returns-in_default-clause-opens : goal.returns-in_default-clause-opens
returns-in_default-clause-opens c = opens_none (text_bytes c.args.text.now) c.args.at c.in_default.ensures.value

pub returns-then-is_ascii_digit-clause-opens : goal.returns-then-is_ascii_digit-clause-opens
returns-then-is_ascii_digit-clause-opens c =
    let digit = rw c.if-is_ascii_digit.true at c.is_ascii_digit.ensures.cases in
    opens_digit (text_bytes c.args.text.now) c.args.at _ c.in-Some.ensures.value.0 c.in-Some.ensures.behind digit.0 digit.1

pub returns-then-is_at-clause-opens : goal.returns-then-is_at-clause-opens
returns-then-is_at-clause-opens c = opens_ellipsis (text_bytes c.args.text.now) c.args.at _ _ c.in-Some.ensures.value.0 c.if-byte-eq46.true (c.if-is_at.ensures.yes refl).0

pub returns-then-byte-eq46-clause-opens : goal.returns-then-byte-eq46-clause-opens
returns-then-byte-eq46-clause-opens c = opens_dot (text_bytes c.args.text.now) c.args.at _ c.in-Some.ensures.value.0 c.if-byte-eq46.true (c.if-is_at.ensures.no refl)

pub returns-in-Some-keyword_at-clause-opens : goal.returns-in-Some-keyword_at-clause-opens
returns-in-Some-keyword_at-clause-opens c = let some = c.in-Some-keyword_at.ensures.some in (keyword_opens (text_bytes c.args.text.now) c.args.at c.in-Some.byte _ _ c.in-Some.ensures.value.0 c.in-Some-keyword_of.ensures some.0, some.1)

pub returns-clause-opens : goal.returns-clause-opens
returns-clause-opens c =
    let text = text_bytes c.args.text.now in
    let here = c.in-Some.ensures.value.0 in
    let no_keyword : keyword_at (drop c.args.at text) ≡ None = elim c.match-keyword_of.branch [
      | in-Some-keyword_of+in_default-keyword_at w ↦ keyword_opens text c.args.at c.in-Some.byte _ _ here w.in-Some-keyword_of.ensures w.in_default-keyword_at.ensures.none
      | in_default-keyword_of w ↦ keyword_opens text c.args.at c.in-Some.byte _ _ here w.in_default-keyword_of.ensures refl
    ] in
    opens_with text c.args.at _ _ here c.in-Some.ensures.behind c.if-byte-eq46.false no_keyword c.form_start_of.ensures
