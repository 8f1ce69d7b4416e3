use Rattle.std.proofs.Common.{ℕ, ◌≡◌, ◌<◌, ◌≤◌, List, [], ◌∷◌, length, get_or, refl, arith}
use Rattle.cbor_edn_parts.specs.space.Spacing.{comments_before, comments_after}
use Rattle.cbor_edn_parts.specs.internal.CommentReading.{from_first, to_last, up_to_comma, past_comma}
use Rattle.cbor_edn_parts.proofs.space.comments.is_bare_separator.Goals as goal

abbrev HasNone : List ℕ → Type 0
HasNone t = (comments_before t ≡ []) × (comments_after t ≡ [])

empty : (t : List ℕ) → length t < 1 → HasNone t
unfolding from_first to_last up_to_comma past_comma
empty [] few = (refl, refl)
empty (c ∷ t) few = absurd (omega (arith, few))

comma : (t : List ℕ) → 1 ≤ length t → length t < 2 → get_or t 0 0 ≡ 44 → HasNone t
unfolding from_first to_last up_to_comma past_comma
comma [] some few is = absurd (omega (arith, some))
comma (c ∷ []) some few is = rw is (refl, refl)
comma (c ∷ d ∷ t) some few is = absurd (omega (arith, few))

blank : (t : List ℕ) → 1 ≤ length t → length t < 2 → get_or t 0 0 ≡ 32 → HasNone t
unfolding from_first to_last up_to_comma past_comma
blank [] some few is = absurd (omega (arith, some))
blank (c ∷ []) some few is = rw is (refl, refl)
blank (c ∷ d ∷ t) some few is = absurd (omega (arith, few))

comma_space : (t : List ℕ) → 2 ≤ length t → length t < 3 → get_or t 0 0 ≡ 44 → get_or t 1 0 ≡ 32 → HasNone t
unfolding from_first to_last up_to_comma past_comma
comma_space [] some few first second = absurd (omega (arith, some))
comma_space (c ∷ []) some few first second = absurd (omega (arith, some))
comma_space (c ∷ d ∷ []) some few first second = rw (first, second) (refl, refl)
comma_space (c ∷ d ∷ e ∷ t) some few first second = absurd (omega (arith, few))

pub returns-in-empty-clause-before : goal.returns-in-empty-clause-before
returns-in-empty-clause-before c =
    let none : HasNone c.args.text.now = rw (← c.as_bytes.ensures.value) (empty c.as_bytes.result.now c.in-empty.len_below) in
    λ _. none.0

pub returns-in-empty-clause-after : goal.returns-in-empty-clause-after
returns-in-empty-clause-after c =
    let none : HasNone c.args.text.now = rw (← c.as_bytes.ensures.value) (empty c.as_bytes.result.now c.in-empty.len_below) in
    λ _. none.1

pub returns-in-44-clause-before : goal.returns-in-44-clause-before
returns-in-44-clause-before c =
    let none : HasNone c.args.text.now = rw (← c.as_bytes.ensures.value) (comma c.as_bytes.result.now c.in-44.len_at_least c.in-44.len_below (omega arith)) in
    λ _. none.0

pub returns-in-44-clause-after : goal.returns-in-44-clause-after
returns-in-44-clause-after c =
    let none : HasNone c.args.text.now = rw (← c.as_bytes.ensures.value) (comma c.as_bytes.result.now c.in-44.len_at_least c.in-44.len_below (omega arith)) in
    λ _. none.1

pub returns-in-44-2-clause-before : goal.returns-in-44-2-clause-before
returns-in-44-2-clause-before c =
    let none : HasNone c.args.text.now = rw (← c.as_bytes.ensures.value) (comma_space c.as_bytes.result.now c.in-44-2.len_at_least c.in-44-2.len_below (omega arith) (omega arith)) in
    λ _. none.0

pub returns-in-44-2-clause-after : goal.returns-in-44-2-clause-after
returns-in-44-2-clause-after c =
    let none : HasNone c.args.text.now = rw (← c.as_bytes.ensures.value) (comma_space c.as_bytes.result.now c.in-44-2.len_at_least c.in-44-2.len_below (omega arith) (omega arith)) in
    λ _. none.1

pub returns-in-32-clause-before : goal.returns-in-32-clause-before
returns-in-32-clause-before c =
    let none : HasNone c.args.text.now = rw (← c.as_bytes.ensures.value) (blank c.as_bytes.result.now c.in-32.len_at_least c.in-32.len_below (omega arith)) in
    λ _. none.0

pub returns-in-32-clause-after : goal.returns-in-32-clause-after
returns-in-32-clause-after c =
    let none : HasNone c.args.text.now = rw (← c.as_bytes.ensures.value) (blank c.as_bytes.result.now c.in-32.len_at_least c.in-32.len_below (omega arith)) in
    λ _. none.1
