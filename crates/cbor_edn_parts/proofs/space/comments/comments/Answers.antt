use Rattle.std.proofs.Common.{ℕ, ◌≡◌, ◌<◌, ◌≤◌, List, [], ◌∷◌, length, get_or, refl, arith}
use Rattle.cbor_edn_parts.specs.internal.CommentReading.{from_first, to_last, comments_of}
use Rattle.cbor_edn_parts.proofs.space.comments.comments.Goals as goal

nothing : (t : List ℕ) → length t < 1 → [] ≡ comments_of t
unfolding from_first to_last
nothing [] few = refl
nothing (c ∷ t) few = absurd (omega (arith, few))

space : (t : List ℕ) → 1 ≤ length t → length t < 2 → get_or t 0 0 ≡ 32 → [] ≡ comments_of t
unfolding from_first to_last
space [] some few is = absurd (omega (arith, some))
space (c ∷ []) some few is = rw is refl
space (c ∷ d ∷ t) some few is = absurd (omega (arith, few))

pub returns-in-empty : goal.returns-in-empty
returns-in-empty c = rw (← c.as_bytes.ensures.value) (nothing c.as_bytes.result.now c.in-empty.len_below)

pub returns-in-32 : goal.returns-in-32
returns-in-32 c = rw (← c.as_bytes.ensures.value) (space c.as_bytes.result.now c.in-32.len_at_least c.in-32.len_below (omega arith))
