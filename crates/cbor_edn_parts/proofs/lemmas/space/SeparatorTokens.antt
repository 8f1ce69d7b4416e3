-- A separator is the space at a place, and a comma with the space behind it, if one stands there.
use Rattle.std.proofs.Common.{ℕ, ◌≡◌, ◌≤◌, ◌<◌, ◌-◌, length, drop, List, [], ◌∷◌, ◌++◌, Bool, true, false, cond, Option, Some, None, refl, sym, ap, ◌∙◌, arith, length-append, length-drop}
use Rattle.std.specs.Prelude.{slice_range, if◌then◌else◌, ◌==◌}
use Rattle.std.proofs.lemmas.Bool.{cond-true, cond-false, eq-eqb, ne_eqb, cases_eq}
use mathlib.Core.Logic.{⊎_elim, ◌≢◌}
use Rattle.std.proofs.Math.Seq.{take-append_seam}
use Rattle.std.specs.Str.{IsCharBoundary}
use Rattle.cbor_edn_parts.specs.internal.Ends.{IsSpaced}
use Rattle.cbor_edn_parts.specs.base.Bytes.{Kind, Comma, kind}
use Rattle.cbor_edn_parts.specs.internal.Lex.{push, munch, token}
use Rattle.cbor_edn_parts.specs.internal.SpaceTokens as tokens
use Rattle.cbor_edn_parts.specs.internal.SpaceTokens.{space_step, separator_step, before, after}
use Rattle.cbor_edn_parts.specs.declared.space.SpaceState.{SpaceState}
use Rattle.cbor_edn_parts.specs.declared.space.SpaceState.TheVariants.{Between, InSlashes, InHash}
use Rattle.cbor_edn_parts.specs.internal.SpaceTokens.{Before, After}
use Rattle.cbor_edn_parts.proofs.lemmas.base.ByteKinds.{kind-comma}
use Rattle.cbor_edn_parts.proofs.lemmas.base.ScanLoops.{front, munch_some, munch_none}
use Rattle.cbor_edn_parts.proofs.lemmas.base.Tokens.{munch-took}

-- Behind the comma stands space.
after_step : (m : SpaceState) (c : ℕ) (xs : List ℕ) (o : Option SpaceState) → space_step (kind c) m ≡ o → ((n : SpaceState) → munch tokens.separator (After n) xs ≡ munch tokens.space n xs)
    → munch tokens.separator (After m) (c ∷ xs) ≡ munch tokens.space m (c ∷ xs)
after_step m c xs None e rest = munch_none tokens.separator (After m) c xs (ap after e) ∙ sym (munch_none tokens.space m c xs e)
after_step m c xs (Some n) e rest = munch_some tokens.separator (After m) (After n) c xs (ap after e) ∙ (ap (push c) (rest n) ∙ sym (munch_some tokens.space m n c xs e))

after_comma : (m : SpaceState) (xs : List ℕ) → munch tokens.separator (After m) xs ≡ munch tokens.space m xs
unfolding munch
after_comma m [] = refl
after_comma m (c ∷ xs) = after_step m c xs (space_step (kind c) m) refl (λ n. after_comma n xs)

-- The space that stands there, and the rest up to the end of the separator.
abbrev pub with_comma : Option (List ℕ × List ℕ) → Option (List ℕ × List ℕ)
with_comma None = None
with_comma (Some (x, [])) = Some (x, [])
with_comma (Some (x, c ∷ r)) = if c == 44 then front (x ++ (44 ∷ [])) (token tokens.space r) else Some (x, c ∷ r)

push_front : (c : ℕ) (x : List ℕ) (o : Option (List ℕ × List ℕ)) → push c (front x o) ≡ front (c ∷ x) o
unfolding push front
push_front c x None = refl
push_front c x (Some p) = refl

pushed_comma : (c : ℕ) (o : Option (List ℕ × List ℕ)) → c ≡ 44 → push c o ≡ front (44 ∷ []) o
unfolding push front
pushed_comma c None e = refl
pushed_comma c (Some p) e = cc

push_cond : (b : Bool) (d : ℕ) (x : List ℕ) (o p : Option (List ℕ × List ℕ)) → push d (cond b o p) ≡ cond b (push d o) (push d p)
push_cond true d x o p = refl
push_cond false d x o p = refl

pushed : (d : ℕ) (o : Option (List ℕ × List ℕ)) → push d (with_comma o) ≡ with_comma (push d o)
unfolding push
pushed d None = refl
pushed d (Some (x, [])) = refl
pushed d (Some (x, c ∷ r)) =
    push_cond (c == 44) d x _ _ ∙ ap (λ o. if c == 44 then o else Some (d ∷ x, c ∷ r)) (push_front d (x ++ (44 ∷ [])) (token tokens.space r))

-- The comma between comments leads behind it, and what is not that comma steps as in space.
comma_step : (c : ℕ) → c ≡ 44 → (separator_step (kind c) (Before Between) ≡ Some (After Between)) × (space_step (kind c) Between ≡ None)
unfolding kind
comma_step c e = rw e (refl, refl)

no_comma : (k : Kind) (m : SpaceState) → (k ≡ Comma → m ≡ Between → ⊥) → separator_step k (Before m) ≡ before (space_step k m)
no_comma Comma Between h = absurd (h refl refl)
no_comma Comma InSlashes h = refl
no_comma Comma InHash h = refl
no_comma k m h = refl

-- what is not taken as space is no separator either, where no comma stands
kept : (m : SpaceState) (c : ℕ) (xs : List ℕ) → (c ≡ 44 → m ≡ Between → ⊥)
    → cond (tokens.space_final m) (Some ([], c ∷ xs)) None ≡ with_comma (cond (tokens.space_final m) (Some ([], c ∷ xs)) None)
kept Between c xs other = sym (cond-false (c == 44) _ _ (ne_eqb c 44 (λ e. other e refl)))
kept InSlashes c xs other = refl
kept InHash c xs other = refl

other_step : (m : SpaceState) (c : ℕ) (xs : List ℕ) (o : Option SpaceState) → (c ≡ 44 → m ≡ Between → ⊥) → space_step (kind c) m ≡ o
    → ((n : SpaceState) → munch tokens.separator (Before n) xs ≡ with_comma (munch tokens.space n xs))
    → munch tokens.separator (Before m) (c ∷ xs) ≡ with_comma (munch tokens.space m (c ∷ xs))
other_step m c xs None other e rest =
    let none = no_comma (kind c) m (λ k. other (kind-comma c k)) ∙ ap before e in
    munch_none tokens.separator (Before m) c xs none ∙ (kept m c xs other ∙ ap with_comma (sym (munch_none tokens.space m c xs e)))
other_step m c xs (Some n) other e rest =
    let some = no_comma (kind c) m (λ k. other (kind-comma c k)) ∙ ap before e in
    munch_some tokens.separator (Before m) (Before n) c xs some
    ∙ (ap (push c) (rest n) ∙ (pushed c (munch tokens.space n xs) ∙ ap with_comma (sym (munch_some tokens.space m n c xs e))))

at_comma : (c : ℕ) (xs : List ℕ) → c ≡ 44 → munch tokens.separator (Before Between) (c ∷ xs) ≡ with_comma (munch tokens.space Between (c ∷ xs))
at_comma c xs e =
    let steps = comma_step c e in
    munch_some tokens.separator (Before Between) (After Between) c xs steps.0
    ∙ (ap (push c) (after_comma Between xs)
    ∙ (pushed_comma c (munch tokens.space Between xs) e
    ∙ (sym (cond-true (c == 44) _ _ (eq-eqb c 44 e))
    ∙ ap with_comma (sym (munch_none tokens.space Between c xs steps.1)))))

before_comma : (m : SpaceState) (xs : List ℕ) → munch tokens.separator (Before m) xs ≡ with_comma (munch tokens.space m xs)
unfolding munch
before_comma Between [] = refl
before_comma InSlashes [] = refl
before_comma InHash [] = refl
before_comma Between (c ∷ xs) =
    ⊎_elim
    (λ e. at_comma c xs e)
    (λ ne. other_step Between c xs (space_step (kind c) Between) (λ e m. ne e) refl (λ n. before_comma n xs))
    (cases_eq c 44)
before_comma InSlashes (c ∷ xs) = other_step InSlashes c xs (space_step (kind c) InSlashes) (λ e m. cc) refl (λ n. before_comma n xs)
before_comma InHash (c ∷ xs) = other_step InHash c xs (space_step (kind c) InHash) (λ e m. cc) refl (λ n. before_comma n xs)

-- The separator at a place is the space there, and behind it a comma with the space behind that, if one stands there.
pub separator_token : (xs : List ℕ) → token tokens.separator xs ≡ with_comma (token tokens.space xs)
separator_token xs = before_comma Between xs

-- What is taken of a text up to a place is the piece up to there.
taken_piece : (text y : List ℕ) (from to : ℕ) → drop from text ≡ y ++ drop to text → from ≤ to → to ≤ length text → y ≡ slice_range text from to
taken_piece text y from to e order within =
    let n : length y ≡ to - from = omega (arith, simp (length-append, length-drop) at (ap length e)) in
    rw (e, ← n) (sym (take-append_seam y (drop to text)))

-- space that is read at a place is space behind what ends there
pub spaced_of : (text x : List ℕ) (from to : ℕ) → token tokens.space (drop from text) ≡ Some (x, drop to text) → from ≤ to → IsCharBoundary text to → IsSpaced text from (Some to)
spaced_of text x from to read order there =
    let split = (munch-took tokens.space tokens.space.start (drop from text) x (drop to text) read).1 in
    (order, there, read ∙ ap (λ (y : List ℕ). Some (y, drop to text)) (taken_piece text x from to split order there.0))

-- A separator is read up to a place: there ends the space, or the space behind the comma behind it.
pub data Read (text : List ℕ) (at to : ℕ) : Type 0 where
  end : drop at text ≡ [] → to ≡ at → Read text at to
  other : {c : ℕ} {r : List ℕ} → drop at text ≡ c ∷ r → c ≢ 44 → to ≡ at → Read text at to
  comma : {c : ℕ} {x r : List ℕ} → drop at text ≡ c ∷ r → c ≡ 44 → token tokens.space r ≡ Some (x, drop to text) → at < to → to ≤ length text → Read text at to

by_space : (text : List ℕ) (from at : ℕ) (rest : List ℕ) → IsSpaced text from (Some at) → drop at text ≡ rest → token tokens.separator (drop from text) ≡ with_comma (Some (slice_range text from at, rest))
by_space text from at rest spaced e = separator_token (drop from text) ∙ (ap with_comma spaced.2 ∙ ap (λ (r : List ℕ). with_comma (Some (slice_range text from at, r))) e)

by_comma : (text : List ℕ) (from at c : ℕ) (r : List ℕ) (o : Option (List ℕ × List ℕ)) → IsSpaced text from (Some at) → drop at text ≡ c ∷ r → c ≡ 44 → token tokens.space r ≡ o
    → token tokens.separator (drop from text) ≡ front (slice_range text from at ++ (44 ∷ [])) o
by_comma text from at c r o spaced e is taken =
    by_space text from at (c ∷ r) spaced e ∙ (cond-true (c == 44) _ _ (eq-eqb c 44 is) ∙ ap (front (slice_range text from at ++ (44 ∷ []))) taken)

-- what is read is the separator
pub separator_read : (text : List ℕ) (from at to : ℕ) → IsSpaced text from (Some at) → Read text at to → token tokens.separator (drop from text) ≡ Some (slice_range text from to, drop to text)
unfolding front
separator_read text from at to spaced (end e is) = rw is (by_space text from at [] spaced e ∙ ap (λ (r : List ℕ). Some (slice_range text from at, r)) (sym e))
separator_read text from at to spaced (other {c = c} {r = r} e ne is) =
    rw is (by_space text from at (c ∷ r) spaced e ∙ (cond-false (c == 44) _ _ (ne_eqb c 44 ne) ∙ ap (λ (r : List ℕ). Some (slice_range text from at, r)) (sym e)))
separator_read text from at to spaced (comma {c = c} {x = x} {r = r} e is taken order within) =
    let read = by_comma text from at c r (Some (x, drop to text)) spaced e is taken in
    let split = (munch-took tokens.separator (tokens.separator.start) (drop from text) _ (drop to text) read).1 in
    read ∙ ap (λ (y : List ℕ). Some (y, drop to text)) (taken_piece text _ from to split (omega arith) within)

-- no separator stands where the space behind the comma is none
pub separator_refused : (text : List ℕ) (from at c : ℕ) (r : List ℕ) → IsSpaced text from (Some at) → drop at text ≡ c ∷ r → c ≡ 44 → token tokens.space r ≡ None → token tokens.separator (drop from text) ≡ None
unfolding front
separator_refused text from at c r spaced e is none = by_comma text from at c r None spaced e is none

-- nor where no space is read in front of it
pub separator_unread : (xs : List ℕ) → token tokens.space xs ≡ None → token tokens.separator xs ≡ None
separator_unread xs none = separator_token xs ∙ ap with_comma none
