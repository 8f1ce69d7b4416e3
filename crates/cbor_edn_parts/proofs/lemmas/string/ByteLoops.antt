-- Loops over the bytes of a text compute what the definitions by recursion do.
use Rattle.std.proofs.Common.{ℕ, ◌+◌, ◌<◌, ◌≤◌, ◌≡◌, List, [], ◌∷◌, ◌++◌, length, drop, get_or, Option, Some, None, option_map, refl, ap, ◌∙◌, append_assoc}
use Rattle.std.proofs.lemmas.List.{append-nil, at_drop_more, at_drop_all}

-- the items that are read, in front of those of the rest
pub after : List ℕ → Option (List ℕ) → Option (List ℕ)
after xs o = option_map (λ ys. xs ++ ys) o

pub after_none : (o : Option (List ℕ)) → o ≡ after [] o
unfolding after
after_none None = refl
after_none (Some xs) = refl

after_push : (xs : List ℕ) (b : ℕ) (o : Option (List ℕ)) → after xs (option_map (◌∷◌ b) o) ≡ after (xs ++ (b ∷ [])) o
unfolding after
after_push xs b None = refl
after_push xs b (Some ys) = rw append_assoc

after_all : (xs : List ℕ) → after xs (Some []) ≡ Some xs
unfolding after
after_all xs = rw append-nil

after_refused : (xs : List ℕ) → after xs None ≡ None
unfolding after
after_refused xs = refl

-- The loop stands at i, has read xs, and f computes the rest.
module _ (f : List ℕ → Option (List ℕ)) (total : Option (List ℕ)) (xs text : List ℕ) (i : ℕ) (so_far : total ≡ after xs (f (drop i text))) where
  -- one byte more is read, and nothing comes of it yet
  pub going : i < length text → (o : Option (List ℕ)) → f (get_or text i 0 ∷ drop (i + 1) text) ≡ o → total ≡ after xs o
  going within o step = so_far ∙ ap (after xs) (at_drop_more f text i 0 within ∙ step)

  -- a byte comes of it
  pub pushed : i < length text → (b : ℕ) (o : Option (List ℕ)) → f (get_or text i 0 ∷ drop (i + 1) text) ≡ option_map (◌∷◌ b) o → total ≡ after (xs ++ (b ∷ [])) o
  pushed within b o step = going within (option_map (◌∷◌ b) o) step ∙ after_push xs b o

  pub refused : i < length text → f (get_or text i 0 ∷ drop (i + 1) text) ≡ None → total ≡ None
  refused within step = going within None step ∙ after_refused xs

  -- no byte is left
  pub ended : length text ≤ i → f [] ≡ Some [] → total ≡ Some xs
  ended over all = so_far ∙ ap (after xs) (at_drop_all f text i over ∙ all) ∙ after_all xs

  pub unended : length text ≤ i → f [] ≡ None → total ≡ None
  unended over none = so_far ∙ ap (after xs) (at_drop_all f text i over ∙ none) ∙ after_refused xs
