-- What reading the whole of a text answers: what it spells, and nothing else.
use Rattle.std.proofs.Common.{ℕ, List, [], ◌∷◌, ◌≡◌, ◌≤◌, ◌<◌, refl, ap, sym, ◌∙◌, subst}
use Rattle.std.specs.Prelude.{Result, Ok, Err}
use Rattle.std.proofs.lemmas.List.{append-nil}
use Rattle.cbor_edn_parts.specs.declared.base.error.ParseErrorKind.{ParseErrorKind}
use Rattle.cbor_edn_parts.specs.declared.base.error.ParseErrorKind.TheVariants.{Invalid, TooDeep}
use Rattle.cbor_edn_model.specs.tree.Items.{Sort, Item, Node, Items, nesting}
use Rattle.cbor_edn_model.specs.text.Spelling.{SpellsSequence, SpellsOne}
use Rattle.cbor_edn_model.specs.tree.Trees.{Rule, Seq, Standalone, Tree, Merged, FollowOf, text, items, tree_nesting}
use Rattle.cbor_edn_model.proofs.lemmas.text.Tested.{Tested}
use Rattle.cbor_edn_model.specs.internal.Reading.{reads_all, at_end, outcome}
use Rattle.cbor_edn_model.specs.text.Openings.{openings}
use Rattle.cbor_edn_model.specs.text.Parsing.{IsAccepted, IsInvalid, IsTooDeep}
use Rattle.cbor_edn_model.proofs.lemmas.text.Outcomes.{then_done, outcome-valid, outcome-deep}
use Rattle.cbor_edn_model.proofs.lemmas.text.Found.{Meets, invalid, deep, fine, bound, Sound}
use Rattle.cbor_edn_model.proofs.lemmas.text.StepCounts.{reads-again, reads-found}
use Rattle.cbor_edn_model.proofs.lemmas.text.Spelled.{nested, tells, spelled_sequence, spelled_one}

-- A valid tree, merged, with this text, which nests no deeper than the limit.
abbrev pub SoundAll : {s : Rule} → ℕ → List ℕ → Tree s → Type 0
SoundAll limit xs w = Tested w × Merged w × (xs ≡ text w) × (tree_nesting w ≤ limit)

end-found : {s : Rule} (limit : ℕ) (xs : List ℕ) (p : Tree s × List ℕ) → Sound limit s xs p → Meets (SoundAll {s = s} limit xs) (limit < openings xs) (at_end p)
end-found limit xs (w, []) v = fine v
end-found limit xs (w, c ∷ r) v = invalid

pub reads_all-found : (limit : ℕ) (s : Rule) (xs : List ℕ) → Meets (SoundAll {s = s} limit xs) (limit < openings xs) (reads_all limit s xs)
unfolding reads_all
reads_all-found limit s xs = bound _ (reads-found limit s xs) (end-found limit xs)

pub reads_all-again : (limit : ℕ) {s : Rule} (w : Tree s) → Tested w → Merged w → FollowOf s [] → reads_all limit s (text w) ≡ outcome (tree_nesting w) limit w
unfolding reads_all
reads_all-again limit w v j h = then_done (tree_nesting w) limit _ (reads-again limit w [] v j h) refl

-- What holds of each answer.
abbrev pub Says : {s : Rule} {o : Sort} → (Tree s → Node o) → (Node o → List ℕ → Type 0) → ℕ → List ℕ → Result (Tree s) ParseErrorKind → Type 0
Says it Spelled limit xs (Ok w) = (text w ≡ xs) × Tested w × Merged w × IsAccepted Spelled limit xs (it w)
Says it Spelled limit xs (Err Invalid) = IsInvalid Spelled xs
Says it Spelled limit xs (Err TooDeep) = IsTooDeep Spelled limit xs

-- A rule that may end a text, with what its items are and what spells them.
module _ {s : Rule} {o : Sort} (it : Tree s → Node o) (Spelled : Node o → List ℕ → Type 0) (closed : FollowOf s []) (nests : (w : Tree s) → tree_nesting w ≡ nesting (it w)) (told : (w : Tree s) → Tested w → Spelled (it w) (text w)) (made : (x : Node o) (t : List ℕ) → Spelled x t → (w : Tree s) × Tested w × Merged w × (it w ≡ x) × (text w ≡ t)) where
  -- What is spelled is read, where it nests no deeper than the limit.
  pub all_again : (limit : ℕ) (x : Node o) (xs : List ℕ) → Spelled x xs → (w : Tree s) × (it w ≡ x) × (reads_all limit s xs ≡ outcome (nesting x) limit w)
  all_again limit x xs h = let m = made x xs h in (m.0, m.3, ap (reads_all limit s) (sym m.4) ∙ reads_all-again limit m.0 m.1 m.2 closed ∙ ap (λ (n : ℕ). outcome n limit m.0) (nests m.0 ∙ ap nesting m.3))

  says : (limit : ℕ) (xs : List ℕ) (r : Result (Tree s) ParseErrorKind) → reads_all limit s xs ≡ r → Meets (SoundAll {s = s} limit xs) (limit < openings xs) r → Says it Spelled limit xs r
  says limit xs _ e invalid = λ x h. let a = all_again limit x xs h in outcome-valid (nesting x) limit a.0 (sym a.2 ∙ e)
  says limit xs _ e (deep d) = record { deeper = λ x h. let a = all_again limit x xs h in outcome-deep (nesting x) limit a.0 (sym a.2 ∙ e); opened = d }
  says limit xs _ e (fine {x = w} v) = (sym v.2, v.0, v.1, record { spelled = rw v.2 (told w v.0); within = rw (← nests w) v.3 })

  pub all_says : (limit : ℕ) (xs : List ℕ) → Says it Spelled limit xs (reads_all limit s xs)
  all_says limit xs = says limit xs (reads_all limit s xs) refl (reads_all-found limit s xs)

  pub all_accepted_says : (limit : ℕ) (xs : List ℕ) (w : Tree s) → reads_all limit s xs ≡ Ok w → (text w ≡ xs) × Tested w × Merged w × IsAccepted Spelled limit xs (it w)
  all_accepted_says limit xs w e = subst (Says it Spelled limit xs) e (all_says limit xs)

  pub all_invalid_says : (limit : ℕ) (xs : List ℕ) → reads_all limit s xs ≡ Err Invalid → IsInvalid Spelled xs
  all_invalid_says limit xs e = subst (Says it Spelled limit xs) e (all_says limit xs)

  pub all_deep_says : (limit : ℕ) (xs : List ℕ) → reads_all limit s xs ≡ Err TooDeep → IsTooDeep Spelled limit xs
  all_deep_says limit xs e = subst (Says it Spelled limit xs) e (all_says limit xs)

-- The same of sequences.
pub sequence_made : (x : Items) (t : List ℕ) → SpellsSequence x t → (w : Tree Seq) × Tested w × Merged w × (items w ≡ x) × (text w ≡ t)
sequence_made x t h = let v = spelled_sequence x t h in (v.tree, v.valid, v.merged, v.same, v.text_is [] ∙ append-nil t)

pub sequence_accepted : (limit : ℕ) (xs : List ℕ) (w : Tree Seq) → reads_all limit Seq xs ≡ Ok w → (text w ≡ xs) × Tested w × Merged w × IsAccepted SpellsSequence limit xs (items w)
sequence_accepted = all_accepted_says items SpellsSequence tt nested tells sequence_made

pub sequence_invalid : (limit : ℕ) (xs : List ℕ) → reads_all limit Seq xs ≡ Err Invalid → IsInvalid SpellsSequence xs
sequence_invalid = all_invalid_says items SpellsSequence tt nested tells sequence_made

pub sequence_too_deep : (limit : ℕ) (xs : List ℕ) → reads_all limit Seq xs ≡ Err TooDeep → IsTooDeep SpellsSequence limit xs
sequence_too_deep = all_deep_says items SpellsSequence tt nested tells sequence_made

-- The same of standalone items.
pub standalone_made : (x : Node Item) (t : List ℕ) → SpellsOne x t → (w : Tree Standalone) × Tested w × Merged w × (items w ≡ x) × (text w ≡ t)
standalone_made x t h = let v = spelled_one x t h in (v.tree, v.valid, v.merged, v.same, v.text_is [] ∙ append-nil t)

pub standalone_accepted : (limit : ℕ) (xs : List ℕ) (w : Tree Standalone) → reads_all limit Standalone xs ≡ Ok w → (text w ≡ xs) × Tested w × Merged w × IsAccepted SpellsOne limit xs (items w)
standalone_accepted = all_accepted_says items SpellsOne tt nested tells standalone_made

pub standalone_invalid : (limit : ℕ) (xs : List ℕ) → reads_all limit Standalone xs ≡ Err Invalid → IsInvalid SpellsOne xs
standalone_invalid = all_invalid_says items SpellsOne tt nested tells standalone_made

pub standalone_too_deep : (limit : ℕ) (xs : List ℕ) → reads_all limit Standalone xs ≡ Err TooDeep → IsTooDeep SpellsOne limit xs
standalone_too_deep = all_deep_says items SpellsOne tt nested tells standalone_made
