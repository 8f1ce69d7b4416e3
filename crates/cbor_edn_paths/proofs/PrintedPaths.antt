-- The text of a path is what stands in front of its steps, and theirs.
use Rattle.std.proofs.Common.{◌≡◌, ℕ, ◌+◌, ◌<◌, List, [], ◌∷◌, ◌++◌, Option, Some, None, refl, sym, ap, ◌∙◌, length, take, map, get_or, append_assoc}
use Rattle.std.proofs.lemmas.List.{map_more}
use Rattle.cbor_edn_paths.specs.Steps.{Key, Step}
use Rattle.cbor_edn_paths.specs.declared.step.Step as declared
use Rattle.cbor_edn_paths.specs.Views.{step_of}
use Rattle.cbor_edn_paths.specs.Spelling.{step_text, steps_text, path_text_of}
use Rattle.cbor_edn_paths.specs.internal.Printing.{begin_text_of}
use Rattle.cbor_edn_paths.proofs.PlaceTexts.{nil_right}

pub begin_and_steps : (start : Option ℕ) (ss : List (Step Key)) → begin_text_of start ss ++ steps_text ss ≡ path_text_of start ss
begin_and_steps None [] = refl
begin_and_steps None (s ∷ ss) = refl
begin_and_steps (Some n) ss = refl

pub steps_text-snoc : (ss : List (Step Key)) (s : Step Key) → steps_text (ss ++ (s ∷ [])) ≡ steps_text ss ++ step_text s
steps_text-snoc [] s = nil_right (step_text s)
steps_text-snoc (t ∷ ss) s = ap (λ x. step_text t ++ x) (steps_text-snoc ss s) ∙ sym (append_assoc (step_text t) (steps_text ss) (step_text s))

-- one turn of a printer's loop
pub printed_more : (ss : List declared.Step) (i : ℕ) (d : declared.Step) (front so_far now : List ℕ) → i < length ss → so_far ≡ front ++ steps_text (map step_of (take i ss)) → now ≡ so_far ++ step_text (step_of (get_or ss i d)) → now ≡ front ++ steps_text (map step_of (take (i + 1) ss))
printed_more ss i d front so_far now lt h e =
    let text = step_text (step_of (get_or ss i d)) in
    let grown : steps_text (map step_of (take (i + 1) ss)) ≡ steps_text (map step_of (take i ss)) ++ text = ap steps_text (map_more step_of ss i d lt) ∙ steps_text-snoc (map step_of (take i ss)) (step_of (get_or ss i d)) in
    e ∙ ap (λ x. x ++ text) h ∙ append_assoc front (steps_text (map step_of (take i ss))) text ∙ ap (λ x. front ++ x) (sym grown)
