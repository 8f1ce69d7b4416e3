-- What a reader has read is the text of the path so far, and of the step that it is in.
use Rattle.std.proofs.Common.{◌≡◌, ◌≢◌, ℕ, List, [], ◌∷◌, ◌++◌, Option, Some, None, refl, sym, ap, subst, ◌∙◌, append_assoc}
use Rattle.std.specs.Prelude.{◌==◌, option_map, option_and_then}
use Rattle.std.specs.Fmt.{decimal}
use Rattle.cbor_edn_parts.specs.string.Literal.{double_quote, backslash}
use Rattle.cbor_edn_paths.specs.Steps as spec
use Rattle.cbor_edn_paths.specs.Steps.{Step, Key, Path}
use Rattle.cbor_edn_paths.specs.Spelling.{is_name_byte, AreSteps, IsStep, IsPath, numbered, step_text, steps_text, path_text_of, path_text, Spells}
use Rattle.cbor_edn_paths.specs.internal.Places.{Place, Start, Root, Dot, InName, InQuotes, Escaped, InBraces, BehindKey, Tilde, Occurrence, StartSign, StartNumber, Opened, Digits, Plus, Closed, Outcome, Nothing, Begun, Ended, Move, first_digit, more_digits, moved, or_else, opened, ending, behind_key, key_begun, close_byte, unnumbered, closes, next, end, with_outcome, Reading, begin, moved_on, after, run, ended}
use Rattle.cbor_edn_paths.specs.declared.place.Bracket.{Bracket}
use Rattle.cbor_edn_paths.specs.declared.place.Bracket.TheVariants as bracket
use Rattle.cbor_edn_paths.proofs.Insides.{choose}
use Rattle.cbor_edn_paths.proofs.PrintedPaths.{steps_text-snoc}
use Rattle.cbor_edn_paths.proofs.PlaceTexts.{place_text, outcome_text, IsPlace, IsOutcome, Fits, next_fits, nil_right}

abbrev pub empty : Path
empty = record { start = None; steps = [] }

abbrev pub so_far_text : Path → List ℕ
so_far_text p = numbered 64 p.start ++ steps_text p.steps

-- in front of the first step nothing is read, and behind a bracket that closes one there is a step
abbrev pub Suits : Place → Path → Type 0
Suits Start p = p ≡ empty
Suits Root p = p ≡ empty
Suits StartSign p = p ≡ empty
Suits (StartNumber n) p = p ≡ empty
Suits Closed p = p.steps ≢ []
Suits q p = Unit {0}

abbrev pub SuitsOutcome : Outcome → Path → Type 0
SuitsOutcome (Begun n) p = p ≡ empty
SuitsOutcome w p = Unit {0}

abbrev SuitsMove : Path → Move → Type 0
SuitsMove p None = Unit {0}
SuitsMove p (Some m) = Suits m.1 (with_outcome m.0 p) × SuitsOutcome m.0 p

abbrev AlwaysSuits : Option Place → Type 0
AlwaysSuits None = Unit {0}
AlwaysSuits (Some q) = (p : Path) → Suits q p

opened_suits : (c : ℕ) → AlwaysSuits (opened c)
opened_suits c =
    choose AlwaysSuits (c == 46) _ _ (λ e. λ p. tt) (λ e.
    choose AlwaysSuits (c == 123) _ _ (λ e. λ p. tt) (λ e.
    choose AlwaysSuits (c == 91) _ _ (λ e. λ p. tt) (λ e.
    choose AlwaysSuits (c == 40) _ _ (λ e. λ p. tt) (λ e.
    choose AlwaysSuits (c == 60) _ _ (λ e. λ p. tt) (λ e. tt)))))

ending_suits : (p : Path) (w : Outcome) (o : Option Place) → SuitsOutcome w p → AlwaysSuits o → SuitsMove p (ending w o)
ending_suits p w None i h = tt
ending_suits p w (Some q) i h = (h (with_outcome w p), i)

behind_key_suits : (p : Path) (k : Key) (c : ℕ) → SuitsMove p (behind_key k c)
behind_key_suits p k c = choose (SuitsMove p) (c == 126) _ _ (λ e. (tt, tt)) (λ e. ending_suits p (Ended (spec.Value k None)) (opened c) tt (opened_suits c))

key_begun_suits : (p : Path) (c : ℕ) → SuitsMove p (key_begun c)
key_begun_suits p c = choose (SuitsMove p) (c == double_quote) _ _ (λ e. (tt, tt)) (λ e. choose (SuitsMove p) (is_name_byte c) _ _ (λ e. (tt, tt)) (λ e. tt))

moved_suits : (p : Path) (f : ℕ → Place) (o : Option ℕ) → ((n : ℕ) → Suits (f n) p) → SuitsMove p (moved f o)
moved_suits p f None h = tt
moved_suits p f (Some n) h = (h n, tt)

or_else_suits : (p : Path) (m n : Move) → SuitsMove p m → SuitsMove p n → SuitsMove p (or_else m n)
or_else_suits p None n f g = g
or_else_suits p (Some m) n f g = f

one_there : (ss : List (Step Key)) (s : Step Key) → ss ++ (s ∷ []) ≢ []
one_there [] s = λ e. cc
one_there (t ∷ ss) s = λ e. cc

unnumbered_suits : (p : Path) (b : Bracket) (c : ℕ) → SuitsMove p (unnumbered b c)
unnumbered_suits p bracket.Square c = choose (SuitsMove p) (c == 43) _ _ (λ e. (tt, tt)) (λ e. tt)
unnumbered_suits p bracket.Round c = choose (SuitsMove p) (c == 41) _ _ (λ e. (one_there p.steps (spec.Content None), tt)) (λ e. tt)
unnumbered_suits p bracket.Angle c = tt

next_suits : (q : Place) (c : ℕ) (p : Path) → Suits q p → SuitsMove p (next c q)
next_suits Start c p h =
    choose (SuitsMove p) (c == 46) _ _ (λ e. (h, tt)) (λ e.
    choose (SuitsMove p) (c == 64) _ _ (λ e. (h, tt)) (λ e. ending_suits p Nothing (opened c) tt (opened_suits c)))
next_suits Root c p h = key_begun_suits p c
next_suits Dot c p h = key_begun_suits p c
next_suits (InName x) c p h = choose (SuitsMove p) (is_name_byte c) _ _ (λ e. (tt, tt)) (λ e. behind_key_suits p (spec.Name x) c)
next_suits (InQuotes x) c p h =
    choose (SuitsMove p) (c == double_quote) _ _ (λ e. (tt, tt)) (λ e. choose (SuitsMove p) (c == backslash) _ _ (λ b. (tt, tt)) (λ b. (tt, tt)))
next_suits (Escaped x) c p h = (tt, tt)
next_suits (InBraces x m d) c p h = choose (SuitsMove p) (closes c m d) _ _ (λ e. (tt, tt)) (λ e. (tt, tt))
next_suits (BehindKey k) c p h = behind_key_suits p k c
next_suits (Tilde k) c p h = moved_suits p (Occurrence k) (first_digit c) (λ n. tt)
next_suits (Occurrence k n) c p h = or_else_suits p _ _ (moved_suits p (Occurrence k) (more_digits n c) (λ m. tt)) (ending_suits p (Ended (spec.Value k (Some n))) (opened c) tt (opened_suits c))
next_suits StartSign c p h = moved_suits p StartNumber (first_digit c) (λ n. h)
next_suits (StartNumber n) c p h = or_else_suits p _ _ (moved_suits p StartNumber (more_digits n c) (λ m. h)) (ending_suits p (Begun n) (opened c) h (opened_suits c))
next_suits (Opened b) c p h = or_else_suits p _ _ (moved_suits p (Digits b) (first_digit c) (λ n. tt)) (unnumbered_suits p b c)
next_suits (Digits b n) c p h =
    choose (SuitsMove p) (c == close_byte b) _ _ (λ e. (one_there p.steps _, tt)) (λ e. moved_suits p (Digits b) (more_digits n c) (λ m. tt))
next_suits Plus c p h = choose (SuitsMove p) (c == 93) _ _ (λ e. (one_there p.steps spec.PastLast, tt)) (λ e. tt)
next_suits Closed c p h = ending_suits p Nothing (opened c) tt (opened_suits c)

are_steps-snoc : (ss : List (Step Key)) (s : Step Key) → AreSteps ss → IsStep s → AreSteps (ss ++ (s ∷ []))
are_steps-snoc [] s h g = (g, tt)
are_steps-snoc (t ∷ ss) s h g = (h.0, are_steps-snoc ss s h.1 g)

text_with : (w : Outcome) (p : Path) → SuitsOutcome w p → so_far_text (with_outcome w p) ≡ so_far_text p ++ outcome_text w
text_with Nothing p h = sym (nil_right (so_far_text p))
text_with (Begun n) p h = subst (λ q. so_far_text (with_outcome (Begun n) q) ≡ so_far_text q ++ (64 ∷ decimal n)) (sym h) (nil_right (64 ∷ decimal n))
text_with (Ended s) p h = ap (λ x. numbered 64 p.start ++ x) (steps_text-snoc p.steps s) ∙ sym (append_assoc (numbered 64 p.start) (steps_text p.steps) (step_text s))

path_with : (w : Outcome) (p : Path) → IsPath p → IsOutcome w → IsPath (with_outcome w p)
path_with Nothing p h g = h
path_with (Begun n) p h g = (g, h.1)
path_with (Ended s) p h g = (h.0, are_steps-snoc p.steps s h.1 g)

-- the text is read so far
pub record HasRead (text : List ℕ) (r : Reading) : Type 0 where
  pub is_path : IsPath r.so_far
  pub is_place : IsPlace r.place
  pub suits : Suits r.place r.so_far
  pub is_text : text ≡ so_far_text r.so_far ++ place_text r.place

abbrev pub HasReadIfAny : List ℕ → Option Reading → Type 0
HasReadIfAny text None = Unit {0}
HasReadIfAny text (Some r) = HasRead text r

moved_reads : (text : List ℕ) (c : ℕ) (r : Reading) → HasRead text r → (m : Move) → Fits (place_text r.place) c m → SuitsMove r.so_far m → HasReadIfAny (text ++ (c ∷ [])) (moved_on r.so_far m)
moved_reads text c r h None f g = tt
moved_reads text c r h (Some m) f g = record {
  is_path = path_with m.0 r.so_far h.is_path f.1;
  is_place = f.2;
  suits = g.0;
  is_text =
      ap (λ x. x ++ (c ∷ [])) h.is_text ∙ append_assoc (so_far_text r.so_far) (place_text r.place) (c ∷ [])
      ∙ ap (λ x. so_far_text r.so_far ++ x) (sym f.0)
      ∙ sym (append_assoc (so_far_text r.so_far) (outcome_text m.0) (place_text m.1))
      ∙ ap (λ x. x ++ place_text m.1) (sym (text_with m.0 r.so_far g.1));
}

after_reads : (text : List ℕ) (c : ℕ) (r : Reading) → HasRead text r → HasReadIfAny (text ++ (c ∷ [])) (after c r)
after_reads text c r h = moved_reads text c r h (next c r.place) (next_fits r.place c h.is_place) (next_suits r.place c r.so_far h.suits)

run_step : (x : List ℕ) (o : Option Reading) (text : List ℕ) → HasReadIfAny text o → ((t : List ℕ) (r : Reading) → HasRead t r → HasReadIfAny (t ++ x) (run x r)) → HasReadIfAny (text ++ x) (option_and_then (run x) o)
run_step x None text h g = tt
run_step x (Some r) text h g = g text r h

-- Soundness: whatever is read is read.
pub run_reads : (x text : List ℕ) (r : Reading) → HasRead text r → HasReadIfAny (text ++ x) (run x r)
unfolding run
run_reads [] text r h = subst (λ t. HasRead t r) (sym (nil_right text)) h
run_reads (c ∷ x) text r h = subst (λ t. HasReadIfAny t (run (c ∷ x) r)) (append_assoc text (c ∷ []) x) (run_step x (after c r) (text ++ (c ∷ [])) (after_reads text c r h) (λ t s g. run_reads x t s g))

pub begin_has_read : HasRead [] begin
begin_has_read = record { is_path = (tt, tt); is_place = tt; suits = refl; is_text = refl }

-- ---- where the text ends

some_text : (start : Option ℕ) (ss : List (Step Key)) → ss ≢ [] → path_text_of start ss ≡ numbered 64 start ++ steps_text ss
some_text None [] h = absurd (h refl)
some_text None (s ∷ ss) h = refl
some_text (Some n) ss h = refl

spelled : (text : List ℕ) (p : Path) (w : Outcome) (x : List ℕ) → IsPath p → IsOutcome w → SuitsOutcome w p → path_text (with_outcome w p) ≡ so_far_text (with_outcome w p) → text ≡ so_far_text p ++ x → x ≡ outcome_text w → Spells text (with_outcome w p)
spelled text p w x h g s e is same = record {
  is_path = path_with w p h g;
  is_text = is ∙ ap (λ y. so_far_text p ++ y) same ∙ sym (text_with w p s) ∙ sym e;
}

with_step : (text : List ℕ) (p : Path) (s : Step Key) → IsPath p → IsStep s → text ≡ so_far_text p ++ step_text s → Spells text (with_outcome (Ended s) p)
with_step text p s h g is = spelled text p (Ended s) (step_text s) h g tt (some_text p.start (p.steps ++ (s ∷ [])) (one_there p.steps s)) is refl

abbrev pub SpellsIfAny : List ℕ → Option Path → Type 0
SpellsIfAny text None = Unit {0}
SpellsIfAny text (Some p) = Spells text p

root_text : (text : List ℕ) (p : Path) → p ≡ empty → IsPath p → text ≡ so_far_text p ++ (46 ∷ []) → Spells text p
root_text text p e h is = record { is_path = h; is_text = is ∙ subst (λ q. so_far_text q ++ (46 ∷ []) ≡ path_text q) (sym e) refl }

ended_at : (text : List ℕ) (p : Path) (q : Place) → IsPath p → IsPlace q → Suits q p → text ≡ so_far_text p ++ place_text q → SpellsIfAny text (option_map (λ w. with_outcome w p) (end q))
ended_at text p Root h g s is = root_text text p s h is
ended_at text p (InName x) h g s is = with_step text p (spec.Value (spec.Name x) None) h (g, tt) (is ∙ ap (λ y. so_far_text p ++ y) (sym (nil_right (46 ∷ x))))
ended_at text p (BehindKey k) h g s is = with_step text p (spec.Value k None) h (g, tt) (is ∙ ap (λ y. so_far_text p ++ y) (sym (nil_right _)))
ended_at text p (Occurrence k n) h g s is = with_step text p (spec.Value k (Some n)) h (g.0, g.1) is
ended_at text p (StartNumber n) h g s is = spelled text p (Begun n) (64 ∷ decimal n) h g s refl is refl
ended_at text p Closed h g s is = spelled text p Nothing [] h tt tt (some_text p.start p.steps s) is refl
ended_at text p q h g s is = tt

pub ended_spells : (text : List ℕ) (r : Reading) → HasRead text r → SpellsIfAny text (ended r)
ended_spells text r h = ended_at text r.so_far r.place h.is_path h.is_place h.suits h.is_text
