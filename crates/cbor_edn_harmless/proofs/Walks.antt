-- A walk over characters, from one place to another.
use Rattle.std.proofs.Common.{ℕ, ◌≡◌, ◌≢◌, List, [], ◌∷◌, ◌++◌, refl, sym, ap, ◌∙◌, append_assoc, arith}
use Rattle.std.specs.Prelude.{◌==◌, ◌||◌}
use Rattle.std.specs.List.{flat_map}
use Rattle.std.specs.Str.{chars, IsUtf8}
use Rattle.std.proofs.lemmas.Bool.{cond-false, ne_eqb, or_from}
use Rattle.std.proofs.lemmas.Grind.{flat_map-append}
use Rattle.std.proofs.lemmas.Str.{chars-append}
use Rattle.cbor_edn_parts.proofs.lemmas.base.Each.{Each, end, next}
use Rattle.cbor_edn_harmless.specs.declared.Place.{Place}
use Rattle.cbor_edn_harmless.specs.declared.Place.TheVariants.{Outside, InSlashes, InHash}
use Rattle.cbor_edn_harmless.specs.Harmless.{in_space}
use Rattle.cbor_edn_harmless.specs.internal.Rewriting.{after, written, rewritten, passed}
use Rattle.cbor_edn_harmless.proofs.Characters.{IsNeutral, space_plain, chars_next}

passed_append : (p : Place) (cs ds : List ℕ) → passed p (cs ++ ds) ≡ passed (passed p cs) ds
unfolding passed
passed_append p [] ds = refl
passed_append p (c ∷ cs) ds = passed_append (after p c) cs ds

rewritten_append : (p : Place) (cs ds : List ℕ) → rewritten p (cs ++ ds) ≡ rewritten p cs ++ rewritten (passed p cs) ds
unfolding rewritten passed
rewritten_append p [] ds = refl
rewritten_append p (c ∷ cs) ds = ap (λ l. written p c ++ l) (rewritten_append (after p c) cs ds) ∙ sym (append_assoc (written p c) (rewritten (after p c) cs) (rewritten (passed (after p c) cs) ds))

-- From p the characters lead to n, and f is what is written of each.
pub record Walks (f : ℕ → List ℕ) (p : Place) (cs : List ℕ) (n : Place) : Type 0 where
  pub leads : passed p cs ≡ n
  pub writes : rewritten p cs ≡ flat_map f cs

module _ {f : ℕ → List ℕ} where
  pub none : {p : Place} → Walks f p [] p
  unfolding rewritten passed
  none = record { leads = refl; writes = refl }

  pub step : {p n o : Place} {c : ℕ} {cs : List ℕ} → after p c ≡ n → written p c ≡ f c → Walks f n cs o → Walks f p (c ∷ cs) o
  unfolding rewritten passed
  step {p} {n} {o} {c} {cs} e w r = record {
    leads = ap (λ m. passed m cs) e ∙ r.leads;
    writes = ap (λ l. l ++ rewritten (after p c) cs) w ∙ (ap (λ m. f c ++ rewritten m cs) e ∙ ap (λ l. f c ++ l) r.writes);
  }

  pub both : {p n o : Place} {cs ds : List ℕ} → Walks f p cs n → Walks f n ds o → Walks f p (cs ++ ds) o
  both {p} {n} {o} {cs} {ds} a b = record {
    leads = passed_append p cs ds ∙ (ap (λ m. passed m ds) a.leads ∙ b.leads);
    writes = rewritten_append p cs ds ∙ (ap (λ l. l ++ rewritten (passed p cs) ds) a.writes ∙ (ap (λ m. flat_map f cs ++ rewritten m ds) a.leads
        ∙ (ap (λ l. flat_map f cs ++ l) b.writes ∙ sym (flat_map-append f cs ds))));
  }

-- ---- comments

pub in_slashes : {cs : List ℕ} → Each (λ c. c ≢ 47) cs → Walks in_space InSlashes cs InSlashes
in_slashes end = none
in_slashes (next {c = c} h more) = step (cond-false (c == 47) _ _ (ne_eqb c 47 h)) refl (in_slashes more)

pub in_hash : {cs : List ℕ} → Each (λ c. c ≢ 10) cs → Walks in_space InHash cs InHash
in_hash end = none
in_hash (next {c = c} h more) = step (cond-false (c == 10) _ _ (ne_eqb c 10 h)) refl (in_hash more)

-- ---- outside

pub neutral_after : (c : ℕ) → IsNeutral c → after Outside c ≡ Outside
neutral_after c h =
    let hash : c ≢ 35 = λ e. omega arith in
    let double : c ≢ 34 = λ e. omega arith in
    let single : c ≢ 39 = λ e. omega arith in
    cond-false (c == 47) _ _ (ne_eqb c 47 h.2) ∙ (cond-false (c == 35) _ _ (ne_eqb c 35 hash) ∙ cond-false (c == 34 || c == 39) _ _ (or_from (c == 34) (c == 39) (ne_eqb c 34 double) (ne_eqb c 39 single)))

-- ---- texts in front of others

-- Whatever follows, what is written of the text f makes is what g makes.
abbrev pub Turns : (List ℕ → List ℕ) → (List ℕ → List ℕ) → Type 0
Turns f g = (r : List ℕ) → rewritten Outside (chars (f r)) ≡ g (rewritten Outside (chars r))

pub chain : (f g h k : List ℕ → List ℕ) → Turns f g → Turns h k → Turns (λ r. f (h r)) (λ r. g (k r))
chain f g h k a b r = a (h r) ∙ ap g (b r)

pub walk_turns : (f : ℕ → List ℕ) (x : List ℕ) → IsUtf8 x → Walks f Outside (chars x) Outside → Turns (λ r. x ++ r) (λ r. flat_map f (chars x) ++ r)
walk_turns f x utf8 w r =
    ap (rewritten Outside) (chars-append x r utf8) ∙ (rewritten_append Outside (chars x) (chars r)
    ∙ (ap (λ l. l ++ rewritten (passed Outside (chars x)) (chars r)) w.writes ∙ ap (λ m. flat_map f (chars x) ++ rewritten m (chars r)) w.leads))

pub neutral_turns : {x : List ℕ} → Each IsNeutral x → Turns (λ r. x ++ r) (λ r. x ++ r)
unfolding rewritten
neutral_turns end r = refl
neutral_turns (next {c = c} {x = x} h more) r =
    ap (rewritten Outside) (chars_next c (x ++ r) (omega arith))
    ∙ (ap (λ l. l ++ rewritten (after Outside c) (chars (x ++ r))) (space_plain c (omega arith) h.1)
    ∙ (ap (λ m. c ∷ rewritten m (chars (x ++ r))) (neutral_after c h) ∙ ap (λ l. c ∷ l) (neutral_turns more r)))
