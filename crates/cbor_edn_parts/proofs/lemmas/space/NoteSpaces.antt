-- The note of a comment is space, and in front of a space text it leaves one of the same kind.
use Rattle.std.proofs.Common.{ℕ, ◌≡◌, ◌≢◌, ◌≤◌, ◌<◌, ◌⊎◌, inl, inr, List, [], ◌∷◌, ◌++◌, Bool, true, false, refl, sym, ap, ◌∙◌, subst, append_assoc, arith}
use Rattle.std.specs.Prelude.{All, eqb, ltb, not, ◌||◌, ◌&&◌, map, codes}
use mathlib.Core.Logic.{⊎_elim}
use Rattle.std.proofs.lemmas.Bool.{cond_both, cases_eq}
use Rattle.std.proofs.lemmas.Bool.Decides.{nat_tests}
use Rattle.std.proofs.lemmas.List.Elements.{All-head, All-tail}
use Rattle.cbor_edn_parts.specs.space.Space.{IsBlank, IsPrintable, InSlashes, InHash, slashes, hash, IsSpace, empty, comment, IsMandatorySpace, IsListEnd, IsSeparator, space, comma, comma_first, space_alone, space_comma}
use Rattle.cbor_edn_parts.specs.space.Notes.{cleaned, has_slash, hash_lines, noted}
use Rattle.cbor_edn_parts.specs.space.Spacing.{Optional, Mandatory, Separating, AtEnd}
use Rattle.cbor_edn_parts.specs.space.SpacingLaws.{NotesAreSpace, NotesInFront}
use Rattle.cbor_edn_parts.proofs.lemmas.base.Each.{Each, end, next, all}
use Rattle.cbor_edn_parts.proofs.lemmas.space.SpaceTexts.{optional_texts, mandatory_texts, at_end_texts, separating_texts}
use Rattle.cbor_edn_parts.proofs.lemmas.space.CommentTexts.{spaces_append, comment_space}

-- some notes
notes :
    noted (codes "c") ≡ codes "/ c /"
    × noted [] ≡ codes "/  /"
    × noted (codes "a/b\nc") ≡ codes "# a/b\n# c\n"
    × noted (codes "/\n") ≡ codes "# /\n# \n"
    -- U+0001 is a space, but HT, LF and CR stay
    × noted (1 ∷ []) ≡ codes "/   /"
    × noted (47 ∷ 0 ∷ 31 ∷ []) ≡ codes "# /  \n"
    × noted (codes "a\tb\nc\rd") ≡ codes "/ a\tb\nc\rd /"
unfolding noted hash_lines
notes = (refl, refl, refl, refl, refl, refl, refl)

-- ---- bytes

not_control : (c : ℕ) → (ltb c 32 && not (eqb c 9 || (eqb c 10 || eqb c 13))) ≡ false → c ≢ 9 → c ≢ 10 → c ≢ 13 → 32 ≤ c
not_control c e tab lf cr = grind (arith, nat_tests)

-- what stands in a note: no control character but these
abbrev InNote : ℕ → Type 0
InNote c = IsBlank c ⊎ IsPrintable c

kept_byte : (c : ℕ) → c < 256 → (ltb c 32 && not (eqb c 9 || (eqb c 10 || eqb c 13))) ≡ false → InNote c
kept_byte c small e =
    ⊎_elim
    (λ tab. inl (inl tab))
    (λ no_tab. ⊎_elim (λ lf. inl (inr (inl lf))) (λ no_lf. ⊎_elim (λ cr. inl (inr (inr (inl cr)))) (λ no_cr. inr (not_control c e no_tab no_lf no_cr, small)) (cases_eq c 13)) (cases_eq c 10))
    (cases_eq c 9)

cleaned_byte : (c : ℕ) → c < 256 → InNote (cleaned c)
cleaned_byte c small = cond_both (ltb c 32 && not (eqb c 9 || (eqb c 10 || eqb c 13))) 32 c InNote (λ e. inl (inr (inr (inr refl)))) (kept_byte c small)

cleaned_slash : (c : ℕ) → eqb c 47 ≡ false → cleaned c ≢ 47
cleaned_slash c e = cond_both (ltb c 32 && not (eqb c 9 || (eqb c 10 || eqb c 13))) 32 c (λ d. d ≢ 47) (λ h. λ q. omega arith) (λ h. grind (arith, nat_tests))

cleaned_bytes : (c : List ℕ) → All (λ b. b < 256) c → Each InNote (map cleaned c)
cleaned_bytes [] small = end
cleaned_bytes (b ∷ c) small = next (cleaned_byte b (All-head (λ b. b < 256) b c small)) (cleaned_bytes c (All-tail (λ b. b < 256) b c small))

both_false : (a b : Bool) → (a || b) ≡ false → (a ≡ false) × (b ≡ false)
both_false false b e = (refl, e)
both_false true b e = absurd (cc)

-- ---- between slashes

slash_free : (c : List ℕ) → All (λ b. b < 256) c → has_slash c ≡ false → Each InSlashes ((map cleaned c) ++ (32 ∷ []))
slash_free [] small none = next (λ q. omega arith, inl (inr (inr (inr refl)))) end
slash_free (b ∷ c) small none =
    let h = both_false (eqb b 47) (has_slash c) none in
    next (cleaned_slash b h.0, cleaned_byte b (All-head (λ b. b < 256) b c small)) (slash_free c (All-tail (λ b. b < 256) b c small) h.1)

between_slashes : (c : List ℕ) → All (λ b. b < 256) c → has_slash c ≡ false → IsSpace (47 ∷ 32 ∷ (map cleaned c ++ (32 ∷ 47 ∷ [])))
between_slashes c small none =
    subst (λ t. IsSpace (47 ∷ 32 ∷ t)) (append_assoc (map cleaned c) (32 ∷ []) (47 ∷ []))
    (comment_space (slashes (32 ∷ (map cleaned c ++ (32 ∷ []))) (all (next (λ q. omega arith, inl (inr (inr (inr refl)))) (slash_free c small none)))))

-- ---- behind hashes

in_hash : (c : ℕ) → InNote c → c ≢ 10 → InHash c
in_hash c (inl b) h = ⊎_elim (λ tab. inl tab) (⊎_elim (λ lf. absurd (h lf)) (⊎_elim (λ cr. inr (inl cr)) (λ sp. inr (inr (omega arith, omega arith))))) b
in_hash c (inr p) h = inr (inr p)

-- the end of a line, and what follows it
record Lines (t : List ℕ) : Type 0 where
  front : List ℕ
  back : List ℕ
  within : Each InHash front
  space : IsSpace back
  whole : t ≡ front ++ (10 ∷ back)

-- behind `# ` they are space
lines_space : (t : List ℕ) → Lines t → IsSpace (35 ∷ 32 ∷ t)
lines_space t l =
    subst IsSpace (ap (λ t. 35 ∷ 32 ∷ t) (append_assoc l.front (10 ∷ []) l.back ∙ sym l.whole)) (comment (hash (32 ∷ l.front) (all (next {c = 32} (inr (inr (omega arith, omega arith))) l.within))) l.space)

lines : (c : List ℕ) → Each InNote c → Lines (hash_lines c ++ (10 ∷ []))
unfolding hash_lines
lines [] end = record { front = []; back = []; within = end; space = empty; whole = refl }
lines (b ∷ c) (next h more) =
    let l : Lines (hash_lines c ++ (10 ∷ [])) = lines c more in
    ⊎_elim
    (λ lf. let is : eqb b 10 ≡ true = grind (arith, nat_tests) in rw is (record { front = []; back = 35 ∷ 32 ∷ (hash_lines c ++ (10 ∷ [])); within = end; space = lines_space (hash_lines c ++ (10 ∷ [])) l; whole = refl }))
    (λ no_lf. let is : eqb b 10 ≡ false = grind (arith, nat_tests) in rw is (record { front = b ∷ l.front; back = l.back; within = next (in_hash b h no_lf) l.within; space = l.space; whole = ap (b ∷◌) l.whole }))
    (cases_eq b 10)

note_space : (c : List ℕ) → All (λ b. b < 256) c → IsSpace (noted c)
unfolding noted
note_space c small =
    cond_both (has_slash c) (35 ∷ 32 ∷ (hash_lines (map cleaned c) ++ (10 ∷ []))) (47 ∷ 32 ∷ (map cleaned c ++ (32 ∷ 47 ∷ []))) IsSpace
    (λ e. lines_space (hash_lines (map cleaned c) ++ (10 ∷ [])) (lines (map cleaned c) (cleaned_bytes c small)))
    (between_slashes c small)

note_some : (c : List ℕ) → noted c ≢ []
unfolding noted
note_some c = cond_both (has_slash c) (35 ∷ 32 ∷ (hash_lines (map cleaned c) ++ (10 ∷ []))) (47 ∷ 32 ∷ (map cleaned c ++ (32 ∷ 47 ∷ []))) (λ t. t ≢ []) (λ e. λ q. cc) (λ e. λ q. cc)

pub notes_are_space : NotesAreSpace
notes_are_space c small = (note_space c small, note_some c)

-- ---- in front of other space

some_front : (x y : List ℕ) → x ≢ [] → x ++ y ≢ []
some_front [] y some = absurd (some refl)
some_front (c ∷ x) y some = λ e. cc

at_end_front : (x : List ℕ) {y : List ℕ} → IsSpace x → IsListEnd y → IsListEnd (x ++ y)
at_end_front x s (space t) = space (spaces_append s t)
at_end_front x s (comma {x = y} {y = z} t r) = subst IsListEnd (append_assoc x y (44 ∷ z)) (comma (spaces_append s t) r)

separating_front : (x : List ℕ) {y : List ℕ} → IsMandatorySpace x → IsSeparator y → IsSeparator (x ++ y)
separating_front x s (comma_first r) = space_comma s r
separating_front x s (space_alone {x = y} t) = space_alone (spaces_append s.0 t.0, some_front x y s.1)
separating_front x s (space_comma {x = y} {y = z} t r) = subst IsSeparator (append_assoc x y (44 ∷ z)) (space_comma (spaces_append s.0 t.0, some_front x y s.1) r)

pub notes_in_front : NotesInFront
notes_in_front Optional c x small e = (optional_texts (noted c ++ x)).0 (spaces_append (note_space c small) ((optional_texts x).1 e))
notes_in_front Mandatory c x small e = (mandatory_texts (noted c ++ x)).0 (spaces_append (note_space c small) ((mandatory_texts x).1 e).0, some_front (noted c) x (note_some c))
notes_in_front Separating c x small e = (separating_texts (noted c ++ x)).0 (separating_front (noted c) (notes_are_space c small) ((separating_texts x).1 e))
notes_in_front AtEnd c x small e = (at_end_texts (noted c ++ x)).0 (at_end_front (noted c) (note_space c small) ((at_end_texts x).1 e))
