-- A comment with a text that is told acts on nothing.
use Rattle.std.proofs.Common.{ℕ, ◌≡◌, ◌≤◌, ◌<◌, Bool, true, false, List, [], ◌∷◌, ◌++◌, ⊎_elim, refl, sym, ap, subst, ◌∙◌, arith}
use Rattle.std.specs.Prelude.{◌||◌, ◌&&◌, not, eqb, ltb, map, encode_utf8}
use Rattle.std.specs.Int.{is_in_range}
use Rattle.std.specs.Str.{NonePass, encode_utf8_all}
use Rattle.std.proofs.lemmas.Bool.{cases_lt, cond_both, cond-false, and_left, le-ltb, ne_eqb}
use Rattle.std.proofs.lemmas.Bool.Decides.{nat_tests}
use Rattle.std.proofs.lemmas.Str.{NoCharPasses-append, encode_ascii}
use Rattle.cbor_edn_parts.specs.space.Notes.{cleaned, has_slash, hash_lines, noted}
use Rattle.cbor_edn_parts.proofs.lemmas.base.Each.{Each, end, next}
use Rattle.cbor_edn_terminal.specs.Terminal.{acts_on_terminal, acts_in_lines, IsHarmless, IsHarmlessInLines}
use Rattle.cbor_edn_terminal.proofs.Harmless.{in_lines, line_feed, harmless_more, harmless_byte}
use Rattle.cbor_edn_harmless.proofs.Characters.{each_append, each_weaker}
use Rattle.cbor_edn_harmless.proofs.Literals.{encode_long}

abbrev IsPrinted : ℕ → Type 0
IsPrinted c = 32 ≤ c

either : (b x : Bool) → b ≡ true → (b || x) ≡ true
either true x e = refl
either false x e = absurd cc

control_acts : (c : ℕ) → c < 32 → acts_on_terminal c ≡ true
control_acts c low = either (is_in_range 0 0x1F c) _ (grind (arith, nat_tests))

printed : (c : ℕ) → acts_on_terminal c ≡ false → 32 ≤ c
printed c none = ⊎_elim (λ low. let acts = control_acts c low in absurd cc) (λ high. omega arith) (cases_lt c 32)

printed_bytes : (c : ℕ) → 32 ≤ c → Each IsPrinted (encode_utf8 c)
printed_bytes c low =
    ⊎_elim
    (λ ascii. subst (λ l. Each IsPrinted l) (sym (encode_ascii c ascii)) (next low end))
    (λ long. each_weaker (λ d h. omega arith) (encode_long c (omega arith)))
    (cases_lt c 128)

all_printed : (cs : List ℕ) → NonePass acts_on_terminal cs → Each IsPrinted (encode_utf8_all cs)
all_printed [] none = end
all_printed (c ∷ cs) none = each_append (printed_bytes c (printed c none.0)) (all_printed cs none.1)

cleaned_same : {x : List ℕ} → Each IsPrinted x → map cleaned x ≡ x
cleaned_same end = refl
cleaned_same (next {c = c} {x = x} low more) =
    ap (λ d. d ∷ map cleaned x) (cond-false (ltb c 32 && not (eqb c 9 || (eqb c 10 || eqb c 13))) _ _ (and_left (ltb c 32) _ (le-ltb c 32 low))) ∙ ap (λ l. c ∷ l) (cleaned_same more)

hash_same : {x : List ℕ} → Each IsPrinted x → hash_lines x ≡ x
unfolding hash_lines
hash_same end = refl
hash_same (next {c = c} {x = x} low more) = cond-false (eqb c 10) _ _ (ne_eqb c 10 (λ e. omega arith)) ∙ ap (λ l. c ∷ l) (hash_same more)

in_front : (c : ℕ) (t : List ℕ) → 32 ≤ c → c < 127 → IsHarmlessInLines t → IsHarmlessInLines (c ∷ t)
in_front c t low high h = NoCharPasses-append acts_in_lines (c ∷ []) t (in_lines (c ∷ []) (harmless_byte c low high)) h

pub note_acts_on_nothing : (t : List ℕ) → IsHarmless t → IsHarmlessInLines (noted t)
unfolding noted
note_acts_on_nothing t (cs, is, none) =
    let bytes : Each IsPrinted t = subst (λ l. Each IsPrinted l) is (all_printed cs none) in
    let own = in_lines t (cs, is, none) in
    let same = cleaned_same bytes in
    cond_both (has_slash t) _ _ (λ l. IsHarmlessInLines l)
    (λ _. subst (λ m. IsHarmlessInLines (35 ∷ 32 ∷ (m ++ (10 ∷ [])))) (sym (ap hash_lines same ∙ hash_same bytes))
    (in_front 35 _ (omega arith) (omega arith) (in_front 32 _ (omega arith) (omega arith) (NoCharPasses-append acts_in_lines t (10 ∷ []) own line_feed))))
    (λ _. subst (λ m. IsHarmlessInLines (47 ∷ 32 ∷ (m ++ (32 ∷ 47 ∷ [])))) (sym same)
    (in_front 47 _ (omega arith) (omega arith) (in_front 32 _ (omega arith) (omega arith) (NoCharPasses-append acts_in_lines t (32 ∷ 47 ∷ []) own
    (in_lines (32 ∷ 47 ∷ []) (harmless_more 32 (47 ∷ []) (omega arith) (omega arith) (harmless_byte 47 (omega arith) (omega arith))))))))
