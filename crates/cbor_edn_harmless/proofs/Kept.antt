-- What is written character by character is the text of the harmless tree.
use Rattle.std.proofs.Common.{ℕ, ◌≡◌, ◌≢◌, ◌<◌, true, false, List, [], ◌∷◌, ◌++◌, refl, sym, ap, subst, ◌∙◌, append_assoc, arith}
use Rattle.std.specs.Prelude.{◌==◌, ◌||◌, encode_utf8}
use Rattle.std.specs.Str.{chars, IsUtf8, NonePass, encode_utf8_all, all_scalars}
use lib.Utf8.{scalar}
use Rattle.std.proofs.lemmas.Bool.{cond_both, cond-false, and_parts, ne_eqb, or_from}
use Rattle.std.proofs.lemmas.List.{append-nil}
use Rattle.std.proofs.lemmas.Str.{NoCharPasses-nil, NoCharPasses-append, IsUtf8-nil, IsUtf8-append, IsUtf8-encode, encodes-chars, scalars-chars}
use Rattle.cbor_edn_parts.proofs.lemmas.base.Each.{Each, end, next}
use Rattle.cbor_edn_model.specs.tree.Trees.{Tree, Seq, Valid, text}
use Rattle.cbor_edn_terminal.specs.Terminal.{acts_on_terminal, acts_in_lines, IsHarmless, IsHarmlessInLines}
use Rattle.cbor_edn_terminal.proofs.Harmless.{in_lines, harmless_more, harmless_byte, harmless_digits}
use Rattle.std.specs.Fmt.{digits}
use Rattle.cbor_edn_harmless.specs.declared.Place.{Place}
use Rattle.cbor_edn_harmless.specs.declared.Place.TheVariants.{Outside, InSlashes, InHash, InQuotes, Escaped}
use Rattle.cbor_edn_harmless.specs.Harmless.{escape, escaped_character, in_space, in_quotes, harmless}
use Rattle.cbor_edn_harmless.specs.HarmlessLaws.{IsHarmlessText, LiteralsStay, HarmlessKeeps}
use Rattle.cbor_edn_harmless.specs.internal.Rewriting.{after, written, rewritten, passed}
use Rattle.cbor_edn_harmless.proofs.Characters.{escape_each, one_utf8}
use Rattle.cbor_edn_harmless.proofs.Literals.{literal_kept}
use Rattle.cbor_edn_harmless.proofs.Trees.{reads, turns, stays_valid}
use Rattle.cbor_edn_harmless.proofs.Meanings.{kept, nests}

-- ---- nothing that is written acts

escape_harmless : (c : ℕ) → IsHarmless (escape c)
escape_harmless c =
    harmless_more 92 _ (omega arith) (omega arith) (harmless_more 117 _ (omega arith) (omega arith) (harmless_more 123 _ (omega arith) (omega arith)
    (NoCharPasses-append acts_on_terminal (digits 16 false c) (125 ∷ []) (harmless_digits false c) (harmless_byte 125 (omega arith) (omega arith)))))

one_in_lines : (c : ℕ) → acts_in_lines c ≡ false → IsHarmlessInLines (encode_utf8 c)
one_in_lines c is = (c ∷ [], append-nil (encode_utf8 c), (is, tt))

escaped_in_lines : (c : ℕ) → IsHarmlessInLines (escaped_character c)
escaped_in_lines c = cond_both (acts_in_lines c) _ _ (λ t. IsHarmlessInLines t) (λ _. in_lines (escape c) (escape_harmless c)) (λ other. one_in_lines c other)

space_in_lines : (c : ℕ) → IsHarmlessInLines (in_space c)
space_in_lines c =
    cond_both (c == 9 || c == 13) _ _ (λ t. IsHarmlessInLines t)
    (λ _. in_lines (32 ∷ []) (harmless_byte 32 (omega arith) (omega arith)))
    (λ _. escaped_in_lines c)

quotes_in_lines : (c : ℕ) → IsHarmlessInLines (in_quotes c)
quotes_in_lines c = cond_both (c == 13) _ _ (λ t. IsHarmlessInLines t) (λ _. NoCharPasses-nil acts_in_lines) (λ _. escaped_in_lines c)

written_in_lines : (p : Place) (c : ℕ) → IsHarmlessInLines (written p c)
written_in_lines Outside c = space_in_lines c
written_in_lines InSlashes c = space_in_lines c
written_in_lines InHash c = space_in_lines c
written_in_lines (InQuotes q) c = quotes_in_lines c
written_in_lines (Escaped q) c = quotes_in_lines c

pub rewritten_in_lines : (p : Place) (cs : List ℕ) → IsHarmlessInLines (rewritten p cs)
unfolding rewritten
rewritten_in_lines p [] = NoCharPasses-nil acts_in_lines
rewritten_in_lines p (c ∷ cs) = NoCharPasses-append acts_in_lines (written p c) (rewritten (after p c) cs) (written_in_lines p c) (rewritten_in_lines (after p c) cs)

-- ---- it is UTF-8

ascii_utf8 : {x : List ℕ} → Each (λ c. c < 128) x → IsUtf8 x
ascii_utf8 end = IsUtf8-nil
ascii_utf8 (next {c = c} {x = x} small more) = IsUtf8-append (c ∷ []) x (one_utf8 c small) (ascii_utf8 more)

escape_utf8 : (c : ℕ) → IsUtf8 (escape c)
escape_utf8 c = ascii_utf8 (escape_each (λ d. d < 128) (omega arith) (λ d h. omega arith) c)

escaped_utf8 : (c : ℕ) → scalar c ≡ true → IsUtf8 (escaped_character c)
escaped_utf8 c s = cond_both (acts_in_lines c) _ _ (λ t. IsUtf8 t) (λ _. escape_utf8 c) (λ _. IsUtf8-encode c s)

space_utf8 : (c : ℕ) → scalar c ≡ true → IsUtf8 (in_space c)
space_utf8 c s = cond_both (c == 9 || c == 13) _ _ (λ t. IsUtf8 t) (λ _. one_utf8 32 (omega arith)) (λ _. escaped_utf8 c s)

quotes_utf8 : (c : ℕ) → scalar c ≡ true → IsUtf8 (in_quotes c)
quotes_utf8 c s = cond_both (c == 13) _ _ (λ t. IsUtf8 t) (λ _. IsUtf8-nil) (λ _. escaped_utf8 c s)

written_utf8 : (p : Place) (c : ℕ) → scalar c ≡ true → IsUtf8 (written p c)
written_utf8 Outside c s = space_utf8 c s
written_utf8 InSlashes c s = space_utf8 c s
written_utf8 InHash c s = space_utf8 c s
written_utf8 (InQuotes q) c s = quotes_utf8 c s
written_utf8 (Escaped q) c s = quotes_utf8 c s

rewritten_utf8 : (p : Place) (cs : List ℕ) → all_scalars cs ≡ true → IsUtf8 (rewritten p cs)
unfolding rewritten
rewritten_utf8 p [] s = IsUtf8-nil
rewritten_utf8 p (c ∷ cs) s =
    let parts = and_parts (scalar c) _ s in
    IsUtf8-append (written p c) (rewritten (after p c) cs) (written_utf8 p c parts.0) (rewritten_utf8 (after p c) cs parts.1)

-- ---- it is the text of the harmless tree

pub written_text : (w : Tree Seq) → Valid w → IsUtf8 (text w) → rewritten Outside (chars (text w)) ≡ text (harmless w)
unfolding chars rewritten
written_text w v utf8 = turns w v (reads w v [] utf8).0 []

pub written_as : (written : List ℕ) → IsUtf8 written → IsHarmlessText written (rewritten Outside (chars written))
written_as written utf8 w v is = ap (λ t. rewritten Outside (chars t)) (sym is) ∙ written_text w v (subst IsUtf8 (sym is) utf8)

pub harmless_keeps : HarmlessKeeps
harmless_keeps w v utf8 =
    let readable = (reads w v [] utf8).0 in
    let is = written_text w v utf8 in record {
      valid = stays_valid w v readable;
      utf8 = subst IsUtf8 is (rewritten_utf8 Outside (chars (text w)) (scalars-chars (text w) utf8));
      meaning = kept w v readable;
      nested = nests w;
      acts_on_nothing = subst IsHarmlessInLines is (rewritten_in_lines Outside (chars (text w)));
    }

pub literals_stay : LiteralsStay
literals_stay q v x utf8 is = literal_kept q v x utf8 is

-- ---- where no character acts, nothing changes

kept_character : (c : ℕ) → acts_in_lines c ≡ false → (in_space c ≡ encode_utf8 c) × (in_quotes c ≡ encode_utf8 c)
kept_character c none =
    let same : escaped_character c ≡ encode_utf8 c = cond-false (acts_in_lines c) _ _ none in
    let tab : c ≢ 9 = λ e. let acts : acts_in_lines c ≡ true = ap acts_in_lines e in absurd cc in
    let cr : c ≢ 13 = λ e. let acts : acts_in_lines c ≡ true = ap acts_in_lines e in absurd cc in
    (cond-false (c == 9 || c == 13) _ _ (or_from (c == 9) (c == 13) (ne_eqb c 9 tab) (ne_eqb c 13 cr)) ∙ same, cond-false (c == 13) _ _ (ne_eqb c 13 cr) ∙ same)

kept_written : (p : Place) (c : ℕ) → acts_in_lines c ≡ false → written p c ≡ encode_utf8 c
kept_written Outside c none = (kept_character c none).0
kept_written InSlashes c none = (kept_character c none).0
kept_written InHash c none = (kept_character c none).0
kept_written (InQuotes q) c none = (kept_character c none).1
kept_written (Escaped q) c none = (kept_character c none).1

kept_all : (p : Place) (cs : List ℕ) → NonePass acts_in_lines cs → rewritten p cs ≡ encode_utf8_all cs
unfolding rewritten
kept_all p [] none = refl
kept_all p (c ∷ cs) none = ap (λ l. l ++ rewritten (after p c) cs) (kept_written p c none.0) ∙ ap (λ l. encode_utf8 c ++ l) (kept_all (after p c) cs none.1)

pub unchanged : (written : List ℕ) → IsUtf8 written → NonePass acts_in_lines (chars written) → rewritten Outside (chars written) ≡ written
unchanged written utf8 none = kept_all Outside (chars written) none ∙ encodes-chars written utf8

-- ---- one character more

pub none_more : (cs : List ℕ) (c : ℕ) → NonePass acts_in_lines cs → acts_in_lines c ≡ false → NonePass acts_in_lines (cs ++ (c ∷ []))
none_more [] c none is = (is, tt)
none_more (d ∷ cs) c none is = (none.0, none_more cs c none.1 is)

pub one_more : (p : Place) (cs : List ℕ) (c : ℕ) → (passed p (cs ++ (c ∷ [])) ≡ after (passed p cs) c) × (rewritten p (cs ++ (c ∷ [])) ≡ rewritten p cs ++ written (passed p cs) c)
unfolding rewritten passed
one_more p [] c = (refl, append-nil (written p c))
one_more p (d ∷ cs) c = let more = one_more (after p d) cs c in (more.0, ap (λ l. written p d ++ l) more.1 ∙ sym (append_assoc (written p d) (rewritten (after p d) cs) (written (passed (after p d) cs) c)))

-- a text that is lent
pub lent_as : (own lent : List ℕ) → lent ≡ own → IsUtf8 lent → (out : List ℕ) → out ≡ rewritten Outside (chars lent) → IsHarmlessText own out
lent_as own lent is utf8 out e = subst (λ t. IsHarmlessText t out) is (subst (IsHarmlessText lent) (sym e) (written_as lent utf8))
