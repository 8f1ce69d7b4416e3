-- The text that stands between quotes.
use Rattle.std.proofs.Common.{ℕ, ◌≡◌, Bool, true, false, List, [], ◌∷◌, ◌++◌, length, take, drop, Option, Some, None, cond, ltb, one-add, refl, sym, ap, ◌∙◌, subst, append_assoc, arith}
use Rattle.std.specs.Prelude.{◌==◌, not, nat_le, nat_lt, position, All}
use Rattle.std.specs.List.{position_or_len}
use Rattle.std.proofs.lemmas.Bool.{and_parts, not-true, eqb-false, leb-true, ltb-true, ltb-false}
use Rattle.std.proofs.lemmas.List.{append-nil}
use Rattle.std.proofs.lemmas.List.Elements.{All-head, All-tail}
use Rattle.std.proofs.lemmas.List.Sums.{prefix_len-le-length}
use Rattle.cbor_edn_parts.specs.string.Literal.{backslash}
use Rattle.cbor_edn_parts.specs.internal.Lex.{Accepts}
use Rattle.cbor_edn_parts.specs.internal.LiteralTokens.{ends, quoted_step, quote_byte, is_plain, literal, decoded}
use Rattle.cbor_edn_parts.specs.declared.string.Quote.{Quote}
use Rattle.cbor_edn_parts.specs.declared.string.Quote.TheVariants.{Single, Double}
use Rattle.cbor_edn_parts.specs.declared.string.QuotedState.{QuotedState}
use Rattle.cbor_edn_parts.specs.declared.string.QuotedState.TheVariants.{Between}
use Rattle.cbor_edn_parts.specs.declared.string.LiteralState.TheVariants.{Inside, Closed}
use Rattle.cbor_edn_parts.proofs.lemmas.string.LiteralRuns.{raw_to}

module _ (q : Quote) (m : QuotedState) (c : ℕ) (t : List ℕ) where
  decoded_end : true ≡ ends q c m → decoded q m (c ∷ t) ≡ []
  unfolding decoded
  decoded_end e = rw (← e)

  pub decoded_step : (n : QuotedState) (bs : List ℕ) → false ≡ ends q c m → Some (n, bs) ≡ quoted_step (quote_byte q) c m → decoded q m (c ∷ t) ≡ bs ++ decoded q n t
  unfolding decoded
  decoded_step n bs e s = rw (← e, ← s)

  decoded_none : false ≡ ends q c m → None ≡ quoted_step (quote_byte q) c m → decoded q m (c ∷ t) ≡ []
  unfolding decoded
  decoded_none e s = rw (← e, ← s)

-- A scan passes a text between quotes from one state to another, and so many bytes come of it.
pub data Passes (q : Quote) : QuotedState → List ℕ → QuotedState → List ℕ → Type 0 where
  stay : {m : QuotedState} → Passes q m [] m []
  pass : {m k n : QuotedState} {c : ℕ} {xs bs cs : List ℕ} → false ≡ ends q c m → Some (k, bs) ≡ quoted_step (quote_byte q) c m → Passes q k xs n cs → Passes q m (c ∷ xs) n (bs ++ cs)

pub passed : {q : Quote} {m n : QuotedState} {xs bs : List ℕ} → Passes q m xs n bs → (rest : List ℕ) → decoded q m (xs ++ rest) ≡ bs ++ decoded q n rest
passed stay rest = refl
passed {q} (pass {m} {k} {n} {c} {xs} {bs} {cs} e s p) rest =
    decoded_step q m c (xs ++ rest) k bs e s ∙ ap (λ ys. bs ++ ys) (passed p rest) ∙ sym (append_assoc bs cs (decoded q n rest))

pub accepted : {q : Quote} {m n : QuotedState} {xs bs : List ℕ} → Passes q m xs n bs → (rest : List ℕ) → Accepts literal (Inside q n) rest → Accepts literal (Inside q m) (xs ++ rest)
accepted stay rest a = a
accepted {q} (pass {k = k} e s p) rest a = (Inside q k, rw (← e, ← s), accepted p rest a)

pub passes-append : {q : Quote} {m k n : QuotedState} {xs ys bs cs : List ℕ} → Passes q m xs k bs → Passes q k ys n cs → Passes q m (xs ++ ys) n (bs ++ cs)
passes-append stay r = r
passes-append (pass {bs = bs} {cs = ds} e s p) r = rw append_assoc (pass e s (passes-append p r))

at_end : (q : Quote) → decoded q Between (quote_byte q ∷ []) ≡ []
at_end Single = decoded_end Single Between 39 [] refl
at_end Double = decoded_end Double Between 34 [] refl

-- a quoted text is what is passed, and ends with its quote
pub decoded_passed : {q : Quote} {xs bs : List ℕ} → Passes q Between xs Between bs → decoded q Between (xs ++ (quote_byte q ∷ [])) ≡ bs
decoded_passed {q} {bs = bs} p = passed p (quote_byte q ∷ []) ∙ ap (λ ys. bs ++ ys) (at_end q) ∙ append-nil bs

-- What stands for itself up to the quote that ends it is all that is quoted.
pub decoded_plain : (q : Quote) (x t : List ℕ) → decoded q Between x ≡ t ++ decoded q Between (quote_byte q ∷ []) → decoded q Between x ≡ t
decoded_plain q x t split = split ∙ ap (λ ys. t ++ ys) (at_end q) ∙ append-nil t

pub closes : (q : Quote) → Accepts literal (Inside q Between) (quote_byte q ∷ [])
closes Single = (Closed, refl, refl)
closes Double = (Closed, refl, refl)

decoded_all : (q : Quote) (m : QuotedState) → decoded q m [] ≡ []
unfolding decoded
decoded_all q m = refl

-- A loop stands in the state m in front of the rest, and has read xs.
module _ (q : Quote) (m : QuotedState) (total xs rest : List ℕ) (so_far : total ≡ xs ++ decoded q m rest) where
  pub quoted_all : rest ≡ [] → xs ≡ total
  quoted_all none = sym (so_far ∙ ap (λ ys. xs ++ ys) (ap (decoded q m) none ∙ decoded_all q m) ∙ append-nil xs)

  module _ (c : ℕ) (t : List ℕ) (is : rest ≡ c ∷ t) where
    on : total ≡ xs ++ decoded q m (c ∷ t)
    on = so_far ∙ ap (λ ys. xs ++ decoded q m ys) is

    pub quoted_more : (n : QuotedState) (bs : List ℕ) → false ≡ ends q c m → Some (n, bs) ≡ quoted_step (quote_byte q) c m → total ≡ xs ++ bs ++ decoded q n t
    quoted_more n bs e s = on ∙ ap (λ ys. xs ++ ys) (decoded_step q m c t n bs e s) ∙ sym (append_assoc xs bs (decoded q n t))

    pub quoted_end : true ≡ ends q c m → xs ≡ total
    quoted_end e = sym (on ∙ ap (λ ys. xs ++ ys) (decoded_end q m c t e) ∙ append-nil xs)

    pub quoted_none : false ≡ ends q c m → None ≡ quoted_step (quote_byte q) c m → xs ≡ total
    quoted_none e s = sym (on ∙ ap (λ ys. xs ++ ys) (decoded_none q m c t e s) ∙ append-nil xs)

-- A plain byte between two parts is no quote that ends the text, and stands for itself.
pub plain_step : (q : Quote) (c : ℕ) → is_plain q c ≡ true → (ends q c Between ≡ false) × (quoted_step (quote_byte q) c Between ≡ Some (Between, c ∷ []))
plain_step q c e =
    let high = and_parts (nat_le 32 c) _ e in
    let byte = and_parts (nat_lt c 256) _ high.1 in
    let other = and_parts (not (c == backslash)) _ byte.1 in
    (not-true (c == quote_byte q) other.1, raw_to c (leb-true 32 c high.0, ltb-true c 256 byte.0) (eqb-false c backslash (not-true (c == backslash) other.0)))

-- So what stands in front of the first byte that is not plain stands for itself.
module _ (q : Quote) where
  abbrev is_other : ℕ → Bool
  is_other c = not (is_plain q c)

  abbrev Splits : ℕ → List ℕ → Type 0
  Splits n t = decoded q Between t ≡ take n t ++ decoded q Between (drop n t)

  splits_by : (b : Bool) (c : ℕ) (t : List ℕ) → is_plain q c ≡ b → Splits (position_or_len is_other t) t → Splits (position_or_len is_other (c ∷ t)) (c ∷ t)
  splits_by true c t e rest = let h = plain_step q c e in rw (e, one-add) (decoded_step q Between c t Between (c ∷ []) (sym h.0) (sym h.1) ∙ ap (λ x. c ∷ x) rest)
  splits_by false c t e rest = rw e

  splits : (t : List ℕ) → Splits (position_or_len is_other t) t
  splits [] = refl
  splits (c ∷ t) = splits_by (is_plain q c) c t refl (splits t)

  quote_other : (p : Quote) → is_plain p (quote_byte p) ≡ false
  quote_other Single = refl
  quote_other Double = refl

  -- plain bytes up to the quote that ends the text
  pub plain_rest : (v : List ℕ) → All (λ c. is_plain q c ≡ true) v → drop (position_or_len is_other (v ++ (quote_byte q ∷ []))) (v ++ (quote_byte q ∷ [])) ≡ quote_byte q ∷ []
  plain_rest [] all = rw (quote_other q) refl
  plain_rest (c ∷ v) all = rw (All-head (λ c. is_plain q c ≡ true) c v all, one-add) (plain_rest v (All-tail (λ c. is_plain q c ≡ true) c v all))

  module _ (t : List ℕ) where
    abbrev place : ℕ
    place = position_or_len is_other t

    pub split_found : (i : ℕ) → Some i ≡ position is_other t → Splits i t
    split_found i e = found (ltb place (length t)) e
      where
        found : (b : Bool) → ◌≡◌ {A = Option ℕ} (Some i) (cond b (Some place) None) → Splits i t
        found true e = let at : i ≡ place = cc in rw at (splits t)
        found false e = absurd (cc)

    pub split_whole : None ≡ position is_other t → Splits (length t) t
    split_whole e = whole (ltb place (length t)) refl e
      where
        whole : (b : Bool) → ltb place (length t) ≡ b → ◌≡◌ {A = Option ℕ} None (cond b (Some place) None) → Splits (length t) t
        whole true over e = absurd (cc)
        whole false over e = let all : place ≡ length t = omega (arith, prefix_len-le-length (λ c. not (is_other c)) t, ltb-false place (length t) over) in subst (λ n. Splits n t) all (splits t)
