-- What is read is valid and merged, its text is what was taken, and it nests no deeper than the limit; where it is too
-- deep, the text has more openings than the limit.
use Rattle.std.proofs.Common.{ℕ, zero, suc, List, [], ◌∷◌, ◌++◌, ◌≡◌, ◌≤◌, ◌<◌, refl, ap, sym, arith, ◌∙◌, append_assoc}
use Rattle.std.specs.Prelude.{Bool, true, false, cond, Option, Some, None, Result, Ok, Err, eqb}
use Rattle.std.proofs.lemmas.Bool.{eqb-true, cond_both}
use Rattle.cbor_edn_parts.specs.declared.base.error.ParseErrorKind.{ParseErrorKind}
use Rattle.cbor_edn_parts.specs.declared.base.error.ParseErrorKind.TheVariants.{Invalid, TooDeep}
use Rattle.cbor_edn_parts.specs.declared.base.indicator.Indicator.{Indicator}
use Rattle.cbor_edn_parts.specs.base.Bytes.{is_closed}
use Rattle.cbor_edn_parts.specs.base.Indicator.{indicator_text, indicator_at}
use Rattle.cbor_edn_parts.specs.internal.Lex as lex
use Rattle.cbor_edn_parts.specs.internal.Lex.{Automaton, is_token, munch}
use Rattle.cbor_edn_parts.specs.internal.SpaceTokens.{space, separator, is_empty, is_space}
use Rattle.std.specs.Fmt.{decimal}
use Rattle.cbor_edn_parts.specs.internal.NumberTokens.{number, is_number}
use Rattle.cbor_edn_parts.specs.internal.LiteralTokens.{literal, ellipsis}
use Rattle.cbor_edn_model.specs.tree.Items.{Row, Elements, Pairs, Strings, Bracketed, Array, Map, entries_of}
use Rattle.cbor_edn_model.specs.text.Spelling.{open_byte, close_byte}
use Rattle.cbor_edn_model.specs.text.Openers.{IsOpener}
use Rattle.cbor_edn_model.specs.tree.Trees.{Rule, OneItem, OnePiece, OneString, OneEntry, Inside, Rest, Seq, Standalone, ListHead, list_head_text, opener_text, Tree, onto, IsMerged, Merged, tree_nesting, joins}
use Rattle.cbor_edn_model.proofs.lemmas.text.Tested.{IsTestedListHead, Tested}
use Rattle.cbor_edn_model.specs.declared.text.opener.OpenerKind.{OpenerKind}
use Rattle.cbor_edn_model.specs.declared.text.opener.OpenerKind.TheVariants as opener
use Rattle.cbor_edn_model.specs.declared.text.keyword.Keyword.{Keyword}
use Rattle.cbor_edn_model.specs.declared.text.keyword.Keyword.TheVariants.{Named, Simple, NonFinite}
use Rattle.cbor_edn_model.specs.text.Keywords.{non_finite_text, keyword_text}
use Rattle.cbor_edn_model.specs.internal.Results.{◌>>=◌}
use Rattle.cbor_edn_model.specs.internal.Reading.{Reader, or_invalid, token, byte, not_empty, list_head_of, starts_with, starts_string, keyword_at, tag_number, enclosed_item, tag_item, number_end, number_item, keyword_item, plain_item, list_item, stream_item, string_item, item, literal_piece, ellipsis_piece, embedded_piece, piece, plus_string, string, entry, inside_full, inside, more, rest, sequence, standalone, rule, read}
use Rattle.cbor_edn_model.specs.text.Openings.{openings}
use Rattle.cbor_edn_parts.proofs.lemmas.base.Indicators.{spec-found}
use Rattle.cbor_edn_parts.proofs.lemmas.base.Tokens.{Holds, nothing, just, munch-found, token_texts}
use Rattle.cbor_edn_model.proofs.lemmas.text.TagNumbers.{tag_number-found}
use Rattle.cbor_edn_model.proofs.lemmas.text.KeywordTexts.{IsFront, keyword-found}
use Rattle.cbor_edn_model.proofs.lemmas.text.OpeningCounts.{openings_end, openings_between, openings_onto}

-- Of an answer: what holds of the value, or what holds where it is too deep.
pub data Meets {A : Type 0} (P : A → Type 0) (Deep : Type 0) : Result A ParseErrorKind → Type 0 where
  invalid : Meets P Deep (Err Invalid)
  deep : Deep → Meets P Deep (Err TooDeep)
  fine : {x : A} → P x → Meets P Deep (Ok x)

pub bound : {A B : Type 0} {P : A → Type 0} {Q : B → Type 0} {Deep : Type 0} {m : Result A ParseErrorKind} (f : A → Result B ParseErrorKind) → Meets P Deep m → ((x : A) → P x → Meets Q Deep (f x)) → Meets Q Deep (m >>= f)
bound f invalid k = invalid
bound f (deep d) k = deep d
bound f (fine p) k = k _ p

pub chosen : {A : Type 0} {P : A → Type 0} {Deep : Type 0} (b : Bool) (x y : Result A ParseErrorKind) → (b ≡ true → Meets P Deep x) → (b ≡ false → Meets P Deep y) → Meets P Deep (cond b x y)
chosen {P = P} {Deep = Deep} b x y h k = cond_both b x y (Meets P Deep) h k

pub weaker : {A : Type 0} {P Q : A → Type 0} {Deep Deeper : Type 0} {o : Result A ParseErrorKind} → ((x : A) → P x → Q x) → (Deep → Deeper) → Meets P Deep o → Meets Q Deeper o
weaker h k invalid = invalid
weaker h k (deep d) = deep (k d)
weaker h k (fine p) = fine (h _ p)

-- A token is never too deep.
told : {A : Type 0} {P Q : A → Type 0} {Deep : Type 0} (o : Option A) → ((x : A) → P x → Q x) → Holds P o → Meets Q Deep (or_invalid o)
told _ h nothing = invalid
told _ h (just p) = fine (h _ p)

abbrev pub Took : {State : Type 0} → Automaton State → List ℕ → List ℕ × List ℕ → Type 0
Took T xs p = (is_token T p.0 ≡ true) × (xs ≡ p.0 ++ p.1)

pub taken : {State Deep : Type 0} (T : Automaton State) (xs : List ℕ) → Meets (Took T xs) Deep (token T xs)
taken T xs = told (lex.token T xs) (λ p t. ((token_texts T p.0).0 t.0, t.1)) (munch-found T T.start xs)

pub byte-found : {Deep : Type 0} (b : ℕ) (xs : List ℕ) → Meets (λ r. xs ≡ b ∷ r) Deep (byte b xs)
unfolding byte
byte-found b [] = invalid
byte-found b (c ∷ xs) = chosen (eqb c b) _ _ (λ e. fine (ap (λ x. x ∷ xs) (eqb-true c b e))) (λ e. invalid)

pub not_empty-found : {Deep : Type 0} (s : List ℕ) → Meets (λ t. (t ≡ s) × (is_empty t ≡ false)) Deep (not_empty s)
unfolding not_empty
not_empty-found [] = invalid
not_empty-found (c ∷ s) = fine (refl, refl)

pub no_space : is_space [] ≡ true
unfolding munch
no_space = refl

-- An indicator and a space, told apart as a head and the space behind it.
abbrev Opened : Option Indicator → List ℕ → ListHead × List ℕ → Type 0
Opened i s h = IsTestedListHead h.0 × (is_space h.1 ≡ true) × IsMerged h.0 h.1 × ((r : List ℕ) → indicator_text i ++ (s ++ r) ≡ list_head_text h.0 ++ (h.1 ++ r))

head-found : {Deep : Type 0} (i : Option Indicator) (s : List ℕ) → is_space s ≡ true → Meets (Opened i s) Deep (list_head_of i s)
unfolding list_head_of
head-found None s v = fine (tt, v, tt, λ r. refl)
head-found (Some i) [] v = invalid
head-found (Some i) (c ∷ s) v = fine (v, no_space, refl, λ r. sym (append_assoc (indicator_text (Some i)) (c ∷ s) r))

abbrev pub Sound : ℕ → (s : Rule) → List ℕ → Tree s × List ℕ → Type 0
Sound limit s xs p = Tested p.0 × Merged p.0 × (xs ≡ onto p.0 p.1) × (tree_nesting p.0 ≤ limit)

-- What every answer of a reader meets.
abbrev pub IsSound : ℕ → (s : Rule) → List ℕ → Result (Tree s × List ℕ) ParseErrorKind → Type 0
IsSound limit s xs o = Meets (Sound limit s xs) (limit < openings xs) o

module _ (g : ℕ → (s : Rule) → Reader s) (gs : (limit : ℕ) (s : Rule) (xs : List ℕ) → IsSound limit s xs (g limit s xs)) where
  -- a read of what a text ends with
  later : (limit : ℕ) (s : Rule) (xs ys : List ℕ) → openings ys ≤ openings xs → Meets (Sound limit s ys) (limit < openings xs) (g limit s ys)
  later limit s xs ys h = weaker (λ p v. v) (λ d. omega arith) (gs limit s ys)

  enclosed-found : (limit : ℕ) (l : OpenerKind) (xs ys : List ℕ) → IsOpener l → xs ≡ opener_text l ++ ys → IsSound limit OneItem xs (enclosed_item g limit l ys)
  unfolding enclosed_item onto Tested Merged
  enclosed-found zero l xs ys v e = bound _ (byte-found 40 ys) (λ r h. deep (rw (e, h) (omega (arith, openings_end (opener_text l) (40 ∷ r)))))
  enclosed-found (suc limit) l xs ys v e = bound _ (byte-found 40 ys) (λ r h. bound _ (weaker (λ p s. s) (λ (d : limit < openings r). rw (e, h) (omega (arith, openings_end (opener_text l) (40 ∷ r)))) (gs limit Standalone r)) (λ w vw. bound _ (byte-found 41 w.1) (λ q d. fine ((v, vw.0), vw.1, cc, omega (arith, vw.3)))))

  number_end-found : (limit : ℕ) (x : List ℕ) (i : Option Indicator) (xs ys : List ℕ) → is_number x ≡ true → xs ≡ x ++ (indicator_text i ++ ys) → IsSound limit OneItem xs (number_end g limit x i ys)
  unfolding number_end tag_item onto Tested Merged
  number_end-found limit x i xs ys v e = chosen (starts_with 40 ys) _ _ (λ t. bound _ (told (tag_number x) (λ n h. h) (tag_number-found x)) (λ n h. enclosed-found limit (opener.Tag i n) xs ys h.1 (rw (e, h.0) (sym (append_assoc (decimal n) (indicator_text i) ys))))) (λ t. fine (v, tt, e, omega arith))

  number-found : (limit : ℕ) (xs : List ℕ) → IsSound limit OneItem xs (number_item g limit xs)
  unfolding number_item
  number-found limit xs = bound _ (taken number xs) (λ x v. number_end-found limit x.0 (indicator_at x.1).0 xs (indicator_at x.1).1 v.0 (v.1 ∙ ap (x.0 ++◌) (spec-found x.1)))

  keyword_item-found : (limit : ℕ) (w : Keyword) (xs ys : List ℕ) → xs ≡ keyword_text w ++ ys → IsSound limit OneItem xs (keyword_item g limit w ys)
  unfolding keyword_item onto Tested Merged
  keyword_item-found limit (Named b) xs ys e = fine (tt, tt, e, omega arith)
  keyword_item-found limit Simple xs ys e = enclosed-found limit opener.Simple xs ys tt e
  keyword_item-found limit (NonFinite f) xs ys e = fine (tt, tt, e ∙ ap (non_finite_text f ++◌) (spec-found ys), omega arith)

  plain-found : (limit : ℕ) (xs : List ℕ) (o : Option (Keyword × List ℕ)) → Holds (IsFront xs) o → IsSound limit OneItem xs (plain_item g limit o xs)
  unfolding plain_item string_item onto Tested Merged
  plain-found limit xs _ nothing = chosen (starts_string xs) _ _ (λ e. bound _ (gs limit OneString xs) (λ w v. fine v)) (λ n. number-found limit xs)
  plain-found limit xs _ (just {x = p} h) = keyword_item-found limit p.0 xs p.1 h.0

  list-found : (limit : ℕ) (k : Bracketed) (xs : List ℕ) → IsSound limit OneItem (open_byte k ∷ xs) (list_item g limit k xs)
  unfolding list_item onto Tested Merged
  list-found zero Array xs = deep (omega arith)
  list-found zero Map xs = deep (omega arith)
  list-found (suc limit) k xs = bound _ (weaker (λ p v. v) (opened limit k xs) (gs limit (Inside k) xs)) (λ w v. bound _ (byte-found (close_byte k) w.1) (λ r e. fine (v.0, v.1, cc, omega (arith, v.3))))
    where
      opened : (limit : ℕ) (k : Bracketed) (xs : List ℕ) → limit < openings xs → suc limit < openings (open_byte k ∷ xs)
      opened limit Array xs d = omega arith
      opened limit Map xs d = omega arith

  stream-found : (limit : ℕ) (xs : List ℕ) → IsSound limit OneItem (40 ∷ xs) (stream_item g limit xs)
  unfolding stream_item onto Tested Merged
  stream-found limit xs = bound _ (byte-found 95 xs) (λ r e. bound _ (taken space r) (λ s vs. bound _ (not_empty-found s.0) (λ t n. bound _ (later limit (Rest Strings) (40 ∷ xs) s.1 (rw (e, vs.1) (omega (arith, openings_end (40 ∷ 95 ∷ s.0) s.1)))) (λ m vm. bound _ (byte-found 41 m.1) (λ q d. fine ((rw n.1 (rw n.0 vs.0), vm.0), vm.1, cc, vm.3))))))

  item-found : (limit : ℕ) (xs : List ℕ) → IsSound limit OneItem xs (item g limit xs)
  unfolding item
  item-found limit [] = invalid
  item-found limit (c ∷ xs) =
      chosen (eqb c 91) _ _ (λ e. rw (eqb-true c 91 e) (list-found limit Array xs)) (λ n.
      chosen (eqb c 123) _ _ (λ e. rw (eqb-true c 123 e) (list-found limit Map xs)) (λ n.
      chosen (eqb c 40) _ _ (λ e. rw (eqb-true c 40 e) (stream-found limit xs)) (λ n.
      plain-found limit (c ∷ xs) (keyword_at (c ∷ xs)) (keyword-found (c ∷ xs)))))

  literal-found : (limit : ℕ) (xs : List ℕ) → IsSound limit OnePiece xs (literal_piece g xs)
  unfolding literal_piece onto Tested Merged
  literal-found limit xs = bound _ (taken literal xs) (λ x v. fine (v.0, tt, v.1 ∙ ap (x.0 ++◌) (spec-found x.1), omega arith))

  ellipsis-found : (limit : ℕ) (xs : List ℕ) → IsSound limit OnePiece xs (ellipsis_piece g xs)
  unfolding ellipsis_piece onto Tested Merged
  ellipsis-found limit xs = bound _ (taken ellipsis xs) (λ x v. fine (v.0, tt, v.1, omega arith))

  embedded-found : (limit : ℕ) (xs : List ℕ) → IsSound limit OnePiece (60 ∷ 60 ∷ xs) (embedded_piece g limit xs)
  unfolding embedded_piece onto Tested Merged
  embedded-found zero xs = deep (omega arith)
  embedded-found (suc limit) xs = bound _ (weaker (λ p v. v) (λ d. omega arith) (gs limit Seq xs)) (λ w v. bound _ (byte-found 62 w.1) (λ q e. bound _ (byte-found 62 q) (λ r d. let i = spec-found r in fine (v.0, v.1, cc, omega (arith, v.3)))))

  piece-found : (limit : ℕ) (xs : List ℕ) → IsSound limit OnePiece xs (piece g limit xs)
  unfolding piece
  piece-found limit [] = invalid
  piece-found limit (c ∷ xs) =
      chosen (eqb c 60) _ _ (λ e. rw (eqb-true c 60 e) (bound _ (byte-found 60 xs) (λ r d. rw d (embedded-found limit r)))) (λ n.
      chosen (eqb c 46) _ _ (λ e. ellipsis-found limit (c ∷ xs)) (λ n. literal-found limit (c ∷ xs)))

  -- what stands behind a plus sign or a colon between spaces
  behind-openings : {o : Rule} (v : Tree o) (c : ℕ) (s r t xs ys : List ℕ) → xs ≡ onto v (s ++ (c ∷ r)) → r ≡ t ++ ys → openings ys ≤ openings xs
  behind-openings v c s r t xs ys e d = rw (e, d) (omega (arith, openings_between s c t ys, openings_onto v (s ++ (c ∷ (t ++ ys)))))

  plus-found : (limit : ℕ) (xs : List ℕ) (p : Tree OnePiece × List ℕ) (s : List ℕ × List ℕ) → Sound limit OnePiece xs p → Took space p.1 s → IsSound limit OneString xs (plus_string g limit p.0 s.0 s.1)
  unfolding plus_string onto Tested Merged
  plus-found limit xs p s vp vs = bound _ (byte-found 43 s.1) (λ r e. bound _ (taken space r) (λ t vt. bound _ (later limit OneString xs t.1 (behind-openings p.0 43 s.0 r t.0 xs t.1 (cc) vt.1)) (λ w vw. fine ((vp.0, vs.0, vt.0, vw.0), (vp.1, vw.1), cc, omega (arith, vp.3, vw.3)))))

  string-found : (limit : ℕ) (xs : List ℕ) → IsSound limit OneString xs (string g limit xs)
  unfolding string onto Tested Merged
  string-found limit xs = bound _ (gs limit OnePiece xs) (λ p vp. bound _ (taken space p.1) (λ s vs. chosen (joins s.1) _ _ (λ e. plus-found limit xs p s vp vs) (λ e. fine vp)))

  entry-found : (limit : ℕ) (k : Row) (xs : List ℕ) → IsSound limit (OneEntry k) xs (entry g limit k xs)
  unfolding entry onto Tested Merged
  entry-found limit Elements xs = bound _ (gs limit OneItem xs) (λ w v. fine v)
  entry-found limit Strings xs = bound _ (gs limit OneString xs) (λ w v. fine v)
  entry-found limit Pairs xs = bound _ (gs limit OneItem xs) (λ v vv. bound _ (taken space v.1) (λ s vs. bound _ (byte-found 58 s.1) (λ r e. bound _ (taken space r) (λ t vt. bound _ (later limit OneItem xs t.1 (behind-openings v.0 58 s.0 r t.0 xs t.1 (cc) vt.1)) (λ w vw. fine ((vv.0, vs.0, vt.0, vw.0), (vv.1, vw.1), cc, omega (arith, vv.3, vw.3)))))))

  inside_full-found : (limit : ℕ) (k : Bracketed) (i : Option Indicator) (s xs ys : List ℕ) → is_space s ≡ true → xs ≡ indicator_text i ++ (s ++ ys) → IsSound limit (Inside k) xs (inside_full g limit k i s ys)
  unfolding inside_full onto Tested Merged
  inside_full-found limit k i s xs ys v e = bound _ (head-found i s v) (λ h vh. bound _ (later limit (Rest (entries_of k)) xs ys (rw e (omega (arith, openings_end s ys, openings_end (indicator_text i) (s ++ ys))))) (λ m vm. fine ((vh.0, vh.1, vm.0), (vh.2, vm.1), e ∙ vh.3 ys ∙ ap (λ (r : List ℕ). list_head_text h.0 ++ (h.1 ++ r)) vm.2, vm.3)))

  inside-found : (limit : ℕ) (k : Bracketed) (xs : List ℕ) → IsSound limit (Inside k) xs (inside g limit k xs)
  unfolding inside onto Tested Merged
  inside-found limit k xs = bound _ (taken space (indicator_at xs).1) (λ s v. let e : xs ≡ indicator_text (indicator_at xs).0 ++ (s.0 ++ s.1) = spec-found xs ∙ ap (indicator_text (indicator_at xs).0 ++◌) v.1 in chosen (is_closed s.1) _ _ (λ c. fine (v.0, tt, e, omega arith)) (λ c. inside_full-found limit k (indicator_at xs).0 s.0 xs s.1 v.0 e))

  rest-found : (limit : ℕ) (k : Row) (xs : List ℕ) → IsSound limit (Rest k) xs (rest g limit k xs)
  unfolding rest more onto Tested Merged
  rest-found limit k xs = bound _ (gs limit (OneEntry k) xs) (λ e ve. bound _ (taken separator e.1) (λ s vs. chosen (is_closed s.1) _ _ (λ c. fine ((ve.0, vs.0), ve.1, cc, ve.3)) (λ c. bound _ (not_empty-found s.0) (λ t n. bound _ (later limit (Rest k) xs s.1 (rw (ve.2, vs.1) (omega (arith, openings_end s.0 s.1, openings_onto e.0 (s.0 ++ s.1))))) (λ m vm. fine ((ve.0, rw n.1 (rw n.0 vs.0), vm.0), (ve.1, vm.1), cc, omega (arith, ve.3, vm.3)))))))

  sequence-found : (limit : ℕ) (xs : List ℕ) → IsSound limit Seq xs (sequence g limit xs)
  unfolding sequence onto Tested Merged
  sequence-found limit xs = bound _ (taken space xs) (λ s v. chosen (is_closed s.1) _ _ (λ e. fine (v.0, tt, v.1, omega arith)) (λ e. bound _ (later limit (Rest Elements) xs s.1 (rw v.1 (openings_end s.0 s.1))) (λ m vm. fine ((v.0, vm.0), vm.1, cc, vm.3))))

  standalone-found : (limit : ℕ) (xs : List ℕ) → IsSound limit Standalone xs (standalone g limit xs)
  unfolding standalone onto Tested Merged
  standalone-found limit xs = bound _ (taken space xs) (λ s vs. bound _ (later limit OneItem xs s.1 (rw vs.1 (openings_end s.0 s.1))) (λ w vw. bound _ (taken space w.1) (λ t vt. fine ((vs.0, vw.0, vt.0), vw.1, cc, vw.3))))

  rule-found : (limit : ℕ) (s : Rule) (xs : List ℕ) → IsSound limit s xs (rule g limit s xs)
  rule-found limit OneItem xs = item-found limit xs
  rule-found limit OnePiece xs = piece-found limit xs
  rule-found limit OneString xs = string-found limit xs
  rule-found limit (OneEntry k) xs = entry-found limit k xs
  rule-found limit (Inside k) xs = inside-found limit k xs
  rule-found limit (Rest k) xs = rest-found limit k xs
  rule-found limit Seq xs = sequence-found limit xs
  rule-found limit Standalone xs = standalone-found limit xs

pub found : (f limit : ℕ) (s : Rule) (xs : List ℕ) → IsSound limit s xs (read f limit s xs)
unfolding read
found zero limit s xs = invalid
found (suc f) limit s xs = rule-found (read f) (found f) limit s xs
