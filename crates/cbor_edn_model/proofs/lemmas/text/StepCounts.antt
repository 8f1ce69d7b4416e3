-- How many steps a text takes at most, that more steps change nothing, and the laws of reading without steps.
use Rattle.std.proofs.Common.{ℕ, zero, suc, List, [], ◌∷◌, ◌++◌, ◌≡◌, ◌≤◌, ◌<◌, ◌+◌, ◌*◌, length, refl, ap, arith, ◌∙◌, length-append}
use Rattle.std.specs.Prelude.{true, cond, Option, Result, Ok, Err}
use Rattle.cbor_edn_parts.specs.declared.base.error.ParseErrorKind.{ParseErrorKind}
use Rattle.cbor_edn_parts.specs.declared.base.error.ParseErrorKind.TheVariants.{Invalid, TooDeep}
use Rattle.cbor_edn_parts.specs.declared.base.indicator.Indicator.{Indicator}
use Rattle.cbor_edn_parts.specs.base.Bytes.{is_closed}
use Rattle.cbor_edn_parts.specs.base.Indicator.{indicator_text, indicator_at}
use Rattle.cbor_edn_parts.specs.internal.Lex.{Automaton}
use Rattle.cbor_edn_parts.specs.internal.SpaceTokens.{space, separator}
use Rattle.cbor_edn_parts.specs.internal.NumberTokens.{number, is_number}
use Rattle.cbor_edn_parts.specs.internal.LiteralTokens.{is_literal, is_ellipsis}
use Rattle.cbor_edn_model.specs.tree.Items.{Row, Elements, Pairs, Strings, Bracketed, Array, Map, entries_of}
use Rattle.cbor_edn_model.specs.text.Spelling.{close_byte}
use Rattle.cbor_edn_model.specs.tree.Trees.{Rule, OneItem, OnePiece, OneString, OneEntry, Inside, Rest, Seq, Standalone, list_head_text, opener_text, Tree, NumberTree, FloatTree, NamedTree, EnclosedTree, ListTree, StringTree, StreamTree, LiteralTree, EllipsisTree, EmbeddedTree, LastPieceTree, PlusTree, ElementTree, PairTree, ChunkTree, EmptyTree, FullTree, LastTree, MoreTree, NothingTree, SequenceTree, StandaloneTree, onto, Merged, FollowOf, tree_nesting, joins}
use Rattle.cbor_edn_model.proofs.lemmas.text.Tested.{Tested}
use Rattle.cbor_edn_model.specs.declared.text.opener.OpenerKind.{OpenerKind}
use Rattle.cbor_edn_model.specs.declared.text.opener.OpenerKind.TheVariants as opener
use Rattle.cbor_edn_model.specs.declared.text.keyword.Keyword.{Keyword}
use Rattle.cbor_edn_model.specs.declared.text.keyword.Keyword.TheVariants.{Named, Simple, NonFinite}
use Rattle.cbor_edn_model.specs.text.Keywords.{keyword_text}
use Rattle.cbor_edn_model.specs.internal.Results.{◌>>=◌}
use Rattle.cbor_edn_model.specs.internal.Reading.{Reader, or_invalid, token, byte, not_empty, list_head_of, starts_with, keyword_at, tag_number, enclosed_item, tag_item, number_end, number_item, keyword_item, plain_item, list_item, stream_item, string_item, item, literal_piece, ellipsis_piece, embedded_piece, piece, plus_string, string, entry, inside_full, inside, more, rest, sequence, standalone, rule, read, reads, outcome}
use Rattle.cbor_edn_parts.proofs.lemmas.base.Indicators.{spec-found}
use Rattle.cbor_edn_parts.proofs.lemmas.base.Tokens.{Holds, nothing, just}
use Rattle.cbor_edn_model.proofs.lemmas.text.Follows.{number_some}
use Rattle.cbor_edn_model.proofs.lemmas.text.Begins.{literal_some, ellipsis_begin}
use Rattle.cbor_edn_model.proofs.lemmas.text.KeywordTexts.{IsFront, keyword-found, keyword_length}
use Rattle.cbor_edn_model.proofs.lemmas.text.Again.{size, positive, again}
use Rattle.cbor_edn_model.proofs.lemmas.text.Found.{Meets, invalid, deep, fine, weaker, taken, Sound, IsSound, found, byte-found, not_empty-found}

-- how many fewer steps a use of a rule takes than eight a byte
abbrev extra : Rule → ℕ
extra OnePiece = 8
extra OneString = 7
extra OneItem = 6
extra (OneEntry k) = 5
extra (Rest k) = 4
extra _ = 0

number_length : (x : List ℕ) → is_number x ≡ true → 0 < length x
number_length [] v = absurd (number_some v)
number_length (c ∷ x) v = omega arith

literal_length : (x : List ℕ) → is_literal x ≡ true → 0 < length x
literal_length [] v = absurd (literal_some v)
literal_length (c ∷ x) v = omega arith

ellipsis_length : (x : List ℕ) → is_ellipsis x ≡ true → 0 < length x
ellipsis_length x v = rw (ellipsis_begin x v).1 (omega arith)

pub size_fits : {s : Rule} (w : Tree s) (r : List ℕ) → Tested w → size w + extra s + 8 * length r ≤ 8 * length (onto w r) + 1
unfolding size onto Tested
size_fits (NumberTree x i) r v = omega (arith, number_length x v, length-append x (indicator_text i ++ r), length-append (indicator_text i) r)
size_fits (FloatTree f i) r v = omega (arith, keyword_length (NonFinite f), length-append (keyword_text (NonFinite f)) (indicator_text i ++ r), length-append (indicator_text i) r)
size_fits (NamedTree b) r v = omega (arith, keyword_length (Named b), length-append (keyword_text (Named b)) r)
size_fits (EnclosedTree l w) r v = omega (arith, size_fits w (41 ∷ r) v.1, length-append (opener_text l) (40 ∷ onto w (41 ∷ r)))
size_fits (ListTree k w) r v = omega (arith, size_fits w (close_byte k ∷ r) v)
size_fits (StringTree w) r v = omega (arith, size_fits w r v)
size_fits (StreamTree ms m) r v = omega (arith, length-append ms (onto m (41 ∷ r)), size_fits m (41 ∷ r) v.1)
size_fits (LiteralTree x i) r v = omega (arith, literal_length x v, length-append x (indicator_text i ++ r), length-append (indicator_text i) r)
size_fits (EllipsisTree x) r v = omega (arith, ellipsis_length x v, length-append x r)
size_fits (EmbeddedTree w i) r v = omega (arith, size_fits w (62 ∷ 62 ∷ (indicator_text i ++ r)) v, length-append (indicator_text i) r)
size_fits (LastPieceTree p) r v = omega (arith, size_fits p r v)
size_fits (PlusTree p s t w) r h = omega (arith, size_fits p (s ++ (43 ∷ (t ++ onto w r))) h.0, size_fits w r h.3, length-append s (43 ∷ (t ++ onto w r)), length-append t (onto w r))
size_fits (ElementTree w) r v = omega (arith, size_fits w r v)
size_fits (PairTree v s t w) r h = omega (arith, size_fits v (s ++ (58 ∷ (t ++ onto w r))) h.0, size_fits w r h.3, length-append s (58 ∷ (t ++ onto w r)), length-append t (onto w r))
size_fits (ChunkTree w) r v = omega (arith, size_fits w r v)
size_fits (EmptyTree i s) r v = omega (arith, length-append (indicator_text i) (s ++ r), length-append s r)
size_fits (FullTree h s m) r v = omega (arith, length-append (list_head_text h) (s ++ onto m r), length-append s (onto m r), size_fits m r v.2)
size_fits (LastTree e s) r v = omega (arith, length-append s r, size_fits e (s ++ r) v.0)
size_fits (MoreTree e s m) r v = omega (arith, length-append s (onto m r), size_fits m r v.2, size_fits e (s ++ onto m r) v.0)
size_fits (NothingTree s) r v = omega (arith, length-append s r)
size_fits (SequenceTree s m) r v = omega (arith, length-append s (onto m r), size_fits m r v.1)
size_fits (StandaloneTree s w t) r v = omega (arith, length-append t r, size_fits w (t ++ r) v.1, length-append s (onto w (t ++ r)))

-- The text of a valid tree, merged, is read as that tree, whatever follows that may follow it, where it nests within the
-- limit.
pub reads-again : (limit : ℕ) {s : Rule} (w : Tree s) (r : List ℕ) → Tested w → Merged w → FollowOf s r → reads limit s (onto w r) ≡ outcome (tree_nesting w) limit (w, r)
unfolding reads
reads-again limit w r v j h = again _ limit w r v j h (omega (arith, size_fits w r v))

pub reads-found : (limit : ℕ) (s : Rule) (xs : List ℕ) → IsSound limit s xs (reads limit s xs)
unfolding reads
reads-found limit s xs = found _ limit s xs

-- What is left is shorter.
abbrev least : Rule → ℕ
least OneItem = 1
least OnePiece = 1
least OneString = 1
least (OneEntry k) = 1
least (Rest k) = 1
least _ = 0

abbrev Shorter : (s : Rule) → List ℕ → Tree s × List ℕ → Type 0
Shorter s xs p = length p.1 + least s ≤ length xs

abbrev Shortens : (s : Rule) → List ℕ → Result (Tree s × List ℕ) ParseErrorKind → Type 0
Shortens s xs o = Meets (Shorter s xs) (Unit {0}) o

sound-shorter : (limit : ℕ) (s : Rule) (xs : List ℕ) (p : Tree s × List ℕ) → Sound limit s xs p → Shorter s xs p
sound-shorter limit s xs p v = rw v.2 (left s p.0 p.1 v.0)
  where
    left : (s : Rule) (w : Tree s) (r : List ℕ) → Tested w → length r + least s ≤ length (onto w r)
    left OneItem w r v = omega (arith, size_fits w r v)
    left OnePiece w r v = omega (arith, size_fits w r v)
    left OneString w r v = omega (arith, size_fits w r v)
    left (OneEntry k) w r v = omega (arith, size_fits w r v)
    left (Rest k) w r v = omega (arith, size_fits w r v, positive w)
    left (Inside k) w r v = omega (arith, size_fits w r v, positive w)
    left Seq w r v = omega (arith, size_fits w r v, positive w)
    left Standalone w r v = omega (arith, size_fits w r v, positive w)

token-shorter : {State : Type 0} (T : Automaton State) (xs : List ℕ) → Meets (λ p. length p.1 ≤ length xs) (Unit {0}) (token T xs)
token-shorter T xs = weaker {Deep = Unit {0}} (λ p t. rw t.1 (omega (arith, length-append p.0 p.1))) (λ d. tt) (taken T xs)

byte-shorter : (b : ℕ) (xs : List ℕ) → Meets (λ r. length r < length xs) (Unit {0}) (byte b xs)
byte-shorter b xs = weaker {Deep = Unit {0}} (λ r e. rw e (omega arith)) (λ d. tt) (byte-found b xs)

indicator-shorter : (xs : List ℕ) → length (indicator_at xs).1 ≤ length xs
indicator-shorter xs = omega (arith, ap length (spec-found xs), length-append (indicator_text (indicator_at xs).0) (indicator_at xs).1)

any : {A : Type 0} (o : Result A ParseErrorKind) → Meets (λ x. Unit {0}) (Unit {0}) o
any (Ok x) = fine tt
any (Err Invalid) = invalid
any (Err TooDeep) = deep tt

same_then : {A B : Type 0} {P : A → Type 0} {Deep : Type 0} {m n : Result A ParseErrorKind} (f h : A → Result B ParseErrorKind) → m ≡ n → Meets P Deep m → ((x : A) → P x → f x ≡ h x) → (m >>= f) ≡ (n >>= h)
same_then f h e invalid k = rw (← e)
same_then f h e (deep d) k = rw (← e)
same_then f h e (fine p) k = rw (← e) (k _ p)

abbrev rank : Rule → ℕ
rank OnePiece = 0
rank OneString = 1
rank OneItem = 2
rank (OneEntry k) = 3
rank (Rest k) = 4
rank _ = 5

-- A rule's reading depends on shorter readings alone.
module _ (g h : ℕ → (s : Rule) → Reader s) (gs : (limit : ℕ) (s : Rule) (xs : List ℕ) → Shortens s xs (g limit s xs)) where
  abbrev Agree : ℕ → Type 0
  Agree n = (limit : ℕ) (s : Rule) (ys : List ℕ) → 8 * length ys + rank s < n → g limit s ys ≡ h limit s ys

  fewer : (m n : ℕ) → m ≤ n → Agree n → Agree m
  fewer m n l a limit s ys b = a limit s ys (omega arith)

  -- one rule that is a reading of another, put into a tree
  alike : {B : Type 0} (limit : ℕ) (s : Rule) (xs : List ℕ) (f : Tree s × List ℕ → Result B ParseErrorKind) → g limit s xs ≡ h limit s xs → (g limit s xs >>= f) ≡ (h limit s xs >>= f)
  alike limit s xs f e = same_then f f e (gs limit s xs) (λ w l. refl)

  list-same : (limit : ℕ) (k : Bracketed) (xs : List ℕ) → Agree (8 * length xs + 8) → list_item g limit k xs ≡ list_item h limit k xs
  unfolding list_item
  list-same zero k xs a = refl
  list-same (suc limit) k xs a = alike limit (Inside k) xs _ (a limit (Inside k) xs (omega arith))

  stream-same : (limit : ℕ) (xs : List ℕ) → Agree (8 * length xs + 8) → stream_item g limit xs ≡ stream_item h limit xs
  unfolding stream_item
  stream-same limit xs a = same_then _ _ refl (byte-shorter 95 xs) (λ r lr. same_then _ _ refl (token-shorter space r) (λ s ls. same_then _ _ refl (any (not_empty s.0)) (λ t u. alike limit (Rest Strings) s.1 _ (a limit (Rest Strings) s.1 (omega arith)))))

  string_item-same : (limit : ℕ) (xs : List ℕ) → Agree (8 * length xs + 2) → string_item g limit xs ≡ string_item h limit xs
  unfolding string_item
  string_item-same limit xs a = alike limit OneString xs _ (a limit OneString xs (omega arith))

  enclosed-same : (limit : ℕ) (l : OpenerKind) (xs : List ℕ) → Agree (8 * length xs + 2) → enclosed_item g limit l xs ≡ enclosed_item h limit l xs
  unfolding enclosed_item
  enclosed-same zero l xs a = refl
  enclosed-same (suc limit) l xs a = same_then _ _ refl (byte-shorter 40 xs) (λ r lr. alike limit Standalone r _ (a limit Standalone r (omega arith)))

  number-same : (limit : ℕ) (xs : List ℕ) → Agree (8 * length xs + 2) → number_item g limit xs ≡ number_item h limit xs
  unfolding number_item number_end tag_item
  number-same limit xs a = same_then _ _ refl (token-shorter number xs) (λ x lx. let i = (indicator_at x.1).0 in let ys = (indicator_at x.1).1 in ap (λ r. cond (starts_with 40 ys) r (Ok (NumberTree x.0 i, ys))) (same_then _ _ refl (any (or_invalid (tag_number x.0))) (λ n u. enclosed-same limit (opener.Tag i n) ys (fewer _ _ (omega (arith, indicator-shorter x.1)) a))))

  keyword-same : (limit : ℕ) (w : Keyword) (xs : List ℕ) → Agree (8 * length xs + 2) → keyword_item g limit w xs ≡ keyword_item h limit w xs
  unfolding keyword_item
  keyword-same limit (Named b) xs a = refl
  keyword-same limit Simple xs a = enclosed-same limit opener.Simple xs a
  keyword-same limit (NonFinite f) xs a = refl

  plain-same : (limit : ℕ) (xs : List ℕ) (o : Option (Keyword × List ℕ)) → Holds (IsFront xs) o → Agree (8 * length xs + 2) → plain_item g limit o xs ≡ plain_item h limit o xs
  unfolding plain_item
  plain-same limit xs _ nothing a = rw (string_item-same limit xs a, number-same limit xs a)
  plain-same limit xs _ (just {x = p} f) a = keyword-same limit p.0 p.1 (fewer _ _ (rw f.0 (omega (arith, length-append (keyword_text p.0) p.1))) a)

  item-same : (limit : ℕ) (xs : List ℕ) → Agree (8 * length xs + 2) → item g limit xs ≡ item h limit xs
  unfolding item
  item-same limit [] a = refl
  item-same limit (c ∷ xs) a = rw (list-same limit Array xs (fewer _ _ (omega arith) a), list-same limit Map xs (fewer _ _ (omega arith) a), stream-same limit xs (fewer _ _ (omega arith) a), plain-same limit (c ∷ xs) (keyword_at (c ∷ xs)) (keyword-found (c ∷ xs)) a)

  embedded-same : (limit : ℕ) (xs : List ℕ) → Agree (8 * length xs + 8) → embedded_piece g limit xs ≡ embedded_piece h limit xs
  unfolding embedded_piece
  embedded-same zero xs a = refl
  embedded-same (suc limit) xs a = alike limit Seq xs _ (a limit Seq xs (omega arith))

  piece-same : (limit : ℕ) (xs : List ℕ) → Agree (8 * length xs) → piece g limit xs ≡ piece h limit xs
  unfolding piece literal_piece ellipsis_piece
  piece-same limit [] a = refl
  piece-same limit (c ∷ xs) a = rw (same_then (embedded_piece g limit) (embedded_piece h limit) refl (byte-shorter 60 xs) (λ r lr. embedded-same limit r (fewer _ _ (omega arith) a)))

  plus-same : (limit : ℕ) (p : Tree OnePiece) (s xs : List ℕ) → Agree (8 * length xs) → plus_string g limit p s xs ≡ plus_string h limit p s xs
  unfolding plus_string
  plus-same limit p s xs a = same_then _ _ refl (byte-shorter 43 xs) (λ r lr. same_then _ _ refl (token-shorter space r) (λ t lt. alike limit OneString t.1 _ (a limit OneString t.1 (omega arith))))

  string-same : (limit : ℕ) (xs : List ℕ) → Agree (8 * length xs + 1) → string g limit xs ≡ string h limit xs
  unfolding string
  string-same limit xs a = same_then _ _ (a limit OnePiece xs (omega arith)) (gs limit OnePiece xs) (λ p lp. same_then _ _ refl (token-shorter space p.1) (λ s ls. ap (λ r. cond (joins s.1) r (Ok (LastPieceTree p.0, p.1))) (plus-same limit p.0 s.0 s.1 (fewer _ _ (omega arith) a))))

  entry-same : (limit : ℕ) (k : Row) (xs : List ℕ) → Agree (8 * length xs + 3) → entry g limit k xs ≡ entry h limit k xs
  unfolding entry
  entry-same limit Elements xs a = alike limit OneItem xs _ (a limit OneItem xs (omega arith))
  entry-same limit Strings xs a = alike limit OneString xs _ (a limit OneString xs (omega arith))
  entry-same limit Pairs xs a = same_then _ _ (a limit OneItem xs (omega arith)) (gs limit OneItem xs) (λ v lv. same_then _ _ refl (token-shorter space v.1) (λ s ls. same_then _ _ refl (byte-shorter 58 s.1) (λ r lr. same_then _ _ refl (token-shorter space r) (λ t lt. alike limit OneItem t.1 _ (a limit OneItem t.1 (omega arith))))))

  inside_full-same : (limit : ℕ) (k : Bracketed) (i : Option Indicator) (s xs : List ℕ) → Agree (8 * length xs + 5) → inside_full g limit k i s xs ≡ inside_full h limit k i s xs
  unfolding inside_full
  inside_full-same limit k i s xs a = same_then _ _ refl (any (list_head_of i s)) (λ y u. alike limit (Rest (entries_of k)) xs _ (a limit (Rest (entries_of k)) xs (omega arith)))

  inside-same : (limit : ℕ) (k : Bracketed) (xs : List ℕ) → Agree (8 * length xs + 5) → inside g limit k xs ≡ inside h limit k xs
  unfolding inside
  inside-same limit k xs a = same_then _ _ refl (token-shorter space (indicator_at xs).1) (λ s ls. ap (cond (is_closed s.1) _) (inside_full-same limit k (indicator_at xs).0 s.0 s.1 (λ l s ys b. a l s ys (omega (arith, indicator-shorter xs)))))

  rest-same : (limit : ℕ) (k : Row) (xs : List ℕ) → Agree (8 * length xs + 4) → rest g limit k xs ≡ rest h limit k xs
  unfolding rest more
  rest-same limit k xs a = same_then _ _ (a limit (OneEntry k) xs (omega arith)) (gs limit (OneEntry k) xs) (λ e le. same_then _ _ refl (token-shorter separator e.1) (λ s ls. ap (cond (is_closed s.1) _) (same_then _ _ refl (not_empty-found {Deep = Unit {0}} s.0) (λ t n. alike limit (Rest k) s.1 _ (a limit (Rest k) s.1 (omega arith))))))

  sequence-same : (limit : ℕ) (xs : List ℕ) → Agree (8 * length xs + 5) → sequence g limit xs ≡ sequence h limit xs
  unfolding sequence
  sequence-same limit xs a = same_then _ _ refl (token-shorter space xs) (λ s ls. ap (cond (is_closed s.1) _) (alike limit (Rest Elements) s.1 _ (a limit (Rest Elements) s.1 (omega arith))))

  standalone-same : (limit : ℕ) (xs : List ℕ) → Agree (8 * length xs + 5) → standalone g limit xs ≡ standalone h limit xs
  unfolding standalone
  standalone-same limit xs a = same_then _ _ refl (token-shorter space xs) (λ s ls. alike limit OneItem s.1 _ (a limit OneItem s.1 (omega arith)))

  rule-same : (limit : ℕ) (s : Rule) (xs : List ℕ) → Agree (8 * length xs + rank s) → rule g limit s xs ≡ rule h limit s xs
  rule-same limit OneItem xs a = item-same limit xs a
  rule-same limit OnePiece xs a = piece-same limit xs (fewer _ _ (omega arith) a)
  rule-same limit OneString xs a = string-same limit xs a
  rule-same limit (OneEntry k) xs a = entry-same limit k xs a
  rule-same limit (Inside k) xs a = inside-same limit k xs a
  rule-same limit (Rest k) xs a = rest-same limit k xs a
  rule-same limit Seq xs a = sequence-same limit xs a
  rule-same limit Standalone xs a = standalone-same limit xs a

read-shorter : (f limit : ℕ) (s : Rule) (xs : List ℕ) → Shortens s xs (read f limit s xs)
read-shorter f limit s xs = weaker (sound-shorter limit s xs) (λ d. tt) (found f limit s xs)

agree : (f d limit : ℕ) (s : Rule) (xs : List ℕ) → 8 * length xs + rank s < f → 8 * length xs + rank s < d → read f limit s xs ≡ read d limit s xs
unfolding read
agree zero d limit s xs a b = absurd (omega arith)
agree (suc f) zero limit s xs a b = absurd (omega arith)
agree (suc f) (suc d) limit s xs a b = rule-same (read f) (read d) (read-shorter f) limit s xs (λ l t ys q. agree f d l t ys (omega arith) (omega arith))

-- Reading is its rules, with no count of steps.
pub reads-rule : (limit : ℕ) (s : Rule) (xs : List ℕ) → reads limit s xs ≡ rule reads limit s xs
unfolding reads read
reads-rule limit s xs = agree (8 * length xs + 8) (suc (8 * length xs + rank s)) limit s xs (enough s (length xs)) (omega arith) ∙ rule-same (read (8 * length xs + rank s)) reads (read-shorter _) limit s xs (λ l t ys q. agree _ _ l t ys q (enough t (length ys)))
  where
    enough : (s : Rule) (n : ℕ) → 8 * n + rank s < 8 * n + 8
    enough OneItem n = omega arith
    enough OnePiece n = omega arith
    enough OneString n = omega arith
    enough (OneEntry k) n = omega arith
    enough (Rest k) n = omega arith
    enough _ n = omega arith
