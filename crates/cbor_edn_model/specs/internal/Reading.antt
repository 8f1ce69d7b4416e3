-- The plain reader on lists, rule by rule. It knows how deep lists may nest.
use Rattle.std.specs.Prelude.{ℕ, suc, zero, Bool, false, cond, eqb, ◌||◌, ◌&&◌, nat_le, nat_lt, ◌^◌, List, [], ◌∷◌, Option, Some, None, Result, Ok, Err, ◌+◌, ◌*◌, length}
use Rattle.cbor_edn_parts.specs.declared.base.error.ParseErrorKind.{ParseErrorKind}
use Rattle.cbor_edn_parts.specs.declared.base.error.ParseErrorKind.TheVariants.{Invalid, TooDeep}
use Rattle.cbor_edn_parts.specs.declared.base.indicator.Indicator.{Indicator}
use Rattle.cbor_edn_parts.specs.base.Bytes.{is_closed}
use Rattle.cbor_edn_parts.specs.base.Indicator.{indicator_at}
use Rattle.cbor_edn_parts.specs.internal.Lex as lex
use Rattle.cbor_edn_parts.specs.internal.Lex.{Automaton}
use Rattle.cbor_edn_parts.specs.internal.SpaceTokens.{space, separator}
use Rattle.cbor_edn_parts.specs.internal.NumberTokens.{number}
use Rattle.cbor_edn_parts.specs.internal.LiteralTokens.{literal, ellipsis, is_lower, is_upper, is_digit}
use Rattle.cbor_edn_parts.specs.number.Number.{number_of}
use Rattle.cbor_edn_parts.specs.internal.ContentReading.{same}
use Rattle.std.specs.Fmt.{decimal}
use Rattle.cbor_edn_model.specs.declared.text.opener.OpenerKind.{OpenerKind}
use Rattle.cbor_edn_model.specs.declared.text.opener.OpenerKind.TheVariants.{Tag}
use Rattle.cbor_edn_model.specs.declared.text.opener.OpenerKind.TheVariants as opener
use Rattle.cbor_edn_model.specs.declared.text.keyword.NamedSimple.TheVariants.{False, True, Null, Undefined}
use Rattle.cbor_edn_model.specs.declared.text.keyword.NonFinite.TheVariants.{Infinity, NegativeInfinity, NaN}
use Rattle.cbor_edn_model.specs.declared.text.keyword.Keyword.{Keyword}
use Rattle.cbor_edn_model.specs.declared.text.keyword.Keyword.TheVariants.{Named, Simple, NonFinite}
use Rattle.cbor_edn_model.specs.text.Keywords.{keyword_text}
use Rattle.cbor_edn_model.specs.tree.Items.{Row, Elements, Pairs, Strings, Bracketed, Array, Map, entries_of}
use Rattle.cbor_edn_model.specs.text.Spelling.{close_byte}
use Rattle.cbor_edn_model.specs.internal.Results.{◌>>=◌}
use Rattle.cbor_edn_model.specs.tree.Trees.{Rule, OneItem, OnePiece, OneString, OneEntry, Inside, Rest, Seq, Standalone, ListHead, NoIndicator, WithIndicator, Tree, NumberTree, FloatTree, NamedTree, EnclosedTree, ListTree, StringTree, StreamTree, LiteralTree, EllipsisTree, EmbeddedTree, LastPieceTree, PlusTree, ElementTree, PairTree, ChunkTree, EmptyTree, FullTree, LastTree, MoreTree, NothingTree, SequenceTree, StandaloneTree, joins}

-- what is read, and the text behind it
abbrev pub Read : Type 0 → Type 0
Read A = Result (A × List ℕ) ParseErrorKind

abbrev pub Reader : Rule → Type 0
Reader s = List ℕ → Read (Tree s)

abbrev pub or_invalid : {A : Type 0} → Option A → Result A ParseErrorKind
or_invalid None = Err Invalid
or_invalid (Some x) = Ok x

-- One token, as far as it goes.
abbrev pub token : {State : Type 0} → Automaton State → List ℕ → Read (List ℕ)
token T xs = or_invalid (lex.token T xs)

-- One byte.
unfoldable pub byte : ℕ → List ℕ → Result (List ℕ) ParseErrorKind
byte b [] = Err Invalid
byte b (c ∷ xs) = cond (eqb c b) (Ok xs) (Err Invalid)

unfoldable pub not_empty : List ℕ → Result (List ℕ) ParseErrorKind
not_empty [] = Err Invalid
not_empty (c ∷ s) = Ok (c ∷ s)

-- The indicator and the first space of a list that has entries: behind an indicator the space is its own, and not empty.
unfoldable pub list_head_of : Option Indicator → List ℕ → Result (ListHead × List ℕ) ParseErrorKind
list_head_of None s = Ok (NoIndicator, s)
list_head_of (Some i) [] = Err Invalid
list_head_of (Some i) (c ∷ s) = Ok (WithIndicator i (c ∷ s), [])

abbrev pub starts_with : ℕ → List ℕ → Bool
starts_with b [] = false
starts_with b (c ∷ r) = eqb c b

-- what alone begins a string: a quote, a letter, or `<`
abbrev pub begins_string : ℕ → Bool
begins_string c = eqb c 34 || eqb c 39 || eqb c 60 || is_lower c || is_upper c

-- Whether a string begins there, which two dots do too.
unfoldable pub starts_string : List ℕ → Bool
starts_string [] = false
starts_string (c ∷ r) = begins_string c || (eqb c 46 && starts_with 46 r)

-- The keyword that a byte begins: each begins with another one.
abbrev pub keyword_of : ℕ → Option Keyword
keyword_of c =
    cond (eqb c 102) (Some (Named False)) (
    cond (eqb c 116) (Some (Named True)) (
    cond (eqb c 110) (Some (Named Null)) (
    cond (eqb c 117) (Some (Named Undefined)) (
    cond (eqb c 115) (Some Simple) (
    cond (eqb c 73) (Some (NonFinite Infinity)) (
    cond (eqb c 45) (Some (NonFinite NegativeInfinity)) (
    cond (eqb c 78) (Some (NonFinite NaN)) None)))))))

-- What stands behind these bytes, where they stand in front.
abbrev pub behind_bytes : List ℕ → List ℕ → Option (List ℕ)
behind_bytes [] xs = Some xs
behind_bytes (b ∷ bs) [] = None
behind_bytes (b ∷ bs) (c ∷ xs) = cond (eqb c b) (behind_bytes bs xs) None

-- Whether a prefix goes on there, or ends: prefixes are read before keywords.
abbrev pub prefix_goes_on : List ℕ → Bool
prefix_goes_on [] = false
prefix_goes_on (c ∷ r) = is_lower c || is_digit c || eqb c 39

abbrev pub ended : Keyword → Option (List ℕ) → Option (Keyword × List ℕ)
ended w None = None
ended w (Some r) = cond (prefix_goes_on r) None (Some (w, r))

abbrev pub if_keyword : Option Keyword → List ℕ → Option (Keyword × List ℕ)
if_keyword None xs = None
if_keyword (Some w) xs = ended w (behind_bytes (keyword_text w) xs)

-- The keyword that stands in front, and what follows it.
unfoldable pub keyword_at : List ℕ → Option (Keyword × List ℕ)
keyword_at [] = None
keyword_at (c ∷ r) = if_keyword (keyword_of c) (c ∷ r)

-- the number of a tag: decimal digits without a leading zero
abbrev pub tag_number : List ℕ → Option ℕ
tag_number x = cond (same x (decimal (number_of 10 x)) && nat_lt (number_of 10 x) (2 ^ 64)) (Some (number_of 10 x)) None

-- Each rule, by readers for a smaller text: `g n` for what nests at most n deep.
module _ (g : ℕ → (s : Rule) → Reader s) where
  -- an item between parentheses, behind a label
  unfoldable pub enclosed_item : (limit : ℕ) → OpenerKind → Reader OneItem
  enclosed_item zero l xs = byte 40 xs >>= λ r. Err TooDeep
  enclosed_item (suc limit) l xs = byte 40 xs >>= λ r. g limit Standalone r >>= λ w. byte 41 w.1 >>= λ r. Ok (EnclosedTree l w.0, r)

  -- behind the number of a tag and its indicator
  unfoldable pub tag_item : ℕ → List ℕ → Option Indicator → Reader OneItem
  tag_item limit x i xs = or_invalid (tag_number x) >>= λ n. enclosed_item limit (Tag i n) xs

  -- behind a number and its indicator: where a parenthesis follows, they are those of a tag
  unfoldable pub number_end : ℕ → List ℕ → Option Indicator → Reader OneItem
  number_end limit x i xs = cond (starts_with 40 xs) (tag_item limit x i xs) (Ok (NumberTree x i, xs))

  unfoldable pub number_item : ℕ → Reader OneItem
  number_item limit xs = token number xs >>= λ x. number_end limit x.0 (indicator_at x.1).0 (indicator_at x.1).1

  -- behind a keyword
  unfoldable pub keyword_item : ℕ → Keyword → Reader OneItem
  keyword_item limit (Named b) xs = Ok (NamedTree b, xs)
  keyword_item limit Simple xs = enclosed_item limit opener.Simple xs
  keyword_item limit (NonFinite f) xs = Ok (FloatTree f (indicator_at xs).0, (indicator_at xs).1)

  -- behind the opening byte
  unfoldable pub list_item : (limit : ℕ) → Bracketed → Reader OneItem
  list_item zero k xs = Err TooDeep
  list_item (suc limit) k xs = g limit (Inside k) xs >>= λ w. byte (close_byte k) w.1 >>= λ r. Ok (ListTree k w.0, r)

  -- behind the parenthesis that opens it
  unfoldable pub stream_item : ℕ → Reader OneItem
  stream_item limit xs = byte 95 xs >>= λ r. token space r >>= λ s. not_empty s.0 >>= λ ms. g limit (Rest Strings) s.1 >>= λ m. byte 41 m.1 >>= λ r. Ok (StreamTree ms m.0, r)

  unfoldable pub string_item : ℕ → Reader OneItem
  string_item limit xs = g limit OneString xs >>= λ w. Ok (StringTree w.0, w.1)

  -- a keyword, where one stands in front, else a string or a number
  unfoldable pub plain_item : ℕ → Option (Keyword × List ℕ) → Reader OneItem
  plain_item limit (Some w) xs = keyword_item limit w.0 w.1
  plain_item limit None xs = cond (starts_string xs) (string_item limit xs) (number_item limit xs)

  unfoldable pub item : ℕ → Reader OneItem
  item limit [] = Err Invalid
  item limit (c ∷ xs) =
      cond (eqb c 91) (list_item limit Array xs) (
      cond (eqb c 123) (list_item limit Map xs) (
      cond (eqb c 40) (stream_item limit xs) (
      plain_item limit (keyword_at (c ∷ xs)) (c ∷ xs))))

  unfoldable pub literal_piece : Reader OnePiece
  literal_piece xs = token literal xs >>= λ x. Ok (LiteralTree x.0 (indicator_at x.1).0, (indicator_at x.1).1)

  unfoldable pub ellipsis_piece : Reader OnePiece
  ellipsis_piece xs = token ellipsis xs >>= λ x. Ok (EllipsisTree x.0, x.1)

  -- behind `<<`
  unfoldable pub embedded_piece : ℕ → Reader OnePiece
  embedded_piece zero xs = Err TooDeep
  embedded_piece (suc limit) xs = g limit Seq xs >>= λ w. byte 62 w.1 >>= λ r. byte 62 r >>= λ r. Ok (EmbeddedTree w.0 (indicator_at r).0, (indicator_at r).1)

  unfoldable pub piece : ℕ → Reader OnePiece
  piece limit [] = Err Invalid
  piece limit (c ∷ xs) =
      cond (eqb c 60) (byte 60 xs >>= embedded_piece limit) (
      cond (eqb c 46) (ellipsis_piece (c ∷ xs)) (literal_piece (c ∷ xs)))

  -- behind the plus sign
  unfoldable pub plus_string : ℕ → Tree OnePiece → List ℕ → Reader OneString
  plus_string limit p s xs = byte 43 xs >>= λ r. token space r >>= λ t. g limit OneString t.1 >>= λ w. Ok (PlusTree p s t.0 w.0, w.1)

  -- The space behind a piece is read to see whether a plus sign joins another one.
  unfoldable pub string : ℕ → Reader OneString
  string limit xs = g limit OnePiece xs >>= λ p. token space p.1 >>= λ s. cond (joins s.1) (plus_string limit p.0 s.0 s.1) (Ok (LastPieceTree p.0, p.1))

  unfoldable pub entry : ℕ → (k : Row) → Reader (OneEntry k)
  entry limit Elements xs = g limit OneItem xs >>= λ w. Ok (ElementTree w.0, w.1)
  entry limit Strings xs = g limit OneString xs >>= λ w. Ok (ChunkTree w.0, w.1)
  entry limit Pairs xs = g limit OneItem xs >>= λ v. token space v.1 >>= λ s. byte 58 s.1 >>= λ r. token space r >>= λ t. g limit OneItem t.1 >>= λ w. Ok (PairTree v.0 s.0 t.0 w.0, w.1)

  unfoldable pub inside_full : ℕ → (k : Bracketed) → Option Indicator → List ℕ → Reader (Inside k)
  inside_full limit k i s xs = list_head_of i s >>= λ h. g limit (Rest (entries_of k)) xs >>= λ m. Ok (FullTree h.0 h.1 m.0, m.1)

  unfoldable pub inside : ℕ → (k : Bracketed) → Reader (Inside k)
  inside limit k xs = token space (indicator_at xs).1 >>= λ s. cond (is_closed s.1) (Ok (EmptyTree (indicator_at xs).0 s.0, s.1)) (inside_full limit k (indicator_at xs).0 s.0 s.1)

  unfoldable pub more : ℕ → (k : Row) → Tree (OneEntry k) → List ℕ → Reader (Rest k)
  more limit k e s xs = not_empty s >>= λ s. g limit (Rest k) xs >>= λ m. Ok (MoreTree e s m.0, m.1)

  unfoldable pub rest : ℕ → (k : Row) → Reader (Rest k)
  rest limit k xs = g limit (OneEntry k) xs >>= λ e. token separator e.1 >>= λ s. cond (is_closed s.1) (Ok (LastTree e.0 s.0, s.1)) (more limit k e.0 s.0 s.1)

  unfoldable pub sequence : ℕ → Reader Seq
  sequence limit xs = token space xs >>= λ s. cond (is_closed s.1) (Ok (NothingTree s.0, s.1)) (g limit (Rest Elements) s.1 >>= λ m. Ok (SequenceTree s.0 m.0, m.1))

  unfoldable pub standalone : ℕ → Reader Standalone
  standalone limit xs = token space xs >>= λ s. g limit OneItem s.1 >>= λ w. token space w.1 >>= λ t. Ok (StandaloneTree s.0 w.0 t.0, t.1)

  abbrev pub rule : ℕ → (s : Rule) → Reader s
  rule limit OneItem = item limit
  rule limit OnePiece = piece limit
  rule limit OneString = string limit
  rule limit (OneEntry k) = entry limit k
  rule limit (Inside k) = inside limit k
  rule limit (Rest k) = rest limit k
  rule limit Seq = sequence limit
  rule limit Standalone = standalone limit

-- with so many steps at most
unfoldable pub read : ℕ → ℕ → (s : Rule) → Reader s
read zero limit s xs = Err Invalid
read (suc steps) limit s xs = rule (read steps) limit s xs

-- Enough steps for every text.
unfoldable pub reads : ℕ → (s : Rule) → Reader s
reads limit s xs = read (8 * length xs + 8) limit s xs

-- what is read, where it nests at most so deep
abbrev pub outcome : {A : Type 0} → ℕ → ℕ → A → Result A ParseErrorKind
outcome depth limit x = cond (nat_le depth limit) (Ok x) (Err TooDeep)

-- a use of a rule that is all of a text
abbrev pub at_end : {A : Type 0} → A × List ℕ → Result A ParseErrorKind
at_end (x, []) = Ok x
at_end (x, c ∷ r) = Err Invalid

unfoldable pub reads_all : ℕ → (s : Rule) → List ℕ → Result (Tree s) ParseErrorKind
reads_all limit s xs = reads limit s xs >>= at_end
