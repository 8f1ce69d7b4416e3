-- What is gathered and pushed of strings is the encoding of what they mean.
use Rattle.std.proofs.Common.{◌≡◌, ℕ, ◌<◌, ◌≤◌, Bool, true, false, cond, ◌&&◌, List, [], ◌∷◌, ◌++◌, length, map, get_or, Option, Some, None, is_none, is_some, not, Result, Ok, Err, refl, sym, ap, subst, ◌∙◌, append_assoc, arith, inl, inr}
use Rattle.std.specs.Option.{unwrap_or}
use Rattle.std.specs.Str.{IsUtf8}
use Rattle.std.proofs.lemmas.List.{append-nil}
use Rattle.std.proofs.lemmas.Str.{IsUtf8-nil, is_utf8-from_IsUtf8}
use Rattle.cbor_edn_parts.specs.declared.base.error.Fault.{Fault}
use Rattle.cbor_edn_parts.specs.declared.base.error.Fault.TheVariants.{Memory, Told}
use Rattle.cbor_edn_parts.specs.declared.base.error.InconsistentEdn.{InconsistentEdn}
use Rattle.cbor_edn_parts.specs.declared.base.indicator.Indicator.{Indicator}
use Rattle.cbor_edn_parts.specs.declared.base.indicator.Indicator.TheVariants as indicator
use Rattle.cbor_edn_parts.specs.declared.string.StringKind.{StringKind}
use Rattle.cbor_edn_parts.specs.declared.string.StringKind.TheVariants.{Bytes, Text}
use Rattle.cbor_edn_parts.specs.string.Contents.{Content}
use Rattle.cbor_edn_parts.specs.base.Refusals.{IfTold}
use Rattle.cbor_edn_model.specs.declared.cbor.heads.Width.{Width}
use Rattle.cbor_edn_model.specs.tree.Items as nodes
use Rattle.cbor_edn_model.specs.tree.Items.{Strings, Pieces, Node, Entries, Items, String, Stream, Embedded, Chunk, Then}
use Rattle.cbor_edn_model.specs.tree.Trees.{Tree, OnePiece, OneString, OneEntry, Rest, LastPieceTree, ChunkTree, LastTree, NothingTree, SequenceTree, items}
use Rattle.cbor_edn_model.specs.tree.Rows.{pieces_onto, entries_onto}
use Rattle.cbor_edn_model.specs.cbor.Value as values
use Rattle.cbor_edn_model.specs.cbor.Value.{chunks, head, string_major, is_content, chunk_encoding, encoding, encodings}
use Rattle.cbor_edn_model.specs.cbor.Meaning.{NoEncoding, ◌>>=◌, width_of, joined, piece_indicator, have_no_indicators, pieces_indicator, chunk_of, string_of, same_kind, chunks_of, stream_of, means}
use Rattle.cbor_edn_model.specs.internal.Encoding.{Encodes, Finds, Gathers, entry_encoding, string_encodings, piece_kind, form_kind, first_kind, kinds_are, stream_kind, no_indicators, row_items, list_head, list_end}
use Rattle.cbor_edn_model.proofs.lemmas.cbor.MeaningSteps.{bind, both_steps, some_if, some_is}
use Rattle.cbor_edn_model.proofs.lemmas.cbor.Meanings.{given_chunk, string_value, stream_value, chunks_are}
use Rattle.cbor_edn_model.proofs.lemmas.cbor.StringKinds.{Strings_of, is_or_not, chunk_of_kind, all_of_kind, one_of_other_kind}
use Rattle.cbor_edn_model.proofs.lemmas.cbor.CborEncodes.{Pushed}

-- The bytes of a text are the content of any kind of string.
pub text_content : (k : StringKind) (bs : List ℕ) → IsUtf8 bs → is_content k bs ≡ true
text_content Bytes bs utf8 = refl
text_content Text bs utf8 = is_utf8-from_IsUtf8 bs utf8

-- what is no content makes no string
pub no_string : (k : StringKind) (bs : List ℕ) (i : Option Indicator) → is_content k bs ≡ false → string_of (k, bs) i ≡ None
no_string k [] i invalid = let valid = text_content k [] IsUtf8-nil in absurd cc
no_string k (b ∷ bs) i invalid = ap (λ s. cond s (width_of i (length (b ∷ bs)) >>= given_chunk k (b ∷ bs)) None >>= string_value) invalid

abbrev pub Gathered : Type 0
Gathered = Result StringKind (Fault InconsistentEdn)

-- ---- a string with its content

abbrev chunk_bytes : StringKind × values.Chunk → List ℕ
chunk_bytes p = chunk_encoding p.0 p.1

abbrev head_bytes : StringKind → List ℕ → Width → List ℕ
head_bytes k bs w = head (string_major k) w (length bs)

abbrev if_sound : Bool → Option Width → StringKind → List ℕ → Option (StringKind × values.Chunk)
if_sound sound w k bs = cond sound (w >>= given_chunk k bs) None

pub chunk_pushed : (k : StringKind) (bs : List ℕ) (i : Option Indicator) (old middle new : List ℕ) → is_content k bs ≡ true → Encodes (head_bytes k bs) (width_of i (length bs)) old middle (Ok tt) → new ≡ middle ++ bs → Encodes chunk_bytes (chunk_of (k, bs) i) old new (Ok tt)
chunk_pushed k bs i old middle new sound (w, width, is) behind =
    ((k, (w, bs)), ap (λ b. if_sound b (width_of i (length bs)) k bs) sound ∙ ap (λ o. if_sound true o k bs) width, behind ∙ ap (λ (l : List ℕ). l ++ bs) is ∙ append_assoc old (head_bytes k bs w) bs)

definite : (k : StringKind) (bs : List ℕ) (i : Option Indicator) (old new : List ℕ) (r : Pushed) → Encodes chunk_bytes (chunk_of (k, bs) i) old new r → Encodes encoding (chunk_of (k, bs) i >>= string_value) old new r
definite k bs i old new (Ok u) (p, is, e) = (values.string p.0 p.1.0 p.1.1, ap (λ o. o >>= string_value) is, e)
definite k bs i old new (Err (Told e)) none = ap (λ o. o >>= string_value) none
definite k bs i old new (Err (Memory e)) none = tt

-- what is not both empty and with the indicator `_`
pub definite_pushed : (k : StringKind) (bs : List ℕ) (i : Option Indicator) (old new : List ℕ) (r : Pushed) → (length bs ≡ 0 → i ≡ Some indicator.Indefinite → ⊥) → Encodes chunk_bytes (chunk_of (k, bs) i) old new r → Encodes encoding (string_of (k, bs) i) old new r
definite_pushed k [] (Some indicator.Indefinite) old new r not pushed = absurd (not refl refl)
definite_pushed k [] None old new r not pushed = definite k [] None old new r pushed
definite_pushed k [] (Some indicator.Immediate) old new r not pushed = definite k [] (Some indicator.Immediate) old new r pushed
definite_pushed k [] (Some indicator.One) old new r not pushed = definite k [] (Some indicator.One) old new r pushed
definite_pushed k [] (Some indicator.Two) old new r not pushed = definite k [] (Some indicator.Two) old new r pushed
definite_pushed k [] (Some indicator.Four) old new r not pushed = definite k [] (Some indicator.Four) old new r pushed
definite_pushed k [] (Some indicator.Eight) old new r not pushed = definite k [] (Some indicator.Eight) old new r pushed
definite_pushed k (b ∷ bs) i old new r not pushed = definite k (b ∷ bs) i old new r pushed

pub indefinite_pushed : (k : StringKind) (bs : List ℕ) (i : Option Indicator) (old middle new : List ℕ) → length bs ≡ 0 → i ≡ Some indicator.Indefinite → middle ≡ old ++ list_head (string_major k) None 0 → new ≡ middle ++ list_end None → Encodes encoding (string_of (k, bs) i) old new (Ok tt)
indefinite_pushed k [] i old middle new empty indicated opened ended =
    (chunks k [], ap (λ i. string_of (k, []) i) indicated, ended ∙ ap (λ (l : List ℕ). l ++ list_end None) opened ∙ append_assoc old (list_head (string_major k) None 0) (list_end None))
indefinite_pushed k (b ∷ bs) i old middle new empty indicated opened ended = absurd cc

-- a string by itself, or as one of a stream, from its content and its indicator
module _ {X : Type 0} (encode : X → List ℕ) (make : Content → Option Indicator → Option X) (w : Node Pieces) where
  abbrev made : Option Content → Option (Option Indicator) → Option X
  made c i = c >>= λ c. i >>= make c

  pub unit_pushed : (i : Option Indicator) (k : StringKind) (bs old new : List ℕ) (r : Pushed) → pieces_indicator w ≡ Some i → means w ≡ Some (k, bs) → Encodes encode (make (k, bs) i) old new r → Encodes encode (made (means w) (pieces_indicator w)) old new r
  unit_pushed i k bs old new r indicated meant pushed = rw (meant, indicated) pushed

  pub unit_unfit : (old new : List ℕ) (f : Fault InconsistentEdn) → Finds (pieces_indicator w) (Err f) → Encodes encode (made (means w) (pieces_indicator w)) old new (Err f)
  unit_unfit old new (Told e) none = by_content (means w) none
    where
      by_content : (o : Option Content) → pieces_indicator w ≡ None → made o (pieces_indicator w) ≡ None
      by_content None none = refl
      by_content (Some c) none = ap (λ i. made (Some c) i) none
  unit_unfit old new (Memory e) none = tt

-- ---- indicators

grouped : (a b c : Bool) → (a && (b && c)) ≡ ((a && b) && c)
grouped true b c = refl
grouped false b c = refl

pub no_indicators_behind : (ps : List (Tree OnePiece × List ℕ × List ℕ)) (w : Tree OneString) → have_no_indicators (items (pieces_onto ps w)) ≡ (no_indicators ps && have_no_indicators (items w))
unfolding items
no_indicators_behind [] w = refl
no_indicators_behind (p ∷ ps) w = ap (λ b. is_none (piece_indicator (items p.0)) && b) (no_indicators_behind ps w) ∙ grouped (is_none (piece_indicator (items p.0))) (no_indicators ps) (have_no_indicators (items w))

abbrev pub if_no_indicators : Bool → Option (Option Indicator)
if_no_indicators b = cond b (Some None) None

several_indicators : (p : Tree OnePiece × List ℕ × List ℕ) (ps : List (Tree OnePiece × List ℕ × List ℕ)) (last : Tree OnePiece) → pieces_indicator (items (pieces_onto (p ∷ ps) (LastPieceTree last))) ≡ if_no_indicators (no_indicators (p ∷ ps) && is_none (piece_indicator (items last)))
unfolding items
several_indicators p ps last = ap if_no_indicators (no_indicators_behind (p ∷ ps) (LastPieceTree last))

pub none_is : {A : Type 0} (o : Option A) (b : Bool) → is_some o ≡ not b → is_none o ≡ b
none_is None true e = refl
none_is None false e = absurd cc
none_is (Some x) true e = absurd cc
none_is (Some x) false e = refl

pub both_are : (a b x y : Bool) → a ≡ x → b ≡ y → (a && b) ≡ (x && y)
both_are a b x y e f = cc

pub second_is_not : (a b : Bool) → b ≡ false → (a && b) ≡ false
second_is_not true b e = e
second_is_not false b e = refl

pub one_indicator : (ps : List (Tree OnePiece × List ℕ × List ℕ)) (last : Tree OnePiece) → length ps ≡ 0 → pieces_indicator (items (pieces_onto ps (LastPieceTree last))) ≡ Some (piece_indicator (items last))
unfolding items
one_indicator [] last empty = refl
one_indicator (p ∷ ps) last empty = absurd cc

pub indicators_told : (ps : List (Tree OnePiece × List ℕ × List ℕ)) (last : Tree OnePiece) (b : Bool) → (length ps ≡ 0 → ⊥) → (no_indicators ps && is_none (piece_indicator (items last))) ≡ b → pieces_indicator (items (pieces_onto ps (LastPieceTree last))) ≡ if_no_indicators b
indicators_told [] last b some e = absurd (some refl)
indicators_told (p ∷ ps) last b some e = several_indicators p ps last ∙ ap if_no_indicators e

-- ---- gathering

-- what is answered where the kind may be known
abbrev pub under : Option StringKind → Gathered → Gathered
under kind (Ok k) = Ok (unwrap_or kind k)
under kind (Err f) = Err f

-- Whatever is then gathered gives what gathering the whole string gives.
abbrev pub GathersRest : List (Tree OnePiece × List ℕ × List ℕ) → List (Tree OnePiece × List ℕ × List ℕ) → Option StringKind → List ℕ → List ℕ → Type 0
GathersRest left all kind middle old = (w : Tree OneString) (r : Gathered) (new : List ℕ) → Gathers (means (items (pieces_onto left w))) middle new r → Gathers (means (items (pieces_onto all w))) old new (under kind r)

pub none_gathered : (all : List (Tree OnePiece × List ℕ × List ℕ)) (old : List ℕ) → GathersRest all all None old old
none_gathered all old w (Ok k) new g = g
none_gathered all old w (Err f) new g = g

abbrev joins : Option Content → Option Content → Option Content
joins o p = o >>= λ c. p >>= λ d. Some (joined c d)

plus_gathered : (o p : Option Content) (old middle new : List ℕ) (k l : StringKind) → Gathers o old middle (Ok k) → Gathers p middle new (Ok l) → Gathers (joins o p) old new (Ok k)
plus_gathered o p old middle new k l (b, first, is) (d, others, behind) = (b ++ d, ap (λ o. joins o p) first ∙ ap (joins (Some (k, b))) others, behind ∙ ap (λ (x : List ℕ). x ++ d) is ∙ append_assoc old b d)

no_others : (o p : Option Content) (f : Fault InconsistentEdn) (old middle new : List ℕ) → Gathers p middle new (Err f) → Gathers (joins o p) old new (Err f)
no_others None p (Told e) old middle new none = refl
no_others (Some c) p (Told e) old middle new none = ap (joins (Some c)) none
no_others o p (Memory e) old middle new none = tt

no_first : (o p : Option Content) (f : Fault InconsistentEdn) (old middle new : List ℕ) → Gathers o old middle (Err f) → Gathers (joins o p) old new (Err f)
no_first o p (Told e) old middle new none = ap (λ o. joins o p) none
no_first o p (Memory e) old middle new none = tt

pub next_gathered : (p : Tree OnePiece × List ℕ × List ℕ) (left all : List (Tree OnePiece × List ℕ × List ℕ)) (kind : Option StringKind) (old middle after : List ℕ) (k : StringKind) → Gathers (means (items p.0)) middle after (Ok k) → GathersRest (p ∷ left) all kind middle old → GathersRest left all (Some (unwrap_or kind k)) after old
unfolding means items
next_gathered p left all kind old middle after k one rest w (Ok l) new others = rest w (Ok k) new (plus_gathered (means (items p.0)) (means (items (pieces_onto left w))) middle after new k l one others)
next_gathered p left all kind old middle after k one rest w (Err f) new others = rest w (Err f) new (no_others (means (items p.0)) (means (items (pieces_onto left w))) f middle after new others)

pub next_ungathered : (p : Tree OnePiece × List ℕ × List ℕ) (left all : List (Tree OnePiece × List ℕ × List ℕ)) (kind : Option StringKind) (old middle after : List ℕ) (f : Fault InconsistentEdn) (w : Tree OneString) → Gathers (means (items p.0)) middle after (Err f) → GathersRest (p ∷ left) all kind middle old → Gathers (means (items (pieces_onto all w))) old after (Err f)
unfolding means items
next_ungathered p left all kind old middle after f w one rest = rest w (Err f) after (no_first (means (items p.0)) (means (items (pieces_onto left w))) f middle after after one)

pub all_gathered : (all : List (Tree OnePiece × List ℕ × List ℕ)) (last : Tree OnePiece) (kind : Option StringKind) (old middle new : List ℕ) (r : Gathered) → Gathers (means (items last)) middle new r → GathersRest [] all kind middle old → Gathers (means (items (pieces_onto all (LastPieceTree last)))) old new (under kind r)
unfolding means items
all_gathered all last kind old middle new r one rest = rest (LastPieceTree last) r new one

pub embedded_gathered : (m : Items) (i : Option Indicator) (old new : List ℕ) → Encodes encodings (means m) old new (Ok tt) → Gathers (means (Embedded m i)) old new (Ok Bytes)
unfolding means
embedded_gathered m i old new (vs, meant, is) = (encodings vs, ap (λ o. bind o (λ vs. Some (Bytes, encodings vs))) meant, is)

pub embedded_stops : (m : Items) (i : Option Indicator) (old middle new : List ℕ) (f : Fault InconsistentEdn) → Encodes encodings (means m) old middle (Err f) → Gathers (means (Embedded m i)) old new (Err f)
unfolding means
embedded_stops m i old middle new (Told e) none = ap (λ o. bind o (λ vs. Some (Bytes, encodings vs))) none
embedded_stops m i old middle new (Memory e) none = tt

-- ---- streams

-- a row has a first entry
abbrev pub HasFirst : Node (Entries Strings) → Type 0
HasFirst m = (w : Node Pieces) × (n : Node (Entries Strings)) × (m ≡ Then (Chunk w) n)

stream_is : (k : StringKind) (w : Node Pieces) (n : Node (Entries Strings)) (r : Strings_of) → k ≡ form_kind w → means (Then (Chunk w) n) ≡ Some r → stream_of r ≡ (chunks_of k r >>= stream_value k)
unfolding means
stream_is k w n r same e =
    let a = both_steps (means (Chunk w)) (λ p. means n >>= λ ps. Some (p ∷ ps)) r e in
    let b = both_steps (means n) (λ ps. Some (a.0 ∷ ps)) r a.2 in
    let first : a.0.0 ≡ k = chunk_of_kind w a.0 a.1 ∙ sym same in
    subst (λ r. stream_of r ≡ (chunks_of k r >>= stream_value k)) (some_is (a.0 ∷ b.0) r b.2) (ap (λ k. chunks_of k (a.0 ∷ b.0) >>= stream_value k) first)

pub stream_pushed : (m : Node (Entries Strings)) (k : StringKind) (old first second new : List ℕ) → HasFirst m → stream_kind m ≡ Some k → first ≡ old ++ list_head (string_major k) None 0 → Encodes string_encodings (means m) first second (Ok tt) → new ≡ second ++ list_end None → Encodes encoding (means (Stream m)) old new (Ok tt)
unfolding means
stream_pushed m k old first second new (w, n, m_is) kind opened (r, meant, is) ended =
    let s = some_if (kinds_are (form_kind w) (Then (Chunk w) n)) (form_kind w) k (subst (λ m. stream_kind m ≡ Some k) m_is kind) in
    let meant' : means (Then (Chunk w) n) ≡ Some r = ap means (sym m_is) ∙ meant in
    let all = all_of_kind (form_kind w) (Then (Chunk w) n) r meant' s.0 in
    let of_kind : chunks_of k r ≡ Some all.0 = ap (λ k. chunks_of k r) (sym s.1) ∙ all.1 in
    let whole : string_encodings r ≡ values.chunk_encodings k all.0 = (chunks_are k r all.0 of_kind).0 in (
      chunks k all.0,
      ap (λ o. bind o stream_of) meant ∙ stream_is k w n r (sym s.1) meant' ∙ ap (λ o. bind o (stream_value k)) of_kind,
      ended ∙ ap (λ (l : List ℕ). l ++ list_end None) (is ∙ ap (λ (l : List ℕ). l ++ string_encodings r) opened ∙ append_assoc old (list_head (string_major k) None 0) (string_encodings r)) ∙ append_assoc old (list_head (string_major k) None 0 ++ string_encodings r) (list_end None)
          ∙ ap (λ (l : List ℕ). old ++ ((list_head (string_major k) None 0 ++ l) ++ list_end None)) whole,
    )

pub stream_stops : (m : Node (Entries Strings)) (old first second new : List ℕ) (f : Fault InconsistentEdn) → Encodes string_encodings (means m) first second (Err f) → Encodes encoding (means (Stream m)) old new (Err f)
unfolding means
stream_stops m old first second new (Told e) none = ap (λ o. bind o stream_of) none
stream_stops m old first second new (Memory e) none = tt

pub stream_mixed : (m : Node (Entries Strings)) (old new : List ℕ) (f : Fault InconsistentEdn) → HasFirst m → Finds (stream_kind m) (Err f) → Encodes encoding (means (Stream m)) old new (Err f)
unfolding means
stream_mixed m old new (Told e) (w, n, m_is) none = ap (λ m. means (Stream m)) m_is ∙ by_meaning (means (Then (Chunk w) n)) refl
  where
    mixed : kinds_are (form_kind w) (Then (Chunk w) n) ≡ false
    mixed = elim (is_or_not (kinds_are (form_kind w) (Then (Chunk w) n))) [
      | inl all ↦ (let h : stream_kind (Then (Chunk w) n) ≡ Some (form_kind w) = ap (λ b. cond b (Some (form_kind w)) None) all in let g = subst (λ m. stream_kind m ≡ None) m_is none in absurd cc)
      | inr other ↦ other
    ]

    by_meaning : (o : Option Strings_of) → means (Then (Chunk w) n) ≡ o → bind o stream_of ≡ None
    by_meaning None e = refl
    by_meaning (Some r) e = stream_is (form_kind w) w n r refl e ∙ ap (λ o. bind o (stream_value (form_kind w))) (one_of_other_kind (form_kind w) (Then (Chunk w) n) r e mixed)
stream_mixed m old new (Memory e) first none = tt

behind_true : (a : Bool) → (a && true) ≡ a
behind_true true = refl
behind_true false = refl

pub kinds_behind : (k : StringKind) (ps : List (Tree (OneEntry Strings) × List ℕ)) (w : Tree OneString) (s : List ℕ) → kinds_are k (items (entries_onto ps (LastTree (ChunkTree w) s))) ≡ (kinds_are k (row_items ps) && same_kind k (form_kind (items w)))
unfolding items
kinds_behind k [] w s = behind_true (same_kind k (form_kind (items w)))
kinds_behind k ((ChunkTree v, t) ∷ ps) w s = ap (λ b. same_kind k (form_kind (items v)) && b) (kinds_behind k ps w s) ∙ grouped (same_kind k (form_kind (items v))) (kinds_are k (row_items ps)) (same_kind k (form_kind (items w)))

abbrev pub kind_if : Bool → StringKind → Option StringKind
kind_if b k = cond b (Some k) None

pub kind_told : (ps : List (Tree (OneEntry Strings) × List ℕ)) (w : Tree OneString) (s : List ℕ) (k : StringKind) (b : Bool) → k ≡ first_kind (items (entries_onto ps (LastTree (ChunkTree w) s))) → (kinds_are k (row_items ps) && same_kind k (form_kind (items w))) ≡ b → stream_kind (items (entries_onto ps (LastTree (ChunkTree w) s))) ≡ kind_if b k
kind_told ps w s k b first e = ap (λ k. kind_if (kinds_are k (items (entries_onto ps (LastTree (ChunkTree w) s)))) k) (sym first) ∙ ap (λ b. kind_if b k) (kinds_behind k ps w s ∙ e)

-- the kind of the first of a row, and that of its first piece
pub first_of_none : (ps : List (Tree (OneEntry Strings) × List ℕ)) (w : Tree OneString) (s : List ℕ) → length ps < 1 → first_kind (items (entries_onto ps (LastTree (ChunkTree w) s))) ≡ form_kind (items w)
unfolding items
first_of_none [] w s empty = refl
first_of_none (p ∷ ps) w s empty = absurd (omega arith)

pub first_of_some : {A : Type 0} (f : A → Tree OneString) (g : A → List ℕ) (xs : List A) (x : A) (m : Tree (Rest Strings)) → 1 ≤ length xs → x ≡ get_or xs 0 x → first_kind (items (entries_onto (map (λ a. (ChunkTree (f a), g a)) xs) m)) ≡ form_kind (items (f x))
unfolding items
first_of_some f g [] x m some is = absurd (omega arith)
first_of_some f g (y ∷ xs) x m some is = ap (λ y. form_kind (items (f y))) (sym is)

pub form_of_none : (ps : List (Tree OnePiece × List ℕ × List ℕ)) (last : Tree OnePiece) → length ps < 1 → form_kind (items (pieces_onto ps (LastPieceTree last))) ≡ piece_kind (items last)
unfolding items
form_of_none [] last empty = refl
form_of_none (p ∷ ps) last empty = absurd (omega arith)

pub form_of_some : {A : Type 0} (f : A → Tree OnePiece) (g h : A → List ℕ) (xs : List A) (x : A) (w : Tree OneString) → 1 ≤ length xs → x ≡ get_or xs 0 x → form_kind (items (pieces_onto (map (λ a. (f a, g a, h a)) xs) w)) ≡ piece_kind (items (f x))
unfolding items
form_of_some f g h [] x w some is = absurd (omega arith)
form_of_some f g h (y ∷ xs) x w some is = ap (λ y. piece_kind (items (f y))) (sym is)

pub has_first : (ps : List (Tree (OneEntry Strings) × List ℕ)) (w : Tree OneString) (s : List ℕ) → HasFirst (items (entries_onto ps (LastTree (ChunkTree w) s)))
unfolding items
has_first [] w s = (items w, nodes.End, refl)
has_first ((ChunkTree v, t) ∷ ps) w s = (items v, items (entries_onto ps (LastTree (ChunkTree w) s)), refl)

-- ---- a string by its parts

pub string_pushed : (w : Node Pieces) (i : Option Indicator) (k : StringKind) (bs old new : List ℕ) (r : Pushed) → pieces_indicator w ≡ Some i → means w ≡ Some (k, bs) → Encodes encoding (string_of (k, bs) i) old new r → Encodes encoding (means (String w)) old new r
unfolding means
string_pushed w = unit_pushed encoding string_of w

pub string_unfit : (w : Node Pieces) (old new : List ℕ) (f : Fault InconsistentEdn) → Finds (pieces_indicator w) (Err f) → Encodes encoding (means (String w)) old new (Err f)
unfolding means
string_unfit w = unit_unfit encoding string_of w

pub string_lacks : (w : Node Pieces) (old new : List ℕ) (f : Fault InconsistentEdn) → IfTold {X = StringKind} (Err f) (NoEncoding (means w)) → Encodes encoding (means (String w)) old new (Err f)
unfolding means
string_lacks w old new (Told e) none = ap (λ o. bind o (λ c. pieces_indicator w >>= string_of c)) none
string_lacks w old new (Memory e) none = tt

pub part_pushed : (w : Node Pieces) (i : Option Indicator) (k : StringKind) (bs old new : List ℕ) (r : Pushed) → pieces_indicator w ≡ Some i → means w ≡ Some (k, bs) → Encodes (entry_encoding Strings) (chunk_of (k, bs) i) old new r → Encodes (entry_encoding Strings) (means (Chunk w)) old new r
unfolding means
part_pushed w = unit_pushed (entry_encoding Strings) chunk_of w

pub part_unfit : (w : Node Pieces) (old new : List ℕ) (f : Fault InconsistentEdn) → Finds (pieces_indicator w) (Err f) → Encodes (entry_encoding Strings) (means (Chunk w)) old new (Err f)
unfolding means
part_unfit w = unit_unfit (entry_encoding Strings) chunk_of w

pub part_lacks : (w : Node Pieces) (old new : List ℕ) (f : Fault InconsistentEdn) → IfTold {X = StringKind} (Err f) (NoEncoding (means w)) → Encodes (entry_encoding Strings) (means (Chunk w)) old new (Err f)
unfolding means
part_lacks w old new (Told e) none = ap (λ o. bind o (λ c. pieces_indicator w >>= chunk_of c)) none
part_lacks w old new (Memory e) none = tt

pub part_is : (w : Tree OneString) (old new : List ℕ) (r : Pushed) → Encodes (entry_encoding Strings) (means (Chunk (items w))) old new r → Encodes (entry_encoding Strings) (means (items (ChunkTree w))) old new r
unfolding items
part_is w old new r pushed = pushed

-- what is told in place of another refusal
pub refused_so : {Y : Type 0} (o : Option Y) (f : Fault InconsistentEdn) → o ≡ None → IfTold {X = StringKind} (Err f) (NoEncoding o)
refused_so o (Told e) none = none
refused_so o (Memory e) none = tt

abbrev given_content : StringKind → List ℕ → Option Content
given_content k bs = Some (k, bs)

-- gathered into nothing
pub content_is : (o : Option Content) (old new : List ℕ) (k : StringKind) → old ≡ [] → Gathers o old new (Ok k) → o ≡ Some (k, new)
content_is o old new k empty (bs, is, behind) = is ∙ ap (given_content k) (sym (behind ∙ ap (λ (l : List ℕ). l ++ bs) empty))

pub sequence_pushed : (s : List ℕ) (m : Tree (Rest nodes.Elements)) (old new : List ℕ) (r : Pushed) → Encodes encodings (means (items m)) old new r → Encodes encodings (means (items (SequenceTree s m))) old new r
unfolding items
sequence_pushed s m old new r pushed = pushed

pub nothing_pushed : (s old : List ℕ) → Encodes encodings (means (items (NothingTree s))) old old (Ok tt)
unfolding means items
nothing_pushed s old = (values.no_values, refl, sym (append-nil old))
