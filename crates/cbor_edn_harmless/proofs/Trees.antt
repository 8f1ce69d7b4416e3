-- A tree's text is written as the text of the harmless tree.
use Rattle.std.proofs.Common.{ℕ, ◌<◌, List, [], ◌∷◌, ◌++◌, Some, refl, sym, ap, subst, ◌∙◌, append_assoc, arith}
use Rattle.std.specs.Str.{chars, IsUtf8}
use Rattle.cbor_edn_parts.specs.base.Indicator.{indicator_text}
use Rattle.cbor_edn_parts.proofs.lemmas.base.Each.{Each, end, next}
use Rattle.cbor_edn_parts.proofs.lemmas.string.Applications.{behind_byte}
use Rattle.cbor_edn_model.specs.text.Spelling.{open_byte, close_byte}
use Rattle.cbor_edn_model.specs.text.Keywords.{non_finite_text}
use Rattle.cbor_edn_model.specs.tree.Items.{Bracketed, Array, Map}
use Rattle.cbor_edn_model.specs.tree.Trees.{Rule, Tree, Valid, ListHead, NoIndicator, WithIndicator, IsListHead, list_head_text, opener_text, onto, NumberTree, FloatTree, NamedTree, EnclosedTree, ListTree, StringTree, StreamTree, LiteralTree, EllipsisTree, EmbeddedTree, LastPieceTree, PlusTree, ElementTree, PairTree, ChunkTree, EmptyTree, FullTree, LastTree, MoreTree, NothingTree, SequenceTree, StandaloneTree}
use Rattle.cbor_edn_harmless.specs.declared.Place.TheVariants.{Outside}
use Rattle.cbor_edn_harmless.specs.Harmless.{in_space, in_quotes, harmless_space, harmless_literal, harmless_list_head, harmless}
use Rattle.cbor_edn_harmless.specs.internal.Rewriting.{rewritten}
use Rattle.cbor_edn_harmless.proofs.Characters.{IsNeutral}
use Rattle.cbor_edn_harmless.proofs.Walks.{Walks, Turns, walk_turns, neutral_turns}
use Rattle.cbor_edn_harmless.proofs.Spaces.{space_cut, end_cut, separator_cut, space_walks, end_walks, separator_walks, space_kept, mandatory_kept, end_kept, separator_kept}
use Rattle.cbor_edn_harmless.proofs.Literals.{literal_kept, literal_walks, literal_cut}
use Rattle.cbor_edn_harmless.proofs.Tokens.{indicator_neutral, named_neutral, float_neutral, opener_neutral, ellipsis_neutral, number_neutral}

-- ---- each space and each quoted text is UTF-8

abbrev pub IsReadableHead : ListHead → Type 0
IsReadableHead NoIndicator = Unit {0}
IsReadableHead (WithIndicator i ms) = IsUtf8 ms

unfoldable pub IsReadable : {s : Rule} → Tree s → Type 0
IsReadable (NumberTree x i) = Unit {0}
IsReadable (FloatTree f i) = Unit {0}
IsReadable (NamedTree b) = Unit {0}
IsReadable (EnclosedTree l w) = IsReadable w
IsReadable (ListTree k w) = IsReadable w
IsReadable (StringTree w) = IsReadable w
IsReadable (StreamTree ms m) = IsUtf8 ms × IsReadable m
IsReadable (LiteralTree x i) = IsUtf8 x
IsReadable (EllipsisTree x) = Unit {0}
IsReadable (EmbeddedTree w i) = IsReadable w
IsReadable (LastPieceTree p) = IsReadable p
IsReadable (PlusTree p s t w) = IsReadable p × IsUtf8 s × IsUtf8 t × IsReadable w
IsReadable (ElementTree w) = IsReadable w
IsReadable (PairTree v s t w) = IsReadable v × IsUtf8 s × IsUtf8 t × IsReadable w
IsReadable (ChunkTree w) = IsReadable w
IsReadable (EmptyTree i s) = IsUtf8 s
IsReadable (FullTree h s m) = IsReadableHead h × IsUtf8 s × IsReadable m
IsReadable (LastTree e s) = IsReadable e × IsUtf8 s
IsReadable (MoreTree e s m) = IsReadable e × IsUtf8 s × IsReadable m
IsReadable (NothingTree s) = IsUtf8 s
IsReadable (SequenceTree s m) = IsUtf8 s × IsReadable m
IsReadable (StandaloneTree s w t) = IsUtf8 s × IsReadable w × IsUtf8 t

-- what stands behind neutral bytes
behind : {x : List ℕ} (r : List ℕ) → Each IsNeutral x → IsUtf8 (x ++ r) → IsUtf8 r
behind r end utf8 = utf8
behind r (next {c = c} {x = x} h more) utf8 = behind r more (behind_byte [] c (x ++ r) (omega arith) utf8)

behind_one : (c : ℕ) (r : List ℕ) → c < 128 → IsUtf8 (c ∷ r) → IsUtf8 r
behind_one c r small utf8 = behind_byte [] c r small utf8

open_small : (k : Bracketed) → open_byte k < 128
open_small Array = omega arith
open_small Map = omega arith

close_small : (k : Bracketed) → close_byte k < 128
close_small Array = omega arith
close_small Map = omega arith

head_reads : (h : ListHead) → IsListHead h → (r : List ℕ) → IsUtf8 (list_head_text h ++ r) → IsReadableHead h × IsUtf8 r
head_reads NoIndicator v r utf8 = (tt, utf8)
head_reads (WithIndicator i ms) v r utf8 = space_cut v.0 r (behind (ms ++ r) (indicator_neutral (Some i)) (subst IsUtf8 (append_assoc (indicator_text (Some i)) ms r) utf8))

-- Where the whole is UTF-8, each space and each quoted text in it is, and so is what follows.
pub reads : {s : Rule} (w : Tree s) → Valid w → (r : List ℕ) → IsUtf8 (onto w r) → IsReadable w × IsUtf8 r
unfolding Valid onto IsReadable
reads (NumberTree x i) v r utf8 = (tt, behind r (indicator_neutral i) (behind (indicator_text i ++ r) (number_neutral v) utf8))
reads (FloatTree f i) v r utf8 = (tt, behind r (indicator_neutral i) (behind (indicator_text i ++ r) (float_neutral f) utf8))
reads (NamedTree b) v r utf8 = (tt, behind r (named_neutral b) utf8)
reads (EnclosedTree l w) v r utf8 =
    let a = reads w v.1 (41 ∷ r) (behind_one 40 _ (omega arith) (behind _ (opener_neutral l) utf8)) in
    (a.0, behind_one 41 r (omega arith) a.1)
reads (ListTree k w) v r utf8 =
    let a = reads w v (close_byte k ∷ r) (behind_one (open_byte k) _ (open_small k) utf8) in
    (a.0, behind_one (close_byte k) r (close_small k) a.1)
reads (StringTree w) v r utf8 = reads w v r utf8
reads (StreamTree ms m) v r utf8 =
    let a = space_cut v.0.0 _ (behind_one 95 _ (omega arith) (behind_one 40 _ (omega arith) utf8)) in
    let b = reads m v.1 (41 ∷ r) a.1 in
    ((a.0, b.0), behind_one 41 r (omega arith) b.1)
reads (LiteralTree x i) (q, t, is) r utf8 = let a = literal_cut q t x is (indicator_text i ++ r) utf8 in (a.0, behind r (indicator_neutral i) a.1)
reads (EllipsisTree x) v r utf8 = (tt, behind r (ellipsis_neutral v) utf8)
reads (EmbeddedTree w i) v r utf8 =
    let a = reads w v _ (behind_one 60 _ (omega arith) (behind_one 60 _ (omega arith) utf8)) in
    (a.0, behind r (indicator_neutral i) (behind_one 62 _ (omega arith) (behind_one 62 _ (omega arith) a.1)))
reads (LastPieceTree p) v r utf8 = reads p v r utf8
reads (PlusTree p s t w) v r utf8 =
    let a = reads p v.0 _ utf8 in
    let b = space_cut v.1 _ a.1 in
    let c = space_cut v.2 _ (behind_one 43 _ (omega arith) b.1) in
    let d = reads w v.3 r c.1 in
    ((a.0, b.0, c.0, d.0), d.1)
reads (ElementTree w) v r utf8 = reads w v r utf8
reads (PairTree x s t w) v r utf8 =
    let a = reads x v.0 _ utf8 in
    let b = space_cut v.1 _ a.1 in
    let c = space_cut v.2 _ (behind_one 58 _ (omega arith) b.1) in
    let d = reads w v.3 r c.1 in
    ((a.0, b.0, c.0, d.0), d.1)
reads (ChunkTree w) v r utf8 = reads w v r utf8
reads (EmptyTree i s) v r utf8 = space_cut v r (behind (s ++ r) (indicator_neutral i) utf8)
reads (FullTree h s m) v r utf8 =
    let a = head_reads h v.0 _ utf8 in
    let b = space_cut v.1 _ a.1 in
    let c = reads m v.2 r b.1 in
    ((a.0, b.0, c.0), c.1)
reads (LastTree e s) v r utf8 =
    let a = reads e v.0 _ utf8 in
    let b = end_cut v.1 r a.1 in
    ((a.0, b.0), b.1)
reads (MoreTree e s m) v r utf8 =
    let a = reads e v.0 _ utf8 in
    let b = separator_cut v.1 _ a.1 in
    let c = reads m v.2 r b.1 in
    ((a.0, b.0, c.0), c.1)
reads (NothingTree s) v r utf8 = space_cut v r utf8
reads (SequenceTree s m) v r utf8 =
    let a = space_cut v.0 _ utf8 in
    let b = reads m v.1 r a.1 in
    ((a.0, b.0), b.1)
reads (StandaloneTree s w t) v r utf8 =
    let a = space_cut v.0 _ utf8 in
    let b = reads w v.1 _ a.1 in
    let c = space_cut v.2 r b.1 in
    ((a.0, b.0, c.0), c.1)

-- ---- the text

space_turns : {s : List ℕ} → IsUtf8 s → Walks in_space Outside (chars s) Outside → Turns (λ r. s ++ r) (λ r. harmless_space s ++ r)
unfolding harmless_space
space_turns {s} utf8 w = walk_turns in_space s utf8 w

literal_turns : {x : List ℕ} → IsUtf8 x → Walks in_quotes Outside (chars x) Outside → Turns (λ r. x ++ r) (λ r. harmless_literal x ++ r)
unfolding harmless_literal
literal_turns {x} utf8 w = walk_turns in_quotes x utf8 w

byte_turns : (c : ℕ) → IsNeutral c → Turns (λ r. c ∷ r) (λ r. c ∷ r)
byte_turns c h = neutral_turns (next h end)

open_neutral : (k : Bracketed) → IsNeutral (open_byte k)
open_neutral Array = (omega arith, omega arith, λ e. absurd (omega arith))
open_neutral Map = (omega arith, omega arith, λ e. absurd (omega arith))

close_neutral : (k : Bracketed) → IsNeutral (close_byte k)
close_neutral Array = (omega arith, omega arith, λ e. absurd (omega arith))
close_neutral Map = (omega arith, omega arith, λ e. absurd (omega arith))

opening : IsNeutral 40
opening = (omega arith, omega arith, λ e. absurd (omega arith))

closing : IsNeutral 41
closing = (omega arith, omega arith, λ e. absurd (omega arith))

plus : IsNeutral 43
plus = (omega arith, omega arith, λ e. absurd (omega arith))

colon : IsNeutral 58
colon = (omega arith, omega arith, λ e. absurd (omega arith))

less : IsNeutral 60
less = (omega arith, omega arith, λ e. absurd (omega arith))

greater : IsNeutral 62
greater = (omega arith, omega arith, λ e. absurd (omega arith))

underscore : IsNeutral 95
underscore = (omega arith, omega arith, λ e. absurd (omega arith))

-- what is written of the rest
abbrev rest : List ℕ → List ℕ
rest r = rewritten Outside (chars r)

head_turns : (h : ListHead) → IsListHead h → IsReadableHead h → Turns (λ r. list_head_text h ++ r) (λ r. list_head_text (harmless_list_head h) ++ r)
head_turns NoIndicator v u r = refl
head_turns (WithIndicator i ms) v u r =
    let x = indicator_text (Some i) in
    ap rest (append_assoc x ms r) ∙ (neutral_turns (indicator_neutral (Some i)) (ms ++ r) ∙ (ap (λ l. x ++ l) (space_turns u (space_walks v.0 u) r) ∙ sym (append_assoc x (harmless_space ms) (rest r))))

pub turns : {s : Rule} (w : Tree s) → Valid w → IsReadable w → Turns (onto w) (onto (harmless w))
unfolding Valid onto IsReadable harmless
turns (NumberTree x i) v u r = neutral_turns (number_neutral v) (indicator_text i ++ r) ∙ ap (λ l. x ++ l) (neutral_turns (indicator_neutral i) r)
turns (FloatTree f i) v u r = neutral_turns (float_neutral f) (indicator_text i ++ r) ∙ ap (λ l. non_finite_text f ++ l) (neutral_turns (indicator_neutral i) r)
turns (NamedTree b) v u r = neutral_turns (named_neutral b) r
turns (EnclosedTree l w) v u r =
    neutral_turns (opener_neutral l) _ ∙ ap (λ t. opener_text l ++ t) (byte_turns 40 opening _ ∙ ap (λ t. 40 ∷ t) (turns w v.1 u _ ∙ ap (onto (harmless w)) (byte_turns 41 closing r)))
turns (ListTree k w) v u r =
    byte_turns (open_byte k) (open_neutral k) _ ∙ ap (λ t. open_byte k ∷ t) (turns w v u _ ∙ ap (onto (harmless w)) (byte_turns (close_byte k) (close_neutral k) r))
turns (StringTree w) v u r = turns w v u r
turns (StreamTree ms m) v u r =
    byte_turns 40 opening _ ∙ ap (λ t. 40 ∷ t) (byte_turns 95 underscore _ ∙ ap (λ t. 95 ∷ t) (space_turns u.0 (space_walks v.0.0 u.0) _
    ∙ ap (λ t. harmless_space ms ++ t) (turns m v.1 u.1 _ ∙ ap (onto (harmless m)) (byte_turns 41 closing r))))
turns (LiteralTree x i) (q, t, is) u r = literal_turns u (literal_walks q t x u is) (indicator_text i ++ r) ∙ ap (λ l. harmless_literal x ++ l) (neutral_turns (indicator_neutral i) r)
turns (EllipsisTree x) v u r = neutral_turns (ellipsis_neutral v) r
turns (EmbeddedTree w i) v u r =
    byte_turns 60 less _ ∙ ap (λ t. 60 ∷ t) (byte_turns 60 less _ ∙ ap (λ t. 60 ∷ t) (turns w v u _
    ∙ ap (onto (harmless w)) (byte_turns 62 greater _ ∙ ap (λ t. 62 ∷ t) (byte_turns 62 greater _ ∙ ap (λ t. 62 ∷ t) (neutral_turns (indicator_neutral i) r)))))
turns (LastPieceTree p) v u r = turns p v u r
turns (PlusTree p s t w) v u r =
    turns p v.0 u.0 _ ∙ ap (onto (harmless p)) (space_turns u.1 (space_walks v.1 u.1) _ ∙ ap (λ l. harmless_space s ++ l) (byte_turns 43 plus _
    ∙ ap (λ l. 43 ∷ l) (space_turns u.2 (space_walks v.2 u.2) _ ∙ ap (λ l. harmless_space t ++ l) (turns w v.3 u.3 r))))
turns (ElementTree w) v u r = turns w v u r
turns (PairTree x s t w) v u r =
    turns x v.0 u.0 _ ∙ ap (onto (harmless x)) (space_turns u.1 (space_walks v.1 u.1) _ ∙ ap (λ l. harmless_space s ++ l) (byte_turns 58 colon _
    ∙ ap (λ l. 58 ∷ l) (space_turns u.2 (space_walks v.2 u.2) _ ∙ ap (λ l. harmless_space t ++ l) (turns w v.3 u.3 r))))
turns (ChunkTree w) v u r = turns w v u r
turns (EmptyTree i s) v u r = neutral_turns (indicator_neutral i) (s ++ r) ∙ ap (λ l. indicator_text i ++ l) (space_turns u (space_walks v u) r)
turns (FullTree h s m) v u r =
    head_turns h v.0 u.0 _ ∙ ap (λ l. list_head_text (harmless_list_head h) ++ l) (space_turns u.1 (space_walks v.1 u.1) _ ∙ ap (λ l. harmless_space s ++ l) (turns m v.2 u.2 r))
turns (LastTree e s) v u r = turns e v.0 u.0 _ ∙ ap (onto (harmless e)) (space_turns u.1 (end_walks v.1 u.1) r)
turns (MoreTree e s m) v u r =
    turns e v.0 u.0 _ ∙ ap (onto (harmless e)) (space_turns u.1 (separator_walks v.1 u.1) _ ∙ ap (λ l. harmless_space s ++ l) (turns m v.2 u.2 r))
turns (NothingTree s) v u r = space_turns u (space_walks v u) r
turns (SequenceTree s m) v u r = space_turns u.0 (space_walks v.0 u.0) _ ∙ ap (λ l. harmless_space s ++ l) (turns m v.1 u.1 r)
turns (StandaloneTree s w t) v u r =
    space_turns u.0 (space_walks v.0 u.0) _ ∙ ap (λ l. harmless_space s ++ l) (turns w v.1 u.1 _ ∙ ap (onto (harmless w)) (space_turns u.2 (space_walks v.2 u.2) r))

-- ---- in its sets

head_valid : (h : ListHead) → IsListHead h → IsReadableHead h → IsListHead (harmless_list_head h)
head_valid NoIndicator v u = tt
head_valid (WithIndicator i ms) v u = mandatory_kept v u

pub stays_valid : {s : Rule} (w : Tree s) → Valid w → IsReadable w → Valid (harmless w)
unfolding Valid IsReadable harmless
stays_valid (NumberTree x i) v u = v
stays_valid (FloatTree f i) v u = v
stays_valid (NamedTree b) v u = v
stays_valid (EnclosedTree l w) v u = (v.0, stays_valid w v.1 u)
stays_valid (ListTree k w) v u = stays_valid w v u
stays_valid (StringTree w) v u = stays_valid w v u
stays_valid (StreamTree ms m) v u = (mandatory_kept v.0 u.0, stays_valid m v.1 u.1)
stays_valid (LiteralTree x i) (q, t, is) u = (q, t, literal_kept q t x u is)
stays_valid (EllipsisTree x) v u = v
stays_valid (EmbeddedTree w i) v u = stays_valid w v u
stays_valid (LastPieceTree p) v u = stays_valid p v u
stays_valid (PlusTree p s t w) v u = (stays_valid p v.0 u.0, space_kept v.1 u.1, space_kept v.2 u.2, stays_valid w v.3 u.3)
stays_valid (ElementTree w) v u = stays_valid w v u
stays_valid (PairTree x s t w) v u = (stays_valid x v.0 u.0, space_kept v.1 u.1, space_kept v.2 u.2, stays_valid w v.3 u.3)
stays_valid (ChunkTree w) v u = stays_valid w v u
stays_valid (EmptyTree i s) v u = space_kept v u
stays_valid (FullTree h s m) v u = (head_valid h v.0 u.0, space_kept v.1 u.1, stays_valid m v.2 u.2)
stays_valid (LastTree e s) v u = (stays_valid e v.0 u.0, end_kept v.1 u.1)
stays_valid (MoreTree e s m) v u = (stays_valid e v.0 u.0, separator_kept v.1 u.1, stays_valid m v.2 u.2)
stays_valid (NothingTree s) v u = space_kept v u
stays_valid (SequenceTree s m) v u = (space_kept v.0 u.0, stays_valid m v.1 u.1)
stays_valid (StandaloneTree s w t) v u = (space_kept v.0 u.0, stays_valid w v.1 u.1, space_kept v.2 u.2)
