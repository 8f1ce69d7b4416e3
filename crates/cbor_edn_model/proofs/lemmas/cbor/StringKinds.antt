-- The kind of a string is that of the form of its first piece, and what a stream is of such strings.
use Rattle.std.proofs.Common.{◌≡◌, ℕ, Bool, true, false, cond, eqb, ◌&&◌, List, [], ◌∷◌, length, Option, Some, None, ◌⊎◌, inl, inr, refl, sym, ap, subst, ◌∙◌}
use Rattle.std.proofs.lemmas.Bool.{eqb-true}
use Rattle.cbor_edn_parts.specs.declared.string.QuotedState.TheVariants as part
use Rattle.cbor_edn_parts.specs.declared.string.Quote.TheVariants as quotes
use Rattle.cbor_edn_parts.specs.declared.string.StringKind.{StringKind}
use Rattle.cbor_edn_parts.specs.declared.string.StringKind.TheVariants.{Bytes, Text}
use Rattle.cbor_edn_parts.specs.internal.LiteralTokens.{decoded, prefix_of, quoted_of}
use Rattle.cbor_edn_parts.specs.string.Contents.{Content}
use Rattle.cbor_edn_parts.specs.internal.ContentReading.{prefixed_bytes, literal_content, literal_kind}
use Rattle.cbor_edn_model.specs.tree.Items.{Strings, Piece, Pieces, Entries, Node, Literal, Ellipsis, Embedded, LastPiece, Plus, Chunk, End, Then}
use Rattle.cbor_edn_model.specs.cbor.Value as values
use Rattle.cbor_edn_model.specs.cbor.Value.{is_content, encodings}
use Rattle.cbor_edn_model.specs.cbor.Meaning.{◌>>=◌, width_of, joined, pieces_indicator, chunk_of, same_kind, chunks_of, means}
use Rattle.cbor_edn_model.specs.internal.Encoding.{piece_kind, form_kind, kinds_are}
use Rattle.cbor_edn_model.proofs.lemmas.cbor.MeaningSteps.{if_both, both_steps, some_is}
use Rattle.cbor_edn_model.proofs.lemmas.cbor.Meanings.{if_content, given_chunk}

empty_or_not : (xs : List ℕ) → (xs ≡ []) ⊎ ((x : ℕ) × (t : List ℕ) × (xs ≡ x ∷ t))
empty_or_not [] = inl refl
empty_or_not (x ∷ t) = inr (x, t, refl)

none_or_some : {A : Type 0} (o : Option A) → (o ≡ None) ⊎ ((x : A) × (o ≡ Some x))
none_or_some None = inl refl
none_or_some (Some x) = inr (x, refl)

pub is_or_not : (b : Bool) → (b ≡ true) ⊎ (b ≡ false)
is_or_not true = inl refl
is_or_not false = inr refl

-- ---- the kind of a content

prefixed_of_kind : (b : ℕ) (x : List ℕ) (c : Content) → eqb b 39 ≡ false → eqb b 34 ≡ false → literal_content (b ∷ x) ≡ Some c → c.0 ≡ Bytes
unfolding prefix_of quoted_of
prefixed_of_kind b x c single double e =
    let f = rw (single, double) at e in
    elim (empty_or_not (quoted_of x)) [
      | inl none ↦ (let g = rw none at f in absurd cc)
      | inr (q, t, is) ↦ (let g = rw is at f in
          elim (none_or_some (prefixed_bytes (b ∷ prefix_of x) (decoded quotes.Single part.Between t))) [
            | inl nothing ↦ (let h = rw nothing at g in absurd cc)
            | inr (bs, bytes) ↦ (let h = rw bytes at g in sym (ap (λ (p : Content). p.0) (some_is (Bytes, bs) c h)))
          ])
    ]

literal_of_kind : (x : List ℕ) (c : Content) → literal_content x ≡ Some c → c.0 ≡ literal_kind x
unfolding prefix_of quoted_of
literal_of_kind [] c e = absurd cc
literal_of_kind (b ∷ x) c e =
    elim (is_or_not (eqb b 34)) [
      | inl double ↦ subst (λ b. literal_content (b ∷ x) ≡ Some c → c.0 ≡ literal_kind (b ∷ x)) (sym (eqb-true b 34 double)) (λ f. sym (ap (λ (p : Content). p.0) (some_is (Text, decoded quotes.Double part.Between x) c f))) e
      | inr double ↦ (elim (is_or_not (eqb b 39)) [
        | inl single ↦ subst (λ b. literal_content (b ∷ x) ≡ Some c → c.0 ≡ literal_kind (b ∷ x)) (sym (eqb-true b 39 single)) (λ f. sym (ap (λ (p : Content). p.0) (some_is (Bytes, decoded quotes.Single part.Between x) c f))) e
        | inr single ↦ rw double (prefixed_of_kind b x c single double e)
      ])
    ]

piece_of_kind : (p : Node Piece) (c : Content) → means p ≡ Some c → c.0 ≡ piece_kind p
unfolding means
piece_of_kind (Literal x i) c e = literal_of_kind x c e
piece_of_kind (Ellipsis x) c e = absurd cc
piece_of_kind (Embedded m i) c e =
    let a = both_steps (means m) (λ vs. Some (Bytes, encodings vs)) c e in
    sym (ap (λ (p : Content). p.0) (some_is (Bytes, encodings a.0) c a.2))

string_of_kind : (w : Node Pieces) (c : Content) → means w ≡ Some c → c.0 ≡ form_kind w
unfolding means
string_of_kind (LastPiece p) c e = piece_of_kind p c e
string_of_kind (Plus p w) c e =
    let a = both_steps (means p) (λ c. means w >>= λ d. Some (joined c d)) c e in
    let b = both_steps (means w) (λ d. Some (joined a.0 d)) c a.2 in
    sym (ap (λ (p : Content). p.0) (some_is (joined a.0 b.0) c b.2)) ∙ piece_of_kind p a.0 a.1

pub chunk_of_kind : (w : Node Pieces) (p : StringKind × values.Chunk) → means (Chunk w) ≡ Some p → p.0 ≡ form_kind w
unfolding means
chunk_of_kind w p e =
    let a = both_steps (means w) (λ c. pieces_indicator w >>= chunk_of c) p e in
    let b = both_steps (pieces_indicator w) (chunk_of a.0) p a.2 in
    let d = if_content (is_content a.0.0 a.0.1) (width_of b.0 (length a.0.1) >>= given_chunk a.0.0 a.0.1) p b.2 in
    let f = both_steps (width_of b.0 (length a.0.1)) (given_chunk a.0.0 a.0.1) p d.1 in
    sym (ap (λ (p : StringKind × values.Chunk). p.0) (some_is (a.0.0, (f.0, a.0.1)) p f.2)) ∙ string_of_kind w a.0 a.1

-- ---- the kinds of a stream's strings

abbrev pub Strings_of : Type 0
Strings_of = List (StringKind × values.Chunk)

abbrev in_front : values.Chunk → List values.Chunk → Option (List values.Chunk)
in_front c cs = Some (c ∷ cs)

abbrev first_of : Bool → values.Chunk → Option (List values.Chunk) → Option (List values.Chunk)
first_of same c o = cond same (o >>= in_front c) None

pub all_of_kind : (k : StringKind) (m : Node (Entries Strings)) (r : Strings_of) → means m ≡ Some r → kinds_are k m ≡ true → (cs : List values.Chunk) × (chunks_of k r ≡ Some cs)
unfolding means
all_of_kind k End r e are = ([], ap (chunks_of k) (sym (some_is [] r e)))
all_of_kind k (Then (Chunk w) m) r e are =
    let a = both_steps (means (Chunk w)) (λ p. means m >>= λ ps. Some (p ∷ ps)) r e in
    let b = both_steps (means m) (λ ps. Some (a.0 ∷ ps)) r a.2 in
    let both = if_both (same_kind k (form_kind w)) (kinds_are k m) are in
    let same : same_kind k a.0.0 ≡ true = ap (same_kind k) (chunk_of_kind w a.0 a.1) ∙ both.0 in
    let others = all_of_kind k m b.0 b.1 both.1 in
    (a.0.1 ∷ others.0, ap (chunks_of k) (sym (some_is (a.0 ∷ b.0) r b.2)) ∙ ap (λ s. first_of s a.0.1 (chunks_of k b.0)) same ∙ ap (first_of true a.0.1) others.1)

none_in_front : (same rest : Bool) (c : values.Chunk) (o : Option (List values.Chunk)) → (same && rest) ≡ false → (rest ≡ false → o ≡ None) → first_of same c o ≡ None
none_in_front true rest c o e none = ap (first_of true c) (none e)
none_in_front false rest c o e none = refl

pub one_of_other_kind : (k : StringKind) (m : Node (Entries Strings)) (r : Strings_of) → means m ≡ Some r → kinds_are k m ≡ false → chunks_of k r ≡ None
unfolding means
one_of_other_kind k End r e are = absurd cc
one_of_other_kind k (Then (Chunk w) m) r e are =
    let a = both_steps (means (Chunk w)) (λ p. means m >>= λ ps. Some (p ∷ ps)) r e in
    let b = both_steps (means m) (λ ps. Some (a.0 ∷ ps)) r a.2 in
    let same : same_kind k a.0.0 ≡ same_kind k (form_kind w) = ap (same_kind k) (chunk_of_kind w a.0 a.1) in
    ap (chunks_of k) (sym (some_is (a.0 ∷ b.0) r b.2)) ∙ ap (λ s. first_of s a.0.1 (chunks_of k b.0)) same ∙ none_in_front (same_kind k (form_kind w)) (kinds_are k m) a.0.1 (chunks_of k b.0) are (one_of_other_kind k m b.0 b.1)
