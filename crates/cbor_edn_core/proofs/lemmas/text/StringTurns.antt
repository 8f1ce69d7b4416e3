-- What the reader gives for strings and their pieces, from what it gives for the parts, as the parser meets them.
use Rattle.std.proofs.Common.{ℕ, zero, suc, List, [], ◌∷◌, ◌++◌, ◌≡◌, ◌≢◌, ◌-◌, ◌<◌, refl, sym, ap, ◌∙◌, arith, map, Ok, Err, true, false, Option}
use Rattle.std.specs.Prelude.{Bool, eqb, cond}
use Rattle.std.proofs.lemmas.Bool.{ne_eqb, eqb-true}
use Rattle.std.proofs.lemmas.List.{map-append}
use Rattle.cbor_edn_parts.specs.declared.base.error.ParseErrorKind.TheVariants.{Invalid, TooDeep}
use Rattle.cbor_edn_parts.specs.declared.base.error.Refusal.{Refusal}
use Rattle.cbor_edn_parts.specs.declared.base.error.Fault.{Fault}
use Rattle.cbor_edn_parts.specs.declared.base.error.Fault.TheVariants.{Memory, Told}
use Rattle.cbor_edn_parts.specs.declared.base.indicator.Indicator.{Indicator}
use Rattle.cbor_edn_parts.specs.base.Indicator.{indicator_at}
use Rattle.cbor_edn_parts.specs.internal.Lex.{munch}
use Rattle.cbor_edn_parts.specs.internal.SpaceTokens.{space}
use Rattle.cbor_edn_parts.specs.internal.LiteralTokens.{literal, ellipsis}
use Rattle.cbor_edn_model.specs.tree.Items.{Strings}
use Rattle.cbor_edn_model.specs.tree.Trees.{OnePiece, OneString, OneEntry, Rest, Seq, Tree, StreamTree, LiteralTree, EllipsisTree, EmbeddedTree, LastPieceTree, PlusTree, ChunkTree, joins}
use Rattle.cbor_edn_model.specs.internal.Results.{◌>>=◌}
use Rattle.cbor_edn_model.specs.internal.Reading.{Read, token, byte, not_empty, stream_item, literal_piece, ellipsis_piece, embedded_piece, piece, plus_string, string, entry, reads}
use Rattle.cbor_edn_core.specs.internal.ParserResults.{Fails, IsUnclosed}
use Rattle.cbor_edn_model.specs.internal.BytesAt.{IsNotAt}
use Rattle.cbor_edn_model.specs.tree.Rows.{pieces_onto}
use Rattle.cbor_edn_model.proofs.lemmas.text.StepCounts.{reads-rule}
use Rattle.cbor_edn_core.proofs.lemmas.text.Turns.{bind_fails, bind_ok, fails_at, byte_there, byte_other}

-- a refusal of which only the kind is of use
abbrev invalid : Fault Refusal
invalid = Told (record { kind = Invalid; offset = 0 })

-- streams, behind the parenthesis

pub stream_no_underscore : (limit : ℕ) (xs : List ℕ) → IsNotAt 95 xs → stream_item reads limit xs ≡ Err Invalid
unfolding stream_item
stream_no_underscore limit xs n = bind_fails invalid (byte 95 xs) _ (byte_other 95 xs n)

behind_underscore : (limit : ℕ) (xs r : List ℕ) → xs ≡ 95 ∷ r → stream_item reads limit xs ≡ (token space r >>= λ s. not_empty s.0 >>= λ ms. reads limit (Rest Strings) s.1 >>= λ m. byte 41 m.1 >>= λ r. Ok (StreamTree ms m.0, r))
unfolding stream_item
behind_underscore limit xs r e = bind_ok (byte 95 xs) r _ (byte_there 95 xs r e)

pub stream_fails : (e : Fault Refusal) (limit : ℕ) (xs r : List ℕ) → xs ≡ 95 ∷ r → Fails e (token space r) → Fails e (stream_item reads limit xs)
stream_fails e limit xs r at h = fails_at e _ _ (behind_underscore limit xs r at) (bind_fails e (token space r) _ h)

behind_space : (limit : ℕ) (xs r s q : List ℕ) → xs ≡ 95 ∷ r → token space r ≡ Ok (s, q) → stream_item reads limit xs ≡ (not_empty s >>= λ ms. reads limit (Rest Strings) q >>= λ m. byte 41 m.1 >>= λ r. Ok (StreamTree ms m.0, r))
behind_space limit xs r s q at h = behind_underscore limit xs r at ∙ bind_ok (token space r) (s, q) _ h

none_empty : (s : List ℕ) → s ≡ [] → not_empty s ≡ Err Invalid
unfolding not_empty
none_empty s e = rw e refl

some_empty : (s : List ℕ) → s ≢ [] → not_empty s ≡ Ok s
unfolding not_empty
some_empty [] n = absurd (n refl)
some_empty (c ∷ s) n = refl

pub stream_unspaced : (limit : ℕ) (xs r s q : List ℕ) → xs ≡ 95 ∷ r → token space r ≡ Ok (s, q) → s ≡ [] → stream_item reads limit xs ≡ Err Invalid
stream_unspaced limit xs r s q at h none = behind_space limit xs r s q at h ∙ bind_fails invalid (not_empty s) _ (none_empty s none)

stream_strings : (limit : ℕ) (xs r s q : List ℕ) → xs ≡ 95 ∷ r → token space r ≡ Ok (s, q) → s ≢ [] → stream_item reads limit xs ≡ (reads limit (Rest Strings) q >>= λ m. byte 41 m.1 >>= λ r. Ok (StreamTree s m.0, r))
stream_strings limit xs r s q at h n = behind_space limit xs r s q at h ∙ bind_ok (not_empty s) s _ (some_empty s n)

pub stream_rest_fails : (e : Fault Refusal) (limit : ℕ) (xs r s q : List ℕ) → xs ≡ 95 ∷ r → token space r ≡ Ok (s, q) → s ≢ [] → Fails e (reads limit (Rest Strings) q) → Fails e (stream_item reads limit xs)
stream_rest_fails e limit xs r s q at h n f = fails_at e _ _ (stream_strings limit xs r s q at h n) (bind_fails e (reads limit (Rest Strings) q) _ f)

pub stream_open : (limit : ℕ) (xs r s q p : List ℕ) (m : Tree (Rest Strings)) → xs ≡ 95 ∷ r → token space r ≡ Ok (s, q) → s ≢ [] → reads limit (Rest Strings) q ≡ Ok (m, p) → IsNotAt 41 p → stream_item reads limit xs ≡ Err Invalid
stream_open limit xs r s q p m at h n f o = stream_strings limit xs r s q at h n ∙ bind_ok (reads limit (Rest Strings) q) (m, p) _ f ∙ bind_fails invalid (byte 41 p) (λ r. Ok (StreamTree s m, r)) (byte_other 41 p o)

pub stream_read : (limit : ℕ) (xs r s q p o : List ℕ) (m : Tree (Rest Strings)) → xs ≡ 95 ∷ r → token space r ≡ Ok (s, q) → s ≢ [] → reads limit (Rest Strings) q ≡ Ok (m, p) → p ≡ 41 ∷ o → stream_item reads limit xs ≡ Ok (StreamTree s m, o)
stream_read limit xs r s q p o m at h n f c = stream_strings limit xs r s q at h n ∙ bind_ok (reads limit (Rest Strings) q) (m, p) _ f ∙ bind_ok (byte 41 p) o (λ r. Ok (StreamTree s m, r)) (byte_there 41 p o c)

-- the strings of a stream

pub chunk_fails : (e : Fault Refusal) (limit : ℕ) (xs : List ℕ) → Fails e (reads limit OneString xs) → Fails e (reads limit (OneEntry Strings) xs)
unfolding entry
chunk_fails e limit xs h = fails_at e _ _ (reads-rule limit (OneEntry Strings) xs) (bind_fails e (reads limit OneString xs) _ h)

pub chunk_read : (limit : ℕ) (xs r : List ℕ) (w : Tree OneString) → reads limit OneString xs ≡ Ok (w, r) → reads limit (OneEntry Strings) xs ≡ Ok (ChunkTree w, r)
unfolding entry
chunk_read limit xs r w h = reads-rule limit (OneEntry Strings) xs ∙ bind_ok (reads limit OneString xs) (w, r) _ h

-- pieces

piece_ellipsis_at : (limit : ℕ) (xs ys : List ℕ) → xs ≡ 46 ∷ ys → reads limit OnePiece xs ≡ ellipsis_piece reads xs
unfolding piece
piece_ellipsis_at limit xs ys e = reads-rule limit OnePiece xs ∙ rw e refl

pub ellipsis_fail : (e : Fault Refusal) (limit : ℕ) (xs ys : List ℕ) → xs ≡ 46 ∷ ys → Fails e (token ellipsis xs) → Fails e (reads limit OnePiece xs)
unfolding ellipsis_piece
ellipsis_fail e limit xs ys at h = fails_at e _ _ (piece_ellipsis_at limit xs ys at) (bind_fails e (token ellipsis xs) _ h)

pub ellipsis_read : (limit : ℕ) (xs ys x r : List ℕ) → xs ≡ 46 ∷ ys → token ellipsis xs ≡ Ok (x, r) → reads limit OnePiece xs ≡ Ok (EllipsisTree x, r)
unfolding ellipsis_piece
ellipsis_read limit xs ys x r at h = piece_ellipsis_at limit xs ys at ∙ bind_ok (token ellipsis xs) (x, r) _ h

no_literal : token literal [] ≡ Err Invalid
unfolding munch
no_literal = refl

piece_literal_at : (limit : ℕ) (xs : List ℕ) → IsNotAt 60 xs → IsNotAt 46 xs → reads limit OnePiece xs ≡ literal_piece reads xs
unfolding piece literal_piece
piece_literal_at limit [] n m = reads-rule limit OnePiece [] ∙ rw no_literal refl
piece_literal_at limit (c ∷ xs) n m = reads-rule limit OnePiece (c ∷ xs) ∙ rw (ne_eqb c 60 n, ne_eqb c 46 m) refl

pub literal_fails : (e : Fault Refusal) (limit : ℕ) (xs : List ℕ) → IsNotAt 60 xs → IsNotAt 46 xs → Fails e (token literal xs) → Fails e (reads limit OnePiece xs)
unfolding literal_piece
literal_fails e limit xs n m h = fails_at e _ _ (piece_literal_at limit xs n m) (bind_fails e (token literal xs) _ h)

pub literal_read : (limit : ℕ) (xs x r : List ℕ) (i : Option Indicator) (q : List ℕ) → IsNotAt 60 xs → IsNotAt 46 xs → token literal xs ≡ Ok (x, r) → indicator_at r ≡ (i, q) → reads limit OnePiece xs ≡ Ok (LiteralTree x i, q)
unfolding literal_piece
literal_read limit xs x r i q n m h k = piece_literal_at limit xs n m ∙ bind_ok (token literal xs) (x, r) _ h ∙ ap (λ (p : Option Indicator × List ℕ). Ok (LiteralTree x p.0, p.1)) k

embedded_at : (limit : ℕ) (xs ys : List ℕ) → xs ≡ 60 ∷ ys → reads limit OnePiece xs ≡ (byte 60 ys >>= embedded_piece reads limit)
unfolding piece
embedded_at limit xs ys e = reads-rule limit OnePiece xs ∙ rw e refl

pub embedded_single : (limit : ℕ) (xs ys : List ℕ) → xs ≡ 60 ∷ ys → IsNotAt 60 ys → reads limit OnePiece xs ≡ Err Invalid
embedded_single limit xs ys at n = embedded_at limit xs ys at ∙ bind_fails invalid (byte 60 ys) _ (byte_other 60 ys n)

embedded_open : (limit : ℕ) (xs ys zs : List ℕ) → xs ≡ 60 ∷ ys → ys ≡ 60 ∷ zs → reads limit OnePiece xs ≡ embedded_piece reads limit zs
embedded_open limit xs ys zs at next = embedded_at limit xs ys at ∙ bind_ok (byte 60 ys) zs _ (byte_there 60 ys zs next)

pub embedded_too_deep : (limit : ℕ) (xs ys zs : List ℕ) → limit ≡ 0 → xs ≡ 60 ∷ ys → ys ≡ 60 ∷ zs → reads limit OnePiece xs ≡ Err TooDeep
unfolding embedded_piece
embedded_too_deep limit xs ys zs none at next = embedded_open limit xs ys zs at next ∙ rw none refl

embedded_inside : (limit : ℕ) (xs ys zs : List ℕ) → 0 < limit → xs ≡ 60 ∷ ys → ys ≡ 60 ∷ zs → reads limit OnePiece xs ≡ (reads (limit - 1) Seq zs >>= λ w. byte 62 w.1 >>= λ r. byte 62 r >>= λ r. Ok (EmbeddedTree w.0 (indicator_at r).0, (indicator_at r).1))
unfolding embedded_piece
embedded_inside zero xs ys zs some at next = absurd (omega arith)
embedded_inside (suc limit) xs ys zs some at next = let same : suc limit - 1 ≡ limit = omega arith in embedded_open (suc limit) xs ys zs at next ∙ rw same refl

pub embedded_fails : (e : Fault Refusal) (limit : ℕ) (xs ys zs : List ℕ) → 0 < limit → xs ≡ 60 ∷ ys → ys ≡ 60 ∷ zs → Fails e (reads (limit - 1) Seq zs) → Fails e (reads limit OnePiece xs)
embedded_fails e limit xs ys zs some at next h = fails_at e _ _ (embedded_inside limit xs ys zs some at next) (bind_fails e (reads (limit - 1) Seq zs) _ h)

-- what closes an embedded sequence, and its indicator
abbrev Close : Tree Seq → List ℕ → Read (Tree OnePiece)
Close w r = byte 62 r >>= λ r. byte 62 r >>= λ r. Ok (EmbeddedTree w (indicator_at r).0, (indicator_at r).1)

not_byte : (b c : ℕ) (xs : List ℕ) → eqb c b ≡ false → byte b (c ∷ xs) ≡ Err Invalid
unfolding byte
not_byte b c xs e = rw e

unclosed_by : (c : ℕ) (r : List ℕ) (w : Tree Seq) (b : Bool) → eqb c 62 ≡ b → (c ≡ 62 → IsNotAt 62 r) → Close w (c ∷ r) ≡ Err Invalid
unclosed_by c r w true e n = bind_ok (byte 62 (c ∷ r)) r _ (byte_there 62 (c ∷ r) r (ap (λ (x : ℕ). x ∷ r) (eqb-true c 62 e))) ∙ bind_fails invalid (byte 62 r) _ (byte_other 62 r (n (eqb-true c 62 e)))
unclosed_by c r w false e n = bind_fails invalid (byte 62 (c ∷ r)) _ (not_byte 62 c r e)

unclosed : (r : List ℕ) (w : Tree Seq) → IsUnclosed r → Close w r ≡ Err Invalid
unclosed [] w n = bind_fails invalid (byte 62 []) _ (byte_other 62 [] tt)
unclosed (c ∷ r) w n = unclosed_by c r w (eqb c 62) refl n

pub embedded_unclosed : (limit : ℕ) (xs ys zs r : List ℕ) (w : Tree Seq) → 0 < limit → xs ≡ 60 ∷ ys → ys ≡ 60 ∷ zs → reads (limit - 1) Seq zs ≡ Ok (w, r) → IsUnclosed r → reads limit OnePiece xs ≡ Err Invalid
embedded_unclosed limit xs ys zs r w some at next h n = embedded_inside limit xs ys zs some at next ∙ bind_ok (reads (limit - 1) Seq zs) (w, r) _ h ∙ unclosed r w n

pub embedded_read : (limit : ℕ) (xs ys zs r q o : List ℕ) (w : Tree Seq) (i : Option Indicator) → 0 < limit → xs ≡ 60 ∷ ys → ys ≡ 60 ∷ zs → reads (limit - 1) Seq zs ≡ Ok (w, r) → r ≡ 62 ∷ 62 ∷ q → indicator_at q ≡ (i, o) → reads limit OnePiece xs ≡ Ok (EmbeddedTree w i, o)
embedded_read limit xs ys zs r q o w i some at next h close k =
    embedded_inside limit xs ys zs some at next ∙ bind_ok (reads (limit - 1) Seq zs) (w, r) _ h
    ∙ bind_ok (byte 62 r) (62 ∷ q) _ (byte_there 62 r (62 ∷ q) close) ∙ bind_ok (byte 62 (62 ∷ q)) q _ (byte_there 62 (62 ∷ q) q refl)
    ∙ ap (λ (p : Option Indicator × List ℕ). Ok (EmbeddedTree w p.0, p.1)) k

-- strings

-- pieces so far, each with the spaces round the plus sign behind it, in front of what is read next
abbrev pub with_pieces : List (Tree OnePiece × List ℕ × List ℕ) → Read (Tree OneString) → Read (Tree OneString)
with_pieces ps (Ok p) = Ok (pieces_onto ps p.0, p.1)
with_pieces ps (Err e) = Err e

pieces_fail : (e : Fault Refusal) (ps : List (Tree OnePiece × List ℕ × List ℕ)) (r : Read (Tree OneString)) → Fails e r → Fails e (with_pieces ps r)
pieces_fail (Memory m) ps r h = tt
pieces_fail (Told x) ps r h = rw h refl

pieces_push : (ps : List (Tree OnePiece × List ℕ × List ℕ)) (p : Tree OnePiece × List ℕ × List ℕ) (w : Tree OneString) → pieces_onto ps (PlusTree p.0 p.1 p.2 w) ≡ pieces_onto (ps ++ p ∷ []) w
pieces_push [] p w = refl
pieces_push (q ∷ ps) p w = ap (PlusTree q.0 q.1 q.2) (pieces_push ps p w)

with_push : (ps : List (Tree OnePiece × List ℕ × List ℕ)) (p : Tree OnePiece × List ℕ × List ℕ) (r : Read (Tree OneString)) → with_pieces ps (r >>= λ w. Ok (PlusTree p.0 p.1 p.2 w.0, w.1)) ≡ with_pieces (ps ++ p ∷ []) r
with_push ps p (Ok w) = ap (λ (t : Tree OneString). Ok (t, w.1)) (pieces_push ps p w.0)
with_push ps p (Err e) = refl

-- pieces of declared values, and one more
pub with_more_pieces : {A : Type 0} (f : A → Tree OnePiece × List ℕ × List ℕ) (xs : List A) (x : A) (p : Tree OnePiece × List ℕ × List ℕ) (r : Read (Tree OneString)) → f x ≡ p → with_pieces (map f xs ++ p ∷ []) r ≡ with_pieces (map f (xs ++ x ∷ [])) r
with_more_pieces f xs x p r is = ap (λ ps. with_pieces ps r) (sym (map-append f xs (x ∷ []) ∙ ap (λ p. map f xs ++ p ∷ []) is))

string_fails : (e : Fault Refusal) (limit : ℕ) (xs : List ℕ) → Fails e (reads limit OnePiece xs) → Fails e (reads limit OneString xs)
unfolding string
string_fails e limit xs h = fails_at e _ _ (reads-rule limit OneString xs) (bind_fails e (reads limit OnePiece xs) _ h)

behind_piece : (limit : ℕ) (xs r : List ℕ) (p : Tree OnePiece) → reads limit OnePiece xs ≡ Ok (p, r) → reads limit OneString xs ≡ (token space r >>= λ s. cond (joins s.1) (plus_string reads limit p s.0 s.1) (Ok (LastPieceTree p, r)))
unfolding string
behind_piece limit xs r p h = reads-rule limit OneString xs ∙ bind_ok (reads limit OnePiece xs) (p, r) _ h

behind_piece_space : (limit : ℕ) (xs r s q : List ℕ) (p : Tree OnePiece) → reads limit OnePiece xs ≡ Ok (p, r) → token space r ≡ Ok (s, q) → reads limit OneString xs ≡ cond (joins q) (plus_string reads limit p s q) (Ok (LastPieceTree p, r))
behind_piece_space limit xs r s q p h t = behind_piece limit xs r p h ∙ bind_ok (token space r) (s, q) _ t

behind_plus : (limit : ℕ) (xs r s q o : List ℕ) (p : Tree OnePiece) → reads limit OnePiece xs ≡ Ok (p, r) → token space r ≡ Ok (s, q) → joins q ≡ true → q ≡ 43 ∷ o → reads limit OneString xs ≡ (token space o >>= λ t. reads limit OneString t.1 >>= λ w. Ok (PlusTree p s t.0 w.0, w.1))
unfolding plus_string
behind_plus limit xs r s q o p h t j e = behind_piece_space limit xs r s q p h t ∙ rw j (bind_ok (byte 43 q) o _ (byte_there 43 q o e))

string_last : (limit : ℕ) (xs r s q : List ℕ) (p : Tree OnePiece) → reads limit OnePiece xs ≡ Ok (p, r) → token space r ≡ Ok (s, q) → joins q ≡ false → reads limit OneString xs ≡ Ok (LastPieceTree p, r)
string_last limit xs r s q p h t j = behind_piece_space limit xs r s q p h t ∙ rw j

-- The turns of a loop over pieces, with those so far.
module _ (limit : ℕ) (total : Read (Tree OneString)) (ps : List (Tree OnePiece × List ℕ × List ℕ)) (xs : List ℕ) (so_far : total ≡ with_pieces ps (reads limit OneString xs)) where
  -- a piece that is refused
  pub pieces_turn_fails : (e : Fault Refusal) → Fails e (reads limit OnePiece xs) → Fails e total
  pieces_turn_fails e h = fails_at e _ _ so_far (pieces_fail e ps _ (string_fails e limit xs h))

  module _ (r : List ℕ) (p : Tree OnePiece) (h : reads limit OnePiece xs ≡ Ok (p, r)) where
    -- a space behind it that is refused
    pub pieces_turn_fails_before : (e : Fault Refusal) → Fails e (token space r) → Fails e total
    pieces_turn_fails_before e t = fails_at e _ _ so_far (pieces_fail e ps _ (fails_at e _ _ (behind_piece limit xs r p h) (bind_fails e (token space r) _ t)))

    module _ (s q : List ℕ) (t : token space r ≡ Ok (s, q)) where
      -- the last piece
      pub pieces_turn_last : joins q ≡ false → total ≡ Ok (pieces_onto ps (LastPieceTree p), r)
      pieces_turn_last j = so_far ∙ ap (with_pieces ps) (string_last limit xs r s q p h t j)

      module _ (o : List ℕ) (j : joins q ≡ true) (plus : q ≡ 43 ∷ o) where
        -- a space behind the plus sign that is refused
        pub pieces_turn_fails_after : (e : Fault Refusal) → Fails e (token space o) → Fails e total
        pieces_turn_fails_after e f = fails_at e _ _ so_far (pieces_fail e ps _ (fails_at e _ _ (behind_plus limit xs r s q o p h t j plus) (bind_fails e (token space o) _ f)))

        -- one piece more
        pub pieces_turn_more : (u z : List ℕ) → token space o ≡ Ok (u, z) → total ≡ with_pieces (ps ++ (p, s, u) ∷ []) (reads limit OneString z)
        pieces_turn_more u z a =
            so_far ∙ ap (with_pieces ps) (behind_plus limit xs r s q o p h t j plus ∙ bind_ok (token space o) (u, z) _ a)
            ∙ with_push ps (p, s, u) (reads limit OneString z)
