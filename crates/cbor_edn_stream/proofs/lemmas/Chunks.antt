-- A string of indefinite length that is printed string by string.
use Rattle.std.proofs.Common.{◌≡◌, ℕ, suc, true, eqb, List, [], ◌∷◌, ◌++◌, length, map, Option, Some, None, Result, Ok, Err, refl, sym, ap, subst, ◌∙◌, append_assoc}
use Rattle.cbor_edn_parts.specs.declared.base.error.Fault.{Fault}
use Rattle.cbor_edn_parts.specs.declared.base.indicator.Indicator.{Indicator}
use Rattle.cbor_edn_parts.specs.declared.base.indicator.Indicator.TheVariants.{Indefinite}
use Rattle.cbor_edn_parts.specs.declared.string.StringKind.{StringKind}
use Rattle.cbor_edn_parts.specs.base.Indicator.{indicator_text}
use Rattle.cbor_edn_parts.specs.space.Spacing.{Mandatory}
use Rattle.cbor_edn_parts.specs.string.Contents.{empty_literal}
use Rattle.cbor_edn_model.specs.declared.cbor.heads.Width.{Width}
use Rattle.cbor_edn_model.specs.declared.cbor.decode.CborError.{CborError}
use Rattle.cbor_edn_model.specs.declared.cbor.decode.head.Stop.TheVariants.{Break}
use Rattle.cbor_edn_model.specs.cbor.Value.{string_major}
use Rattle.cbor_edn_model.specs.tree.Items.{Strings}
use Rattle.cbor_edn_model.specs.tree.Trees.{Tree, OneItem, OneEntry, OneString, Rest, StringTree, StreamTree, LastPieceTree, LiteralTree, ChunkTree, text}
use Rattle.cbor_edn_model.specs.layout.Layout.{Layout, First, respaced, laid}
use Rattle.cbor_edn_model.specs.internal.Laying.{laid_stream}
use Rattle.cbor_edn_model.specs.internal.CborReading.{DecoderResult, DecoderFails, Argument, shown, head_at, until, past_stop, string_at, string_by, definite_tree, chunked_tree, row_of, trees}
use Rattle.cbor_edn_model.proofs.lemmas.cbor.CborStrings.{one, chunk_found, chunks_read, chunks_fail}
use Rattle.cbor_edn_model.proofs.lemmas.cbor.CborTrees.{until_shown}
use Rattle.cbor_edn_model.proofs.lemmas.cbor.CborTurns.{shown_ok, shown_fails, fails_shown}
use Rattle.cbor_edn_model.proofs.lemmas.layout.LaidTexts.{text_laid_chunk, text_laid_stream}
use Rattle.cbor_edn_model.proofs.lemmas.text.Texts.{text_string, text_last_piece, text_literal, text_stream}
use Rattle.cbor_edn_stream.specs.Printed.{Prints, Writes, WritesAnyhow, WritesRow, chunk_entry}
use Rattle.cbor_edn_stream.specs.Wide.{IsOfChunks}
use Rattle.cbor_edn_stream.proofs.lemmas.Turns.{literal_laid}

-- ---- one of the strings

chunk_laid : (l : Layout) (x : List ℕ) (i : Option Indicator) → text (laid l (ChunkTree (LastPieceTree (LiteralTree x i)))) ≡ x ++ indicator_text i
unfolding laid
chunk_laid l x i = text_laid_chunk l (LastPieceTree (LiteralTree x i)) ∙ text_last_piece (LiteralTree x i) ∙ text_literal x i

-- alone, and in a string of indefinite length
abbrev as_item : StringKind → Width → List ℕ → Tree OneItem
as_item k w bs = StringTree (definite_tree k (w, bs))

abbrev as_chunk : StringKind → Width → List ℕ → Tree OneString
as_chunk k w bs = definite_tree k (w, bs)

same_text : (l : Layout) (k : StringKind) (w : Width) (bs : List ℕ) → text (laid l (as_item k w bs)) ≡ text (laid l (ChunkTree (as_chunk k w bs)))
same_text l k w bs = literal_laid l _ _ ∙ sym (chunk_laid l _ _)

by_string : {X : Type 0} (view : X → List ℕ) (k : StringKind) (w : Width) (old new : List ℕ) (r : Result X (Fault CborError)) (s : DecoderResult (List ℕ))
    → Prints WritesAnyhow view old new r (shown (as_item k w) s) → Prints WritesAnyhow view old new r (shown ChunkTree (shown (as_chunk k w) s))
by_string view k w old new (Ok x) s p =
    let found = shown_ok (as_item k w) s (p.0, view x) p.1 in
    let tree : as_item k w found.0.0 ≡ p.0 = ap (λ (y : Tree OneItem × List ℕ). y.0) found.2 in
    let back : found.0.1 ≡ view x = ap (λ (y : Tree OneItem × List ℕ). y.1) found.2 in (
      ChunkTree (as_chunk k w found.0.0),
      ap (λ (y : DecoderResult (List ℕ)). shown ChunkTree (shown (as_chunk k w) y)) found.1 ∙ ap (λ (y : List ℕ). Ok (ChunkTree (as_chunk k w found.0.0), y)) back,
      λ l. p.2 l ∙ ap (λ (y : List ℕ). old ++ y) (ap (λ (t : Tree OneItem). text (laid l t)) (sym tree) ∙ same_text l k w found.0.0),
    )
by_string view k w old new (Err f) s p = shown_fails ChunkTree f (shown (as_chunk k w) s) (shown_fails (as_chunk k w) f s (fails_shown (as_item k w) f s p))

pub chunk_printed : {X : Type 0} (view : X → List ℕ) (k : StringKind) (major : ℕ) (argument : Argument) (w : Width) (n : ℕ) (bytes behind old new : List ℕ) (r : Result X (Fault CborError))
    → eqb major (string_major k) ≡ true → head_at bytes ≡ Ok ((major, argument), behind) → argument ≡ Some (w, n) → Prints WritesAnyhow view old new r (string_by trees k (Some (w, n)) behind) → Prints WritesAnyhow view old new r (chunk_entry k bytes)
chunk_printed view k major argument w n bytes behind old new r same is some p =
    subst (λ (y : DecoderResult (Tree OneString)). Prints WritesAnyhow view old new r (shown ChunkTree y)) (sym (chunk_found k bytes behind major argument is w n same some)) (by_string view k w old new r (string_at k n behind) p)

-- ---- all of them

entries_shown : (k : StringKind) (n : ℕ) (bytes : List ℕ) → until Break (chunk_entry k) n bytes ≡ shown (map ChunkTree) (until Break (one k) n bytes)
entries_shown k n bytes = until_shown ChunkTree Break (chunk_entry k) (one k) (λ b. refl) n bytes

pub stream_fails : (k : StringKind) (bytes : List ℕ) (f : Fault CborError) → DecoderFails f (until Break (chunk_entry k) (suc (length bytes)) bytes) → DecoderFails f (string_by trees k None bytes)
stream_fails k bytes f h =
    let all = suc (length bytes) in
    chunks_fail k f all bytes (fails_shown (map ChunkTree) f (until Break (one k) all bytes) (subst (λ (y : DecoderResult (List (Tree (OneEntry Strings)))). DecoderFails f y) (entries_shown k all bytes) h))

stream_text : (parts : Layout) (m : Tree (Rest Strings)) → text (laid_stream parts (StreamTree (32 ∷ []) m)) ≡ 40 ∷ 95 ∷ (respaced Mandatory First parts (32 ∷ []) ++ (text (laid parts m) ++ (41 ∷ [])))
stream_text parts m = text_stream (respaced Mandatory First parts (32 ∷ [])) (laid parts m)

regroup : (o s t : List ℕ) → (((o ++ (40 ∷ 95 ∷ [])) ++ s) ++ t) ++ (41 ∷ []) ≡ o ++ (40 ∷ 95 ∷ (s ++ (t ++ (41 ∷ []))))
regroup o s t = simp append_assoc refl

-- what was read and printed of it
abbrev IsStream : Layout → StringKind → List ℕ → List ℕ → List ℕ → List ℕ → Type 0
IsStream l k bytes rest old new = (t : Tree OneItem) × (string_by trees k None bytes ≡ Ok (t, rest)) × Writes l t old new

of_row : (l parts : Layout) (k : StringKind) (bytes rest old a b c new : List ℕ) (o : Option (Tree (Rest Strings))) → IsOfChunks l parts k bytes → string_by trees k None bytes ≡ Ok (chunked_tree k o, rest)
    → a ≡ old ++ (40 ∷ 95 ∷ []) → b ≡ a ++ respaced Mandatory First parts (32 ∷ []) → WritesRow parts o b c → new ≡ c ++ (41 ∷ []) → IsStream l k bytes rest old new
of_row l parts k bytes rest old a b c new None of_parts_is read first space row last = absurd row
of_row l parts k bytes rest old a b c new (Some m) of_parts_is read first space row last = (
  StreamTree (32 ∷ []) m,
  read,
  last ∙ ap (λ (y : List ℕ). y ++ (41 ∷ [])) (row ∙ ap (λ (y : List ℕ). y ++ text (laid parts m)) (space ∙ ap (λ (y : List ℕ). y ++ respaced Mandatory First parts (32 ∷ [])) first))
      ∙ regroup old (respaced Mandatory First parts (32 ∷ [])) (text (laid parts m))
      ∙ ap (λ (y : List ℕ). old ++ y) (sym (text_laid_stream l (32 ∷ []) m ∙ ap (λ (p : Layout). text (laid_stream p (StreamTree (32 ∷ []) m))) (sym (of_parts_is (StreamTree (32 ∷ []) m) rest read)) ∙ stream_text parts m)),
)

pub stream_printed : (l parts : Layout) (k : StringKind) (bytes rest old a b c new : List ℕ) (es : List (Tree (OneEntry Strings))) → IsOfChunks l parts k bytes → until Break (chunk_entry k) (suc (length bytes)) bytes ≡ Ok (es, rest)
    → a ≡ old ++ (40 ∷ 95 ∷ []) → b ≡ a ++ respaced Mandatory First parts (32 ∷ []) → WritesRow parts (row_of es) b c → new ≡ c ++ (41 ∷ []) → IsStream l k bytes rest old new
stream_printed l parts k bytes rest old a b c new es of_parts_is read first space row last =
    let s = shown_ok (map ChunkTree) (until Break (one k) (suc (length bytes)) bytes) (es, rest) (sym (entries_shown k (suc (length bytes)) bytes) ∙ read) in
    let back : s.0.1 ≡ rest = ap (λ (y : List (Tree (OneEntry Strings)) × List ℕ). y.1) s.2 in
    let entries : row_of (map ChunkTree s.0.0) ≡ row_of es = ap (λ (y : List (Tree (OneEntry Strings)) × List ℕ). row_of y.0) s.2 in
    let all = chunks_read k (suc (length bytes)) bytes s.0.1 s.0.0 s.1 in
    of_row l parts k bytes rest old a b c new (row_of es) of_parts_is (all ∙ ap (λ (o : Option (Tree (Rest Strings))). Ok (chunked_tree k o, s.0.1)) entries ∙ ap (λ (y : List ℕ). Ok (chunked_tree k (row_of es), y)) back) first space row last

-- ---- none

none_read : (k : StringKind) (bytes rest : List ℕ) → past_stop Break bytes ≡ Some rest → string_by trees k None bytes ≡ Ok (chunked_tree k None, rest)
unfolding until
none_read k bytes rest ends = rw ends refl

pub none_printed : (l : Layout) (k : StringKind) (bytes rest old new : List ℕ) → past_stop Break bytes ≡ Some rest → new ≡ old ++ text (chunked_tree k None) → IsStream l k bytes rest old new
none_printed l k bytes rest old new ends is = (
  chunked_tree k None,
  none_read k bytes rest ends,
  is ∙ ap (λ (y : List ℕ). old ++ y) (text_string (LastPieceTree (LiteralTree (empty_literal k) (Some Indefinite))) ∙ text_last_piece (LiteralTree (empty_literal k) (Some Indefinite)) ∙ text_literal (empty_literal k) (Some Indefinite) ∙ sym (literal_laid l (empty_literal k) (Some Indefinite))),
)
