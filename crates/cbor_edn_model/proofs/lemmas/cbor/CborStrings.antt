-- How strings are read.
use Rattle.std.proofs.Common.{◌≡◌, ℕ, ◌≤◌, ◌<◌, Bool, true, false, ltb, eqb, take, drop, List, length, map, Option, Some, None, Ok, Err, refl, sym, ap, ◌∙◌, arith, inl, inr}
use Rattle.std.proofs.lemmas.Bool.{ltb-false, lt-ltb, le-ltb}
use Rattle.std.proofs.lemmas.List.{length-take}
use Rattle.std.proofs.lemmas.Str.{IsUtf8-from_is_utf8}
use Rattle.std.specs.Str.{IsUtf8, is_utf8}
use Rattle.cbor_edn_parts.specs.string.Contents.{kind_literal}
use Rattle.cbor_edn_parts.specs.declared.base.error.Fault.{Fault}
use Rattle.cbor_edn_parts.specs.declared.base.error.Fault.TheVariants.{Memory, Told}
use Rattle.cbor_edn_parts.specs.declared.string.StringKind.{StringKind}
use Rattle.cbor_edn_model.specs.declared.cbor.heads.Width.{Width}
use Rattle.cbor_edn_model.specs.declared.cbor.decode.CborError.{CborError}
use Rattle.cbor_edn_model.specs.declared.cbor.decode.CborError.TheVariants.{OtherChunk, OpenChunk, MissingBytes, InvalidUtf8}
use Rattle.cbor_edn_model.specs.declared.cbor.decode.head.Stop.TheVariants.{Break}
use Rattle.cbor_edn_model.specs.tree.Trees.{Tree, OneString, StringTree, LiteralTree, LastPieceTree}
use Rattle.cbor_edn_model.specs.cbor.Value.{is_content, string_major}
use Rattle.cbor_edn_model.specs.cbor.Decoded.{indicator_of}
use Rattle.cbor_edn_model.specs.internal.CborReading.{Decoder, DecoderFails, shown, head_at, until, string_at, chunk_at, chunk_by, string_by, definite_tree, string_row, chunked_tree, chunks_tree, trees}
use Rattle.cbor_edn_model.proofs.lemmas.cbor.CborHeads.{chosen}
use Rattle.cbor_edn_model.proofs.lemmas.cbor.CborTrees.{until_shown, shown_again}
use Rattle.cbor_edn_model.proofs.lemmas.cbor.CborTurns.{shown_ok, shown_fails, fails_shown}

-- so many bytes are read
string_len : (k : StringKind) (n : ℕ) (bytes : List ℕ) (s : List ℕ × List ℕ) → string_at k n bytes ≡ Ok s → length s.0 ≡ n
unfolding string_at
string_len k n bytes s e =
    elim (chosen (ltb (length bytes) n) _ _ _ e) [
      | inl a ↦ absurd (let g = a.1 in cc)
      | inr a ↦ elim (chosen (is_content k (take n bytes)) _ _ _ a.1) [
        | inl b ↦ (let front : take n bytes ≡ s.0 = (let g = b.1 in cc) in omega (arith, ap length front, length-take n bytes, ltb-false _ _ a.0))
        | inr b ↦ absurd (let g = b.1 in cc)
      ]
    ]

module _ (k : StringKind) (n : ℕ) (bytes : List ℕ) where
  pub missing : length bytes < n → string_at k n bytes ≡ Err MissingBytes
  unfolding string_at
  missing lt = let short : ltb (length bytes) n ≡ true = lt-ltb _ _ lt in rw short refl

  pub invalid : n ≤ length bytes → is_content k (take n bytes) ≡ false → string_at k n bytes ≡ Err InvalidUtf8
  unfolding string_at
  invalid le none = let long : ltb (length bytes) n ≡ false = le-ltb _ _ le in rw (long, none) refl

  pub literal_read : (front rest literal : List ℕ) → n ≤ length bytes → front ≡ take n bytes → rest ≡ drop n bytes → is_content k front ≡ true → literal ≡ kind_literal k front → shown (kind_literal k) (string_at k n bytes) ≡ Ok (literal, rest)
  unfolding string_at
  literal_read front rest literal le front_is rest_is content is =
      let long : ltb (length bytes) n ≡ false = le-ltb _ _ le in
      rw (← front_is, ← rest_is, long, content, is) refl

pub not_utf8 : (bs : List ℕ) → (IsUtf8 bs → ⊥) → is_utf8 bs ≡ false
not_utf8 bs refuted = by_test (is_utf8 bs) (λ e. refuted (IsUtf8-from_is_utf8 bs e))
  where
    by_test : (b : Bool) → (b ≡ true → ⊥) → b ≡ false
    by_test true refuted = absurd (refuted refl)
    by_test false refuted = refl

module _ (k : StringKind) where
  -- a literal and its indicator
  pub definite_read : (w : Width) (n : ℕ) (bytes literal rest : List ℕ) → shown (kind_literal k) (string_at k n bytes) ≡ Ok (literal, rest)
      → shown (λ bs. definite_tree k (w, bs)) (string_at k n bytes) ≡ Ok (LastPieceTree (LiteralTree literal (indicator_of w n)), rest)
  definite_read w n bytes literal rest e =
      let s = shown_ok (kind_literal k) (string_at k n bytes) (literal, rest) e in
      ap (shown (λ bs. definite_tree k (w, bs))) s.1
      ∙ ap (λ m. Ok (LastPieceTree (LiteralTree (kind_literal k s.0.0) (indicator_of w m)), s.0.1)) (string_len k n bytes s.0 s.1)
      ∙ ap (λ (p : List ℕ × List ℕ). Ok (LastPieceTree (LiteralTree p.0 (indicator_of w n)), p.1)) s.2

  -- a string by itself
  pub alone_read : (w : Width) (n : ℕ) (bytes rest : List ℕ) (t : Tree OneString) → shown (λ bs. definite_tree k (w, bs)) (string_at k n bytes) ≡ Ok (t, rest) → string_by trees k (Some (w, n)) bytes ≡ Ok (StringTree t, rest)
  alone_read w n bytes rest t e = sym (shown_again (λ bs. definite_tree k (w, bs)) StringTree (string_at k n bytes)) ∙ ap (shown StringTree) e

  pub chunk_fails : (e : Fault CborError) (bytes : List ℕ) → DecoderFails e (head_at bytes) → DecoderFails e (shown (definite_tree k) (chunk_at k bytes))
  unfolding chunk_at
  chunk_fails (Memory m) bytes h = tt
  chunk_fails (Told e) bytes h = rw h refl

  module _ (bytes rest : List ℕ) (major : ℕ) (argument : Option (Width × ℕ)) (read : head_at bytes ≡ Ok ((major, argument), rest)) where
    chunk_read : chunk_at k bytes ≡ chunk_by k (major, argument) rest
    unfolding chunk_at
    chunk_read = rw read refl

    pub other_chunk : eqb major (string_major k) ≡ false → shown (definite_tree k) (chunk_at k bytes) ≡ Err OtherChunk
    other_chunk other = ap (shown (definite_tree k)) (chunk_read ∙ by_argument argument)
      where
        by_argument : (o : Option (Width × ℕ)) → chunk_by k (major, o) rest ≡ Err OtherChunk
        by_argument None = rw other refl
        by_argument (Some (w, n)) = rw other refl

    pub open_chunk : eqb major (string_major k) ≡ true → argument ≡ None → shown (definite_tree k) (chunk_at k bytes) ≡ Err OpenChunk
    open_chunk same is = let refused : chunk_at k bytes ≡ Err OpenChunk = chunk_read ∙ rw (is, same) refl in ap (shown (definite_tree k)) refused

    pub chunk_found : (w : Width) (n : ℕ) → eqb major (string_major k) ≡ true → argument ≡ Some (w, n) → shown (definite_tree k) (chunk_at k bytes) ≡ shown (λ bs. definite_tree k (w, bs)) (string_at k n rest)
    chunk_found w n same is =
        let found : chunk_at k bytes ≡ shown (λ bs. (w, bs)) (string_at k n rest) = chunk_read ∙ rw (is, same) refl in
        ap (shown (definite_tree k)) found ∙ shown_again (λ bs. (w, bs)) (definite_tree k) (string_at k n rest)

  abbrev pub one : Decoder (Tree OneString)
  one bytes = shown (definite_tree k) (chunk_at k bytes)

  shown_chunks : (n : ℕ) (bytes : List ℕ) → until Break one n bytes ≡ shown (map (definite_tree k)) (until Break (chunk_at k) n bytes)
  shown_chunks n bytes = until_shown (definite_tree k) Break one (chunk_at k) (λ bytes. refl) n bytes

  pub chunks_read : (n : ℕ) (bytes rest : List ℕ) (ws : List (Tree OneString)) → until Break one n bytes ≡ Ok (ws, rest) → shown (chunks_tree k) (until Break (chunk_at k) n bytes) ≡ Ok (chunked_tree k (string_row ws), rest)
  chunks_read n bytes rest ws e =
      let s = shown_ok (map (definite_tree k)) (until Break (chunk_at k) n bytes) (ws, rest) (sym (shown_chunks n bytes) ∙ e) in
      ap (shown (chunks_tree k)) s.1 ∙ ap (λ (p : List (Tree OneString) × List ℕ). Ok (chunked_tree k (string_row p.0), p.1)) s.2

  pub chunks_fail : (e : Fault CborError) (n : ℕ) (bytes : List ℕ) → DecoderFails e (until Break one n bytes) → DecoderFails e (shown (chunks_tree k) (until Break (chunk_at k) n bytes))
  chunks_fail e n bytes h = shown_fails (chunks_tree k) e _ (fails_shown (map (definite_tree k)) e _ (rw shown_chunks at h))
