-- Reading from the front of the bytes alone.
use Rattle.std.proofs.Common.{◌≡◌, ℕ, ◌+◌, ◌-◌, ◌*◌, ◌≤◌, ◌<◌, take, drop, List, ◌++◌, length, Result, Ok, Err, sym, ap, ◌∙◌, append_assoc, length-append, arith, inl, inr}
use Rattle.std.proofs.lemmas.Bool.{cases_lt}
use Rattle.std.proofs.lemmas.List.{take-append-drop}
use Rattle.std.proofs.Math.Seq.{take-append-add, drop-append_seam}
use Rattle.cbor_edn_model.specs.declared.cbor.decode.CborError.{CborError}
use Rattle.cbor_edn_model.specs.tree.Trees.{Tree, OneItem}
use Rattle.cbor_edn_model.specs.cbor.Value.{Value, encoding}
use Rattle.cbor_edn_model.specs.internal.CborReading.{shown, item_at, trees}
use Rattle.cbor_edn_model.proofs.lemmas.cbor.Nestings.{value_nesting}
use Rattle.cbor_edn_model.proofs.lemmas.cbor.CborHeads.{IsBytes, IsBytes-take}
use Rattle.cbor_edn_model.proofs.lemmas.cbor.CborValues.{value_at}
use Rattle.cbor_edn_model.proofs.lemmas.cbor.CborOutcomes.{within}
use Rattle.cbor_edn_model.proofs.lemmas.cbor.CborAgain.{item_again}
use Rattle.cbor_edn_model.proofs.lemmas.cbor.CborTakes.{Within, item_takes}
use Rattle.cbor_edn_model.proofs.lemmas.cbor.CborTurns.{shown_ok}
use Rattle.cbor_edn_model.proofs.lemmas.cbor.CborTrees.{tree_of, tree_read}
use Rattle.cbor_edn_stream.proofs.lemmas.Lengths.{line_width, value_long}

refused_is : {A : Type 0} (r : Result A CborError) (x : A) (e : CborError) → r ≡ Ok x → r ≡ Err e → ⊥
refused_is r x e ok err = cc

module _ (limit : ℕ) where
  -- what was read is the tree of a value, behind its encoding
  pub read_value : (bytes : List ℕ) (y : Tree OneItem × List ℕ) → IsBytes bytes → item_at trees limit bytes ≡ Ok y → (v : Value) × Within limit v × (bytes ≡ encoding v ++ y.1) × (tree_of v ≡ y.0)
  read_value bytes y fits e =
      let s = shown_ok tree_of (value_at limit bytes) y (sym (tree_read limit bytes) ∙ e) in
      let good = item_takes limit bytes s.0 fits s.1 in
      let rest_is : s.0.1 ≡ y.1 = ap (λ (p : Tree OneItem × List ℕ). p.1) s.2 in
      (s.0.0, good.0, good.1.parts ∙ ap (λ (l : List ℕ). encoding s.0.0 ++ l) rest_is, ap (λ (p : Tree OneItem × List ℕ). p.0) s.2)

  -- it is read again, whatever follows
  pub read_again : (v : Value) (rest : List ℕ) → Within limit v → item_at trees limit (encoding v ++ rest) ≡ Ok (tree_of v, rest)
  read_again v rest w = tree_read limit (encoding v ++ rest) ∙ ap (shown tree_of) (item_again v limit rest w.0 ∙ within (value_nesting v) limit (v, rest) w.1)

  -- what is read from the front is read from all
  pub front_read : (n : ℕ) (bytes behind : List ℕ) (t : Tree OneItem) → IsBytes bytes → item_at trees limit (take n bytes) ≡ Ok (t, behind) → item_at trees limit bytes ≡ Ok (t, drop (length (take n bytes) - length behind) bytes)
  front_read n bytes behind t fits e =
      let r = read_value (take n bytes) (t, behind) (IsBytes-take n bytes fits) e in
      let v = r.0 in
      let whole : bytes ≡ encoding v ++ (behind ++ drop n bytes) = sym (take-append-drop n bytes) ∙ ap (λ (l : List ℕ). l ++ drop n bytes) r.2 ∙ append_assoc (encoding v) behind (drop n bytes) in
      let len : length (take n bytes) ≡ length (encoding v) + length behind = ap length r.2 ∙ length-append (encoding v) behind in
      let skip : length (take n bytes) - length behind ≡ length (encoding v) = omega (arith, len) in
      let rest : drop (length (take n bytes) - length behind) bytes ≡ behind ++ drop n bytes = ap (λ k. drop k bytes) skip ∙ ap (drop (length (encoding v))) whole ∙ drop-append_seam (encoding v) (behind ++ drop n bytes) in
      ap (item_at trees limit) whole ∙ read_again v (behind ++ drop n bytes) r.1 ∙ ap (λ (l : List ℕ). Ok (tree_of v, l)) (sym rest) ∙ ap (λ (w : Tree OneItem). Ok (w, drop (length (take n bytes) - length behind) bytes)) r.3

  -- what is not read from the front of so many bytes takes more, and so has more than a ninth of them on a single line
  pub front_refused : (n : ℕ) (bytes : List ℕ) (e : CborError) (y : Tree OneItem × List ℕ) → IsBytes bytes → item_at trees limit (take n bytes) ≡ Err e → item_at trees limit bytes ≡ Ok y → (n < 9 * line_width y.0) × (n < length bytes)
  front_refused n bytes e y fits refused read =
      let r = read_value bytes y fits read in
      let v = r.0 in
      let long = value_long v r.1.0 in
      let same : line_width (tree_of v) ≡ line_width y.0 = ap (λ (w : Tree OneItem). line_width w) r.3 in
      let len : length bytes ≡ length (encoding v) + length y.1 = ap length r.2 ∙ length-append (encoding v) y.1 in
      elim (cases_lt n (length (encoding v))) [
        | inl lt ↦ (omega (arith, lt, long, same), omega (arith, lt, len))
        | inr le ↦ absurd (let front : take n bytes ≡ encoding v ++ take (n - length (encoding v)) y.1 = ap (take n) r.2 ∙ taken (encoding v) y.1 n le in refused_is (item_at trees limit (take n bytes)) (tree_of v, take (n - length (encoding v)) y.1) e (ap (item_at trees limit) front ∙ read_again v (take (n - length (encoding v)) y.1) r.1) refused)
      ] where
        taken : (a b : List ℕ) (n : ℕ) → length a ≤ n → take n (a ++ b) ≡ a ++ take (n - length a) b
        taken a b n le = let same : n ≡ length a + (n - length a) = omega (arith, le) in ap (λ k. take k (a ++ b)) same ∙ take-append-add a b (n - length a)
