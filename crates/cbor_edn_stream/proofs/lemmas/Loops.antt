-- Turns of the loops over entries: what is read and printed so far, one entry more, and the last.
use Rattle.std.proofs.Common.{◌≡◌, ℕ, ◌+◌, ◌-◌, ◌≤◌, ◌<◌, List, [], ◌∷◌, ◌++◌, length, Option, Some, None, Ok, refl, sym, ap, subst, ◌∙◌, append_assoc, arith}
use Rattle.cbor_edn_model.specs.declared.cbor.decode.head.Stop.{Stop}
use Rattle.cbor_edn_model.specs.tree.Items.{Row}
use Rattle.cbor_edn_model.specs.tree.Trees.{Tree, OneEntry, Rest, text}
use Rattle.cbor_edn_model.specs.layout.Layout.{Layout, laid}
use Rattle.cbor_edn_model.specs.internal.CborReading.{Decoder, DecoderResult, many, until, past_stop, row_of}
use Rattle.cbor_edn_stream.specs.Printed.{Writes, WritesRow, separator, finish}
use Rattle.cbor_edn_model.proofs.lemmas.cbor.CborTurns.{with_front, goes_on, is_done, until_more, until_done}
use Rattle.cbor_edn_stream.proofs.lemmas.RowTexts.{fronts, fronts_push, row_last}

module _ (k : Row) (l : Layout) (reader : Decoder (Tree (OneEntry k))) where
  abbrev Entry : Type 0
  Entry = Tree (OneEntry k)

  -- an entry that was read and printed
  abbrev pub IsEntry : List ℕ → List ℕ → List ℕ → List ℕ → Type 0
  IsEntry rest after old new = (e : Tree (OneEntry k)) × (reader rest ≡ Ok (e, after)) × Writes l e old new

  -- all entries, with the end of their list
  abbrev pub AreEntries : DecoderResult (List (Tree (OneEntry k))) → List ℕ → List ℕ → List ℕ → Type 0
  AreEntries total after old new = (es : List (Tree (OneEntry k))) × (total ≡ Ok (es, after)) × WritesRow l (row_of es) old new

  abbrev pub Shown : List (Tree (OneEntry k)) → List ℕ → List ℕ → Type 0
  Shown done old new = new ≡ old ++ fronts l done

  shown_more : (done : List (Tree (OneEntry k))) (e : Tree (OneEntry k)) (old now mid next : List ℕ) → Shown done old now → mid ≡ now ++ text (laid l e) → next ≡ mid ++ separator l → Shown (done ++ e ∷ []) old next
  shown_more done e old now mid next so_far one more =
      more ∙ ap (λ (t : List ℕ). t ++ separator l) (one ∙ ap (λ (t : List ℕ). t ++ text (laid l e)) so_far)
      ∙ regroup old (fronts l done) (text (laid l e)) (separator l) ∙ ap (λ (t : List ℕ). old ++ t) (sym (fronts_push l done e))
    where
      regroup : (a b c d : List ℕ) → ((a ++ b) ++ c) ++ d ≡ a ++ (b ++ (c ++ d))
      regroup a b c d = simp append_assoc refl

  shown_last : (done : List (Tree (OneEntry k))) (e : Tree (OneEntry k)) (old now mid next : List ℕ) → Shown done old now → mid ≡ now ++ text (laid l e) → next ≡ mid ++ finish l → WritesRow l (row_of (done ++ e ∷ [])) old next
  shown_last done e old now mid next so_far one more =
      let r = row_last l done e in
      subst (λ (o : Option (Tree (Rest k))). WritesRow l o old next) (sym r.1)
      (more ∙ ap (λ (t : List ℕ). t ++ finish l) (one ∙ ap (λ (t : List ℕ). t ++ text (laid l e)) so_far)
      ∙ regroup old (fronts l done) (text (laid l e)) (finish l) ∙ ap (λ (t : List ℕ). old ++ t) (sym r.2))
    where
      regroup : (a b c d : List ℕ) → ((a ++ b) ++ c) ++ d ≡ a ++ (b ++ (c ++ d))
      regroup a b c d = simp append_assoc refl

  -- ---- so many

  abbrev pub SoFar : ℕ → ℕ → DecoderResult (List (Tree (OneEntry k))) → List ℕ → List ℕ → List ℕ → Type 0
  SoFar count i total rest old new = (done : List (Tree (OneEntry k))) × (with_front done (many reader (count - i) rest) ≡ total) × (new ≡ old ++ fronts l done)

  pub many_on : (count i : ℕ) (total : DecoderResult (List (Tree (OneEntry k)))) (rest after old now mid next : List ℕ) → i < count → SoFar count i total rest old now → IsEntry rest after now mid → next ≡ mid ++ separator l → SoFar count (i + 1) total after old next
  many_on count i total rest after old now mid next lt so_far entry more =
      let s = shown_more so_far.0 entry.0 old now mid next so_far.2 entry.2 more in
      (so_far.0 ++ entry.0 ∷ [], goes_on reader so_far.0 count i rest after entry.0 total lt entry.1 so_far.1, s)

  pub many_last : (count i : ℕ) (total : DecoderResult (List (Tree (OneEntry k)))) (rest after old now mid next : List ℕ) → i < count → count ≤ i + 1 → SoFar count i total rest old now → IsEntry rest after now mid → next ≡ mid ++ finish l → AreEntries total after old next
  many_last count i total rest after old now mid next lt le so_far entry more =
      let s = shown_last so_far.0 entry.0 old now mid next so_far.2 entry.2 more in
      (so_far.0 ++ entry.0 ∷ [], is_done reader (so_far.0 ++ entry.0 ∷ []) count (i + 1) after total le (goes_on reader so_far.0 count i rest after entry.0 total lt entry.1 so_far.1), s)

  -- ---- up to an end

  abbrev pub Until : Stop → DecoderResult (List (Tree (OneEntry k))) → List ℕ → List ℕ → List ℕ → Type 0
  Until stop total rest old new = (done : List (Tree (OneEntry k))) × (n : ℕ) × (length rest < n) × (with_front done (until stop reader n rest) ≡ total) × (new ≡ old ++ fronts l done)

  pub until_on : (stop : Stop) (total : DecoderResult (List (Tree (OneEntry k)))) (rest after old now mid next : List ℕ) → past_stop stop rest ≡ None → length after < length rest → Until stop total rest old now → IsEntry rest after now mid → next ≡ mid ++ separator l → Until stop total after old next
  until_on stop total rest after old now mid next going less so_far entry more =
      let s = shown_more so_far.0 entry.0 old now mid next so_far.4 entry.2 more in
      (so_far.0 ++ entry.0 ∷ [], so_far.1 - 1, omega (arith, so_far.2, less), until_more stop reader so_far.0 so_far.1 rest after entry.0 total (omega (arith, so_far.2)) going entry.1 so_far.3, s)

  pub until_last : (stop : Stop) (total : DecoderResult (List (Tree (OneEntry k)))) (rest after behind old now mid next : List ℕ) → past_stop stop rest ≡ None → length after < length rest → past_stop stop after ≡ Some behind → Until stop total rest old now → IsEntry rest after now mid → next ≡ mid ++ finish l → AreEntries total behind old next
  until_last stop total rest after behind old now mid next going less ends so_far entry more =
      let s = shown_last so_far.0 entry.0 old now mid next so_far.4 entry.2 more in
      let read = until_more stop reader so_far.0 so_far.1 rest after entry.0 total (omega (arith, so_far.2)) going entry.1 so_far.3 in
      (so_far.0 ++ entry.0 ∷ [], until_done stop reader (so_far.0 ++ entry.0 ∷ []) (so_far.1 - 1) after behind total (omega (arith, so_far.2, less)) ends read, s)
