-- What a call that decodes answers, from what its reader gives.
use Rattle.std.proofs.Common.{◌≡◌, ◌≢◌, ℕ, zero, suc, ◌<◌, ◌≤◌, true, false, eqb, List, [], ◌∷◌, ◌++◌, length, map, Option, Some, None, Result, Ok, Err, refl, sym, ap, subst, ◌∙◌, arith, inl, inr}
use Rattle.std.specs.Prelude.{option_map, IfOk}
use Rattle.std.specs.List.{flat_map}
use Rattle.std.proofs.lemmas.Bool.{cases_lt, eqb-true}
use Rattle.std.proofs.lemmas.List.{append-nil}
use Rattle.cbor_edn_parts.specs.declared.base.error.Fault.{Fault}
use Rattle.cbor_edn_parts.specs.declared.base.error.Fault.TheVariants.{Memory, Told}
use Rattle.cbor_edn_parts.specs.declared.number.Number.{Number}
use Rattle.cbor_edn_parts.specs.declared.string.Literal.{Literal}
use Rattle.cbor_edn_parts.specs.declared.string.Ellipsis.{Ellipsis}
use Rattle.cbor_edn_parts.specs.declared.space.Space.{Space}
use Rattle.cbor_edn_parts.specs.declared.space.MandatorySpace.{MandatorySpace}
use Rattle.cbor_edn_parts.specs.declared.space.Separator.{Separator}
use Rattle.cbor_edn_parts.specs.declared.space.ListEnd.{ListEnd}
use Rattle.cbor_edn_core.specs.declared.tree.ItemsOf.{ItemsOf}
use Rattle.cbor_edn_core.specs.tree.View.{view_items, view_some}
use Rattle.cbor_edn_model.specs.tree.TreeLeaves.{texts}
use Rattle.cbor_edn_model.specs.declared.cbor.decode.CborError.{CborError}
use Rattle.cbor_edn_model.specs.declared.cbor.decode.CborError.TheVariants.{TooDeep}
use Rattle.cbor_edn_model.specs.declared.cbor.decode.head.Stop.TheVariants.{EndOfData}
use Rattle.cbor_edn_model.specs.tree.Items.{Elements, Items, nesting}
use Rattle.cbor_edn_model.specs.tree.Trees.{Tree, OneItem, Rest, Seq, NothingTree, SequenceTree, items}
use Rattle.cbor_edn_model.specs.cbor.Value.{Value, Values, encoding, encodings, Enc, EncAll}
use Rattle.cbor_edn_model.specs.cbor.Meaning.{means}
use Rattle.cbor_edn_parts.specs.base.Refusals.{IfTold}
use Rattle.cbor_edn_model.specs.cbor.Decoded.{item_of, items_of, BeginsWith, IsDecoded, IsDecodedSequence, NoneIs, IsTooDeepEncoding, NoSequence, IsTooDeepSequence}
use Rattle.cbor_edn_model.specs.internal.Regular.{regular, sequence_tree_of, regular_sequence}
use Rattle.cbor_edn_model.specs.internal.Results.{◌>>=◌}
use Rattle.cbor_edn_model.specs.internal.CborReading.{Decoder, DecoderGives, DecoderFails, shown, item_at, until, past_stop, turn, trees, element_row, sequence_at}
use Rattle.cbor_edn_model.proofs.lemmas.cbor.Nestings.{value_nesting, values_nesting, item_nests, items_nest}
use Rattle.cbor_edn_model.proofs.lemmas.cbor.CborHeads.{IsBytes, bind_ok}
use Rattle.cbor_edn_model.proofs.lemmas.cbor.CborTurns.{shown_ok, shown_err}
use Rattle.cbor_edn_model.proofs.lemmas.cbor.CborValues.{values_of, list_of, value_at}
use Rattle.cbor_edn_model.proofs.lemmas.cbor.CborOutcomes.{decoder_outcome, within, beyond, values_many}
use Rattle.cbor_edn_model.proofs.lemmas.cbor.CborAgain.{item_again, values_until}
use Rattle.cbor_edn_model.proofs.lemmas.cbor.CborTakes.{Within, item_takes, until_takes, values_are}
use Rattle.cbor_edn_model.proofs.lemmas.cbor.CborDeep.{item_deep, until_deep}
use Rattle.cbor_edn_model.proofs.lemmas.cbor.CborTrees.{tree_of, tree_of_item, row_tree_of_items, tree_read, until_shown, values_row}
use Rattle.cbor_edn_model.proofs.lemmas.cbor.Decoding.{row_items, items_again, row_again, item_means, items_mean}
use Rattle.cbor_edn_model.proofs.lemmas.layout.RegularTrees.{item_regular, sequence_regular}

-- ---- results

abbrev answer : {A : Type 0} → A → Result A CborError
answer x = Ok x

answers : {A : Type 0} (x y : A) → answer x ≡ answer y → x ≡ y
answers x y e = cc

abbrev refusal : {A : Type 0} → CborError → Result A CborError
refusal {A} e = Err e

answer_refused : {A : Type 0} (x : A) (e : CborError) → answer x ≡ refusal e → ⊥
answer_refused x e is = cc

same_refusal : {A : Type 0} (d e : CborError) → refusal {A = A} d ≡ refusal e → d ≡ e
same_refusal d e is = cc

shown_outcome : {A B : Type 0} (f : A → B) (n limit : ℕ) (x : A) (rest : List ℕ) → shown f (decoder_outcome n limit (x, rest)) ≡ decoder_outcome n limit (f x, rest)
shown_outcome f n limit x rest =
    elim (cases_lt limit n) [
      | inl lt ↦ ap (shown f) (beyond n limit (x, rest) lt) ∙ sym (beyond n limit (f x, rest) lt)
      | inr le ↦ ap (shown f) (within n limit (x, rest) le) ∙ sym (within n limit (f x, rest) le)
    ]

-- an outcome that is refused is too deep
outcome_err : {A : Type 0} (n limit : ℕ) (x : A) (e : CborError) → decoder_outcome n limit x ≡ Err e → (limit < n) × (e ≡ TooDeep)
outcome_err {A} n limit x e is =
    elim (cases_lt limit n) [
      | inl lt ↦ (lt, same_refusal {A = A} e TooDeep (sym is ∙ beyond n limit x lt))
      | inr le ↦ absurd (answer_refused x e (sym (within n limit x le) ∙ is))
    ]

outcome_ok : {A : Type 0} (n limit : ℕ) (x y : A) → decoder_outcome n limit x ≡ Ok y → x ≡ y
outcome_ok n limit x y is =
    elim (cases_lt limit n) [
      | inl lt ↦ absurd (answer_refused y TooDeep (sym is ∙ beyond n limit x lt))
      | inr le ↦ answers x y (sym (within n limit x le) ∙ is)
    ]

pub is_empty : (xs : List ℕ) → eqb (length xs) 0 ≡ true → xs ≡ []
is_empty [] e = refl
is_empty (x ∷ xs) e = let wrong = eqb-true (length (x ∷ xs)) 0 e in absurd (omega arith)

pub not_empty : (xs : List ℕ) → eqb (length xs) 0 ≡ false → xs ≢ []
not_empty [] e = absurd cc
not_empty (x ∷ xs) e = λ is. cc

-- ---- one item

-- the bytes begin with an encoding
abbrev Somewhere : List ℕ → Value → Type 0
Somewhere bytes v = (rest : List ℕ) × BeginsWith bytes rest v

module _ (limit : ℕ) (bytes : List ℕ) where
  tree_found : (v : Value) (rest : List ℕ) → BeginsWith bytes rest v → item_at trees limit bytes ≡ decoder_outcome (value_nesting v) limit (tree_of v, rest)
  tree_found v rest begins =
      tree_read limit bytes ∙ ap (shown tree_of) (ap (value_at limit) (begins.2 ∙ ap (λ (l : List ℕ). l ++ rest) begins.1.1) ∙ item_again v limit rest begins.1.0) ∙ shown_outcome tree_of (value_nesting v) limit v rest

  pub found : (y : Tree OneItem × List ℕ) → IsBytes bytes → item_at trees limit bytes ≡ Ok y → IsDecoded limit (BeginsWith bytes y.1) y.0
  found y fits e =
      let s = shown_ok tree_of (value_at limit bytes) y (sym (tree_read limit bytes) ∙ e) in
      let v = s.0.0 in
      let good = item_takes limit bytes s.0 fits s.1 in
      let tree : y.0 ≡ regular (item_of v) = ap (λ (p : Tree OneItem × List ℕ). p.0) (sym s.2) ∙ tree_of_item v in
      let rest_is : s.0.1 ≡ y.1 = ap (λ (p : Tree OneItem × List ℕ). p.1) s.2 in
      let same : items y.0 ≡ item_of v = ap (λ (w : Tree OneItem). items w) tree ∙ items_again v in
      record {
        value = v;
        encoded = (encoding v, (good.0.0, refl), good.1.parts ∙ ap (λ (l : List ℕ). encoding v ++ l) rest_is);
        within = omega (arith, item_nests v, good.0.1);
        same_items = same;
        spaced = tree ∙ sym (item_regular v y.0 same);
        meant = ap means same ∙ item_means v good.0.0;
      }

  pub refused : (e : CborError) → item_at trees limit bytes ≡ Err e → e ≢ TooDeep → NoneIs (Somewhere bytes)
  refused e is other v somewhere = other (outcome_err (value_nesting v) limit (tree_of v, somewhere.0) e (sym (tree_found v somewhere.0 somewhere.1) ∙ is)).1

  pub too_deep : IsBytes bytes → item_at trees limit bytes ≡ Err TooDeep → IsTooDeepEncoding limit bytes (Somewhere bytes)
  too_deep fits is = (
    item_deep limit bytes fits (shown_err tree_of (value_at limit bytes) TooDeep (sym (tree_read limit bytes) ∙ is)),
    λ v somewhere. omega (arith, item_nests v, (outcome_err (value_nesting v) limit (tree_of v, somewhere.0) TooDeep (sym (tree_found v somewhere.0 somewhere.1) ∙ is)).0),
  )

  -- all of the bytes
  abbrev whole : (v : Value) → Enc bytes v → Somewhere bytes v
  whole v enc = ([], (bytes, enc, sym (append-nil bytes)))

  pub found_whole : (y : Tree OneItem × List ℕ) → IsBytes bytes → item_at trees limit bytes ≡ Ok y → y.1 ≡ [] → IsDecoded limit (Enc bytes) y.0
  found_whole y fits e ends =
      let d = found y fits e in
      let same : bytes ≡ d.encoded.0 = d.encoded.2 ∙ ap (λ (l : List ℕ). d.encoded.0 ++ l) ends ∙ append-nil d.encoded.0 in
      record {
        value = d.value;
        encoded = subst (λ (l : List ℕ). Enc l d.value) (sym same) d.encoded.1;
        within = d.within;
        same_items = d.same_items;
        spaced = d.spaced;
        meant = d.meant;
      }

  pub refused_whole : (e : CborError) → item_at trees limit bytes ≡ Err e → e ≢ TooDeep → NoneIs (Enc bytes)
  refused_whole e is other v enc = refused e is other v (whole v enc)

  pub too_deep_whole : IsBytes bytes → item_at trees limit bytes ≡ Err TooDeep → IsTooDeepEncoding limit bytes (Enc bytes)
  too_deep_whole fits is = let t = too_deep fits is in (t.0, λ v enc. t.1 v (whole v enc))

  -- where more follows
  pub refused_behind : (y : Tree OneItem × List ℕ) → item_at trees limit bytes ≡ Ok y → y.1 ≢ [] → NoneIs (Enc bytes)
  refused_behind y e more v enc =
      let w = whole v enc in
      let same = outcome_ok (value_nesting v) limit (tree_of v, []) y (sym (tree_found v [] w.1) ∙ e) in
      more (ap (λ (p : Tree OneItem × List ℕ). p.1) (sym same))

  -- of a call's result
  pub gives_accepted : {T : Type 0} (view : T → Tree OneItem × List ℕ) (r : Result T (Fault CborError)) → IsBytes bytes → DecoderGives view r (item_at trees limit bytes) → IfOk r (λ x. IsDecoded limit (BeginsWith bytes (view x).1) (view x).0)
  gives_accepted view (Ok x) fits given = found (view x) fits given
  gives_accepted view (Err e) fits given = tt

  pub gives_refused : {T : Type 0} (view : T → Tree OneItem × List ℕ) (r : Result T (Fault CborError)) → DecoderGives view r (item_at trees limit bytes) → IfTold r (λ e. e ≢ TooDeep → NoneIs (Somewhere bytes))
  gives_refused view (Ok x) given = tt
  gives_refused view (Err (Memory e)) given = tt
  gives_refused view (Err (Told e)) given = refused e given

  pub gives_deep : {T : Type 0} (view : T → Tree OneItem × List ℕ) (r : Result T (Fault CborError)) → IsBytes bytes → DecoderGives view r (item_at trees limit bytes) → IfTold r (λ e. e ≡ TooDeep → IsTooDeepEncoding limit bytes (Somewhere bytes))
  gives_deep view (Ok x) fits given = tt
  gives_deep view (Err (Memory e)) fits given = tt
  gives_deep view (Err (Told e)) fits given = λ is. too_deep fits (given ∙ ap (λ d. refusal d) is)

  pub fails_refused : (T : Type 0) (f : Fault CborError) → DecoderFails f (item_at trees limit bytes) → IfTold {X = T} (Err f) (λ e. e ≢ TooDeep → NoneIs (Enc bytes))
  fails_refused T (Memory e) fails = tt
  fails_refused T (Told e) fails = refused_whole e fails

  pub fails_deep : (T : Type 0) (f : Fault CborError) → IsBytes bytes → DecoderFails f (item_at trees limit bytes) → IfTold {X = T} (Err f) (λ e. e ≡ TooDeep → IsTooDeepEncoding limit bytes (Enc bytes))
  fails_deep T (Memory e) fits fails = tt
  fails_deep T (Told e) fits fails = λ is. too_deep_whole fits (fails ∙ ap (λ d. refusal d) is)

-- ---- sequences

stopped : (xs rest : List ℕ) → past_stop EndOfData xs ≡ Some rest → rest ≡ []
stopped [] rest is = cc
stopped (b ∷ xs) rest is = absurd cc

ends_by : {A : Type 0} (one : Decoder A) (more : Decoder (List A)) → ((bytes : List ℕ) (x : List A × List ℕ) → more bytes ≡ Ok x → x.1 ≡ []) → (bytes : List ℕ) (x : List A × List ℕ) (o : Option (List ℕ)) → past_stop EndOfData bytes ≡ o → turn one more bytes o ≡ Ok x → x.1 ≡ []
ends_by {A} one more again bytes x (Some rest) is e = ap (λ (y : List A × List ℕ). y.1) (sym (answers ([], rest) x e)) ∙ stopped bytes rest is
ends_by {A} one more again bytes x None is e =
    let a = bind_ok (one bytes) (λ y. more y.1 >>= λ ys. Ok (y.0 ∷ ys.0, ys.1)) x e in
    let b = bind_ok (more a.0.1) (λ ys. Ok (a.0.0 ∷ ys.0, ys.1)) x a.2 in
    ap (λ (y : List A × List ℕ). y.1) (sym (answers (a.0.0 ∷ b.0.0, b.0.1) x b.2)) ∙ again a.0.1 b.0 b.1

-- a sequence is read to its end
ends_at : {A : Type 0} (one : Decoder A) (n : ℕ) (bytes : List ℕ) (x : List A × List ℕ) → until EndOfData one n bytes ≡ Ok x → x.1 ≡ []
unfolding until
ends_at one zero bytes x e = absurd cc
ends_at one (suc n) bytes x e = ends_by one (until EndOfData one n) (ends_at one n) bytes x (past_stop EndOfData bytes) refl e

module _ (limit : ℕ) (bytes : List ℕ) where
  sequence_read : sequence_at trees limit bytes ≡ shown (map tree_of) (until EndOfData (value_at limit) (suc (length bytes)) bytes)
  sequence_read = until_shown tree_of EndOfData (item_at trees limit) (value_at limit) (tree_read limit) (suc (length bytes)) bytes

  sequence_again : (vs : Values) → EncAll bytes vs → sequence_at trees limit bytes ≡ decoder_outcome (values_nesting vs) limit (map tree_of (list_of vs), [])
  sequence_again vs enc =
      let all : encodings vs ++ [] ≡ bytes = append-nil (encodings vs) ∙ sym enc.1 in
      let read : until EndOfData (value_at limit) (suc (length bytes)) bytes ≡ decoder_outcome (values_nesting vs) limit (list_of vs, []) =
      ap (until EndOfData (value_at limit) (suc (length bytes))) (sym all)
      ∙ values_until vs enc.0 EndOfData limit (suc (length bytes)) [] [] refl (omega (arith, values_many vs, ap length enc.1)) in
      sequence_read ∙ ap (shown (map tree_of)) read ∙ shown_outcome (map tree_of) (values_nesting vs) limit (list_of vs) []

  pub sequence_found : (y : List (Tree OneItem) × List ℕ) → IsBytes bytes → sequence_at trees limit bytes ≡ Ok y → (vs : Values) × EncAll bytes vs × (nesting (items_of vs) ≤ limit) × (element_row y.0 ≡ regular (items_of vs)) × (means (items_of vs) ≡ Some vs)
  sequence_found y fits e =
      let s = shown_ok (map tree_of) (until EndOfData (value_at limit) (suc (length bytes)) bytes) y (sym sequence_read ∙ e) in
      let t = until_takes EndOfData (Within limit) encoding (value_at limit) (item_takes limit) (suc (length bytes)) bytes s.0 fits s.1 in
      let are = values_are limit s.0.0 t.0 in
      let vs = values_of s.0.0 in
      let split : bytes ≡ encodings vs = t.1.parts ∙ ap (λ (l : List ℕ). (flat_map encoding s.0.0 ++ []) ++ l) (ends_at (value_at limit) (suc (length bytes)) bytes s.0 s.1) ∙ append-nil _ ∙ append-nil (flat_map encoding s.0.0) ∙ are.spelled in
      (vs, (are.fit, split), omega (arith, items_nest vs, are.nested), ap (λ (p : List (Tree OneItem) × List ℕ). element_row p.0) (sym s.2) ∙ (values_row s.0.0).0 ∙ row_tree_of_items vs, items_mean vs are.fit)

  pub sequence_refused : (e : CborError) → sequence_at trees limit bytes ≡ Err e → e ≢ TooDeep → NoSequence bytes
  sequence_refused e is other vs enc = other (outcome_err (values_nesting vs) limit (map tree_of (list_of vs), []) e (sym (sequence_again vs enc) ∙ is)).1

  pub sequence_too_deep : IsBytes bytes → sequence_at trees limit bytes ≡ Err TooDeep → IsTooDeepSequence limit bytes
  sequence_too_deep fits is = (
    until_deep EndOfData (Within limit) encoding (value_at limit) limit (item_takes limit) (item_deep limit) (suc (length bytes)) bytes fits
        (shown_err (map tree_of) (until EndOfData (value_at limit) (suc (length bytes)) bytes) TooDeep (sym sequence_read ∙ is)),
    λ vs enc. omega (arith, items_nest vs, (outcome_err (values_nesting vs) limit (map tree_of (list_of vs), []) TooDeep (sym (sequence_again vs enc) ∙ is)).0),
  )

  pub sequence_fails_refused : (T : Type 0) (f : Fault CborError) → DecoderFails f (sequence_at trees limit bytes) → IfTold {X = T} (Err f) (λ e. e ≢ TooDeep → NoSequence bytes)
  sequence_fails_refused T (Memory e) fails = tt
  sequence_fails_refused T (Told e) fails = sequence_refused e fails

  pub sequence_fails_deep : (T : Type 0) (f : Fault CborError) → IsBytes bytes → DecoderFails f (sequence_at trees limit bytes) → IfTold {X = T} (Err f) (λ e. e ≡ TooDeep → IsTooDeepSequence limit bytes)
  sequence_fails_deep T (Memory e) fits fails = tt
  sequence_fails_deep T (Told e) fits fails = λ is. sequence_too_deep fits (fails ∙ ap (λ d. refusal d) is)

  pub sequence_items : (m : Items) (o : Option (Tree (Rest Elements))) → row_items o ≡ m → items (sequence_tree_of o) ≡ m
  unfolding items
  sequence_items m None e = e
  sequence_items m (Some t) e = e

  -- the tree of a sequence that was read
  pub sequence_decoded : (w : Tree Seq) (o : Option (Tree (Rest Elements))) (ws : List (Tree OneItem)) (rest : List ℕ) → IsBytes bytes → sequence_at trees limit bytes ≡ Ok (ws, rest) → w ≡ sequence_tree_of o → o ≡ element_row ws → IsDecodedSequence limit bytes w
  sequence_decoded w o ws rest fits e tree row =
      let f = sequence_found (ws, rest) fits e in
      let is : w ≡ regular_sequence (items_of f.0) = tree ∙ ap sequence_tree_of (row ∙ f.3) in
      let same : items w ≡ items_of f.0 = ap (λ (t : Tree Seq). items t) is ∙ sequence_items (items_of f.0) (regular (items_of f.0)) (row_again f.0) in
      record { values = f.0; encoded = f.1; within = f.2; same_items = same; spaced = is ∙ sym (sequence_regular f.0 w same); meant = ap means same ∙ f.4 }

pub sequence_view : (s : List ℕ) (o : Option (ItemsOf Space MandatorySpace Separator ListEnd Number Literal Ellipsis)) → s ≡ [] → view_some texts s o ≡ sequence_tree_of (option_map (view_items texts) o)
sequence_view s None e = ap NothingTree e
sequence_view s (Some m) e = ap (λ s. SequenceTree s (view_items texts m)) e
