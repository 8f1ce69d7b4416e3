-- What is read is written so, and nests no deeper than it may.
use Rattle.std.proofs.Common.{◌≡◌, ℕ, zero, suc, ◌+◌, ◌≤◌, ◌<◌, true, ltb, eqb, take, drop, List, [], ◌∷◌, ◌++◌, length, Option, Some, None, Ok, refl, sym, ap, subst, ◌∙◌, append_assoc, arith, inl, inr}
use Rattle.std.specs.List.{flat_map, AllByRecursion}
use Rattle.std.proofs.lemmas.Bool.{eqb-true, ltb-false}
use Rattle.std.proofs.lemmas.List.{append-nil, take-append-drop, length-take}
use Rattle.std.proofs.lemmas.List.Elements.{All-from_get_or}
use Rattle.cbor_edn_parts.specs.declared.string.StringKind.{StringKind}
use Rattle.cbor_edn_parts.specs.declared.string.StringKind.TheVariants.{Bytes, Text}
use Rattle.cbor_edn_model.specs.declared.cbor.heads.Width.{Width}
use Rattle.cbor_edn_model.specs.declared.cbor.heads.Width.TheVariants.{Immediate, One, Two, Four, Eight}
use Rattle.cbor_edn_model.specs.declared.text.keyword.NonFinite.{NonFinite}
use Rattle.cbor_edn_model.specs.declared.cbor.decode.head.Stop.{Stop}
use Rattle.cbor_edn_model.specs.declared.cbor.decode.head.Stop.TheVariants.{Break, EndOfData}
use Rattle.cbor_edn_model.specs.cbor.Value.{Value, Chunk, unsigned, negative, string, chunks, array, cbor_map, tag, simple, float, head, ArgumentFits, LengthFits, open_head, list_encoding, string_major, chunk_encoding, chunk_encodings, is_content, AreBytes, ChunkFits, ChunksFit, encoding, encodings, pair_encodings, values_len, pairs_len, Fits, ValuesFit, PairsFit, simple_width, IsSimple, IsFloatWidth}
use Rattle.cbor_edn_model.specs.internal.Results.{◌>>=◌}
use Rattle.cbor_edn_model.specs.internal.CborReading.{Decoder, head_at, many, until, several, past_stop, turn, string_at, chunk_at, chunk_by, string_by, pair_at, item_by, item_at, array_by, map_by, number_by, tag_by, simple_by, float_by, special_by, float_of, simple_nesting}
use Rattle.cbor_edn_model.proofs.lemmas.cbor.Nestings.{value_nesting, values_nesting, pairs_nesting}
use Rattle.cbor_edn_model.proofs.lemmas.cbor.CborHeads.{IsBytes, IsBytes-rest, IsBytes-take, IsBytes-drop, bind_ok, ok_is, chosen, Takes, Takes-then, HeadIs, head_takes}
use Rattle.cbor_edn_model.proofs.lemmas.cbor.CborValues.{values_of, pairs_of, argument_width, makes, value_at, in_front_of}
use Rattle.cbor_edn_model.proofs.lemmas.cbor.CborSpecials.{last_major, one_byte, two_bytes, simple_shallow, float_found}

-- what a reader gives is in P, and is spelled so
abbrev pub Sound : {A : Type 0} → (A → Type 0) → (A → List ℕ) → Decoder A → Type 0
Sound {A} P spelled one = (bytes : List ℕ) (x : A × List ℕ) → IsBytes bytes → one bytes ≡ Ok x → P x.0 × Takes bytes (spelled x.0) x.1

abbrev pub Several : {A : Type 0} → (A → Type 0) → (A → List ℕ) → List ℕ → List ℕ → List A × List ℕ → Type 0
Several P spelled ending bytes x = AllByRecursion P x.0 × Takes bytes (flat_map spelled x.0 ++ ending) x.1

one_more : {A : Type 0} (P : A → Type 0) (spelled : A → List ℕ) (ending bytes after : List ℕ) (a : A) (x : List A × List ℕ) → P a → Takes bytes (spelled a) after → Several P spelled ending after x → Several P spelled ending bytes (a ∷ x.0, x.1)
one_more P spelled ending bytes after a x p first others =
    let both = Takes-then bytes (spelled a) after (flat_map spelled x.0 ++ ending) x.1 first others.1 in
    ((p, others.0), record { parts = both.parts ∙ ap (λ (l : List ℕ). l ++ x.1) (sym (append_assoc (spelled a) (flat_map spelled x.0) ending)); rest_fits = both.rest_fits })

pub many_takes : {A : Type 0} (P : A → Type 0) (spelled : A → List ℕ) (one : Decoder A) → Sound P spelled one → (n : ℕ) (bytes : List ℕ) (x : List A × List ℕ) → IsBytes bytes → many one n bytes ≡ Ok x
    → Several P spelled [] bytes x × (length x.0 ≡ n)
unfolding many
many_takes {A} P spelled one sound zero bytes x fits e =
    subst (λ (y : List A × List ℕ). Several P spelled [] bytes y × (length y.0 ≡ 0)) (ok_is ([], bytes) x e) ((tt, record { parts = refl; rest_fits = fits }), refl)
many_takes {A} P spelled one sound (suc n) bytes x fits e =
    let a = bind_ok (one bytes) (λ y. many one n y.1 >>= λ ys. Ok (y.0 ∷ ys.0, ys.1)) x e in
    let b = bind_ok (many one n a.0.1) (λ ys. Ok (a.0.0 ∷ ys.0, ys.1)) x a.2 in
    let first = sound bytes a.0 fits a.1 in
    let others = many_takes P spelled one sound n a.0.1 b.0 first.1.rest_fits b.1 in
    subst (λ (y : List A × List ℕ). Several P spelled [] bytes y × (length y.0 ≡ suc n)) (ok_is (a.0.0 ∷ b.0.0, b.0.1) x b.2)
    (one_more P spelled [] bytes a.0.1 a.0.0 b.0 first.0 first.1 others.0, ap suc others.1)

-- what ends a row
abbrev pub ending : Stop → List ℕ
ending Break = 255 ∷ []
ending EndOfData = []

broken : (stop : Stop) (bytes rest : List ℕ) → past_stop stop bytes ≡ Some rest → bytes ≡ ending stop ++ rest
broken EndOfData [] rest e = let same : [] ≡ rest = (let g = e in cc) in same
broken EndOfData (b ∷ bytes) rest e = absurd cc
broken Break [] rest e = absurd cc
broken Break (b ∷ bytes) rest e =
    elim (chosen (eqb b 255) (Some bytes) None (Some rest) e) [
      | inl h ↦ (let is : b ≡ 255 = eqb-true b 255 h.0 in let same : bytes ≡ rest = (let g = h.1 in cc) in cc)
      | inr h ↦ absurd (let g = h.1 in cc)
    ]

ended_fits : (stop : Stop) (rest : List ℕ) → IsBytes (ending stop ++ rest) → IsBytes rest
ended_fits Break rest fits = IsBytes-rest 255 rest fits
ended_fits EndOfData rest fits = fits

turned : {A : Type 0} (stop : Stop) (P : A → Type 0) (spelled : A → List ℕ) (one : Decoder A) (more : Decoder (List A)) → Sound P spelled one → ((bytes : List ℕ) (x : List A × List ℕ) → IsBytes bytes → more bytes ≡ Ok x → Several P spelled (ending stop) bytes x)
    → (bytes : List ℕ) (x : List A × List ℕ) (o : Option (List ℕ)) → IsBytes bytes → past_stop stop bytes ≡ o → turn one more bytes o ≡ Ok x → Several P spelled (ending stop) bytes x
turned stop P spelled one more sound again bytes x (Some rest) fits is f =
    let split = broken stop bytes rest is in
    subst (λ (y : List _ × List ℕ). Several P spelled (ending stop) bytes y) (ok_is ([], rest) x f) (tt, record { parts = split; rest_fits = ended_fits stop rest (subst IsBytes split fits) })
turned stop P spelled one more sound again bytes x None fits is f =
    let a = bind_ok (one bytes) (λ y. more y.1 >>= λ ys. Ok (y.0 ∷ ys.0, ys.1)) x f in
    let b = bind_ok (more a.0.1) (λ ys. Ok (a.0.0 ∷ ys.0, ys.1)) x a.2 in
    let first = sound bytes a.0 fits a.1 in
    let others = again a.0.1 b.0 first.1.rest_fits b.1 in
    subst (λ (y : List _ × List ℕ). Several P spelled (ending stop) bytes y) (ok_is (a.0.0 ∷ b.0.0, b.0.1) x b.2) (one_more P spelled (ending stop) bytes a.0.1 a.0.0 b.0 first.0 first.1 others)

pub until_takes : {A : Type 0} (stop : Stop) (P : A → Type 0) (spelled : A → List ℕ) (one : Decoder A) → Sound P spelled one → (n : ℕ) (bytes : List ℕ) (x : List A × List ℕ) → IsBytes bytes → until stop one n bytes ≡ Ok x
    → Several P spelled (ending stop) bytes x
unfolding until
until_takes stop P spelled one sound zero bytes x fits e = absurd cc
until_takes stop P spelled one sound (suc n) bytes x fits e = turned stop P spelled one (until stop one n) sound (until_takes stop P spelled one sound n) bytes x (past_stop stop bytes) fits refl e

-- ---- strings

string_takes : (k : StringKind) (n : ℕ) (bytes : List ℕ) (x : List ℕ × List ℕ) → IsBytes bytes → string_at k n bytes ≡ Ok x → (length x.0 ≡ n) × AreBytes x.0 × (is_content k x.0 ≡ true) × Takes bytes x.0 x.1
unfolding string_at
string_takes k n bytes x fits e =
    elim (chosen (ltb (length bytes) n) _ _ _ e) [
      | inl a ↦ absurd (let g = a.1 in cc)
      | inr a ↦ elim (chosen (is_content k (take n bytes)) _ _ _ a.1) [
        | inl b ↦ subst (λ (y : List ℕ × List ℕ). (length y.0 ≡ n) × AreBytes y.0 × (is_content k y.0 ≡ true) × Takes bytes y.0 y.1) (ok_is (take n bytes, drop n bytes) x b.1)
            (omega (arith, length-take n bytes, ltb-false _ _ a.0), All-from_get_or (λ b. b < 256) (take n bytes) 0 (λ i _. IsBytes-take n bytes fits i), b.0, record { parts = sym (take-append-drop n bytes); rest_fits = IsBytes-drop n bytes fits })
        | inr b ↦ absurd (let g = b.1 in cc)
      ]
    ]

-- a string behind its head
definite_takes : (k : StringKind) (w : Width) (n : ℕ) (bytes rest : List ℕ) (s : List ℕ × List ℕ) → HeadIs bytes (string_major k) (Some (w, n)) rest → string_at k n rest ≡ Ok s → ChunkFits k (w, s.0) × Takes bytes (chunk_encoding k (w, s.0)) s.1
definite_takes k w n bytes rest s h e =
    let t = string_takes k n rest s h.1.rest_fits e in
    let whole : Takes bytes (head (string_major k) w n ++ s.0) s.1 = Takes-then bytes (head (string_major k) w n) rest s.0 s.1 h.1 t.3 in
    ((subst (λ (m : ℕ). ArgumentFits w m) (sym t.0) h.0, t.1, t.2), subst (λ (m : ℕ). Takes bytes (head (string_major k) w m ++ s.0) s.1) (sym t.0) whole)

chunk_by_takes : (k : StringKind) (major : ℕ) (argument : Option (Width × ℕ)) (bytes rest : List ℕ) (x : Chunk × List ℕ) → HeadIs bytes major argument rest → chunk_by k (major, argument) rest ≡ Ok x → ChunkFits k x.0 × Takes bytes (chunk_encoding k x.0) x.1
chunk_by_takes k major (Some (w, n)) bytes rest x h e =
    elim (chosen (eqb major (string_major k)) _ _ _ e) [
      | inl a ↦ (let b = bind_ok (string_at k n rest) (λ s. Ok ((w, s.0), s.1)) x a.1 in
          subst (λ (y : Chunk × List ℕ). ChunkFits k y.0 × Takes bytes (chunk_encoding k y.0) y.1) (ok_is ((w, b.0.0), b.0.1) x b.2)
          (definite_takes k w n bytes rest b.0 (subst (λ (m : ℕ). HeadIs bytes m (Some (w, n)) rest) (eqb-true major (string_major k) a.0) h) b.1))
      | inr a ↦ absurd (let g = a.1 in cc)
    ]
chunk_by_takes k major None bytes rest x h e = elim (chosen (eqb major (string_major k)) _ _ _ e) [ inl a ↦ absurd (let g = a.1 in cc) | inr a ↦ absurd (let g = a.1 in cc) ]

pub chunk_takes : (k : StringKind) → Sound (ChunkFits k) (chunk_encoding k) (chunk_at k)
unfolding chunk_at
chunk_takes k bytes x fits e =
    let a = bind_ok (head_at bytes) (λ h. chunk_by k h.0 h.1) x e in
    chunk_by_takes k a.0.0.0 a.0.0.1 bytes a.0.1 x (head_takes bytes a.0 fits a.1).0 a.2

-- chunks that were read one behind the other
chunks_are : (k : StringKind) (cs : List Chunk) → AllByRecursion (ChunkFits k) cs → ChunksFit k cs × (flat_map (chunk_encoding k) cs ≡ chunk_encodings k cs)
chunks_are k [] all = (tt, refl)
chunks_are k (c ∷ cs) all = let r = chunks_are k cs all.1 in ((all.0, r.0), ap (λ (l : List ℕ). chunk_encoding k c ++ l) r.1)

-- ---- lists of values

abbrev pub Within : ℕ → Value → Type 0
Within limit v = Fits v × (value_nesting v ≤ limit)

abbrev pub BothWithin : ℕ → Value × Value → Type 0
BothWithin limit p = Within limit p.0 × Within limit p.1

abbrev pub pair_encoding : Value × Value → List ℕ
pair_encoding p = encoding p.0 ++ encoding p.1

pub pair_takes : (limit : ℕ) (one : Decoder Value) → Sound (Within limit) encoding one → Sound (BothWithin limit) pair_encoding (pair_at makes one)
unfolding pair_at
pair_takes limit one sound bytes x fits e =
    let a = bind_ok (one bytes) (λ k. one k.1 >>= λ v. Ok ((k.0, v.0), v.1)) x e in
    let b = bind_ok (one a.0.1) (λ v. Ok ((a.0.0, v.0), v.1)) x a.2 in
    let first = sound bytes a.0 fits a.1 in
    let second = sound a.0.1 b.0 first.1.rest_fits b.1 in
    subst (λ (y : (Value × Value) × List ℕ). BothWithin limit y.0 × Takes bytes (pair_encoding y.0) y.1) (ok_is ((a.0.0, b.0.0), b.0.1) x b.2)
    ((first.0, second.0), Takes-then bytes (encoding a.0.0) a.0.1 (encoding b.0.0) b.0.1 first.1 second.1)

-- values that were read one behind the other
pub record AreValues (limit : ℕ) (vs : List Value) : Type 0 where
  pub spelled : flat_map encoding vs ≡ encodings (values_of vs)
  pub len : values_len (values_of vs) ≡ length vs
  pub fit : ValuesFit (values_of vs)
  pub nested : values_nesting (values_of vs) ≤ limit

pub values_are : (limit : ℕ) (vs : List Value) → AllByRecursion (Within limit) vs → AreValues limit vs
values_are limit [] all = record { spelled = refl; len = refl; fit = tt; nested = omega arith }
values_are limit (v ∷ vs) all =
    let r = values_are limit vs all.1 in
    record { spelled = ap (λ (l : List ℕ). encoding v ++ l) r.spelled; len = omega (arith, r.len); fit = (all.0.0, r.fit); nested = omega (arith, r.nested, all.0.1) }

record ArePairs (limit : ℕ) (ps : List (Value × Value)) : Type 0 where
  spelled : flat_map pair_encoding ps ≡ pair_encodings (pairs_of ps)
  len : pairs_len (pairs_of ps) ≡ length ps
  fit : PairsFit (pairs_of ps)
  nested : pairs_nesting (pairs_of ps) ≤ limit

pairs_are : (limit : ℕ) (ps : List (Value × Value)) → AllByRecursion (BothWithin limit) ps → ArePairs limit ps
pairs_are limit [] all = record { spelled = refl; len = refl; fit = tt; nested = omega arith }
pairs_are limit (p ∷ ps) all =
    let r = pairs_are limit ps all.1 in
    record {
      spelled = ap (λ (l : List ℕ). pair_encoding p ++ l) r.spelled;
      len = omega (arith, r.len);
      fit = (all.0.0.0, all.0.1.0, r.fit);
      nested = omega (arith, r.nested, all.0.0.1, all.0.1.1);
    }

-- ---- an item by its head

abbrev pub Good : ℕ → List ℕ → Value × List ℕ → Type 0
Good limit bytes x = Within limit x.0 × Takes bytes (encoding x.0) x.1

-- what is made of entries is a list of that major type
abbrev Made : {A : Type 0} → (A → Type 0) → (A → List ℕ) → (Option Width → List A → Value) → ℕ → ℕ → Type 0
Made {A} P spelled make major d = (xs : List A) (w : Option Width) → AllByRecursion P xs → LengthFits w (length xs) → Within (d + 1) (make w xs) × (encoding (make w xs) ≡ list_encoding major w (length xs) (flat_map spelled xs))

list_takes : {A : Type 0} (P : A → Type 0) (spelled : A → List ℕ) (one : Decoder A) (make : Option Width → List A → Value) (major d : ℕ) → Sound P spelled one → Made P spelled make major d
    → (argument : Option (Width × ℕ)) (bytes rest : List ℕ) (ys : List A × List ℕ) → HeadIs bytes major argument rest → several one argument rest ≡ Ok ys → Good (d + 1) bytes (make (argument_width argument) ys.0, ys.1)
unfolding several
list_takes P spelled one make major d sound made (Some (w, n)) bytes rest ys h e =
    let t = many_takes P spelled one sound n rest ys h.1.rest_fits e in
    let m = made ys.0 (Some w) t.0.0 (subst (λ (k : ℕ). ArgumentFits w k) (sym t.1) h.0) in
    let whole = Takes-then bytes (head major w n) rest (flat_map spelled ys.0 ++ []) ys.1 h.1 t.0.1 in
    let same : head major w n ++ (flat_map spelled ys.0 ++ []) ≡ encoding (make (Some w) ys.0) = ap (λ (l : List ℕ). head major w n ++ l) (append-nil (flat_map spelled ys.0)) ∙ ap (λ k. head major w k ++ flat_map spelled ys.0) (sym t.1) ∙ sym m.1 in
    (m.0, subst (λ (l : List ℕ). Takes bytes l ys.1) same whole)
list_takes P spelled one make major d sound made None bytes rest ys h e =
    let t = until_takes Break P spelled one sound (suc (length rest)) rest ys h.rest_fits e in
    let m = made ys.0 None t.0 tt in
    let whole = Takes-then bytes (open_head major ∷ []) rest (flat_map spelled ys.0 ++ 255 ∷ []) ys.1 h t.1 in
    (m.0, subst (λ (l : List ℕ). Takes bytes l ys.1) (sym m.1) whole)

fits_len : (w : Option Width) (m n : ℕ) → m ≡ n → LengthFits w n → LengthFits w m
fits_len w m n e fits = subst (LengthFits w) (sym e) fits

array_made : (d : ℕ) → Made (Within d) encoding (λ w vs. array w (values_of vs)) 4 d
array_made d vs w all fits =
    let are = values_are d vs all in
    (((fits_len w _ _ are.len fits, are.fit), omega (arith, are.nested)), ap (λ k. list_encoding 4 w k (encodings (values_of vs))) are.len ∙ ap (λ l. list_encoding 4 w (length vs) l) (sym are.spelled))

map_made : (d : ℕ) → Made (BothWithin d) pair_encoding (λ w ps. cbor_map w (pairs_of ps)) 5 d
map_made d ps w all fits =
    let are = pairs_are d ps all in
    (((fits_len w _ _ are.len fits, are.fit), omega (arith, are.nested)), ap (λ k. list_encoding 5 w k (pair_encodings (pairs_of ps))) are.len ∙ ap (λ l. list_encoding 5 w (length ps) l) (sym are.spelled))

-- what reads inside is sound
abbrev InnerSound : ℕ → Option (Decoder Value) → Type 0
InnerSound limit None = Unit {0}
InnerSound limit (Some one) = (d : ℕ) × (limit ≡ d + 1) × Sound (Within d) encoding one

array_takes : (limit : ℕ) (i : Option (Decoder Value)) (argument : Option (Width × ℕ)) (bytes rest : List ℕ) (x : Value × List ℕ) → InnerSound limit i → HeadIs bytes 4 argument rest → array_by makes i argument rest ≡ Ok x → Good limit bytes x
array_takes limit None argument bytes rest x sound h e = absurd cc
array_takes limit (Some one) argument bytes rest x sound h e =
    let d = sound.0 in
    let b = bind_ok (several one argument rest) (λ xs. Ok (array (argument_width argument) (values_of xs.0), xs.1)) x e in
    subst (λ (y : Value × List ℕ). Good limit bytes y) (ok_is (array (argument_width argument) (values_of b.0.0), b.0.1) x b.2)
    (subst (λ k. Good k bytes (array (argument_width argument) (values_of b.0.0), b.0.1)) (sym sound.1) (list_takes (Within d) encoding one (λ w vs. array w (values_of vs)) 4 d sound.2 (array_made d) argument bytes rest b.0 h b.1))

map_takes : (limit : ℕ) (i : Option (Decoder Value)) (argument : Option (Width × ℕ)) (bytes rest : List ℕ) (x : Value × List ℕ) → InnerSound limit i → HeadIs bytes 5 argument rest → map_by makes i argument rest ≡ Ok x → Good limit bytes x
map_takes limit None argument bytes rest x sound h e = absurd cc
map_takes limit (Some one) argument bytes rest x sound h e =
    let d = sound.0 in
    let b = bind_ok (several (pair_at makes one) argument rest) (λ xs. Ok (cbor_map (argument_width argument) (pairs_of xs.0), xs.1)) x e in
    subst (λ (y : Value × List ℕ). Good limit bytes y) (ok_is (cbor_map (argument_width argument) (pairs_of b.0.0), b.0.1) x b.2)
    (subst (λ k. Good k bytes (cbor_map (argument_width argument) (pairs_of b.0.0), b.0.1)) (sym sound.1) (list_takes (BothWithin d) pair_encoding (pair_at makes one) (λ w ps. cbor_map w (pairs_of ps)) 5 d (pair_takes d one sound.2) (map_made d) argument bytes rest b.0 h b.1))

unsigned_takes : (limit : ℕ) (argument : Option (Width × ℕ)) (bytes rest : List ℕ) (x : Value × List ℕ) → HeadIs bytes 0 argument rest → number_by unsigned argument rest ≡ Ok x → Good limit bytes x
unsigned_takes limit None bytes rest x h e = absurd cc
unsigned_takes limit (Some (w, n)) bytes rest x h e = subst (λ (y : Value × List ℕ). Good limit bytes y) (ok_is (unsigned w n, rest) x e) ((h.0, omega arith), h.1)

negative_takes : (limit : ℕ) (argument : Option (Width × ℕ)) (bytes rest : List ℕ) (x : Value × List ℕ) → HeadIs bytes 1 argument rest → number_by negative argument rest ≡ Ok x → Good limit bytes x
negative_takes limit None bytes rest x h e = absurd cc
negative_takes limit (Some (w, n)) bytes rest x h e = subst (λ (y : Value × List ℕ). Good limit bytes y) (ok_is (negative w n, rest) x e) ((h.0, omega arith), h.1)

string_by_takes : (limit : ℕ) (k : StringKind) (argument : Option (Width × ℕ)) (bytes rest : List ℕ) (x : Value × List ℕ) → HeadIs bytes (string_major k) argument rest → string_by makes k argument rest ≡ Ok x → Good limit bytes x
string_by_takes limit k (Some (w, n)) bytes rest x h e =
    let b = bind_ok (string_at k n rest) (λ s. Ok (string k w s.0, s.1)) x e in
    let t = definite_takes k w n bytes rest b.0 h b.1 in
    subst (λ (y : Value × List ℕ). Good limit bytes y) (ok_is (string k w b.0.0, b.0.1) x b.2) ((t.0, omega arith), t.1)
string_by_takes limit k None bytes rest x h e =
    let b = bind_ok (until Break (chunk_at k) (suc (length rest)) rest) (λ cs. Ok (chunks k cs.0, cs.1)) x e in
    let t = until_takes Break (ChunkFits k) (chunk_encoding k) (chunk_at k) (chunk_takes k) (suc (length rest)) rest b.0 h.rest_fits b.1 in
    let are = chunks_are k b.0.0 t.0 in
    let whole = Takes-then bytes (open_head (string_major k) ∷ []) rest (flat_map (chunk_encoding k) b.0.0 ++ 255 ∷ []) b.0.1 h t.1 in
    subst (λ (y : Value × List ℕ). Good limit bytes y) (ok_is (chunks k b.0.0, b.0.1) x b.2)
    ((are.0, omega arith), subst (λ (l : List ℕ). Takes bytes l b.0.1) (ap (λ (l : List ℕ). open_head (string_major k) ∷ (l ++ 255 ∷ [])) are.1) whole)

tag_takes : (limit : ℕ) (i : Option (Decoder Value)) (argument : Option (Width × ℕ)) (bytes rest : List ℕ) (x : Value × List ℕ) → InnerSound limit i → HeadIs bytes 6 argument rest → tag_by makes i argument rest ≡ Ok x → Good limit bytes x
tag_takes limit i None bytes rest x sound h e = absurd cc
tag_takes limit None (Some (w, n)) bytes rest x sound h e = absurd cc
tag_takes limit (Some one) (Some (w, n)) bytes rest x sound h e =
    let b = bind_ok (one rest) (λ y. Ok (tag w n y.0, y.1)) x e in
    let held = sound.2 rest b.0 h.1.rest_fits b.1 in
    subst (λ (y : Value × List ℕ). Good limit bytes y) (ok_is (tag w n b.0.0, b.0.1) x b.2)
    (((h.0, held.0.0), omega (arith, sound.1, held.0.1)), Takes-then bytes (head 6 w n) rest (encoding b.0.0) b.0.1 h.1 held.1)

simple_is : (limit : ℕ) (i : Option (Decoder Value)) (n : ℕ) (v : Value) → InnerSound limit i → simple_by makes i n ≡ Ok v → (simple n ≡ v) × (simple_nesting n ≤ limit)
simple_is limit None n v sound e =
    elim (chosen (eqb (simple_nesting n) 0) _ _ _ e) [
      | inl a ↦ (ok_is (simple n) v a.1, omega (arith, eqb-true (simple_nesting n) 0 a.0))
      | inr a ↦ absurd (let g = a.1 in cc)
    ]
simple_is limit (Some one) n v sound e = (ok_is (simple n) v e, omega (arith, simple_shallow n, sound.1))

float_is : (w : Width) (o : Option NonFinite) (v : Value) → float_by makes w o ≡ Ok v → (f : NonFinite) × (o ≡ Some f) × (float w f ≡ v)
float_is w None v e = absurd cc
float_is w (Some f) v e = (f, refl, ok_is (float w f) v e)

-- what a head of major type 7 stands for
abbrev Special : ℕ → List ℕ → List ℕ → Value → Type 0
Special limit bytes rest v = Within limit v × Takes bytes (encoding v) rest

simple_special : (limit : ℕ) (i : Option (Decoder Value)) (w : Width) (n : ℕ) (bytes rest : List ℕ) (v : Value) → InnerSound limit i → Takes bytes (head 7 w n) rest → IsSimple n → simple_width n ≡ w → simple_by makes i n ≡ Ok v → Special limit bytes rest v
simple_special limit i w n bytes rest v sound taken is width e =
    let s = simple_is limit i n v sound e in
    subst (Special limit bytes rest) s.0 ((is, s.1), subst (λ w. Takes bytes (head 7 w n) rest) (sym width) taken)

float_special : (limit : ℕ) (w : Width) (n : ℕ) (bytes rest : List ℕ) (v : Value) → Takes bytes (head 7 w n) rest → IsFloatWidth w → float_by makes w (float_of w n) ≡ Ok v → Special limit bytes rest v
float_special limit w n bytes rest v taken is e =
    let f = float_is w (float_of w n) v e in
    subst (Special limit bytes rest) f.2 ((is, omega arith), subst (λ (m : ℕ). Takes bytes (head 7 w m) rest) (float_found w n f.0 f.1) taken)

special_is : (limit : ℕ) (i : Option (Decoder Value)) (argument : Option (Width × ℕ)) (bytes rest : List ℕ) (v : Value) → InnerSound limit i → HeadIs bytes 7 argument rest → special_by makes i argument ≡ Ok v → Special limit bytes rest v
special_is limit i None bytes rest v sound h e = absurd cc
special_is limit i (Some (Immediate, n)) bytes rest v sound h e = simple_special limit i Immediate n bytes rest v sound h.1 (inl h.0) (one_byte n h.0) e
special_is limit i (Some (One, n)) bytes rest v sound h e =
    elim (chosen (ltb n 32) _ _ _ e) [
      | inl a ↦ absurd (let g = a.1 in cc)
      | inr a ↦ (let wide : 32 ≤ n = ltb-false n 32 a.0 in simple_special limit i One n bytes rest v sound h.1 (inr (wide, h.0)) (two_bytes n (omega arith)) a.1)
    ]
special_is limit i (Some (Two, n)) bytes rest v sound h e = float_special limit Two n bytes rest v h.1 tt e
special_is limit i (Some (Four, n)) bytes rest v sound h e = float_special limit Four n bytes rest v h.1 tt e
special_is limit i (Some (Eight, n)) bytes rest v sound h e = float_special limit Eight n bytes rest v h.1 tt e

special_takes : (limit : ℕ) (i : Option (Decoder Value)) (argument : Option (Width × ℕ)) (bytes rest : List ℕ) (x : Value × List ℕ) → InnerSound limit i → HeadIs bytes 7 argument rest → (special_by makes i argument >>= in_front_of rest) ≡ Ok x → Good limit bytes x
special_takes limit i argument bytes rest x sound h e =
    let b = bind_ok (special_by makes i argument) (in_front_of rest) x e in
    subst (λ (y : Value × List ℕ). Good limit bytes y) (ok_is (b.0, rest) x b.2) (special_is limit i argument bytes rest b.0 sound h b.1)

item_by_takes : (limit : ℕ) (i : Option (Decoder Value)) (major : ℕ) (argument : Option (Width × ℕ)) (bytes rest : List ℕ) (x : Value × List ℕ) → InnerSound limit i → HeadIs bytes major argument rest × (major < 8) → item_by makes i major argument rest ≡ Ok x → Good limit bytes x
unfolding item_by
item_by_takes limit i major argument bytes rest x sound h e =
    let of : (m : ℕ) → major ≡ m → HeadIs bytes m argument rest = λ m same. subst (λ (k : ℕ). HeadIs bytes k argument rest) same h.0 in
    let at : (m : ℕ) → eqb major m ≡ true → HeadIs bytes m argument rest = λ m same. of m (eqb-true major m same) in
    elim (chosen (eqb major 0) _ _ _ e) [
      | inl a ↦ unsigned_takes limit argument bytes rest x (at 0 a.0) a.1
      | inr a ↦ elim (chosen (eqb major 1) _ _ _ a.1) [
        | inl b ↦ negative_takes limit argument bytes rest x (at 1 b.0) b.1
        | inr b ↦ elim (chosen (eqb major 2) _ _ _ b.1) [
          | inl c ↦ string_by_takes limit Bytes argument bytes rest x (at 2 c.0) c.1
          | inr c ↦ elim (chosen (eqb major 3) _ _ _ c.1) [
            | inl d ↦ string_by_takes limit Text argument bytes rest x (at 3 d.0) d.1
            | inr d ↦ elim (chosen (eqb major 4) _ _ _ d.1) [
              | inl f ↦ array_takes limit i argument bytes rest x sound (at 4 f.0) f.1
              | inr f ↦ elim (chosen (eqb major 5) _ _ _ f.1) [
                | inl g ↦ map_takes limit i argument bytes rest x sound (at 5 g.0) g.1
                | inr g ↦ elim (chosen (eqb major 6) _ _ _ g.1) [
                  | inl k ↦ tag_takes limit i argument bytes rest x sound (at 6 k.0) k.1
                  | inr k ↦ special_takes limit i argument bytes rest x sound (of 7 (last_major major h.1 a.0 b.0 c.0 d.0 f.0 g.0 k.0)) k.1
                ]
              ]
            ]
          ]
        ]
      ]
    ]

-- the other law of the reader: what is read is written so
pub item_takes : (limit : ℕ) → Sound (Within limit) encoding (value_at limit)
unfolding item_at
item_takes zero bytes x fits e =
    let a = bind_ok (head_at bytes) (λ h. item_by makes None h.0.0 h.0.1 h.1) x e in
    item_by_takes 0 None a.0.0.0 a.0.0.1 bytes a.0.1 x tt (head_takes bytes a.0 fits a.1) a.2
item_takes (suc d) bytes x fits e =
    let a = bind_ok (head_at bytes) (λ h. item_by makes (Some (value_at d)) h.0.0 h.0.1 h.1) x e in
    item_by_takes (suc d) (Some (value_at d)) a.0.0.0 a.0.0.1 bytes a.0.1 x (d, omega arith, item_takes d) (head_takes bytes a.0 fits a.1) a.2
