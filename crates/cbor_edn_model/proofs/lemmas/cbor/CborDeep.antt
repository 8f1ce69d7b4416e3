-- Bytes are refused as too deep only where more than `limit` of them can be heads of what nests.
use Rattle.std.proofs.Common.{◌≡◌, ℕ, zero, suc, ◌+◌, ◌*◌, ◌/◌, ◌%◌, ◌<◌, ◌≤◌, true, cond, leb, ltb, eqb, List, [], ◌∷◌, ◌++◌, length, take, Option, Some, None, Result, Ok, Err, refl, ap, subst, ◌∙◌, ◌⊎◌, arith, inl, inr}
use Rattle.std.specs.Int.{w8, w16, w32, w64, byte_len, to_be_bytes}
use Rattle.std.specs.Int.{Width as Bits}
use Rattle.std.proofs.lemmas.Bool.{eqb-true, le-leb}
use Rattle.std.proofs.lemmas.List.Sums.{sum_by-append}
use Rattle.cbor_edn_parts.specs.declared.string.StringKind.{StringKind}
use Rattle.cbor_edn_parts.specs.declared.string.StringKind.TheVariants.{Bytes, Text}
use Rattle.cbor_edn_model.specs.declared.cbor.heads.Width.{Width}
use Rattle.cbor_edn_model.specs.declared.cbor.heads.Width.TheVariants.{Immediate, One, Two, Four, Eight}
use Rattle.cbor_edn_model.specs.declared.text.keyword.NonFinite.{NonFinite}
use Rattle.cbor_edn_model.specs.declared.cbor.decode.CborError.{CborError}
use Rattle.cbor_edn_model.specs.declared.cbor.decode.CborError.TheVariants.{TooDeep}
use Rattle.cbor_edn_model.specs.declared.cbor.decode.head.Stop.{Stop}
use Rattle.cbor_edn_model.specs.declared.cbor.decode.head.Stop.TheVariants.{Break}
use Rattle.cbor_edn_model.specs.cbor.Value.{Value, unsigned, negative, string, chunks, array, cbor_map, tag, head, open_head, string_major, is_content, chunk_encoding, ChunkFits, encoding}
use Rattle.cbor_edn_model.specs.cbor.Decoded.{high_bytes}
use Rattle.cbor_edn_model.specs.internal.Results.{◌>>=◌}
use Rattle.cbor_edn_model.specs.internal.CborReading.{DecoderResult, Decoder, shown, head_at, head_by, argument_at, many, until, several, past_stop, turn, string_at, chunk_at, chunk_by, string_by, pair_at, item_by, item_at, array_by, map_by, number_by, tag_by, simple_by, float_by, special_by, float_of}
use Rattle.cbor_edn_model.proofs.lemmas.cbor.CborHeads.{IsBytes, chosen, Takes, HeadIs, head_takes}
use Rattle.cbor_edn_model.proofs.lemmas.cbor.CborSpecials.{last_major}
use Rattle.cbor_edn_model.proofs.lemmas.cbor.CborTurns.{shown_err}
use Rattle.cbor_edn_model.proofs.lemmas.cbor.CborValues.{values_of, pairs_of, argument_width, makes, value_at, in_front_of}
use Rattle.cbor_edn_model.proofs.lemmas.cbor.CborTakes.{Sound, Within, BothWithin, pair_encoding, chunk_takes, pair_takes, item_takes}

high-append : (xs ys : List ℕ) → high_bytes (xs ++ ys) ≡ high_bytes xs + high_bytes ys
high-append xs ys = sum_by-append (λ b. cond (leb 128 b) 1 0) xs ys

-- a step that failed
bind_err : {A B : Type 0} (r : Result A CborError) (f : A → Result B CborError) (e : CborError) → (r >>= f) ≡ Err e → (r ≡ Err e) ⊎ ((x : A) × (r ≡ Ok x) × (f x ≡ Err e))
bind_err (Ok x) f e is = inr (x, refl, is)
bind_err (Err d) f e is = inl (let same : d ≡ e = cc in ap (λ g. Err g) same)

abbrev fault : {A : Type 0} → CborError → DecoderResult A
fault e = Err e

abbrev given : {A : Type 0} → A → Result A CborError
given x = Ok x

not_given : {A : Type 0} (x : A) (e : CborError) → given x ≡ Err e → ⊥
not_given x e is = cc

-- where a reader finds too much nesting, there are so many high bytes
abbrev pub Deep : {A : Type 0} → ℕ → Decoder A → Type 0
Deep d one = (bytes : List ℕ) → IsBytes bytes → one bytes ≡ Err TooDeep → d < high_bytes bytes

behind : (d : ℕ) (bytes front rest : List ℕ) → Takes bytes front rest → d < high_bytes rest → d < high_bytes bytes
behind d bytes front rest t lt = let e : high_bytes bytes ≡ high_bytes front + high_bytes rest = ap high_bytes t.parts ∙ high-append front rest in omega arith

many_deep : {A : Type 0} (P : A → Type 0) (spelled : A → List ℕ) (one : Decoder A) (d : ℕ) → Sound P spelled one → Deep d one → (n : ℕ) → Deep d (many one n)
unfolding many
many_deep P spelled one d sound deep zero bytes fits e = absurd cc
many_deep P spelled one d sound deep (suc n) bytes fits e =
    elim (bind_err (one bytes) (λ y. many one n y.1 >>= λ ys. Ok (y.0 ∷ ys.0, ys.1)) TooDeep e) [
      | inl a ↦ deep bytes fits a
      | inr a ↦ (let t = (sound bytes a.0 fits a.1).1 in
          elim (bind_err (many one n a.0.1) (λ ys. Ok (a.0.0 ∷ ys.0, ys.1)) TooDeep a.2) [
            | inl b ↦ behind d bytes (spelled a.0.0) a.0.1 t (many_deep P spelled one d sound deep n a.0.1 t.rest_fits b)
            | inr b ↦ absurd (not_given _ TooDeep b.2)
          ])
    ]

turn_deep : {A : Type 0} (P : A → Type 0) (spelled : A → List ℕ) (one : Decoder A) (more : Decoder (List A)) (d : ℕ) → Sound P spelled one → Deep d one → Deep d more → (o : Option (List ℕ)) (bytes : List ℕ) → IsBytes bytes → turn one more bytes o ≡ Err TooDeep → d < high_bytes bytes
turn_deep P spelled one more d sound deep others (Some rest) bytes fits e = absurd cc
turn_deep P spelled one more d sound deep others None bytes fits e =
    elim (bind_err (one bytes) (λ y. more y.1 >>= λ ys. Ok (y.0 ∷ ys.0, ys.1)) TooDeep e) [
      | inl a ↦ deep bytes fits a
      | inr a ↦ (let t = (sound bytes a.0 fits a.1).1 in
          elim (bind_err (more a.0.1) (λ ys. Ok (a.0.0 ∷ ys.0, ys.1)) TooDeep a.2) [
            | inl b ↦ behind d bytes (spelled a.0.0) a.0.1 t (others a.0.1 t.rest_fits b)
            | inr b ↦ absurd (not_given _ TooDeep b.2)
          ])
    ]

pub until_deep : {A : Type 0} (stop : Stop) (P : A → Type 0) (spelled : A → List ℕ) (one : Decoder A) (d : ℕ) → Sound P spelled one → Deep d one → (n : ℕ) → Deep d (until stop one n)
unfolding until
until_deep stop P spelled one d sound deep zero bytes fits e = absurd cc
until_deep stop P spelled one d sound deep (suc n) bytes fits e = turn_deep P spelled one (until stop one n) d sound deep (until_deep stop P spelled one d sound deep n) (past_stop stop bytes) bytes fits e

several_deep : {A : Type 0} (P : A → Type 0) (spelled : A → List ℕ) (one : Decoder A) (d : ℕ) → Sound P spelled one → Deep d one → (argument : Option (Width × ℕ)) → Deep d (several one argument)
unfolding several
several_deep P spelled one d sound deep (Some (w, n)) bytes fits e = many_deep P spelled one d sound deep n bytes fits e
several_deep P spelled one d sound deep None bytes fits e = until_deep Break P spelled one d sound deep (suc (length bytes)) bytes fits e

pair_deep : (d : ℕ) (one : Decoder Value) → Sound (Within d) encoding one → Deep d one → Deep d (pair_at makes one)
unfolding pair_at
pair_deep d one sound deep bytes fits e =
    elim (bind_err (one bytes) (λ k. one k.1 >>= λ v. Ok ((k.0, v.0), v.1)) TooDeep e) [
      | inl a ↦ deep bytes fits a
      | inr a ↦ (let t = (sound bytes a.0 fits a.1).1 in
          elim (bind_err (one a.0.1) (λ v. Ok ((a.0.0, v.0), v.1)) TooDeep a.2) [
            | inl b ↦ behind d bytes (encoding a.0.0) a.0.1 t (deep a.0.1 t.rest_fits b)
            | inr b ↦ absurd (not_given _ TooDeep b.2)
          ])
    ]

-- ---- heads

argument_not_deep : (major : ℕ) (w : Width) (bits : Bits) (bytes : List ℕ) → argument_at major w bits bytes ≡ Err TooDeep → ⊥
argument_not_deep major w bits bytes e = elim (chosen (ltb (length bytes) (byte_len bits)) _ _ _ e) [ inl k ↦ (let g = k.1 in cc) | inr k ↦ (let g = k.1 in cc) ]

head_not_deep : (bytes : List ℕ) → head_at bytes ≡ Err TooDeep → ⊥
unfolding head_at
head_not_deep [] e = cc
head_not_deep (b ∷ bytes) e = by_info (b / 32) (b % 32) e
  where
    by_info : (major info : ℕ) → head_by major info bytes ≡ Err TooDeep → ⊥
    by_info major info e =
        elim (chosen (ltb info 24) _ _ _ e) [
          | inl k ↦ (let g = k.1 in cc)
          | inr k ↦ elim (chosen (eqb info 24) _ _ _ k.1) [
            | inl k ↦ argument_not_deep major One w8 bytes k.1
            | inr k ↦ elim (chosen (eqb info 25) _ _ _ k.1) [
              | inl k ↦ argument_not_deep major Two w16 bytes k.1
              | inr k ↦ elim (chosen (eqb info 26) _ _ _ k.1) [
                | inl k ↦ argument_not_deep major Four w32 bytes k.1
                | inr k ↦ elim (chosen (eqb info 27) _ _ _ k.1) [
                  | inl k ↦ argument_not_deep major Eight w64 bytes k.1
                  | inr k ↦ elim (chosen (eqb info 31) _ _ _ k.1) [ inl k ↦ (let g = k.1 in cc) | inr k ↦ (let g = k.1 in cc) ]
                ]
              ]
            ]
          ]
        ]

high_first : (b : ℕ) (rest : List ℕ) → 128 ≤ b → 0 < high_bytes (b ∷ rest)
high_first b rest le =
    let e : leb 128 b ≡ true = le-leb 128 b le in
    let one : high_bytes (b ∷ []) ≡ 1 = rw e refl in
    omega (arith, high-append (b ∷ []) rest, one)

high_head : (major n : ℕ) (w : Width) → 4 ≤ major → 0 < high_bytes (head major w n)
unfolding head
high_head major n Immediate le = high_first (32 * major + n) [] (omega arith)
high_head major n One le = high_first (32 * major + 24) (to_be_bytes w8 n) (omega arith)
high_head major n Two le = high_first (32 * major + 25) (to_be_bytes w16 n) (omega arith)
high_head major n Four le = high_first (32 * major + 26) (to_be_bytes w32 n) (omega arith)
high_head major n Eight le = high_first (32 * major + 27) (to_be_bytes w64 n) (omega arith)

-- behind the head of a list
past_head : (d major : ℕ) (argument : Option (Width × ℕ)) (bytes rest : List ℕ) → 4 ≤ major → HeadIs bytes major argument rest → d ≤ high_bytes rest → d < high_bytes bytes
past_head d major (Some (w, n)) bytes rest le h lt =
    let e : high_bytes bytes ≡ high_bytes (head major w n) + high_bytes rest = ap high_bytes h.1.parts ∙ high-append (head major w n) rest in
    let some = high_head major n w le in
    omega arith
past_head d major None bytes rest le h lt =
    let e : high_bytes bytes ≡ high_bytes (open_head major ∷ []) + high_bytes rest = ap high_bytes h.parts ∙ high-append (open_head major ∷ []) rest in
    let some = high_first (open_head major) [] (omega arith) in
    omega arith

head_rest : (major : ℕ) (argument : Option (Width × ℕ)) (bytes rest : List ℕ) → HeadIs bytes major argument rest → IsBytes rest
head_rest major (Some (w, n)) bytes rest h = h.1.rest_fits
head_rest major None bytes rest h = h.rest_fits

-- what reads inside
abbrev InnerDeep : ℕ → Option (Decoder Value) → Type 0
InnerDeep limit None = limit ≡ 0
InnerDeep limit (Some one) = (d : ℕ) × (limit ≡ d + 1) × Sound (Within d) encoding one × Deep d one

array_deep : (limit : ℕ) (i : Option (Decoder Value)) (argument : Option (Width × ℕ)) (bytes rest : List ℕ) → InnerDeep limit i → HeadIs bytes 4 argument rest → array_by makes i argument rest ≡ Err TooDeep → limit < high_bytes bytes
array_deep limit None argument bytes rest inner h e = past_head limit 4 argument bytes rest (omega arith) h (omega arith)
array_deep limit (Some one) argument bytes rest inner h e =
    elim (bind_err (several one argument rest) (λ xs. Ok (array (argument_width argument) (values_of xs.0), xs.1)) TooDeep e) [
      | inl a ↦ past_head limit 4 argument bytes rest (omega arith) h (omega (arith, inner.1, several_deep (Within inner.0) encoding one inner.0 inner.2 inner.3 argument rest (head_rest 4 argument bytes rest h) a))
      | inr a ↦ absurd (not_given _ TooDeep a.2)
    ]

map_deep : (limit : ℕ) (i : Option (Decoder Value)) (argument : Option (Width × ℕ)) (bytes rest : List ℕ) → InnerDeep limit i → HeadIs bytes 5 argument rest → map_by makes i argument rest ≡ Err TooDeep → limit < high_bytes bytes
map_deep limit None argument bytes rest inner h e = past_head limit 5 argument bytes rest (omega arith) h (omega arith)
map_deep limit (Some one) argument bytes rest inner h e =
    elim (bind_err (several (pair_at makes one) argument rest) (λ xs. Ok (cbor_map (argument_width argument) (pairs_of xs.0), xs.1)) TooDeep e) [
      | inl a ↦ past_head limit 5 argument bytes rest (omega arith) h
          (omega (arith, inner.1, several_deep (BothWithin inner.0) pair_encoding (pair_at makes one) inner.0 (pair_takes inner.0 one inner.2) (pair_deep inner.0 one inner.2 inner.3) argument rest (head_rest 5 argument bytes rest h) a))
      | inr a ↦ absurd (not_given _ TooDeep a.2)
    ]

number_not_deep : (make : Width → ℕ → Value) (argument : Option (Width × ℕ)) (rest : List ℕ) → number_by make argument rest ≡ Err TooDeep → ⊥
number_not_deep make None rest e = cc
number_not_deep make (Some (w, n)) rest e = cc

-- ---- strings

string_not_deep : (k : StringKind) (n : ℕ) (bytes : List ℕ) → string_at k n bytes ≡ Err TooDeep → ⊥
unfolding string_at
string_not_deep k n bytes e =
    elim (chosen (ltb (length bytes) n) _ _ _ e) [
      | inl a ↦ (let g = a.1 in cc)
      | inr a ↦ elim (chosen (is_content k (take n bytes)) _ _ _ a.1) [ inl b ↦ (let g = b.1 in cc) | inr b ↦ (let g = b.1 in cc) ]
    ]

-- a string that is read whole
definite_not_deep : {A : Type 0} (k : StringKind) (n : ℕ) (rest : List ℕ) (make : List ℕ → A) → shown make (string_at k n rest) ≡ Err TooDeep → ⊥
definite_not_deep k n rest make e = string_not_deep k n rest (shown_err make (string_at k n rest) TooDeep e)

chunk_by_not_deep : (k : StringKind) (major : ℕ) (argument : Option (Width × ℕ)) (rest : List ℕ) → chunk_by k (major, argument) rest ≡ Err TooDeep → ⊥
chunk_by_not_deep k major (Some (w, n)) rest e = elim (chosen (eqb major (string_major k)) _ _ _ e) [ inl a ↦ definite_not_deep k n rest (λ s. (w, s)) a.1 | inr a ↦ (let g = a.1 in cc) ]
chunk_by_not_deep k major None rest e = elim (chosen (eqb major (string_major k)) _ _ _ e) [ inl a ↦ (let g = a.1 in cc) | inr a ↦ (let g = a.1 in cc) ]

chunk_not_deep : (k : StringKind) (bytes : List ℕ) → chunk_at k bytes ≡ Err TooDeep → ⊥
unfolding chunk_at
chunk_not_deep k bytes e = elim (bind_err (head_at bytes) (λ h. chunk_by k h.0 h.1) TooDeep e) [ inl a ↦ head_not_deep bytes a | inr a ↦ chunk_by_not_deep k a.0.0.0 a.0.0.1 a.0.1 a.2 ]

string_deep : (limit : ℕ) (k : StringKind) (argument : Option (Width × ℕ)) (bytes rest : List ℕ) → HeadIs bytes (string_major k) argument rest → string_by makes k argument rest ≡ Err TooDeep → limit < high_bytes bytes
string_deep limit k (Some (w, n)) bytes rest h e = absurd (definite_not_deep k n rest (string k w) e)
string_deep limit k None bytes rest h e =
    elim (bind_err (until Break (chunk_at k) (suc (length rest)) rest) (λ cs. Ok (chunks k cs.0, cs.1)) TooDeep e) [
      | inl a ↦ behind limit bytes (open_head (string_major k) ∷ []) rest h (until_deep Break (ChunkFits k) (chunk_encoding k) (chunk_at k) limit (chunk_takes k) (λ bs _ deep. absurd (chunk_not_deep k bs deep)) (suc (length rest)) rest h.rest_fits a)
      | inr a ↦ absurd (not_given _ TooDeep a.2)
    ]

-- ---- tags and simple values

tag_deep : (limit : ℕ) (i : Option (Decoder Value)) (argument : Option (Width × ℕ)) (bytes rest : List ℕ) → InnerDeep limit i → HeadIs bytes 6 argument rest → tag_by makes i argument rest ≡ Err TooDeep → limit < high_bytes bytes
tag_deep limit i None bytes rest inner h e = absurd cc
tag_deep limit None (Some (w, n)) bytes rest inner h e = past_head limit 6 (Some (w, n)) bytes rest (omega arith) h (omega arith)
tag_deep limit (Some one) (Some (w, n)) bytes rest inner h e =
    elim (bind_err (one rest) (λ y. Ok (tag w n y.0, y.1)) TooDeep e) [
      | inl a ↦ past_head limit 6 (Some (w, n)) bytes rest (omega arith) h (omega (arith, inner.1, inner.3 rest h.1.rest_fits a))
      | inr a ↦ absurd (not_given _ TooDeep a.2)
    ]

simple_deep : (limit : ℕ) (i : Option (Decoder Value)) (n : ℕ) → InnerDeep limit i → simple_by makes i n ≡ Err TooDeep → limit ≡ 0
simple_deep limit None n inner e = inner
simple_deep limit (Some one) n inner e = absurd cc

float_not_deep : (w : Width) (o : Option NonFinite) → float_by makes w o ≡ Err TooDeep → ⊥
float_not_deep w None e = cc
float_not_deep w (Some f) e = cc

special_by_deep : (limit : ℕ) (i : Option (Decoder Value)) (argument : Option (Width × ℕ)) → InnerDeep limit i → special_by makes i argument ≡ Err TooDeep → limit ≡ 0
special_by_deep limit i None inner e = absurd cc
special_by_deep limit i (Some (Immediate, n)) inner e = simple_deep limit i n inner e
special_by_deep limit i (Some (One, n)) inner e = elim (chosen (ltb n 32) _ _ _ e) [ inl a ↦ absurd (let g = a.1 in cc) | inr a ↦ simple_deep limit i n inner a.1 ]
special_by_deep limit i (Some (Two, n)) inner e = absurd (float_not_deep Two (float_of Two n) e)
special_by_deep limit i (Some (Four, n)) inner e = absurd (float_not_deep Four (float_of Four n) e)
special_by_deep limit i (Some (Eight, n)) inner e = absurd (float_not_deep Eight (float_of Eight n) e)

special_deep : (limit : ℕ) (i : Option (Decoder Value)) (argument : Option (Width × ℕ)) (bytes rest : List ℕ) → InnerDeep limit i → HeadIs bytes 7 argument rest → (special_by makes i argument >>= in_front_of rest) ≡ Err TooDeep → limit < high_bytes bytes
special_deep limit i argument bytes rest inner h e =
    elim (bind_err (special_by makes i argument) (in_front_of rest) TooDeep e) [
      | inl a ↦ past_head limit 7 argument bytes rest (omega arith) h (omega (arith, special_by_deep limit i argument inner a))
      | inr a ↦ absurd (not_given _ TooDeep a.2)
    ]

item_by_deep : (limit : ℕ) (i : Option (Decoder Value)) (major : ℕ) (argument : Option (Width × ℕ)) (bytes rest : List ℕ) → InnerDeep limit i → HeadIs bytes major argument rest × (major < 8) → item_by makes i major argument rest ≡ Err TooDeep → limit < high_bytes bytes
unfolding item_by
item_by_deep limit i major argument bytes rest inner h e =
    let of : (m : ℕ) → major ≡ m → HeadIs bytes m argument rest = λ m same. subst (λ (k : ℕ). HeadIs bytes k argument rest) same h.0 in
    let at : (m : ℕ) → eqb major m ≡ true → HeadIs bytes m argument rest = λ m same. of m (eqb-true major m same) in
    elim (chosen (eqb major 0) _ _ _ e) [
      | inl a ↦ absurd (number_not_deep unsigned argument rest a.1)
      | inr a ↦ elim (chosen (eqb major 1) _ _ _ a.1) [
        | inl b ↦ absurd (number_not_deep negative argument rest b.1)
        | inr b ↦ elim (chosen (eqb major 2) _ _ _ b.1) [
          | inl c ↦ string_deep limit Bytes argument bytes rest (at 2 c.0) c.1
          | inr c ↦ elim (chosen (eqb major 3) _ _ _ c.1) [
            | inl d ↦ string_deep limit Text argument bytes rest (at 3 d.0) d.1
            | inr d ↦ elim (chosen (eqb major 4) _ _ _ d.1) [
              | inl f ↦ array_deep limit i argument bytes rest inner (at 4 f.0) f.1
              | inr f ↦ elim (chosen (eqb major 5) _ _ _ f.1) [
                | inl g ↦ map_deep limit i argument bytes rest inner (at 5 g.0) g.1
                | inr g ↦ elim (chosen (eqb major 6) _ _ _ g.1) [
                  | inl k ↦ tag_deep limit i argument bytes rest inner (at 6 k.0) k.1
                  | inr k ↦ special_deep limit i argument bytes rest inner (of 7 (last_major major h.1 a.0 b.0 c.0 d.0 f.0 g.0 k.0)) k.1
                ]
              ]
            ]
          ]
        ]
      ]
    ]

pub item_deep : (limit : ℕ) → Deep limit (value_at limit)
unfolding item_at
item_deep zero bytes fits e =
    elim (bind_err (head_at bytes) (λ h. item_by makes None h.0.0 h.0.1 h.1) TooDeep e) [
      | inl a ↦ absurd (head_not_deep bytes a)
      | inr a ↦ item_by_deep 0 None a.0.0.0 a.0.0.1 bytes a.0.1 refl (head_takes bytes a.0 fits a.1) a.2
    ]
item_deep (suc d) bytes fits e =
    elim (bind_err (head_at bytes) (λ h. item_by makes (Some (value_at d)) h.0.0 h.0.1 h.1) TooDeep e) [
      | inl a ↦ absurd (head_not_deep bytes a)
      | inr a ↦ item_by_deep (suc d) (Some (value_at d)) a.0.0.0 a.0.0.1 bytes a.0.1 (d, omega arith, item_takes d, item_deep d) (head_takes bytes a.0 fits a.1) a.2
    ]
