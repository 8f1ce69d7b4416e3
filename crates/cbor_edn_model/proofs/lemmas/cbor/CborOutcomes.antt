-- Reading several of a kind again, and where rows end.
use Rattle.std.proofs.Common.{◌≡◌, ℕ, suc, ◌+◌, ◌-◌, ◌*◌, ◌<◌, ◌≤◌, true, false, cond, leb, ltb, eqb, max, List, [], ◌∷◌, ◌++◌, length, Option, Some, None, Result, Ok, Err, refl, sym, ap, ◌∙◌, append_assoc, arith, inl, inr, eq-eqb}
use Rattle.std.proofs.lemmas.Bool.{cases_lt, le-leb, lt-leb, le-ltb, ne_eqb}
use Rattle.std.proofs.lemmas.List.{take_at, drop_at, length-append}
use Rattle.cbor_edn_parts.specs.declared.string.StringKind.{StringKind}
use Rattle.cbor_edn_parts.specs.declared.string.StringKind.TheVariants.{Bytes, Text}
use Rattle.cbor_edn_model.specs.declared.cbor.heads.Width.{Width}
use Rattle.cbor_edn_model.specs.declared.cbor.heads.Width.TheVariants.{Immediate, One, Two, Four, Eight}
use Rattle.cbor_edn_model.specs.declared.cbor.decode.CborError.{CborError}
use Rattle.cbor_edn_model.specs.declared.cbor.decode.CborError.TheVariants.{TooDeep}
use Rattle.cbor_edn_model.specs.declared.cbor.decode.head.Stop.{Stop}
use Rattle.cbor_edn_model.specs.declared.cbor.decode.head.Stop.TheVariants.{Break, EndOfData}
use Rattle.cbor_edn_model.specs.cbor.Value.{Value, unsigned, negative, string, chunks, array, cbor_map, tag, simple, float, Values, no_values, value, Pairs, no_pairs, pair, Chunk, head, ArgumentFits, LengthFits, float_bits, simple_width, open_head, break, list_encoding, string_major, is_content, chunk_encoding, chunk_encodings, ChunkFits, ChunksFit, encoding, encodings, pair_encodings, values_len, pairs_len, Fits}
use Rattle.cbor_edn_model.specs.internal.Results.{◌>>=◌}
use Rattle.cbor_edn_model.specs.internal.CborReading.{Decoder, many, until, past_stop, string_at, chunk_at}
use Rattle.cbor_edn_model.proofs.lemmas.cbor.CborHeads.{head_again}
use Rattle.cbor_edn_model.proofs.lemmas.cbor.CborSpecials.{simple_fits, float_fits}

-- x, where n is no more than the limit
abbrev pub decoder_outcome : {X : Type 0} → ℕ → ℕ → X → Result X CborError
decoder_outcome n limit x = cond (leb n limit) (Ok x) (Err TooDeep)

pub within : {X : Type 0} → (n limit : ℕ) (x : X) → n ≤ limit → decoder_outcome n limit x ≡ Ok x
within n limit x le = let e : leb n limit ≡ true = le-leb n limit le in rw e refl

pub beyond : {X : Type 0} → (n limit : ℕ) (x : X) → limit < n → decoder_outcome n limit x ≡ Err TooDeep
beyond n limit x lt = let e : leb n limit ≡ false = lt-leb n limit lt in rw e refl

pub none : {X : Type 0} → (limit : ℕ) (x : X) → decoder_outcome 0 limit x ≡ Ok x
none limit x = within 0 limit x (omega arith)

-- one step, and then what reads on
pub outcome_then : {X Y : Type 0} → (n m limit : ℕ) (x : X) (k : X → Result Y CborError) (z : Y) → k x ≡ decoder_outcome m limit z → (decoder_outcome n limit x >>= k) ≡ decoder_outcome (max n m) limit z
outcome_then n m limit x k z next =
    elim (cases_lt limit n) [
      | inl lt ↦ ap (λ r. r >>= k) (beyond n limit x lt) ∙ sym (beyond (max n m) limit z (omega arith))
      | inr le ↦ ap (λ r. r >>= k) (within n limit x le) ∙ next ∙ (elim (cases_lt limit m) [
        | inl lt ↦ beyond m limit z lt ∙ sym (beyond (max n m) limit z (omega arith))
        | inr also ↦ within m limit z also ∙ sym (within (max n m) limit z (omega arith))
      ])
    ]

pub outcome_map : {X Y : Type 0} → (n limit : ℕ) (x : X) (f : X → Y) → (decoder_outcome n limit x >>= λ y. Ok (f y)) ≡ decoder_outcome n limit (f x)
outcome_map n limit x f =
    elim (cases_lt limit n) [
      | inl lt ↦ ap (λ r. r >>= λ y. Ok (f y)) (beyond n limit x lt) ∙ sym (beyond n limit (f x) lt)
      | inr le ↦ ap (λ r. r >>= λ y. Ok (f y)) (within n limit x le) ∙ sym (within n limit (f x) le)
    ]

-- ---- several

pub many_none : {A : Type 0} → (one : Decoder A) (bytes : List ℕ) → many one 0 bytes ≡ Ok ([], bytes)
unfolding many
many_none one bytes = refl

many_step : {A : Type 0} → (one : Decoder A) (n : ℕ) (bytes : List ℕ) → many one (n + 1) bytes ≡ (one bytes >>= λ x. many one n x.1 >>= λ xs. Ok (x.0 ∷ xs.0, xs.1))
unfolding many
many_step one n bytes = let e : n + 1 ≡ suc n = omega arith in rw e refl

-- one more in front of what reads on
pub more : {A : Type 0} → (one : Decoder A) (limit n m count : ℕ) (bytes after rest : List ℕ) (x : A) (xs : List A) → one bytes ≡ decoder_outcome n limit (x, after) → many one count after ≡ decoder_outcome m limit (xs, rest)
    → many one (count + 1) bytes ≡ decoder_outcome (max n m) limit (x ∷ xs, rest)
more {A} one limit n m count bytes after rest x xs first others =
    let next : (many one count after >>= λ (ys : List A × List ℕ). Ok (x ∷ ys.0, ys.1)) ≡ decoder_outcome m limit (x ∷ xs, rest) =
    ap (λ r. r >>= λ (ys : List A × List ℕ). Ok (x ∷ ys.0, ys.1)) others ∙ outcome_map m limit (xs, rest) (λ ys. (x ∷ ys.0, ys.1)) in
    many_step one count bytes ∙ ap (λ r. r >>= λ (y : A × List ℕ). many one count y.1 >>= λ xs. Ok (y.0 ∷ xs.0, xs.1)) first ∙ outcome_then n m limit (x, after) _ (x ∷ xs, rest) next

until_step : {A : Type 0} → (stop : Stop) (one : Decoder A) (n : ℕ) (bytes : List ℕ) → past_stop stop bytes ≡ None → until stop one (n + 1) bytes ≡ (one bytes >>= λ x. until stop one n x.1 >>= λ xs. Ok (x.0 ∷ xs.0, xs.1))
unfolding until
until_step stop one n bytes going = let e : n + 1 ≡ suc n = omega arith in rw (e, going) refl

until_more : {A : Type 0} → (stop : Stop) (one : Decoder A) (limit n m turns : ℕ) (bytes after rest : List ℕ) (x : A) (xs : List A) → past_stop stop bytes ≡ None → one bytes ≡ decoder_outcome n limit (x, after)
    → until stop one turns after ≡ decoder_outcome m limit (xs, rest) → until stop one (turns + 1) bytes ≡ decoder_outcome (max n m) limit (x ∷ xs, rest)
until_more {A} stop one limit n m turns bytes after rest x xs going first others =
    let next : (until stop one turns after >>= λ (ys : List A × List ℕ). Ok (x ∷ ys.0, ys.1)) ≡ decoder_outcome m limit (x ∷ xs, rest) =
    ap (λ r. r >>= λ (ys : List A × List ℕ). Ok (x ∷ ys.0, ys.1)) others ∙ outcome_map m limit (xs, rest) (λ ys. (x ∷ ys.0, ys.1)) in
    until_step stop one turns bytes going ∙ ap (λ r. r >>= λ (y : A × List ℕ). until stop one turns y.1 >>= λ xs. Ok (y.0 ∷ xs.0, xs.1)) first ∙ outcome_then n m limit (x, after) _ (x ∷ xs, rest) next

until_end : {A : Type 0} → (stop : Stop) (one : Decoder A) (n : ℕ) (bytes rest : List ℕ) → past_stop stop bytes ≡ Some rest → until stop one (n + 1) bytes ≡ Ok ([], rest)
unfolding until
until_end stop one n bytes rest ends = let e : n + 1 ≡ suc n = omega arith in rw (e, ends) refl

pub until_more_at : {A : Type 0} → (stop : Stop) (one : Decoder A) (limit n m turns : ℕ) (bytes after rest : List ℕ) (x : A) (xs : List A) → 0 < turns → past_stop stop bytes ≡ None → one bytes ≡ decoder_outcome n limit (x, after)
    → until stop one (turns - 1) after ≡ decoder_outcome m limit (xs, rest) → until stop one turns bytes ≡ decoder_outcome (max n m) limit (x ∷ xs, rest)
until_more_at stop one limit n m turns bytes after rest x xs lt going first others =
    let e : turns ≡ (turns - 1) + 1 = omega arith in
    ap (λ k. until stop one k bytes) e ∙ until_more stop one limit n m (turns - 1) bytes after rest x xs going first others

pub until_end_at : {A : Type 0} → (stop : Stop) (one : Decoder A) (turns limit : ℕ) (bytes rest : List ℕ) → 0 < turns → past_stop stop bytes ≡ Some rest → until stop one turns bytes ≡ decoder_outcome 0 limit ([], rest)
until_end_at stop one turns limit bytes rest lt ends =
    let e : turns ≡ (turns - 1) + 1 = omega arith in
    ap (λ k. until stop one k bytes) e ∙ until_end stop one (turns - 1) bytes rest ends ∙ sym (none limit ([], rest))

-- ---- heads and strings

head_going : (major : ℕ) (w : Width) (n : ℕ) (rest : List ℕ) → major < 8 → ArgumentFits w n → past_stop Break (head major w n ++ rest) ≡ None
unfolding head
head_going major Immediate n rest lt fits = let e : eqb (32 * major + n) 255 ≡ false = ne_eqb _ _ (λ h. omega arith) in rw e refl
head_going major One n rest lt fits = let e : eqb (32 * major + 24) 255 ≡ false = ne_eqb _ _ (λ h. omega arith) in rw e refl
head_going major Two n rest lt fits = let e : eqb (32 * major + 25) 255 ≡ false = ne_eqb _ _ (λ h. omega arith) in rw e refl
head_going major Four n rest lt fits = let e : eqb (32 * major + 26) 255 ≡ false = ne_eqb _ _ (λ h. omega arith) in rw e refl
head_going major Eight n rest lt fits = let e : eqb (32 * major + 27) 255 ≡ false = ne_eqb _ _ (λ h. omega arith) in rw e refl

open_going : (major : ℕ) (rest : List ℕ) → major < 7 → past_stop Break (open_head major ∷ rest) ≡ None
open_going major rest lt = let e : eqb (32 * major + 31) 255 ≡ false = ne_eqb _ _ (λ h. omega arith) in rw e refl

head_some : (major : ℕ) (w : Width) (n : ℕ) → 0 < length (head major w n)
unfolding head
head_some major Immediate n = omega arith
head_some major One n = omega arith
head_some major Two n = omega arith
head_some major Four n = omega arith
head_some major Eight n = omega arith

pub string_again : (k : StringKind) (bs rest : List ℕ) → is_content k bs ≡ true → string_at k (length bs) (bs ++ rest) ≡ Ok (bs, rest)
unfolding string_at
string_again k bs rest content =
    let long : ltb (length (bs ++ rest)) (length bs) ≡ false = le-ltb _ _ (omega (arith, length-append bs rest)) in
    rw (long, take_at bs rest (length bs) refl, drop_at bs rest (length bs) refl, content) refl

string_small : (k : StringKind) → string_major k < 7
string_small Bytes = omega arith
string_small Text = omega arith

pub chunk_going : (k : StringKind) (c : Chunk) (rest : List ℕ) → ArgumentFits c.0 (length c.1) → past_stop Break (chunk_encoding k c ++ rest) ≡ None
chunk_going k c rest fits = ap (past_stop Break) (append_assoc (head (string_major k) c.0 (length c.1)) c.1 rest) ∙ head_going (string_major k) c.0 (length c.1) (c.1 ++ rest) (omega (arith, string_small k)) fits

chunk_some : (k : StringKind) (c : Chunk) → 0 < length (chunk_encoding k c)
chunk_some k c = omega (arith, length-append (head (string_major k) c.0 (length c.1)) c.1, head_some (string_major k) c.0 (length c.1))

module _ (k : StringKind) where
  chunk_again : (c : Chunk) (rest : List ℕ) → ChunkFits k c → chunk_at k (chunk_encoding k c ++ rest) ≡ Ok (c, rest)
  unfolding chunk_at
  chunk_again c rest fits =
      let regrouped : chunk_encoding k c ++ rest ≡ head (string_major k) c.0 (length c.1) ++ (c.1 ++ rest) = append_assoc (head (string_major k) c.0 (length c.1)) c.1 rest in
      let same : eqb (string_major k) (string_major k) ≡ true = eq-eqb _ _ refl in
      ap (chunk_at k) regrouped ∙ rw (head_again (string_major k) c.0 (length c.1) (c.1 ++ rest) fits.0, same, string_again k c.1 rest fits.2) refl

  pub chunks_again : (cs : List Chunk) (rest : List ℕ) (turns : ℕ) → length cs < turns → ChunksFit k cs → until Break (chunk_at k) turns (chunk_encodings k cs ++ (255 ∷ rest)) ≡ Ok (cs, rest)
  chunks_again [] rest turns lt fits = until_end_at Break (chunk_at k) turns 0 (255 ∷ rest) rest (omega arith) refl ∙ none 0 ([], rest)
  chunks_again (c ∷ cs) rest turns lt fits =
      let tail = chunk_encodings k cs ++ (255 ∷ rest) in
      let regrouped : chunk_encodings k (c ∷ cs) ++ (255 ∷ rest) ≡ chunk_encoding k c ++ tail = append_assoc (chunk_encoding k c) (chunk_encodings k cs) (255 ∷ rest) in
      ap (until Break (chunk_at k) turns) regrouped
      ∙ until_more_at Break (chunk_at k) 0 0 0 turns (chunk_encoding k c ++ tail) tail rest c cs (omega arith) (chunk_going k c tail fits.0.0) (chunk_again c tail fits.0 ∙ sym (none 0 (c, tail)))
      (chunks_again cs rest (turns - 1) (omega arith) fits.1 ∙ sym (none 0 (cs, rest)))
      ∙ none 0 (c ∷ cs, rest)

  pub chunks_many : (cs : List Chunk) → length cs ≤ length (chunk_encodings k cs)
  chunks_many [] = omega arith
  chunks_many (c ∷ cs) = omega (arith, chunks_many cs, length-append (chunk_encoding k c) (chunk_encodings k cs), chunk_some k c)

-- ---- values

list_going : (major : ℕ) (w : Option Width) (n : ℕ) (contents rest : List ℕ) → major < 7 → LengthFits w n → past_stop Break (list_encoding major w n contents ++ rest) ≡ None
list_going major (Some w) n contents rest lt fits = ap (past_stop Break) (append_assoc (head major w n) contents rest) ∙ head_going major w n (contents ++ rest) (omega arith) fits
list_going major None n contents rest lt fits = open_going major ((contents ++ break ∷ []) ++ rest) lt

break_going : (v : Value) (rest : List ℕ) → Fits v → past_stop Break (encoding v ++ rest) ≡ None
break_going (unsigned w n) rest fits = head_going 0 w n rest (omega arith) fits
break_going (negative w n) rest fits = head_going 1 w n rest (omega arith) fits
break_going (string k w bs) rest fits = chunk_going k (w, bs) rest fits.0
break_going (chunks k cs) rest fits = open_going (string_major k) ((chunk_encodings k cs ++ break ∷ []) ++ rest) (string_small k)
break_going (array w vs) rest fits = list_going 4 w (values_len vs) (encodings vs) rest (omega arith) fits.0
break_going (cbor_map w ps) rest fits = list_going 5 w (pairs_len ps) (pair_encodings ps) rest (omega arith) fits.0
break_going (tag w n v) rest fits = ap (past_stop Break) (append_assoc (head 6 w n) (encoding v) rest) ∙ head_going 6 w n (encoding v ++ rest) (omega arith) fits.0
break_going (simple n) rest fits = head_going 7 (simple_width n) n rest (omega arith) (simple_fits n fits)
break_going (float w f) rest fits = head_going 7 w (float_bits w f) rest (omega arith) (float_fits w f fits)

list_some : (major : ℕ) (w : Option Width) (n : ℕ) (contents : List ℕ) → 0 < length (list_encoding major w n contents)
list_some major (Some w) n contents = omega (arith, length-append (head major w n) contents, head_some major w n)
list_some major None n contents = omega arith

pub encoding_some : (v : Value) → 0 < length (encoding v)
encoding_some (unsigned w n) = head_some 0 w n
encoding_some (negative w n) = head_some 1 w n
encoding_some (string k w bs) = chunk_some k (w, bs)
encoding_some (chunks k cs) = omega arith
encoding_some (array w vs) = list_some 4 w (values_len vs) (encodings vs)
encoding_some (cbor_map w ps) = list_some 5 w (pairs_len ps) (pair_encodings ps)
encoding_some (tag w n v) = omega (arith, length-append (head 6 w n) (encoding v), head_some 6 w n)
encoding_some (simple n) = head_some 7 (simple_width n) n
encoding_some (float w f) = head_some 7 w (float_bits w f)

pub values_many : (vs : Values) → values_len vs ≤ length (encodings vs)
values_many no_values = omega arith
values_many (value v vs) = omega (arith, values_many vs, length-append (encoding v) (encodings vs), encoding_some v)

pub pairs_many : (ps : Pairs) → pairs_len ps ≤ length (pair_encodings ps)
pairs_many no_pairs = omega arith
pairs_many (pair k v ps) = omega (arith, pairs_many ps, length-append (encoding k ++ encoding v) (pair_encodings ps), length-append (encoding k) (encoding v), encoding_some v)

no_end : (bytes : List ℕ) → 0 < length bytes → past_stop EndOfData bytes ≡ None
no_end [] lt = absurd (omega arith)
no_end (b ∷ bytes) lt = refl

-- no row ends where an item begins
pub going : (stop : Stop) (v : Value) (rest : List ℕ) → Fits v → past_stop stop (encoding v ++ rest) ≡ None
going Break v rest fits = break_going v rest fits
going EndOfData v rest fits = no_end (encoding v ++ rest) (omega (arith, encoding_some v, length-append (encoding v) rest))
