-- What is written is read again, where it nests no deeper than it may; else it is refused as too deep.
use Rattle.std.proofs.Common.{◌≡◌, ℕ, zero, suc, ◌+◌, ◌-◌, ◌<◌, ◌≤◌, Bool, true, false, cond, leb, ltb, eqb, max, List, [], ◌∷◌, ◌++◌, length, Option, Some, None, Ok, Err, refl, sym, ap, ◌∙◌, append_assoc, arith, inl, inr}
use Rattle.std.specs.Prelude.{◌&&◌}
use Rattle.std.proofs.lemmas.Bool.{cases_lt, le-ltb, ne_eqb}
use Rattle.std.proofs.lemmas.List.{length-append}
use Rattle.cbor_edn_parts.specs.declared.string.StringKind.{StringKind}
use Rattle.cbor_edn_parts.specs.declared.string.StringKind.TheVariants.{Bytes, Text}
use Rattle.cbor_edn_model.specs.declared.cbor.heads.Width.{Width}
use Rattle.cbor_edn_model.specs.declared.cbor.heads.Width.TheVariants.{Immediate, One, Two, Four, Eight}
use Rattle.cbor_edn_model.specs.declared.text.keyword.NonFinite.{NonFinite}
use Rattle.cbor_edn_model.specs.declared.cbor.decode.CborError.TheVariants.{TooDeep}
use Rattle.cbor_edn_model.specs.declared.cbor.decode.head.Stop.{Stop}
use Rattle.cbor_edn_model.specs.declared.cbor.decode.head.Stop.TheVariants.{Break}
use Rattle.cbor_edn_model.specs.cbor.Value.{Value, unsigned, negative, string, chunks, array, cbor_map, tag, simple, float, Values, no_values, value, Pairs, no_pairs, pair, Chunk, head, ArgumentFits, LengthFits, open_head, break, list_encoding, string_major, chunk_encoding, chunk_encodings, ChunkFits, ChunksFit, encoding, encodings, pair_encodings, values_len, pairs_len, Fits, ValuesFit, PairsFit, float_bits, simple_width, IsSimple, IsFloatWidth}
use Rattle.cbor_edn_model.specs.internal.Results.{◌>>=◌}
use Rattle.cbor_edn_model.specs.internal.CborReading.{DecoderResult, Decoder, Head, head_at, many, until, several, past_stop, pair_at, string_by, simple_by, float_by, special_by, item_by, item_at, inner, Makes, simple_nesting}
use Rattle.cbor_edn_model.proofs.lemmas.cbor.Nestings.{value_nesting, values_nesting, pairs_nesting}
use Rattle.cbor_edn_model.proofs.lemmas.cbor.CborHeads.{head_again, open_again}
use Rattle.cbor_edn_model.proofs.lemmas.cbor.CborSpecials.{one_byte, two_bytes, simple_fits, simple_shallow, float_fits, float_again}
use Rattle.cbor_edn_model.proofs.lemmas.cbor.CborOutcomes.{decoder_outcome, within, beyond, none, outcome_then, outcome_map, many_none, more, until_more_at, until_end_at, string_again, chunks_again, chunks_many, values_many, pairs_many, going}
use Rattle.cbor_edn_model.proofs.lemmas.cbor.CborValues.{values_of, pairs_of, list_of, pair_list_of, values_of_list, pairs_of_list, argument_width, makes, value_at, in_front_of}

-- ---- an item by its head

pub item_at_ok : {A B : Type 0} (m : Makes A B) (depth : ℕ) (bytes rest : List ℕ) (h : Head) → head_at bytes ≡ Ok (h, rest) → item_at m depth bytes ≡ item_by m (inner m depth) h.0 h.1 rest
unfolding item_at
item_at_ok m zero bytes rest h e = rw e refl
item_at_ok m (suc depth) bytes rest h e =
    let less : suc depth - 1 ≡ depth = omega arith in
    let more : eqb (suc depth) 0 ≡ false = ne_eqb _ _ (λ h. omega arith) in
    rw (e, more, less) refl

pub inner_more : {A B : Type 0} (m : Makes A B) (d : ℕ) → inner m (suc d) ≡ Some (item_at m d)
inner_more m d =
    let more : eqb (suc d) 0 ≡ false = ne_eqb _ _ (λ h. omega arith) in
    let less : suc d - 1 ≡ d = omega arith in
    rw (more, less) refl

deeper : {X : Type 0} → (n limit : ℕ) (x : X) → decoder_outcome n limit x ≡ decoder_outcome (n + 1) (suc limit) x
deeper n limit x =
    elim (cases_lt limit n) [
      | inl lt ↦ beyond n limit x lt ∙ sym (beyond (n + 1) (suc limit) x (omega arith))
      | inr le ↦ within n limit x le ∙ sym (within (n + 1) (suc limit) x (omega arith))
    ]

-- what reads the entries of a list, and what is made of them
record Lists (A : Type 0) (major : ℕ) (one : ℕ → Decoder A) (make : Option Width → List A → Value) : Type 0 where
  opened : (d : ℕ) (argument : Option (Width × ℕ)) (rest : List ℕ) → item_by makes (Some (value_at d)) major argument rest ≡ (several (one d) argument rest >>= λ xs. Ok (make (argument_width argument) xs.0, xs.1))
  closed : (argument : Option (Width × ℕ)) (rest : List ℕ) → item_by makes None major argument rest ≡ Err TooDeep

-- the contents of a list are read again
record Contents (A : Type 0) (one : ℕ → Decoder A) (n depth : ℕ) (bytes : List ℕ) (xs : List A) : Type 0 where
  counted : (d : ℕ) (rest : List ℕ) → many (one d) n (bytes ++ rest) ≡ decoder_outcome depth d (xs, rest)
  ended : (d turns : ℕ) (rest : List ℕ) → n < turns → until Break (one d) turns (bytes ++ (255 ∷ rest)) ≡ decoder_outcome depth d (xs, rest)
  long : n ≤ length bytes

by_inner : {A : Type 0} (one : ℕ → Decoder A) (make : Option Width → List A → Value) (major : ℕ) (lists : Lists A major one make) (depth : ℕ) (w : Option Width) (argument : Option (Width × ℕ)) (bytes after rest : List ℕ) (xs : List A) (limit : ℕ)
    → argument_width argument ≡ w → head_at bytes ≡ Ok ((major, argument), after) → ((d : ℕ) → several (one d) argument after ≡ decoder_outcome depth d (xs, rest)) → value_at limit bytes ≡ decoder_outcome (depth + 1) limit (make w xs, rest)
by_inner one make major lists depth w argument bytes after rest xs zero w_is read inside =
    item_at_ok makes 0 bytes after (major, argument) read ∙ lists.closed argument after ∙ sym (beyond (depth + 1) 0 (make w xs, rest) (omega arith))
by_inner {A} one make major lists depth w argument bytes after rest xs (suc d) w_is read inside =
    item_at_ok makes (suc d) bytes after (major, argument) read
    ∙ ap (λ i. item_by makes i major argument after) (inner_more makes d)
    ∙ lists.opened d argument after
    ∙ ap (λ r. r >>= λ (ys : List A × List ℕ). Ok (make (argument_width argument) ys.0, ys.1)) (inside d)
    ∙ outcome_map depth d (xs, rest) (λ ys. (make (argument_width argument) ys.0, ys.1))
    ∙ ap (λ v. decoder_outcome depth d (make v xs, rest)) w_is
    ∙ deeper depth d (make w xs, rest)

list_again : {A : Type 0} (one : ℕ → Decoder A) (make : Option Width → List A → Value) (major : ℕ) (lists : Lists A major one make) (w : Option Width) (n depth : ℕ) (contents : List ℕ) (xs : List A) (limit : ℕ) (rest : List ℕ)
    → Contents A one n depth contents xs → LengthFits w n → value_at limit (list_encoding major w n contents ++ rest) ≡ decoder_outcome (depth + 1) limit (make w xs, rest)
unfolding several
list_again one make major lists (Some w) n depth contents xs limit rest inside fits =
    ap (value_at limit) (append_assoc (head major w n) contents rest)
    ∙ by_inner one make major lists depth (Some w) (Some (w, n)) (head major w n ++ (contents ++ rest)) (contents ++ rest) rest xs limit refl (head_again major w n (contents ++ rest) fits) (λ d. inside.counted d rest)
list_again one make major lists None n depth contents xs limit rest inside fits =
    let after = contents ++ (255 ∷ rest) in
    ap (λ (l : List ℕ). value_at limit (open_head major ∷ l)) (append_assoc contents (255 ∷ []) rest)
    ∙ by_inner one make major lists depth None None (open_head major ∷ after) after rest xs limit refl (open_again major after) (λ d. inside.ended d (suc (length after)) rest (omega (arith, inside.long, length-append contents (255 ∷ rest))))

arrays : Lists Value 4 (value_at) (λ w vs. array w (values_of vs))
unfolding item_by
arrays = record { opened = λ d argument rest. refl; closed = λ argument rest. refl }

abbrev pair_reader : ℕ → Decoder (Value × Value)
pair_reader d = pair_at makes (value_at d)

maps : Lists (Value × Value) 5 pair_reader (λ w ps. cbor_map w (pairs_of ps))
unfolding item_by
maps = record { opened = λ d argument rest. refl; closed = λ argument rest. refl }

abbrev ManyAgain : Values → Type 0
ManyAgain vs = (limit : ℕ) (rest : List ℕ) → many (value_at limit) (values_len vs) (encodings vs ++ rest) ≡ decoder_outcome (values_nesting vs) limit (list_of vs, rest)

-- in front of the end of a row
abbrev pub UntilAgain : Values → Type 0
UntilAgain vs = (stop : Stop) (limit turns : ℕ) (tail rest : List ℕ) → past_stop stop tail ≡ Some rest → values_len vs < turns → until stop (value_at limit) turns (encodings vs ++ tail) ≡ decoder_outcome (values_nesting vs) limit (list_of vs, rest)

abbrev ManyPairsAgain : Pairs → Type 0
ManyPairsAgain ps = (limit : ℕ) (rest : List ℕ) → many (pair_reader limit) (pairs_len ps) (pair_encodings ps ++ rest) ≡ decoder_outcome (pairs_nesting ps) limit (pair_list_of ps, rest)

abbrev UntilPairsAgain : Pairs → Type 0
UntilPairsAgain ps = (limit turns : ℕ) (rest : List ℕ) → pairs_len ps < turns → until Break (pair_reader limit) turns (pair_encodings ps ++ (255 ∷ rest)) ≡ decoder_outcome (pairs_nesting ps) limit (pair_list_of ps, rest)

array_again : (limit : ℕ) (w : Option Width) (vs : Values) (rest : List ℕ) → LengthFits w (values_len vs) → ManyAgain vs → UntilAgain vs
    → value_at limit (list_encoding 4 w (values_len vs) (encodings vs) ++ rest) ≡ decoder_outcome (values_nesting vs + 1) limit (array w vs, rest)
array_again limit w vs rest fits counted ended =
    list_again (value_at) (λ w vs. array w (values_of vs)) 4 arrays w (values_len vs) (values_nesting vs) (encodings vs) (list_of vs) limit rest
    (record { counted = counted; ended = λ d turns rest lt. ended Break d turns (255 ∷ rest) rest refl lt; long = values_many vs }) fits
    ∙ ap (λ us. decoder_outcome (values_nesting vs + 1) limit (array w us, rest)) (values_of_list vs)

map_again : (limit : ℕ) (w : Option Width) (ps : Pairs) (rest : List ℕ) → LengthFits w (pairs_len ps) → ManyPairsAgain ps → UntilPairsAgain ps
    → value_at limit (list_encoding 5 w (pairs_len ps) (pair_encodings ps) ++ rest) ≡ decoder_outcome (pairs_nesting ps + 1) limit (cbor_map w ps, rest)
map_again limit w ps rest fits counted ended =
    list_again pair_reader (λ w ps. cbor_map w (pairs_of ps)) 5 maps w (pairs_len ps) (pairs_nesting ps) (pair_encodings ps) (pair_list_of ps) limit rest
    (record { counted = counted; ended = ended; long = pairs_many ps }) fits
    ∙ ap (λ us. decoder_outcome (pairs_nesting ps + 1) limit (cbor_map w us, rest)) (pairs_of_list ps)

leaf : (limit : ℕ) (v : Value) (rest : List ℕ) (r : DecoderResult Value) → r ≡ Ok (v, rest) → r ≡ decoder_outcome 0 limit (v, rest)
leaf limit v rest r e = e ∙ sym (none limit (v, rest))

number_again : (limit : ℕ) (w : Width) (n : ℕ) (rest : List ℕ) → ArgumentFits w n → (value_at limit (head 0 w n ++ rest) ≡ Ok (unsigned w n, rest)) × (value_at limit (head 1 w n ++ rest) ≡ Ok (negative w n, rest))
unfolding item_by
number_again limit w n rest fits = (
  item_at_ok makes limit (head 0 w n ++ rest) rest (0, Some (w, n)) (head_again 0 w n rest fits),
  item_at_ok makes limit (head 1 w n ++ rest) rest (1, Some (w, n)) (head_again 1 w n rest fits),
)

string_opened : (i : Option (Decoder Value)) (k : StringKind) (argument : Option (Width × ℕ)) (rest : List ℕ) → item_by makes i (string_major k) argument rest ≡ string_by makes k argument rest
unfolding item_by
string_opened i Bytes argument rest = refl
string_opened i Text argument rest = refl

text_again : (limit : ℕ) (k : StringKind) (w : Width) (bs rest : List ℕ) → ChunkFits k (w, bs) → value_at limit (chunk_encoding k (w, bs) ++ rest) ≡ Ok (string k w bs, rest)
text_again limit k w bs rest fits =
    let front = head (string_major k) w (length bs) in
    ap (value_at limit) (append_assoc front bs rest) ∙ item_at_ok makes limit (front ++ (bs ++ rest)) (bs ++ rest) (string_major k, Some (w, length bs)) (head_again (string_major k) w (length bs) (bs ++ rest) fits.0)
    ∙ string_opened (inner makes limit) k (Some (w, length bs)) (bs ++ rest) ∙ ap (λ r. r >>= λ (s : List ℕ × List ℕ). Ok (string k w s.0, s.1)) (string_again k bs rest fits.2)

all_chunks_again : (limit : ℕ) (k : StringKind) (cs : List Chunk) (rest : List ℕ) → ChunksFit k cs → value_at limit (open_head (string_major k) ∷ ((chunk_encodings k cs ++ break ∷ []) ++ rest)) ≡ Ok (chunks k cs, rest)
all_chunks_again limit k cs rest fits =
    let after = chunk_encodings k cs ++ (255 ∷ rest) in
    let regrouped : (chunk_encodings k cs ++ 255 ∷ []) ++ rest ≡ after = append_assoc (chunk_encodings k cs) (255 ∷ []) rest in
    ap (λ (l : List ℕ). value_at limit (open_head (string_major k) ∷ l)) regrouped ∙ item_at_ok makes limit (open_head (string_major k) ∷ after) after (string_major k, None) (open_again (string_major k) after)
    ∙ string_opened (inner makes limit) k None after
    ∙ ap (λ r. r >>= λ (s : List Chunk × List ℕ). Ok (chunks k s.0, s.1)) (chunks_again k cs rest (suc (length after)) (omega (arith, chunks_many k cs, length-append (chunk_encodings k cs) (255 ∷ rest))) fits)

-- a tag and what it holds
tag_again : (limit : ℕ) (w : Width) (n : ℕ) (v : Value) (rest : List ℕ) → ArgumentFits w n → ((d : ℕ) → value_at d (encoding v ++ rest) ≡ decoder_outcome (value_nesting v) d (v, rest))
    → value_at limit ((head 6 w n ++ encoding v) ++ rest) ≡ decoder_outcome (value_nesting v + 1) limit (tag w n v, rest)
unfolding item_by
tag_again zero w n v rest fits inside =
    let after = encoding v ++ rest in
    ap (value_at 0) (append_assoc (head 6 w n) (encoding v) rest) ∙ item_at_ok makes 0 (head 6 w n ++ after) after (6, Some (w, n)) (head_again 6 w n after fits) ∙ sym (beyond (value_nesting v + 1) 0 (tag w n v, rest) (omega arith))
tag_again (suc d) w n v rest fits inside =
    let after = encoding v ++ rest in
    let opened : item_by makes (inner makes (suc d)) 6 (Some (w, n)) after ≡ (value_at d after >>= λ x. Ok (tag w n x.0, x.1)) = rw (inner_more makes d) refl in
    ap (value_at (suc d)) (append_assoc (head 6 w n) (encoding v) rest) ∙ item_at_ok makes (suc d) (head 6 w n ++ after) after (6, Some (w, n)) (head_again 6 w n after fits)
    ∙ opened ∙ ap (λ r. r >>= λ (x : Value × List ℕ). Ok (tag w n x.0, x.1)) (inside d) ∙ outcome_map (value_nesting v) d (v, rest) (λ x. (tag w n x.0, x.1)) ∙ deeper (value_nesting v) d (tag w n v, rest)

-- a simple value by its head
simple_opened : (i : Option (Decoder Value)) (n : ℕ) → IsSimple n → special_by makes i (Some (simple_width n, n)) ≡ simple_by makes i n
simple_opened i n (inl lt) = ap (λ w. special_by makes i (Some (w, n))) (one_byte n lt)
simple_opened i n (inr wide) =
    let long : ltb n 32 ≡ false = le-ltb n 32 wide.0 in
    ap (λ w. special_by makes i (Some (w, n))) (two_bytes n (omega (arith, wide.0))) ∙ rw long refl

named_again : (named : Bool) (n : ℕ) (rest : List ℕ) → (cond (eqb (cond named 0 1) 0) (Ok (simple n)) (Err TooDeep) >>= in_front_of rest) ≡ decoder_outcome (cond named 0 1) 0 (simple n, rest)
named_again true n rest = refl
named_again false n rest = refl

simple_again : (limit n : ℕ) (rest : List ℕ) → IsSimple n → value_at limit (head 7 (simple_width n) n ++ rest) ≡ decoder_outcome (simple_nesting n) limit (simple n, rest)
unfolding item_by
simple_again zero n rest is =
    item_at_ok makes 0 (head 7 (simple_width n) n ++ rest) rest (7, Some (simple_width n, n)) (head_again 7 (simple_width n) n rest (simple_fits n is))
    ∙ ap (λ r. r >>= in_front_of rest) (simple_opened None n is) ∙ named_again (leb 20 n && ltb n 24) n rest
simple_again (suc d) n rest is =
    item_at_ok makes (suc d) (head 7 (simple_width n) n ++ rest) rest (7, Some (simple_width n, n)) (head_again 7 (simple_width n) n rest (simple_fits n is))
    ∙ ap (λ i. special_by makes i (Some (simple_width n, n)) >>= in_front_of rest) (inner_more makes d)
    ∙ ap (λ r. r >>= in_front_of rest) (simple_opened (Some (value_at d)) n is) ∙ sym (within (simple_nesting n) (suc d) (simple n, rest) (omega (arith, simple_shallow n)))

float_opened : (i : Option (Decoder Value)) (w : Width) (f : NonFinite) → IsFloatWidth w → special_by makes i (Some (w, float_bits w f)) ≡ Ok (float w f)
float_opened i Immediate f is = absurd is
float_opened i One f is = absurd is
float_opened i Two f is = ap (float_by makes Two) (float_again Two f is)
float_opened i Four f is = ap (float_by makes Four) (float_again Four f is)
float_opened i Eight f is = ap (float_by makes Eight) (float_again Eight f is)

float_item_again : (limit : ℕ) (w : Width) (f : NonFinite) (rest : List ℕ) → IsFloatWidth w → value_at limit (head 7 w (float_bits w f) ++ rest) ≡ Ok (float w f, rest)
unfolding item_by
float_item_again limit w f rest is =
    item_at_ok makes limit (head 7 w (float_bits w f) ++ rest) rest (7, Some (w, float_bits w f)) (head_again 7 w (float_bits w f) rest (float_fits w f is))
    ∙ ap (λ r. r >>= in_front_of rest) (float_opened (inner makes limit) w f is)

pair_again : (limit : ℕ) (k v : Value) (rest : List ℕ) → value_at limit (encoding k ++ (encoding v ++ rest)) ≡ decoder_outcome (value_nesting k) limit (k, encoding v ++ rest) → value_at limit (encoding v ++ rest) ≡ decoder_outcome (value_nesting v) limit (v, rest)
    → pair_at makes (value_at limit) (encoding k ++ (encoding v ++ rest)) ≡ decoder_outcome (max (value_nesting k) (value_nesting v)) limit ((k, v), rest)
unfolding pair_at
pair_again limit k v rest first second =
    ap (λ r. r >>= λ (x : Value × List ℕ). value_at limit x.1 >>= λ y. Ok ((x.0, y.0), y.1)) first
    ∙ outcome_then (value_nesting k) (value_nesting v) limit (k, encoding v ++ rest) _ ((k, v), rest) (ap (λ r. r >>= λ (y : Value × List ℕ). Ok ((k, y.0), y.1)) second ∙ outcome_map (value_nesting v) limit (v, rest) (λ y. ((k, y.0), y.1)))

mutual
  -- the law of the reader: what is written is read again, whatever follows it
  pub item_again : (v : Value) (limit : ℕ) (rest : List ℕ) → Fits v → value_at limit (encoding v ++ rest) ≡ decoder_outcome (value_nesting v) limit (v, rest)
  item_again (unsigned w n) limit rest fits = leaf limit (unsigned w n) rest _ (number_again limit w n rest fits).0
  item_again (negative w n) limit rest fits = leaf limit (negative w n) rest _ (number_again limit w n rest fits).1
  item_again (string k w bs) limit rest fits = leaf limit (string k w bs) rest _ (text_again limit k w bs rest fits)
  item_again (chunks k cs) limit rest fits = leaf limit (chunks k cs) rest _ (all_chunks_again limit k cs rest fits)
  item_again (array w vs) limit rest fits = array_again limit w vs rest fits.0 (values_again vs fits.1) (values_until vs fits.1)
  item_again (cbor_map w ps) limit rest fits = map_again limit w ps rest fits.0 (pairs_again ps fits.1) (pairs_until ps fits.1)
  item_again (tag w n v) limit rest fits = tag_again limit w n v rest fits.0 (λ d. item_again v d rest fits.1)
  item_again (simple n) limit rest fits = simple_again limit n rest fits
  item_again (float w f) limit rest fits = leaf limit (float w f) rest _ (float_item_again limit w f rest fits)

  values_again : (vs : Values) → ValuesFit vs → ManyAgain vs
  values_again no_values fits limit rest = many_none (value_at limit) rest ∙ sym (none limit ([], rest))
  values_again (value v vs) fits limit rest =
      ap (many (value_at limit) (values_len vs + 1)) (append_assoc (encoding v) (encodings vs) rest)
      ∙ more (value_at limit) limit (value_nesting v) (values_nesting vs) (values_len vs) (encoding v ++ (encodings vs ++ rest)) (encodings vs ++ rest) rest v (list_of vs) (item_again v limit (encodings vs ++ rest) fits.0) (values_again vs fits.1 limit rest)

  pub values_until : (vs : Values) → ValuesFit vs → UntilAgain vs
  values_until no_values fits stop limit turns tail rest ends lt = until_end_at stop (value_at limit) turns limit tail rest (omega arith) ends
  values_until (value v vs) fits stop limit turns tail rest ends lt =
      let behind = encodings vs ++ tail in
      ap (until stop (value_at limit) turns) (append_assoc (encoding v) (encodings vs) tail)
      ∙ until_more_at stop (value_at limit) limit (value_nesting v) (values_nesting vs) turns (encoding v ++ behind) behind rest v (list_of vs) (omega arith) (going stop v behind fits.0) (item_again v limit behind fits.0)
      (values_until vs fits.1 stop limit (turns - 1) tail rest ends (omega arith))

  pairs_again : (ps : Pairs) → PairsFit ps → ManyPairsAgain ps
  pairs_again no_pairs fits limit rest = many_none (pair_at makes (value_at limit)) rest ∙ sym (none limit ([], rest))
  pairs_again (pair k v ps) fits limit rest =
      let tail = pair_encodings ps ++ rest in
      ap (many (pair_at makes (value_at limit)) (pairs_len ps + 1)) (append_assoc (encoding k ++ encoding v) (pair_encodings ps) rest ∙ append_assoc (encoding k) (encoding v) tail)
      ∙ more (pair_at makes (value_at limit)) limit (max (value_nesting k) (value_nesting v)) (pairs_nesting ps) (pairs_len ps) (encoding k ++ (encoding v ++ tail)) tail rest (k, v) (pair_list_of ps)
      (pair_again limit k v tail (item_again k limit (encoding v ++ tail) fits.0) (item_again v limit tail fits.1)) (pairs_again ps fits.2 limit rest)

  pairs_until : (ps : Pairs) → PairsFit ps → UntilPairsAgain ps
  pairs_until no_pairs fits limit turns rest lt = until_end_at Break (pair_at makes (value_at limit)) turns limit (255 ∷ rest) rest (omega arith) refl
  pairs_until (pair k v ps) fits limit turns rest lt =
      let tail = pair_encodings ps ++ (255 ∷ rest) in
      ap (until Break (pair_at makes (value_at limit)) turns) (append_assoc (encoding k ++ encoding v) (pair_encodings ps) (255 ∷ rest) ∙ append_assoc (encoding k) (encoding v) tail)
      ∙ until_more_at Break (pair_at makes (value_at limit)) limit (max (value_nesting k) (value_nesting v)) (pairs_nesting ps) turns (encoding k ++ (encoding v ++ tail)) tail rest (k, v) (pair_list_of ps) (omega arith) (going Break k (encoding v ++ tail) fits.0)
      (pair_again limit k v tail (item_again k limit (encoding v ++ tail) fits.0) (item_again v limit tail fits.1)) (pairs_until ps fits.2 limit (turns - 1) rest (omega arith))
