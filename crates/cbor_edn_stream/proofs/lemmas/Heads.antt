-- From head to head: the heads that are met tell what tags stand in values.
use Rattle.std.proofs.Common.{◌≡◌, ℕ, Bool, true, false, List, [], ◌∷◌, ◌++◌, length, Option, Some, None, Ok, Err, refl, sym, ap, subst, ◌∙◌, append_assoc, ◌≢◌, ◌||◌, ◌&&◌, ◌/◌, ◌%◌, ◌<◌}
use Rattle.std.proofs.lemmas.List.{append-nil}
use Rattle.std.proofs.lemmas.Bool.{lt-ltb, ne_eqb}
use Rattle.std.proofs.Math.Seq.{drop-append_seam}
use Rattle.cbor_edn_parts.specs.declared.string.StringKind.{StringKind}
use Rattle.cbor_edn_parts.specs.declared.string.StringKind.TheVariants.{Bytes, Text}
use Rattle.cbor_edn_model.specs.declared.cbor.heads.Width.{Width}
use Rattle.cbor_edn_model.specs.declared.cbor.heads.Width.TheVariants.{Immediate}
use Rattle.cbor_edn_model.specs.declared.cbor.decode.CborError.{CborError}
use Rattle.cbor_edn_model.specs.tree.Items as kind
use Rattle.cbor_edn_model.specs.tree.Items.{Bracketed}
use Rattle.cbor_edn_model.specs.cbor.Value.{Value, Chunk, unsigned, negative, string, chunks, array, cbor_map, tag, simple, float, Values, no_values, value, values_len, Pairs, no_pairs, pair, pairs_len, head, break, simple_width, float_bits, LengthFits, ChunkFits, ChunksFit, list_encoding, chunk_encoding, chunk_encodings, encoding, encodings, pair_encodings, Fits, ValuesFit, PairsFit, EncAll}
use Rattle.cbor_edn_model.specs.internal.CborReading.{Argument, Head, head_at}
use Rattle.cbor_edn_model.proofs.lemmas.cbor.CborHeads.{head_again, open_again}
use Rattle.cbor_edn_model.proofs.lemmas.cbor.CborSpecials.{simple_fits, float_fits}
use Rattle.cbor_edn_stream.specs.Tags.{among, value_has_tag, values_have_tag, pairs_have_tag}
use Rattle.cbor_edn_stream.specs.Heads.{is_head_of, behind_content, IsBehindOther}

-- From these bytes a head of one of the tags is met, or none up to their end.
pub data Meets (numbers : List ℕ) : List ℕ → Bool → Type 0 where
  none : Meets numbers [] false
  goes : {bytes rest : List ℕ} {major : ℕ} {argument : Argument} {b : Bool}
      → head_at bytes ≡ Ok ((major, argument), rest) → Meets numbers (behind_content major argument rest) b → Meets numbers bytes (is_head_of numbers major argument || b)

either_more : (a b c : Bool) → a || (b || c) ≡ (a || b) || c
either_more true b c = refl
either_more false b c = refl

or_nothing : (a : Bool) → a || false ≡ a
or_nothing true = refl
or_nothing false = refl

three_parts : (a b c d : List ℕ) → (a ++ b ++ c) ++ d ≡ a ++ (b ++ (c ++ d))
three_parts a b c d = simp append_assoc refl

module _ (numbers : List ℕ) where
  regrouped : (a b rest : List ℕ) (x : Bool) → Meets numbers (a ++ (b ++ rest)) x → Meets numbers ((a ++ b) ++ rest) x
  regrouped a b rest x m = subst (λ (l : List ℕ). Meets numbers l x) (sym (append_assoc a b rest)) m

  either : (bytes : List ℕ) (a b c : Bool) → Meets numbers bytes (a || (b || c)) → Meets numbers bytes ((a || b) || c)
  either bytes a b c m = subst (λ (x : Bool). Meets numbers bytes x) (either_more a b c) m

  break_met : (rest : List ℕ) (b : Bool) → Meets numbers rest b → Meets numbers (break ∷ rest) b
  break_met rest b m = goes (open_again 7 rest) m

  -- ---- strings

  chunk_met : (k : StringKind) (c : Chunk) → ChunkFits k c → (rest : List ℕ) (b : Bool) → Meets numbers rest b → Meets numbers (chunk_encoding k c ++ rest) b
  chunk_met Bytes c fits rest b m = regrouped (head 2 c.0 (length c.1)) c.1 rest b (goes (head_again 2 c.0 (length c.1) (c.1 ++ rest) fits.0) (subst (λ (l : List ℕ). Meets numbers l b) (sym (drop-append_seam c.1 rest)) m))
  chunk_met Text c fits rest b m = regrouped (head 3 c.0 (length c.1)) c.1 rest b (goes (head_again 3 c.0 (length c.1) (c.1 ++ rest) fits.0) (subst (λ (l : List ℕ). Meets numbers l b) (sym (drop-append_seam c.1 rest)) m))

  chunks_met : (k : StringKind) (cs : List Chunk) → ChunksFit k cs → (rest : List ℕ) (b : Bool) → Meets numbers rest b → Meets numbers (chunk_encodings k cs ++ rest) b
  chunks_met k [] fits rest b m = m
  chunks_met k (c ∷ cs) fits rest b m = regrouped (chunk_encoding k c) (chunk_encodings k cs) rest b (chunk_met k c fits.0 (chunk_encodings k cs ++ rest) b (chunks_met k cs fits.1 rest b m))

  stream_met : (k : StringKind) (cs : List Chunk) → ChunksFit k cs → (rest : List ℕ) (b : Bool) → Meets numbers rest b → Meets numbers (encoding (chunks k cs) ++ rest) b
  stream_met Bytes cs fits rest b m = goes (open_again 2 ((chunk_encodings Bytes cs ++ break ∷ []) ++ rest)) (regrouped (chunk_encodings Bytes cs) (break ∷ []) rest b (chunks_met Bytes cs fits (break ∷ rest) b (break_met rest b m)))
  stream_met Text cs fits rest b m = goes (open_again 3 ((chunk_encodings Text cs ++ break ∷ []) ++ rest)) (regrouped (chunk_encodings Text cs) (break ∷ []) rest b (chunks_met Text cs fits (break ∷ rest) b (break_met rest b m)))

  -- ---- lists

  abbrev major_of : Bracketed → ℕ
  major_of kind.Array = 4
  major_of kind.Map = 5

  -- what is met in some bytes, in front of others
  abbrev Inside : List ℕ → Bool → Type 0
  Inside parts has = (rest : List ℕ) (b : Bool) → Meets numbers rest b → Meets numbers (parts ++ rest) (has || b)

  list_met : (k : Bracketed) (w : Option Width) (n : ℕ) (parts : List ℕ) (has : Bool) → LengthFits w n → Inside parts has → Inside (list_encoding (major_of k) w n parts) has
  list_met kind.Array (Some w) n parts has fits inside rest b m = regrouped (head 4 w n) parts rest (has || b) (goes (head_again 4 w n (parts ++ rest) fits) (inside rest b m))
  list_met kind.Map (Some w) n parts has fits inside rest b m = regrouped (head 5 w n) parts rest (has || b) (goes (head_again 5 w n (parts ++ rest) fits) (inside rest b m))
  list_met kind.Array None n parts has fits inside rest b m = goes (open_again 4 ((parts ++ break ∷ []) ++ rest)) (regrouped parts (break ∷ []) rest (has || b) (inside (break ∷ rest) b (break_met rest b m)))
  list_met kind.Map None n parts has fits inside rest b m = goes (open_again 5 ((parts ++ break ∷ []) ++ rest)) (regrouped parts (break ∷ []) rest (has || b) (inside (break ∷ rest) b (break_met rest b m)))

  -- ---- values

  mutual
    value_met : (v : Value) → Fits v → Inside (encoding v) (value_has_tag numbers v)
    value_met (unsigned w n) fits rest b m = goes (head_again 0 w n rest fits) m
    value_met (negative w n) fits rest b m = goes (head_again 1 w n rest fits) m
    value_met (string k w bs) fits rest b m = chunk_met k (w, bs) fits rest b m
    value_met (chunks k cs) fits rest b m = stream_met k cs fits rest b m
    value_met (array w vs) fits rest b m = list_met kind.Array w (values_len vs) (encodings vs) (values_have_tag numbers vs) fits.0 (values_met vs fits.1) rest b m
    value_met (cbor_map w ps) fits rest b m = list_met kind.Map w (pairs_len ps) (pair_encodings ps) (pairs_have_tag numbers ps) fits.0 (pairs_met ps fits.1) rest b m
    value_met (tag w n v) fits rest b m =
        regrouped (head 6 w n) (encoding v) rest _ (either (head 6 w n ++ (encoding v ++ rest)) (among numbers n) (value_has_tag numbers v) b (goes (head_again 6 w n (encoding v ++ rest) fits.0) (value_met v fits.1 rest b m)))
    value_met (simple n) fits rest b m = goes (head_again 7 (simple_width n) n rest (simple_fits n fits)) m
    value_met (float w f) fits rest b m = goes (head_again 7 w (float_bits w f) rest (float_fits w f fits)) m

    values_met : (vs : Values) → ValuesFit vs → Inside (encodings vs) (values_have_tag numbers vs)
    values_met no_values fits rest b m = m
    values_met (value v vs) fits rest b m =
        regrouped (encoding v) (encodings vs) rest _ (either (encoding v ++ (encodings vs ++ rest)) (value_has_tag numbers v) (values_have_tag numbers vs) b (value_met v fits.0 (encodings vs ++ rest) (values_have_tag numbers vs || b) (values_met vs fits.1 rest b m)))

    pairs_met : (ps : Pairs) → PairsFit ps → Inside (pair_encodings ps) (pairs_have_tag numbers ps)
    pairs_met no_pairs fits rest b m = m
    pairs_met (pair k v ps) fits rest b m =
        let more = either (encoding v ++ (pair_encodings ps ++ rest)) (value_has_tag numbers v) (pairs_have_tag numbers ps) b (value_met v fits.1 (pair_encodings ps ++ rest) (pairs_have_tag numbers ps || b) (pairs_met ps fits.2 rest b m)) in
        let all = either (encoding k ++ (encoding v ++ (pair_encodings ps ++ rest))) (value_has_tag numbers k) (value_has_tag numbers v || pairs_have_tag numbers ps) b (value_met k fits.0 (encoding v ++ (pair_encodings ps ++ rest)) ((value_has_tag numbers v || pairs_have_tag numbers ps) || b) more) in
        subst (λ (l : List ℕ). Meets numbers l ((value_has_tag numbers k || (value_has_tag numbers v || pairs_have_tag numbers ps)) || b)) (sym (three_parts (encoding k) (encoding v) (pair_encodings ps) rest)) all

  pub sequence_met : (bytes : List ℕ) (vs : Values) → EncAll bytes vs → Meets numbers bytes (values_have_tag numbers vs)
  sequence_met bytes vs enc =
      subst (λ (l : List ℕ). Meets numbers l (values_have_tag numbers vs)) (append-nil (encodings vs) ∙ sym enc.1)
      (subst (λ (b : Bool). Meets numbers (encodings vs ++ []) b) (or_nothing (values_have_tag numbers vs)) (values_met vs enc.0 [] false none))

  -- ---- a turn

  read_twice : (bytes : List ℕ) (x y : Head × List ℕ) → head_at bytes ≡ Ok x → head_at bytes ≡ Ok y → x ≡ y
  read_twice bytes x y first second = cc

  pub met_at_end : (bytes : List ℕ) (b : Bool) (e : CborError) → Meets numbers bytes b → head_at bytes ≡ Err e → b ≡ false
  met_at_end bytes b e none is = refl
  met_at_end bytes b e (goes h m) is = absurd cc

  abbrev Behind : Head × List ℕ → Bool → Type 0
  Behind x b = (c : Bool) × (b ≡ is_head_of numbers x.0.0 x.0.1 || c) × Meets numbers (behind_content x.0.0 x.0.1 x.1) c

  met_behind : (bytes : List ℕ) (b : Bool) (x : Head × List ℕ) → Meets numbers bytes b → head_at bytes ≡ Ok x → Behind x b
  unfolding head_at
  met_behind bytes b x none is = absurd cc
  met_behind bytes b x (goes {rest = rest} {major = major} {argument = argument} {b = c} h m) is =
      subst (λ (y : Head × List ℕ). Behind y b) (read_twice bytes ((major, argument), rest) x h is) (c, refl, m)

  pub met_here : (bytes rest : List ℕ) (b : Bool) (major : ℕ) (argument : Argument) → head_at bytes ≡ Ok ((major, argument), rest) → is_head_of numbers major argument ≡ true → Meets numbers bytes b → b ≡ true
  met_here bytes rest b major argument is here m =
      let more = met_behind bytes b ((major, argument), rest) m is in
      more.1 ∙ ap (λ (h : Bool). h || more.0) here

  pub met_further : (bytes rest : List ℕ) (b : Bool) (major : ℕ) (argument : Argument) → head_at bytes ≡ Ok ((major, argument), rest) → is_head_of numbers major argument ≡ false → Meets numbers bytes b → Meets numbers (behind_content major argument rest) b
  met_further bytes rest b major argument is other m =
      let more = met_behind bytes b ((major, argument), rest) m is in
      subst (λ (c : Bool). Meets numbers (behind_content major argument rest) c) (sym (more.1 ∙ ap (λ (h : Bool). h || more.0) other)) more.2

  -- what is met behind another head
  pub met_past : (bytes behind : List ℕ) (b : Bool) → IsBehindOther bytes behind → Meets numbers bytes b → Meets numbers behind b
  met_past bytes behind b o m = subst (λ (l : List ℕ). Meets numbers l b) (sym o.5) (met_further bytes o.2 b o.0 o.1 o.3 (other o.0 o.1 o.4) m) where
    other : (major : ℕ) (argument : Argument) → major ≢ 6 → is_head_of numbers major argument ≡ false
    other major None is = refl
    other major (Some (w, n)) is = ap (λ (x : Bool). x && among numbers n) (ne_eqb major 6 is)

-- a head of one byte is read
pub short_read : (byte : ℕ) (rest : List ℕ) → byte % 32 < 24 → head_at (byte ∷ rest) ≡ Ok ((byte / 32, Some (Immediate, byte % 32)), rest)
unfolding head_at
short_read byte rest short = rw (lt-ltb (byte % 32) 24 short) refl
