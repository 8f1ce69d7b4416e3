-- Bytes that complete what is open, and that a walk over them goes on.
use Rattle.std.proofs.Common.{◌≡◌, ◌≢◌, ℕ, zero, suc, ◌+◌, ◌-◌, ◌*◌, ◌≤◌, ◌<◌, Bool, true, false, cond, leb, ltb, eqb, max, take, drop, List, [], ◌∷◌, ◌++◌, length, Option, Some, None, Result, Ok, Err, refl, sym, ap, subst, ◌∙◌, append_assoc, arith, inl, inr, eq-eqb}
use Rattle.std.specs.Option.{is_some}
use Rattle.cbor_edn_model.specs.declared.text.keyword.NonFinite.{NonFinite}
use Rattle.std.specs.Prelude.{not, option_map, ◌||◌, ◌&&◌, nat_le, nat_lt}
use Rattle.std.proofs.lemmas.Bool.{lt-leb, le-leb, le-ltb, lt-ltb, leb-false}
use Rattle.std.proofs.lemmas.List.{take_at, drop_at, length-append, append-nil}
use Rattle.cbor_edn_parts.specs.declared.string.StringKind.{StringKind}
use Rattle.cbor_edn_parts.specs.declared.string.StringKind.TheVariants.{Bytes, Text}
use Rattle.cbor_edn_model.specs.declared.cbor.heads.Width.{Width}
use Rattle.cbor_edn_model.specs.declared.cbor.heads.Width.TheVariants.{Immediate, One, Two, Four, Eight}
use Rattle.cbor_edn_model.specs.cbor.Value.{Value, Chunk, unsigned, negative, string, chunks, array, cbor_map, tag, simple, float, Values, no_values, value, values_len, Pairs, no_pairs, pair, pairs_len, head, open_head, break, simple_width, float_bits, string_major, is_content, ArgumentFits, ChunkFits, ChunksFit, chunk_encoding, chunk_encodings, encoding, encodings, pair_encodings, Fits, ValuesFit, PairsFit, IsSimple, IsFloatWidth}
use Rattle.cbor_edn_model.specs.internal.CborReading.{Argument, head_at, simple_nesting}
use Rattle.cbor_edn_model.proofs.lemmas.cbor.Nestings.{value_nesting, values_nesting, pairs_nesting}
use Rattle.cbor_edn_model.proofs.lemmas.cbor.CborHeads.{head_again, open_again}
use Rattle.cbor_edn_model.proofs.lemmas.cbor.CborSpecials.{one_byte, two_bytes, simple_fits, float_fits, float_again}
use Rattle.cbor_edn_findings.specs.declared.bytes.Open.{Open}
use Rattle.cbor_edn_findings.specs.declared.bytes.Open.TheVariants.{Counted, Items, Chunks}
use Rattle.cbor_edn_findings.specs.declared.bytes.Open.TheVariants as frame
use Rattle.cbor_edn_findings.specs.internal.Steps.{Opened, Content, is_ended, closed, behind_item, ends_by_break, nests, is_simple, is_special, nothing_if, content_of, entered, item_begun, item_begun_by, gone_further, ended, broken, gone_closed, gone_behind, behind_content, step_behind, step_by, step}

-- ---- what completes

-- values that nest no deeper than there is room
pub record IsAll (room : ℕ) (bytes : List ℕ) : Type 0 where
  pub values : Values
  pub fits : ValuesFit values
  pub within : values_nesting values ≤ room
  pub parts : bytes ≡ encodings values

-- so many, and behind them bytes by which it goes on
pub record AreCounted (room n : ℕ) (On : List ℕ → Type 0) (bytes : List ℕ) : Type 0 where
  pub values : Values
  pub behind : List ℕ
  pub fits : ValuesFit values
  pub within : values_nesting values ≤ room
  pub count : values_len values ≡ n
  pub parts : bytes ≡ encodings values ++ behind
  pub on : On behind

-- values up to a break
pub record AreValues (room : ℕ) (On : List ℕ → Type 0) (bytes : List ℕ) : Type 0 where
  pub values : Values
  pub behind : List ℕ
  pub fits : ValuesFit values
  pub within : values_nesting values ≤ room
  pub parts : bytes ≡ encodings values ++ (break ∷ behind)
  pub on : On behind

pub record ArePairs (room : ℕ) (On : List ℕ → Type 0) (bytes : List ℕ) : Type 0 where
  pub pairs : Pairs
  pub behind : List ℕ
  pub fits : PairsFit pairs
  pub within : pairs_nesting pairs ≤ room
  pub parts : bytes ≡ pair_encodings pairs ++ (break ∷ behind)
  pub on : On behind

pub record IsOne (room : ℕ) (On : List ℕ → Type 0) (bytes : List ℕ) : Type 0 where
  pub one : Value
  pub behind : List ℕ
  pub fits : Fits one
  pub within : value_nesting one ≤ room
  pub parts : bytes ≡ encoding one ++ behind
  pub on : On behind

pub record AreChunks (k : StringKind) (On : List ℕ → Type 0) (bytes : List ℕ) : Type 0 where
  pub strings : List Chunk
  pub behind : List ℕ
  pub fits : ChunksFit k strings
  pub parts : bytes ≡ chunk_encodings k strings ++ (break ∷ behind)
  pub on : On behind

abbrev pub Completes : ℕ → Opened → List ℕ → Type 0
Completes limit [] = IsAll limit
Completes limit (Counted n ∷ s) = AreCounted (limit - suc (length s)) n (Completes limit s)
Completes limit (Items ∷ s) = AreValues (limit - suc (length s)) (Completes limit s)
Completes limit (frame.Pairs false ∷ s) = ArePairs (limit - suc (length s)) (Completes limit s)
Completes limit (frame.Pairs true ∷ s) = IsOne (limit - suc (length s)) (ArePairs (limit - suc (length s)) (Completes limit s))
Completes limit (Chunks k ∷ s) = AreChunks k (Completes limit s)

abbrev zeros : ℕ → Values
zeros zero = no_values
zeros (suc n) = value (unsigned Immediate 0) (zeros n)

zeros_fit : (n : ℕ) → ValuesFit (zeros n)
zeros_fit zero = tt
zeros_fit (suc n) = (omega arith, zeros_fit n)

zeros_len : (n : ℕ) → values_len (zeros n) ≡ n
zeros_len zero = refl
zeros_len (suc n) = omega (arith, zeros_len n)

zeros_nest : (n : ℕ) → values_nesting (zeros n) ≡ 0
zeros_nest zero = refl
zeros_nest (suc n) = omega (arith, zeros_nest n)

-- all that is open can be completed
pub can : (limit : ℕ) (s : Opened) → (r : List ℕ) × Completes limit s r
can limit [] = ([], record { values = no_values; fits = tt; within = omega arith; parts = refl })
can limit (Counted n ∷ s) =
    let k = can limit s in
    (encodings (zeros n) ++ k.0, record { values = zeros n; behind = k.0; fits = zeros_fit n; within = omega (arith, zeros_nest n); count = zeros_len n; parts = refl; on = k.1 })
can limit (Items ∷ s) =
    let k = can limit s in
    (break ∷ k.0, record { values = no_values; behind = k.0; fits = tt; within = omega arith; parts = refl; on = k.1 })
can limit (frame.Pairs false ∷ s) =
    let k = can limit s in
    (break ∷ k.0, record { pairs = no_pairs; behind = k.0; fits = tt; within = omega arith; parts = refl; on = k.1 })
can limit (frame.Pairs true ∷ s) =
    let k = can limit s in (
      encoding (unsigned Immediate 0) ++ (break ∷ k.0),
      record {
        one = unsigned Immediate 0;
        behind = break ∷ k.0;
        fits = omega arith;
        within = omega arith;
        parts = refl;
        on = record { pairs = no_pairs; behind = k.0; fits = tt; within = omega arith; parts = refl; on = k.1 };
      },
    )
can limit (Chunks c ∷ s) =
    let k = can limit s in
    (break ∷ k.0, record { strings = []; behind = k.0; fits = tt; parts = refl; on = k.1 })

-- ---- what has ended

pub close_on : (limit : ℕ) (s : Opened) (bytes : List ℕ) → Completes limit (closed s) bytes → Completes limit s bytes
close_on limit [] bytes h = h
close_on limit (Counted zero ∷ s) bytes h = record { values = no_values; behind = bytes; fits = tt; within = omega arith; count = refl; parts = refl; on = close_on limit s bytes h }
close_on limit (Counted (suc n) ∷ s) bytes h = h
close_on limit (Items ∷ s) bytes h = h
close_on limit (frame.Pairs b ∷ s) bytes h = h
close_on limit (Chunks k ∷ s) bytes h = h

none_of : (vs : Values) → values_len vs ≡ 0 → vs ≡ no_values
none_of no_values e = refl
none_of (value v vs) e = absurd (omega (arith, e))

pub close_off : (limit : ℕ) (s : Opened) (bytes : List ℕ) → Completes limit s bytes → Completes limit (closed s) bytes
close_off limit [] bytes h = h
close_off limit (Counted zero ∷ s) bytes h = close_off limit s bytes (subst (Completes limit s) (sym (h.parts ∙ ap (λ vs. encodings vs ++ h.behind) (none_of h.values h.count))) h.on)
close_off limit (Counted (suc n) ∷ s) bytes h = h
close_off limit (Items ∷ s) bytes h = h
close_off limit (frame.Pairs b ∷ s) bytes h = h
close_off limit (Chunks k ∷ s) bytes h = h

abbrev pub IsClosed : Opened → Type 0
IsClosed [] = Unit {0}
IsClosed (Counted zero ∷ s) = ⊥
IsClosed (Counted (suc n) ∷ s) = Unit {0}
IsClosed (Items ∷ s) = Unit {0}
IsClosed (frame.Pairs b ∷ s) = Unit {0}
IsClosed (Chunks k ∷ s) = Unit {0}

pub closed_is : (s : Opened) → IsClosed (closed s)
closed_is [] = tt
closed_is (Counted zero ∷ s) = closed_is s
closed_is (Counted (suc n) ∷ s) = tt
closed_is (Items ∷ s) = tt
closed_is (frame.Pairs b ∷ s) = tt
closed_is (Chunks k ∷ s) = tt

-- ---- an item

-- an item may stand next
abbrev pub TakesItems : Opened → Type 0
TakesItems [] = Unit {0}
TakesItems (Counted zero ∷ s) = ⊥
TakesItems (Counted (suc n) ∷ s) = Unit {0}
TakesItems (Items ∷ s) = Unit {0}
TakesItems (frame.Pairs b ∷ s) = Unit {0}
TakesItems (Chunks k ∷ s) = ⊥

abbrev pub begun : Opened → Opened
begun [] = []
begun (o ∷ s) = behind_item o ∷ s

pub length-begun : (s : Opened) → length (begun s) ≡ length s
length-begun [] = refl
length-begun (o ∷ s) = refl

three : (a b c d : List ℕ) → a ++ (b ++ (c ++ d)) ≡ (a ++ b ++ c) ++ d
three a b c d = simp append_assoc refl

-- an item in front of what completes that which is open behind it
pub one_next : (limit : ℕ) (s : Opened) (bytes : List ℕ) → TakesItems s → IsOne (limit - length s) (Completes limit (begun s)) bytes → Completes limit s bytes
one_next limit [] bytes t h = record {
  values = value h.one h.on.values;
  fits = (h.fits, h.on.fits);
  within = omega (arith, h.within, h.on.within);
  parts = h.parts ∙ ap (λ (l : List ℕ). encoding h.one ++ l) h.on.parts;
}
one_next limit (Counted zero ∷ s) bytes t h = absurd t
one_next limit (Counted (suc n) ∷ s) bytes t h =
    let count : values_len h.on.values ≡ suc n - 1 = h.on.count in
    record {
      values = value h.one h.on.values;
      behind = h.on.behind;
      fits = (h.fits, h.on.fits);
      within = omega (arith, h.within, h.on.within);
      count = omega (arith, count);
      parts = h.parts ∙ (ap (λ (l : List ℕ). encoding h.one ++ l) h.on.parts ∙ sym (append_assoc (encoding h.one) (encodings h.on.values) h.on.behind));
      on = h.on.on;
    }
one_next limit (Items ∷ s) bytes t h = record {
  values = value h.one h.on.values;
  behind = h.on.behind;
  fits = (h.fits, h.on.fits);
  within = omega (arith, h.within, h.on.within);
  parts = h.parts ∙ (ap (λ (l : List ℕ). encoding h.one ++ l) h.on.parts ∙ sym (append_assoc (encoding h.one) (encodings h.on.values) (break ∷ h.on.behind)));
  on = h.on.on;
}
one_next limit (frame.Pairs false ∷ s) bytes t h = record {
  pairs = pair h.one h.on.one h.on.on.pairs;
  behind = h.on.on.behind;
  fits = (h.fits, h.on.fits, h.on.on.fits);
  within = omega (arith, h.within, h.on.within, h.on.on.within);
  parts = h.parts ∙ (ap (λ (l : List ℕ). encoding h.one ++ l) (h.on.parts ∙ ap (λ (l : List ℕ). encoding h.on.one ++ l) h.on.on.parts) ∙ three (encoding h.one) (encoding h.on.one) (pair_encodings h.on.on.pairs) (break ∷ h.on.on.behind));
  on = h.on.on.on;
}
one_next limit (frame.Pairs true ∷ s) bytes t h = h
one_next limit (Chunks k ∷ s) bytes t h = absurd t

-- ---- pairs as items

abbrev pub flat : Pairs → Values
flat no_pairs = no_values
flat (pair k v ps) = value k (value v (flat ps))

pub encodings-flat : (ps : Pairs) → encodings (flat ps) ≡ pair_encodings ps
encodings-flat no_pairs = refl
encodings-flat (pair k v ps) = ap (λ (l : List ℕ). encoding k ++ (encoding v ++ l)) (encodings-flat ps) ∙ sym (append_assoc (encoding k) (encoding v) (pair_encodings ps))

pub values_len-flat : (ps : Pairs) → values_len (flat ps) ≡ 2 * pairs_len ps
values_len-flat no_pairs = refl
values_len-flat (pair k v ps) = omega (arith, values_len-flat ps)

pub values_nesting-flat : (ps : Pairs) → values_nesting (flat ps) ≡ pairs_nesting ps
values_nesting-flat no_pairs = refl
values_nesting-flat (pair k v ps) = omega (arith, values_nesting-flat ps)

pub flat_fits : (ps : Pairs) → PairsFit ps → ValuesFit (flat ps)
flat_fits no_pairs fits = tt
flat_fits (pair k v ps) fits = (fits.0, (fits.1, flat_fits ps fits.2))

pub pairs_fit : (ps : Pairs) → ValuesFit (flat ps) → PairsFit ps
pairs_fit no_pairs fits = tt
pairs_fit (pair k v ps) fits = (fits.0, fits.1.0, pairs_fit ps fits.1.1)

pub paired : (n : ℕ) (vs : Values) → values_len vs ≡ 2 * n → (ps : Pairs) × (flat ps ≡ vs)
paired zero no_values e = (no_pairs, refl)
paired zero (value v vs) e = absurd (omega (arith, e))
paired (suc n) no_values e = absurd (omega (arith, e))
paired (suc n) (value v no_values) e = absurd (omega (arith, e))
paired (suc n) (value k (value v vs)) e =
    let h = paired n vs (omega (arith, e)) in
    (pair k v h.0, ap (λ ws. value k (value v ws)) h.1)

-- ---- the walk goes on

-- bytes begin with a head with which it goes on
pub record Goes (limit : ℕ) (s : Opened) (bytes : List ℕ) : Type 0 where
  pub major : ℕ
  pub argument : Argument
  pub rest : List ℕ
  pub state : Opened
  pub content : Content
  pub behind : List ℕ
  pub read : head_at bytes ≡ Ok ((major, argument), rest)
  pub gone : gone_closed limit s major argument ≡ Some (state, content)
  pub left : behind_content content rest ≡ Some behind
  pub on : Completes limit state behind

pub goes_step : (limit : ℕ) (s : Opened) (bytes : List ℕ) (h : Goes limit (closed s) bytes) → step limit s bytes ≡ Some (h.state, h.behind)
goes_step limit s bytes h =
    ap (step_by limit s) h.read ∙ (ap (step_behind h.rest) h.gone ∙ ap (λ (o : Option (List ℕ)). option_map (λ (r : List ℕ). (h.state, r)) o) h.left)

pub further : (limit : ℕ) (s : Opened) → TakesItems s → (major : ℕ) (argument : Argument) → gone_further limit s major argument ≡ item_begun limit (begun s) major argument
further limit [] t major argument = refl
further limit (Counted zero ∷ s) t major argument = absurd t
further limit (Counted (suc n) ∷ s) t major argument = refl
further limit (Items ∷ s) t major argument = refl
further limit (frame.Pairs b ∷ s) t major argument = refl
further limit (Chunks k ∷ s) t major argument = absurd t

pub content_left : (k : StringKind) (bs t : List ℕ) → is_content k bs ≡ true → behind_content (Some (k, length bs)) (bs ++ t) ≡ Some t
content_left k bs t content =
    let long : ltb (length (bs ++ t)) (length bs) ≡ false = le-ltb _ _ (omega (arith, length-append bs t)) in
    rw (long, take_at bs t (length bs) refl, drop_at bs t (length bs) refl, content) refl

by_room : (b : Bool) (room : ℕ) → cond b 0 1 ≤ room → (b || nat_lt 0 room) ≡ true
by_room true room le = refl
by_room false room le = lt-ltb 0 room (omega (arith, le))

simple_read : (room n : ℕ) → IsSimple n → simple_nesting n ≤ room → is_special room (simple_width n) n ≡ true
simple_read room n (inl lt) le = subst (λ w. is_special room w n ≡ true) (sym (one_byte n lt)) (by_room (leb 20 n && ltb n 24) room le)
simple_read room n (inr h) le =
    subst (λ w. is_special room w n ≡ true) (sym (two_bytes n (omega (arith, h.0)))) (ap (λ b. b && is_simple room n) (le-leb 32 n h.0) ∙ by_room (leb 20 n && ltb n 24) room le)

float_read : (room : ℕ) (w : Width) (f : NonFinite) → IsFloatWidth w → is_special room w (float_bits w f) ≡ true
float_read room Immediate f is = absurd is
float_read room One f is = absurd is
float_read room Two f is = ap (λ o. is_some o) (float_again Two f is)
float_read room Four f is = ap (λ o. is_some o) (float_again Four f is)
float_read room Eight f is = ap (λ o. is_some o) (float_again Eight f is)

module _ (limit : ℕ) (s : Opened) (t : TakesItems s) where
  is_shallow : length s < limit → leb limit (length (begun s)) ≡ false
  is_shallow lt = lt-leb limit (length (begun s)) (omega (arith, length-begun s))

  read_on : (major : ℕ) (w : Width) (n : ℕ) (content rest : List ℕ) → ArgumentFits w n → head_at ((head major w n ++ content) ++ rest) ≡ Ok ((major, Some (w, n)), content ++ rest)
  read_on major w n content rest fits = ap head_at (append_assoc (head major w n) content rest) ∙ head_again major w n (content ++ rest) fits

  value_goes : (v : Value) (rest : List ℕ) → Fits v → value_nesting v ≤ limit - length s → Completes limit (begun s) rest → Goes limit s (encoding v ++ rest)
  value_goes (unsigned w n) rest fits within on = record {
    major = 0;
    argument = Some (w, n);
    rest = rest;
    state = begun s;
    content = None;
    behind = rest;
    read = head_again 0 w n rest fits;
    gone = further limit s t 0 (Some (w, n));
    left = refl;
    on = on;
  }
  value_goes (negative w n) rest fits within on = record {
    major = 1;
    argument = Some (w, n);
    rest = rest;
    state = begun s;
    content = None;
    behind = rest;
    read = head_again 1 w n rest fits;
    gone = further limit s t 1 (Some (w, n));
    left = refl;
    on = on;
  }
  value_goes (string Bytes w bs) rest fits within on = record {
    major = 2;
    argument = Some (w, length bs);
    rest = bs ++ rest;
    state = begun s;
    content = Some (Bytes, length bs);
    behind = rest;
    read = read_on 2 w (length bs) bs rest fits.0;
    gone = further limit s t 2 (Some (w, length bs));
    left = content_left Bytes bs rest fits.2;
    on = on;
  }
  value_goes (string Text w bs) rest fits within on = record {
    major = 3;
    argument = Some (w, length bs);
    rest = bs ++ rest;
    state = begun s;
    content = Some (Text, length bs);
    behind = rest;
    read = read_on 3 w (length bs) bs rest fits.0;
    gone = further limit s t 3 (Some (w, length bs));
    left = content_left Text bs rest fits.2;
    on = on;
  }
  value_goes (chunks Bytes cs) rest fits within on = record {
    major = 2;
    argument = None;
    rest = (chunk_encodings Bytes cs ++ break ∷ []) ++ rest;
    state = Chunks Bytes ∷ begun s;
    content = None;
    behind = (chunk_encodings Bytes cs ++ break ∷ []) ++ rest;
    read = open_again 2 _;
    gone = further limit s t 2 None;
    left = refl;
    on = record { strings = cs; behind = rest; fits = fits; parts = append_assoc (chunk_encodings Bytes cs) (break ∷ []) rest; on = on };
  }
  value_goes (chunks Text cs) rest fits within on = record {
    major = 3;
    argument = None;
    rest = (chunk_encodings Text cs ++ break ∷ []) ++ rest;
    state = Chunks Text ∷ begun s;
    content = None;
    behind = (chunk_encodings Text cs ++ break ∷ []) ++ rest;
    read = open_again 3 _;
    gone = further limit s t 3 None;
    left = refl;
    on = record { strings = cs; behind = rest; fits = fits; parts = append_assoc (chunk_encodings Text cs) (break ∷ []) rest; on = on };
  }
  value_goes (array (Some w) vs) rest fits within on = record {
    major = 4;
    argument = Some (w, values_len vs);
    rest = encodings vs ++ rest;
    state = Counted (values_len vs) ∷ begun s;
    content = None;
    behind = encodings vs ++ rest;
    read = read_on 4 w (values_len vs) (encodings vs) rest fits.0;
    gone = further limit s t 4 (Some (w, values_len vs)) ∙ ap (λ b. entered b (Counted (values_len vs)) (begun s)) (is_shallow (omega (arith, within)));
    left = refl;
    on = record { values = vs; behind = rest; fits = fits.1; within = omega (arith, within, length-begun s); count = refl; parts = refl; on = on };
  }
  value_goes (array None vs) rest fits within on = record {
    major = 4;
    argument = None;
    rest = (encodings vs ++ break ∷ []) ++ rest;
    state = Items ∷ begun s;
    content = None;
    behind = (encodings vs ++ break ∷ []) ++ rest;
    read = open_again 4 _;
    gone = further limit s t 4 None ∙ ap (λ b. entered b Items (begun s)) (is_shallow (omega (arith, within)));
    left = refl;
    on = record { values = vs; behind = rest; fits = fits.1; within = omega (arith, within, length-begun s); parts = append_assoc (encodings vs) (break ∷ []) rest; on = on };
  }
  value_goes (cbor_map (Some w) ps) rest fits within on = record {
    major = 5;
    argument = Some (w, pairs_len ps);
    rest = pair_encodings ps ++ rest;
    state = Counted (2 * pairs_len ps) ∷ begun s;
    content = None;
    behind = pair_encodings ps ++ rest;
    read = read_on 5 w (pairs_len ps) (pair_encodings ps) rest fits.0;
    gone = further limit s t 5 (Some (w, pairs_len ps)) ∙ ap (λ b. entered b (Counted (2 * pairs_len ps)) (begun s)) (is_shallow (omega (arith, within)));
    left = refl;
    on = record {
      values = flat ps;
      behind = rest;
      fits = flat_fits ps fits.1;
      within = omega (arith, within, length-begun s, values_nesting-flat ps);
      count = values_len-flat ps;
      parts = ap (λ (l : List ℕ). l ++ rest) (sym (encodings-flat ps));
      on = on;
    };
  }
  value_goes (cbor_map None ps) rest fits within on = record {
    major = 5;
    argument = None;
    rest = (pair_encodings ps ++ break ∷ []) ++ rest;
    state = frame.Pairs false ∷ begun s;
    content = None;
    behind = (pair_encodings ps ++ break ∷ []) ++ rest;
    read = open_again 5 _;
    gone = further limit s t 5 None ∙ ap (λ b. entered b (frame.Pairs false) (begun s)) (is_shallow (omega (arith, within)));
    left = refl;
    on = record { pairs = ps; behind = rest; fits = fits.1; within = omega (arith, within, length-begun s); parts = append_assoc (pair_encodings ps) (break ∷ []) rest; on = on };
  }
  value_goes (tag w n v) rest fits within on = record {
    major = 6;
    argument = Some (w, n);
    rest = encoding v ++ rest;
    state = Counted 1 ∷ begun s;
    content = None;
    behind = encoding v ++ rest;
    read = read_on 6 w n (encoding v) rest fits.0;
    gone = further limit s t 6 (Some (w, n)) ∙ ap (λ b. entered b (Counted 1) (begun s)) (is_shallow (omega (arith, within)));
    left = refl;
    on = record {
      values = value v no_values;
      behind = rest;
      fits = (fits.1, tt);
      within = omega (arith, within, length-begun s);
      count = refl;
      parts = ap (λ (l : List ℕ). l ++ rest) (sym (append-nil (encoding v)));
      on = on;
    };
  }
  value_goes (simple n) rest fits within on = record {
    major = 7;
    argument = Some (simple_width n, n);
    rest = rest;
    state = begun s;
    content = None;
    behind = rest;
    read = head_again 7 (simple_width n) n rest (simple_fits n fits);
    gone = further limit s t 7 (Some (simple_width n, n)) ∙ ap (λ b. option_map (λ (c : Content). (begun s, c)) (nothing_if b)) (simple_read (limit - length (begun s)) n fits (omega (arith, within, length-begun s)));
    left = refl;
    on = on;
  }
  value_goes (float w f) rest fits within on = record {
    major = 7;
    argument = Some (w, float_bits w f);
    rest = rest;
    state = begun s;
    content = None;
    behind = rest;
    read = head_again 7 w (float_bits w f) rest (float_fits w f fits);
    gone = further limit s t 7 (Some (w, float_bits w f)) ∙ ap (λ b. option_map (λ (c : Content). (begun s, c)) (nothing_if b)) (float_read (limit - length (begun s)) w f fits);
    left = refl;
    on = on;
  }

  one_goes : (bytes : List ℕ) → IsOne (limit - length s) (Completes limit (begun s)) bytes → Goes limit s bytes
  one_goes bytes h = subst (Goes limit s) (sym h.parts) (value_goes h.one h.behind h.fits h.within h.on)

broken_goes : (limit : ℕ) (o : Open) (s : Opened) (rest : List ℕ) → ends_by_break (Some o) ≡ true → Completes limit s rest → Goes limit (o ∷ s) (break ∷ rest)
broken_goes limit o s rest ends on = record {
  major = 7;
  argument = None;
  rest = rest;
  state = s;
  content = None;
  behind = rest;
  read = open_again 7 rest;
  gone = ap (λ b. ended b s) ends;
  left = refl;
  on = on;
}

all_go : (limit : ℕ) (bytes : List ℕ) (vs : Values) → bytes ≢ [] → ValuesFit vs → values_nesting vs ≤ limit → bytes ≡ encodings vs → Goes limit [] bytes
all_go limit bytes no_values some fits within parts = absurd (some parts)
all_go limit bytes (value v vs) some fits within parts = one_goes limit [] tt bytes (record {
  one = v;
  behind = encodings vs;
  fits = fits.0;
  within = omega (arith, within);
  parts = parts;
  on = record { values = vs; fits = fits.1; within = omega (arith, within); parts = refl };
})

counted_go : (limit n : ℕ) (s : Opened) (bytes : List ℕ) (vs : Values) (h : AreCounted (limit - suc (length s)) (suc n) (Completes limit s) bytes) → h.values ≡ vs → Goes limit (Counted (suc n) ∷ s) bytes
counted_go limit n s bytes no_values h is = absurd (let wrong : values_len h.values ≡ 0 = ap values_len is in omega (arith, wrong, h.count))
counted_go limit n s bytes (value v vs) h is =
    let fits : ValuesFit (value v vs) = subst ValuesFit is h.fits in
    let within : values_nesting (value v vs) ≤ limit - suc (length s) = subst (λ ws. values_nesting ws ≤ limit - suc (length s)) is h.within in
    let count : values_len (value v vs) ≡ suc n = ap values_len (sym is) ∙ h.count in
    one_goes limit (Counted (suc n) ∷ s) tt bytes (record {
      one = v;
      behind = encodings vs ++ h.behind;
      fits = fits.0;
      within = omega (arith, within);
      parts = h.parts ∙ (ap (λ ws. encodings ws ++ h.behind) is ∙ append_assoc (encoding v) (encodings vs) h.behind);
      on = record { values = vs; behind = h.behind; fits = fits.1; within = omega (arith, within); count = omega (arith, count); parts = refl; on = h.on };
    })

values_go : (limit : ℕ) (s : Opened) (bytes : List ℕ) (vs : Values) (h : AreValues (limit - suc (length s)) (Completes limit s) bytes) → h.values ≡ vs → Goes limit (Items ∷ s) bytes
values_go limit s bytes no_values h is = subst (Goes limit (Items ∷ s)) (sym (h.parts ∙ ap (λ ws. encodings ws ++ (break ∷ h.behind)) is)) (broken_goes limit Items s h.behind refl h.on)
values_go limit s bytes (value v vs) h is =
    let fits : ValuesFit (value v vs) = subst ValuesFit is h.fits in
    let within : values_nesting (value v vs) ≤ limit - suc (length s) = subst (λ ws. values_nesting ws ≤ limit - suc (length s)) is h.within in
    one_goes limit (Items ∷ s) tt bytes (record {
      one = v;
      behind = encodings vs ++ (break ∷ h.behind);
      fits = fits.0;
      within = omega (arith, within);
      parts = h.parts ∙ (ap (λ ws. encodings ws ++ (break ∷ h.behind)) is ∙ append_assoc (encoding v) (encodings vs) (break ∷ h.behind));
      on = record { values = vs; behind = h.behind; fits = fits.1; within = omega (arith, within); parts = refl; on = h.on };
    })

pairs_go : (limit : ℕ) (s : Opened) (bytes : List ℕ) (ps : Pairs) (h : ArePairs (limit - suc (length s)) (Completes limit s) bytes) → h.pairs ≡ ps → Goes limit (frame.Pairs false ∷ s) bytes
pairs_go limit s bytes no_pairs h is = subst (Goes limit (frame.Pairs false ∷ s)) (sym (h.parts ∙ ap (λ qs. pair_encodings qs ++ (break ∷ h.behind)) is)) (broken_goes limit (frame.Pairs false) s h.behind refl h.on)
pairs_go limit s bytes (pair k v ps) h is =
    let fits : PairsFit (pair k v ps) = subst PairsFit is h.fits in
    let within : pairs_nesting (pair k v ps) ≤ limit - suc (length s) = subst (λ qs. pairs_nesting qs ≤ limit - suc (length s)) is h.within in
    one_goes limit (frame.Pairs false ∷ s) tt bytes (record {
      one = k;
      behind = encoding v ++ (pair_encodings ps ++ (break ∷ h.behind));
      fits = fits.0;
      within = omega (arith, within);
      parts = h.parts ∙ (ap (λ qs. pair_encodings qs ++ (break ∷ h.behind)) is ∙ sym (three (encoding k) (encoding v) (pair_encodings ps) (break ∷ h.behind)));
      on = record {
        one = v;
        behind = pair_encodings ps ++ (break ∷ h.behind);
        fits = fits.1;
        within = omega (arith, within);
        parts = refl;
        on = record { pairs = ps; behind = h.behind; fits = fits.2; within = omega (arith, within); parts = refl; on = h.on };
      };
    })

chunks_go : (limit : ℕ) (k : StringKind) (s : Opened) (bytes : List ℕ) (cs : List Chunk) (h : AreChunks k (Completes limit s) bytes) → h.strings ≡ cs → Goes limit (Chunks k ∷ s) bytes
chunks_go limit k s bytes [] h is = subst (Goes limit (Chunks k ∷ s)) (sym (h.parts ∙ ap (λ ds. chunk_encodings k ds ++ (break ∷ h.behind)) is)) (broken_goes limit (Chunks k) s h.behind refl h.on)
chunks_go limit k s bytes (c ∷ cs) h is =
    let fits : ChunksFit k (c ∷ cs) = subst (ChunksFit k) is h.fits in
    let rest : List ℕ = chunk_encodings k cs ++ (break ∷ h.behind) in
    let parts : bytes ≡ head (string_major k) c.0 (length c.1) ++ (c.1 ++ rest) =
    h.parts ∙ (ap (λ ds. chunk_encodings k ds ++ (break ∷ h.behind)) is ∙ sym (three (head (string_major k) c.0 (length c.1)) c.1 (chunk_encodings k cs) (break ∷ h.behind))) in
    subst (Goes limit (Chunks k ∷ s)) (sym parts) (record {
      major = string_major k;
      argument = Some (c.0, length c.1);
      rest = c.1 ++ rest;
      state = Chunks k ∷ s;
      content = Some (k, length c.1);
      behind = rest;
      read = head_again (string_major k) c.0 (length c.1) (c.1 ++ rest) fits.0.0;
      gone = ap (λ b. option_map (λ (x : Content). (Chunks k ∷ s, x)) (cond b (Some (Some (k, length c.1))) None)) (eq-eqb (string_major k) (string_major k) refl);
      left = content_left k c.1 rest fits.0.2;
      on = record { strings = cs; behind = h.behind; fits = fits.1; parts = refl; on = h.on };
    })

-- where bytes complete what is open, and there are some, it goes on
pub goes : (limit : ℕ) (s : Opened) (bytes : List ℕ) → IsClosed s → bytes ≢ [] → Completes limit s bytes → Goes limit s bytes
goes limit [] bytes c some h = all_go limit bytes h.values some h.fits h.within h.parts
goes limit (Counted zero ∷ s) bytes c some h = absurd c
goes limit (Counted (suc n) ∷ s) bytes c some h = counted_go limit n s bytes h.values h refl
goes limit (Items ∷ s) bytes c some h = values_go limit s bytes h.values h refl
goes limit (frame.Pairs false ∷ s) bytes c some h = pairs_go limit s bytes h.pairs h refl
goes limit (frame.Pairs true ∷ s) bytes c some h = one_goes limit (frame.Pairs true ∷ s) tt bytes h
goes limit (Chunks k ∷ s) bytes c some h = chunks_go limit k s bytes h.strings h refl
