-- A number, a keyword or a string without its indicator means what it meant with it, but for its head, which is the shortest.
use Rattle.std.proofs.Common.{◌≡◌, ℕ, ℤ, pos, negsuc, ◌+◌, ◌^◌, ◌<◌, ◌≤◌, List, [], ◌∷◌, length, Bool, true, false, ◌&&◌, cond, ltb, Option, Some, None, refl, ap, ◌∙◌, arith}
use Rattle.std.specs.Str.{is_utf8}
use Rattle.std.proofs.lemmas.Str.{is_utf8-from_IsUtf8, IsUtf8-nil}
use Rattle.std.proofs.lemmas.Bool.{lt-ltb}
use Rattle.cbor_edn_parts.specs.internal.NumberReading.{integer_of}
use Rattle.cbor_edn_parts.specs.declared.base.indicator.Indicator.{Indicator}
use Rattle.cbor_edn_parts.specs.declared.base.indicator.Indicator.TheVariants as indicator
use Rattle.cbor_edn_parts.specs.declared.string.StringKind.{StringKind}
use Rattle.cbor_edn_parts.specs.declared.string.StringKind.TheVariants.{Bytes, Text}
use Rattle.cbor_edn_parts.specs.string.Contents.{Content}
use Rattle.cbor_edn_model.specs.declared.cbor.heads.Width.{Width}
use Rattle.cbor_edn_model.specs.declared.cbor.heads.Width.TheVariants.{Immediate, One, Two, Four, Eight}
use Rattle.cbor_edn_model.specs.declared.text.keyword.NonFinite.{NonFinite}
use Rattle.cbor_edn_model.specs.tree.Items.{Number}
use Rattle.cbor_edn_model.specs.cbor.Value as values
use Rattle.cbor_edn_model.specs.cbor.Value.{Value, unsigned, negative, string, chunks, simple, float, limit_of, is_content, head}
use Rattle.cbor_edn_model.specs.cbor.Meaning.{◌>>=◌, shortest, width_of, length_of, magnitude_bytes, tagged_bytes, no_indicator, bignum, means_integer, float_width, means_float, is_simple, is_shortest, simple_number, simple_of, means_simple, chunk_of, string_of}
use Rattle.cbor_edn_model.specs.layout.Plain.{plain, IsShort}
use Rattle.cbor_edn_model.specs.layout.Plain as plains
use Rattle.cbor_edn_model.proofs.lemmas.cbor.MeaningSteps.{bind, both_steps, some_is}
use Rattle.cbor_edn_model.proofs.lemmas.cbor.Meanings.{shortest_fits, width_fits, if_content, given_chunk, string_value}

-- ---- widths

limit_below : (w : Width) → limit_of w ≤ 2 ^ 64
limit_below Immediate = omega arith
limit_below One = omega arith
limit_below Two = omega arith
limit_below Four = omega arith
limit_below Eight = omega arith

pub width_below : (i : Option Indicator) (w : Width) (n : ℕ) → width_of i n ≡ Some w → n < 2 ^ 64
width_below i w n e = let f = width_fits i w n e in let l = limit_below w in omega (arith, f, l)

-- without an indicator
pub width_none : (n : ℕ) → n < 2 ^ 64 → width_of None n ≡ Some (shortest n)
width_none n lt = let is : ltb n (limit_of (shortest n)) ≡ true = lt-ltb n (limit_of (shortest n)) (shortest_fits n lt) in ap (λ b. cond b (Some (shortest n)) None) is

pub length_none : (n : ℕ) → n < 2 ^ 64 → length_of None n ≡ Some (Some (shortest n))
length_none n lt = ap (λ o. bind o (λ w. Some (Some w))) (width_none n lt)

-- The same value but for its heads, which are the shortest.
abbrev pub BareValue : Option Value → Value → Type 0
BareValue o v = (w : Value) × (o ≡ Some w) × (plain w ≡ plain v) × IsShort w

abbrev pub BareChunk : Option (StringKind × values.Chunk) → StringKind × values.Chunk → Type 0
BareChunk o p = (q : StringKind × values.Chunk) × (o ≡ Some q) × (q.0 ≡ p.0) × (q.1.1 ≡ p.1.1) × (q.1.0 ≡ shortest (length q.1.1))

-- ---- numbers

number_bare : (b : Bool) (make : Width → Value) (i : Option Indicator) (n : ℕ) (big other : Option Value) (v : Value) → ((w : Width) → plain (make (shortest n)) ≡ plain (make w)) → IsShort (make (shortest n)) → (big ≡ Some v → BareValue other v)
    → cond b (width_of i n >>= λ w. Some (make w)) big ≡ Some v → BareValue (cond b (width_of None n >>= λ w. Some (make w)) other) v
number_bare true make i n big other v same short large e =
    let s = both_steps (width_of i n) (λ w. Some (make w)) v e in
    (make (shortest n), ap (λ o. bind o (λ w. Some (make w))) (width_none n (width_below i s.0 n s.1)), same s.0 ∙ ap plain (some_is (make s.0) v s.2), short)
number_bare false make i n big other v same short large e = large e

no_indicator_bare : (b : Bool) (i : Option Indicator) (u v : Value) → IsShort u → cond b (no_indicator i u) None ≡ Some v → BareValue (cond b (no_indicator None u) None) v
no_indicator_bare true None u v short e = (u, refl, ap plain (some_is u v e), short)
no_indicator_bare true (Some i) u v short e = absurd cc
no_indicator_bare false i u v short e = absurd cc

pub integer_bare : (i : Option Indicator) (z : ℤ) (v : Value) → means_integer i z ≡ Some v → BareValue (means_integer None z) v
integer_bare i (pos n) v e = number_bare (ltb n (2 ^ 64)) (λ w. unsigned w n) i n (bignum 2 n n i) (bignum 2 n n None) v (λ w. refl) refl (no_indicator_bare (ltb n (2 ^ 128)) i (tagged_bytes 2 (magnitude_bytes n)) v (refl, refl)) e
integer_bare i (negsuc n) v e = number_bare (ltb n (2 ^ 64)) (λ w. negative w n) i n (bignum 3 n (n + 1) i) (bignum 3 n (n + 1) None) v (λ w. refl) refl (no_indicator_bare (ltb (n + 1) (2 ^ 128)) i (tagged_bytes 3 (magnitude_bytes n)) v (refl, refl)) e

pub float_bare : (i : Option Indicator) (f : NonFinite) (v : Value) → means_float i f ≡ Some v → BareValue (means_float None f) v
float_bare i f v e = let s = both_steps (float_width i) (λ w. Some (float w f)) v e in (float Two f, refl, ap plain (some_is (float s.0 f) v s.2), refl)

bare_simple_number : (b c : Bool) (n m : ℕ) → cond (b && c) (Some n) None ≡ Some m → cond (b && true) (Some n) None ≡ Some m
bare_simple_number true true n m e = e
bare_simple_number true false n m e = absurd cc
bare_simple_number false c n m e = absurd cc

simple_bare : (i : Option Indicator) (z : ℤ) (n : ℕ) → simple_number i z ≡ Some n → simple_number None z ≡ Some n
simple_bare i (pos m) n e = bare_simple_number (is_simple m) (is_shortest i m) m n e
simple_bare i (negsuc m) n e = absurd cc

pub simple_value_bare : (x : List ℕ) (i : Option Indicator) (v : Value) → means_simple (Number x i) ≡ Some v → BareValue (means_simple (Number x None)) v
simple_value_bare x i v e =
    let a = both_steps (simple_of x i) (λ n. Some (simple n)) v e in
    let b = both_steps (integer_of x) (simple_number i) a.0 a.1 in (
      simple a.0,
      ap (λ o. bind (bind o (simple_number None)) (λ n. Some (simple n))) b.1 ∙ ap (λ o. bind o (λ n. Some (simple n))) (simple_bare i b.0 a.0 b.2),
      ap plain (some_is (simple a.0) v a.2),
      tt,
    )

-- ---- strings

pub chunk_bare : (k : StringKind) (bs : List ℕ) (i : Option Indicator) (p : StringKind × values.Chunk) → chunk_of (k, bs) i ≡ Some p → BareChunk (chunk_of (k, bs) None) p
chunk_bare k bs i p e =
    let a = if_content (is_content k bs) (width_of i (length bs) >>= given_chunk k bs) p e in
    let b = both_steps (width_of i (length bs)) (given_chunk k bs) p a.1 in
    let q : StringKind × values.Chunk = (k, (shortest (length bs), bs)) in (
      q,
      ap (λ b. cond b (bind (width_of None (length bs)) (given_chunk k bs)) None) a.0 ∙ ap (λ o. bind o (given_chunk k bs)) (width_none (length bs) (width_below i b.0 (length bs) b.1)),
      ap (λ (p : StringKind × values.Chunk). p.0) (some_is (k, (b.0, bs)) p b.2),
      ap (λ (p : StringKind × values.Chunk). p.1.1) (some_is (k, (b.0, bs)) p b.2),
      refl,
    )

string_none : (k : StringKind) (bs : List ℕ) → string_of (k, bs) None ≡ bind (chunk_of (k, bs) None) string_value
string_none k [] = refl
string_none k (b ∷ bs) = refl

definite_bare : (k : StringKind) (bs : List ℕ) (i : Option Indicator) (v : Value) → bind (chunk_of (k, bs) i) string_value ≡ Some v → BareValue (string_of (k, bs) None) v
definite_bare k bs i v e =
    let a = both_steps (chunk_of (k, bs) i) string_value v e in
    let c : BareChunk (chunk_of (k, bs) None) a.0 = chunk_bare k bs i a.0 a.1 in (
      string c.0.0 c.0.1.0 c.0.1.1,
      string_none k bs ∙ ap (λ o. bind o string_value) c.1,
      ap (λ k. plains.string k c.0.1.1) c.2 ∙ (ap (plains.string a.0.0) c.3 ∙ ap plain (some_is (string a.0.0 a.0.1.0 a.0.1.1) v a.2)),
      c.4,
    )

utf8_empty : is_utf8 [] ≡ true
utf8_empty = is_utf8-from_IsUtf8 [] IsUtf8-nil

empty_bare : (k : StringKind) (v : Value) → chunks k [] ≡ v → BareValue (string_of (k, []) None) v
empty_bare Bytes v e = (string Bytes Immediate [], refl, ap plain e, refl)
empty_bare Text v e = (string Text Immediate [], ap (λ b. bind (cond b (given_chunk Text [] Immediate) None) string_value) utf8_empty, ap plain e, refl)

pub string_bare : (c : Content) (i : Option Indicator) (v : Value) → string_of c i ≡ Some v → BareValue (string_of c None) v
string_bare (k, []) (Some indicator.Indefinite) v e = empty_bare k v (some_is (chunks k []) v e)
string_bare (k, []) None v e = definite_bare k [] None v e
string_bare (k, []) (Some indicator.Immediate) v e = definite_bare k [] (Some indicator.Immediate) v e
string_bare (k, []) (Some indicator.One) v e = definite_bare k [] (Some indicator.One) v e
string_bare (k, []) (Some indicator.Two) v e = definite_bare k [] (Some indicator.Two) v e
string_bare (k, []) (Some indicator.Four) v e = definite_bare k [] (Some indicator.Four) v e
string_bare (k, []) (Some indicator.Eight) v e = definite_bare k [] (Some indicator.Eight) v e
string_bare (k, b ∷ bs) i v e = definite_bare k (b ∷ bs) i v e
