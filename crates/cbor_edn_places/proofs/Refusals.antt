-- What a reader of bytes gives where more bytes follow.
use Rattle.std.proofs.Common.{◌≡◌, ◌≢◌, ℕ, zero, suc, ◌/◌, ◌%◌, ◌≤◌, ◌<◌, ◌⊎◌, Bool, true, false, cond, ltb, eqb, take, drop, List, [], ◌∷◌, ◌++◌, length, Option, Some, None, Result, Ok, Err, refl, sym, ap, subst, ◌∙◌, arith, inl, inr}
use Rattle.std.specs.Int.{w8, w16, w32, w64, byte_len, from_be_bytes}
use Rattle.std.specs.Int.{Width as Bits}
use Rattle.std.proofs.lemmas.Bool.{cases_lt, lt-ltb, le-ltb}
use Rattle.std.proofs.lemmas.List.{take-append-le, drop-append-le, length-append}
use Rattle.cbor_edn_parts.specs.declared.string.StringKind.{StringKind}
use Rattle.cbor_edn_parts.specs.declared.string.StringKind.TheVariants.{Bytes, Text}
use Rattle.cbor_edn_model.specs.declared.cbor.heads.Width.{Width}
use Rattle.cbor_edn_model.specs.declared.cbor.heads.Width.TheVariants.{Immediate, One, Two, Four, Eight}
use Rattle.cbor_edn_model.specs.declared.cbor.decode.CborError.{CborError}
use Rattle.cbor_edn_model.specs.declared.cbor.decode.CborError.TheVariants.{OutOfData, Reserved, TooDeep}
use Rattle.cbor_edn_model.specs.declared.cbor.decode.head.Stop.TheVariants.{Break, EndOfData}
use Rattle.cbor_edn_model.specs.cbor.Value.{Chunk, is_content, string_major}
use Rattle.cbor_edn_model.specs.internal.Results.{◌>>=◌}
use Rattle.cbor_edn_model.specs.internal.CborReading.{DecoderResult, Decoder, Argument, Head, Makes, argument_at, head_by, head_at, many, turn, until, several, string_at, chunk_by, chunk_at, pair_at, number_by, array_by, map_by, tag_by, string_by, special_by, item_by, item_at, sequence_at, trees}
use Rattle.cbor_edn_model.specs.tree.Trees.{Tree, OneItem}
use Rattle.cbor_edn_core.proofs.lemmas.cbor.Decodes.{sequence_refused}
use Rattle.cbor_edn_places.specs.Refusals.{IsShort, IsRefusedAs, FrontsSuffice, FrontsAreRefusedSo}

-- What is read stays, with those bytes behind it; so does a refusal, but for want of bytes.
abbrev Grown : {A : Type 0} → List ℕ → DecoderResult A → DecoderResult A → Type 0
Grown more (Ok x) r = r ≡ Ok (x.0, x.1 ++ more)
Grown more (Err e) r = IsShort e ⊎ (r ≡ Err e)

abbrev Grows : {A : Type 0} → Decoder A → Type 0
Grows one = (more bytes : List ℕ) → Grown more (one bytes) (one (bytes ++ more))

-- of no bytes it wants some
record Reads (A : Type 0) (one : Decoder A) : Type 0 where
  grows : Grows one
  wants : one [] ≡ Err OutOfData

-- a step, and then the next
then_grown : {A B : Type 0} (more : List ℕ) (f g : A × List ℕ → DecoderResult B) → ((x : A) (rest : List ℕ) → Grown more (f (x, rest)) (g (x, rest ++ more))) → (r s : DecoderResult A) → Grown more r s → Grown more (r >>= f) (s >>= g)
then_grown {A} {B} more f g next (Ok x) s h = subst (λ (t : DecoderResult A). Grown more (f x) (t >>= g)) (sym h) (next x.0 x.1)
then_grown more f g next (Err e) s h = elim h [ inl short ↦ inl short | inr same ↦ inr (ap (λ t. t >>= g) same) ]

chosen_grown : {A : Type 0} (more : List ℕ) (b : Bool) (x y r s : DecoderResult A) → Grown more x r → Grown more y s → Grown more (cond b x y) (cond b r s)
chosen_grown more true x y r s g h = g
chosen_grown more false x y r s g h = h

-- ---- heads

argument_grows : (major : ℕ) (w : Width) (bits : Bits) → Grows (argument_at major w bits)
argument_grows major w bits more bytes =
    elim (cases_lt (length bytes) (byte_len bits)) [
      | inl lt ↦ (let few : ltb (length bytes) (byte_len bits) ≡ true = lt-ltb _ _ lt in rw few (inl tt))
      | inr le ↦ (let enough : ltb (length bytes) (byte_len bits) ≡ false = le-ltb _ _ le in
          let also : ltb (length (bytes ++ more)) (byte_len bits) ≡ false = le-ltb _ _ (omega (arith, le, length-append bytes more)) in
          rw (enough, also, take-append-le (byte_len bits) bytes more le, drop-append-le (byte_len bits) bytes more le) refl)
    ]

head_grows : Grows head_at
unfolding head_at
head_grows more [] = inl tt
head_grows more (b ∷ rest) =
    let major = b / 32 in
    let info = b % 32 in
    chosen_grown more (ltb info 24) _ _ _ _ refl
    (chosen_grown more (eqb info 24) _ _ _ _ (argument_grows major One w8 more rest)
    (chosen_grown more (eqb info 25) _ _ _ _ (argument_grows major Two w16 more rest)
    (chosen_grown more (eqb info 26) _ _ _ _ (argument_grows major Four w32 more rest)
    (chosen_grown more (eqb info 27) _ _ _ _ (argument_grows major Eight w64 more rest)
    (chosen_grown more (eqb info 31) _ _ _ _ refl (inr refl))))))

-- ---- several

cons_grown : {A : Type 0} (more : List ℕ) (x : A) (r s : DecoderResult (List A)) → Grown more r s → Grown more (r >>= λ xs. Ok (x ∷ xs.0, xs.1)) (s >>= λ xs. Ok (x ∷ xs.0, xs.1))
cons_grown {A} more x r s h = then_grown more (λ (xs : List A × List ℕ). Ok (x ∷ xs.0, xs.1)) (λ (xs : List A × List ℕ). Ok (x ∷ xs.0, xs.1)) (λ xs rest. refl) r s h

-- one, and then others by two readers
others_grown : {A : Type 0} (one : Decoder A) → Grows one → (these those : Decoder (List A)) (more : List ℕ) → ((rest : List ℕ) → Grown more (these rest) (those (rest ++ more))) → (bytes : List ℕ)
    → Grown more (one bytes >>= λ x. these x.1 >>= λ xs. Ok (x.0 ∷ xs.0, xs.1)) (one (bytes ++ more) >>= λ x. those x.1 >>= λ xs. Ok (x.0 ∷ xs.0, xs.1))
others_grown {A} one g these those more h bytes =
    then_grown more (λ (x : A × List ℕ). these x.1 >>= λ xs. Ok (x.0 ∷ xs.0, xs.1)) (λ (x : A × List ℕ). those x.1 >>= λ xs. Ok (x.0 ∷ xs.0, xs.1))
    (λ x rest. cons_grown more x (these rest) (those (rest ++ more)) (h rest)) (one bytes) (one (bytes ++ more)) (g more bytes)

many_grows : {A : Type 0} (one : Decoder A) → Grows one → (n : ℕ) → Grows (many one n)
unfolding many
many_grows one g zero more bytes = refl
many_grows one g (suc n) more bytes = others_grown one g (many one n) (many one n) more (λ rest. many_grows one g n more rest) bytes

-- where a byte stands in front, which may be the break
turn_grown : {A : Type 0} (one : Decoder A) → Grows one → (these those : Decoder (List A)) (more : List ℕ) → ((rest : List ℕ) → Grown more (these rest) (those (rest ++ more))) → (bytes rest : List ℕ) (b : Bool)
    → Grown more (turn one these bytes (cond b (Some rest) None)) (turn one those (bytes ++ more) (cond b (Some (rest ++ more)) None))
turn_grown one g these those more h bytes rest true = refl
turn_grown one g these those more h bytes rest false = others_grown one g these those more h bytes

-- with as many turns or more
until_grows : {A : Type 0} (one : Decoder A) → Reads A one → (n m : ℕ) → n ≤ m → (more bytes : List ℕ) → Grown more (until Break one n bytes) (until Break one m (bytes ++ more))
unfolding until
until_grows one g zero m le more bytes = inl tt
until_grows one g (suc n) zero le more bytes = absurd (omega (arith, le))
until_grows one g (suc n) (suc m) le more [] = rw (g.wants) (inl tt)
until_grows one g (suc n) (suc m) le more (b ∷ bytes) =
    turn_grown one g.grows (until Break one n) (until Break one m) more (λ rest. until_grows one g n m (omega (arith, le)) more rest) (b ∷ bytes) bytes (eqb b 255)

several_grows : {A : Type 0} (one : Decoder A) → Reads A one → (argument : Argument) → Grows (several one argument)
unfolding several
several_grows one g (Some (w, n)) more bytes = many_grows one g.grows n more bytes
several_grows one g None more bytes = until_grows one g (suc (length bytes)) (suc (length (bytes ++ more))) (omega (arith, length-append bytes more)) more bytes

-- ---- strings

string_grows : (k : StringKind) (n : ℕ) → Grows (string_at k n)
unfolding string_at
string_grows k n more bytes =
    elim (cases_lt (length bytes) n) [
      | inl lt ↦ (let few : ltb (length bytes) n ≡ true = lt-ltb _ _ lt in rw few (inl tt))
      | inr le ↦ (let enough : ltb (length bytes) n ≡ false = le-ltb _ _ le in
          let also : ltb (length (bytes ++ more)) n ≡ false = le-ltb _ _ (omega (arith, le, length-append bytes more)) in
          rw (enough, also, take-append-le n bytes more le, drop-append-le n bytes more le) (chosen_grown more (is_content k (take n bytes)) _ _ _ _ refl (inr refl)))
    ]

chunk_by_grows : (k : StringKind) (h : Head) → Grows (chunk_by k h)
chunk_by_grows k (major, Some (w, n)) more bytes =
    chosen_grown more (eqb major (string_major k)) _ _ _ _
    (then_grown more (λ (s : List ℕ × List ℕ). Ok ((w, s.0), s.1)) (λ (s : List ℕ × List ℕ). Ok ((w, s.0), s.1)) (λ s rest. refl) (string_at k n bytes) (string_at k n (bytes ++ more)) (string_grows k n more bytes)) (inr refl)
chunk_by_grows k (major, None) more bytes = chosen_grown more (eqb major (string_major k)) _ _ _ _ (inr refl) (inr refl)

by_head : {A : Type 0} (f : Head → Decoder A) → ((h : Head) → Grows (f h)) → (more bytes : List ℕ) → Grown more (head_at bytes >>= λ h. f h.0 h.1) (head_at (bytes ++ more) >>= λ h. f h.0 h.1)
by_head f g more bytes = then_grown more (λ (h : Head × List ℕ). f h.0 h.1) (λ (h : Head × List ℕ). f h.0 h.1) (λ h rest. g h more rest) (head_at bytes) (head_at (bytes ++ more)) (head_grows more bytes)

chunk_grows : (k : StringKind) → Reads Chunk (chunk_at k)
unfolding chunk_at head_at
chunk_grows k = record { grows = by_head (chunk_by k) (chunk_by_grows k); wants = refl }

-- ---- items

module _ {A B : Type 0} (m : Makes A B) where
  made_grown : {X Y : Type 0} (more : List ℕ) (make : X → Y) (r s : DecoderResult X) → Grown more r s → Grown more (r >>= λ x. Ok (make x.0, x.1)) (s >>= λ x. Ok (make x.0, x.1))
  made_grown {X} {Y} more make r s h = then_grown more (λ (x : X × List ℕ). Ok (make x.0, x.1)) (λ (x : X × List ℕ). Ok (make x.0, x.1)) (λ x rest. refl) r s h

  pair_reads : (one : Decoder A) → Reads A one → Reads B (pair_at m one)
  unfolding pair_at
  pair_reads one g = record {
    grows = λ more bytes. then_grown more (λ (k : A × List ℕ). one k.1 >>= λ v. Ok (m.pair k.0 v.0, v.1)) (λ (k : A × List ℕ). one k.1 >>= λ v. Ok (m.pair k.0 v.0, v.1))
        (λ k rest. made_grown more (m.pair k) (one rest) (one (rest ++ more)) (g.grows more rest)) (one bytes) (one (bytes ++ more)) (g.grows more bytes);
    wants = rw (g.wants) refl;
  }

  abbrev InnerReads : Option (Decoder A) → Type 0
  InnerReads None = Unit {0}
  InnerReads (Some one) = Reads A one

  number_grows : (make : Width → ℕ → A) (argument : Argument) → Grows (number_by make argument)
  number_grows make None more rest = inr refl
  number_grows make (Some (w, n)) more rest = refl

  string_by_grows : (k : StringKind) (argument : Argument) → Grows (string_by m k argument)
  string_by_grows k (Some (w, n)) more rest = made_grown more (m.string k w) (string_at k n rest) (string_at k n (rest ++ more)) (string_grows k n more rest)
  string_by_grows k None more rest =
      made_grown more (m.chunks k) (until Break (chunk_at k) (suc (length rest)) rest) (until Break (chunk_at k) (suc (length (rest ++ more))) (rest ++ more))
      (until_grows (chunk_at k) (chunk_grows k) (suc (length rest)) (suc (length (rest ++ more))) (omega (arith, length-append rest more)) more rest)

  array_grows : (inner : Option (Decoder A)) → InnerReads inner → (argument : Argument) → Grows (array_by m inner argument)
  array_grows None g argument more rest = inr refl
  array_grows (Some one) g argument more rest = made_grown more (m.array argument) (several one argument rest) (several one argument (rest ++ more)) (several_grows one g argument more rest)

  map_grows : (inner : Option (Decoder A)) → InnerReads inner → (argument : Argument) → Grows (map_by m inner argument)
  map_grows None g argument more rest = inr refl
  map_grows (Some one) g argument more rest =
      made_grown more (m.cbor_map argument) (several (pair_at m one) argument rest) (several (pair_at m one) argument (rest ++ more)) (several_grows (pair_at m one) (pair_reads one g) argument more rest)

  tag_grows : (inner : Option (Decoder A)) → InnerReads inner → (argument : Argument) → Grows (tag_by m inner argument)
  tag_grows None g None more rest = inr refl
  tag_grows (Some one) g None more rest = inr refl
  tag_grows None g (Some (w, n)) more rest = inr refl
  tag_grows (Some one) g (Some (w, n)) more rest = made_grown more (m.tag w n) (one rest) (one (rest ++ more)) (g.grows more rest)

  special_grown : (more rest : List ℕ) (r : Result A CborError) → Grown more (r >>= λ x. Ok (x, rest)) (r >>= λ x. Ok (x, rest ++ more))
  special_grown more rest (Ok x) = refl
  special_grown more rest (Err e) = inr refl

  item_by_grows : (inner : Option (Decoder A)) → InnerReads inner → (h : Head) → Grows (item_by m inner h.0 h.1)
  unfolding item_by
  item_by_grows inner g h more rest =
      chosen_grown more (eqb h.0 0) _ _ _ _ (number_grows m.unsigned h.1 more rest)
      (chosen_grown more (eqb h.0 1) _ _ _ _ (number_grows m.negative h.1 more rest)
      (chosen_grown more (eqb h.0 2) _ _ _ _ (string_by_grows Bytes h.1 more rest)
      (chosen_grown more (eqb h.0 3) _ _ _ _ (string_by_grows Text h.1 more rest)
      (chosen_grown more (eqb h.0 4) _ _ _ _ (array_grows inner g h.1 more rest)
      (chosen_grown more (eqb h.0 5) _ _ _ _ (map_grows inner g h.1 more rest)
      (chosen_grown more (eqb h.0 6) _ _ _ _ (tag_grows inner g h.1 more rest) (special_grown more rest (special_by m inner h.1))))))))

  item_wants : (depth : ℕ) → item_at m depth [] ≡ Err OutOfData
  unfolding item_at head_at
  item_wants zero = refl
  item_wants (suc depth) = refl

  item_reads : (depth : ℕ) → Reads A (item_at m depth)
  unfolding item_at
  item_reads zero = record { grows = by_head (λ h. item_by m None h.0 h.1) (item_by_grows None tt); wants = item_wants 0 }
  item_reads (suc depth) = record { grows = by_head (λ h. item_by m (Some (item_at m depth)) h.0 h.1) (item_by_grows (Some (item_at m depth)) (item_reads depth)); wants = item_wants (suc depth) }

-- ---- sequences

abbrev failed : {A : Type 0} → CborError → DecoderResult A
failed e = Err e

fault_is : {A : Type 0} (d e : CborError) → failed {A = A} d ≡ failed e → d ≡ e
fault_is d e h = cc

-- one in front of others that were read
abbrev consed : {A : Type 0} → A → DecoderResult (List A) → DecoderResult (List A)
consed x r = r >>= λ xs. Ok (x ∷ xs.0, xs.1)

abbrev with_others : {A : Type 0} → Decoder (List A) → DecoderResult A → DecoderResult (List A)
with_others others r = r >>= λ x. consed x.0 (others x.1)

fault_of_consed : {A : Type 0} (x : A) (r : DecoderResult (List A)) (e : CborError) → consed x r ≡ failed e → r ≡ failed e
fault_of_consed x (Ok y) e h = absurd cc
fault_of_consed x (Err d) e h = ap failed (fault_is d e h)

module _ {A : Type 0} (one : Decoder A) (g : Reads A one) where
  abbrev Refuses : Decoder (List A) → List ℕ → CborError → Type 0
  Refuses reader bytes e = IsShort e ⊎ (reader bytes ≡ failed e)

  turn_refused : (these those : Decoder (List A)) (more : List ℕ) (e : CborError) → ((rest : List ℕ) → these rest ≡ failed e → Refuses those (rest ++ more) e) → (r s : DecoderResult A) → Grown more r s
      → with_others these r ≡ failed e → IsShort e ⊎ (with_others those s ≡ failed e)
  turn_refused these those more e again (Ok x) s h is = elim (again x.1 (fault_of_consed x.0 (these x.1) e is)) [
    | inl short ↦ inl short
    | inr same ↦ inr (ap (with_others those) h ∙ ap (consed x.0) same)
  ]
  turn_refused these those more e again (Err d) s h is = elim h [
    | inl short ↦ inl (subst IsShort (fault_is d e is) short)
    | inr same ↦ inr (ap (with_others those) same ∙ ap failed (fault_is d e is))
  ]

  all_refused : (n k : ℕ) → n ≤ k → (more bytes : List ℕ) (e : CborError) → until EndOfData one n bytes ≡ failed e → Refuses (until EndOfData one k) (bytes ++ more) e
  unfolding until
  all_refused zero k le more bytes e is = inl (subst IsShort (fault_is OutOfData e is) tt)
  all_refused (suc n) zero le more bytes e is = absurd (omega (arith, le))
  all_refused (suc n) (suc k) le more [] e is = absurd cc
  all_refused (suc n) (suc k) le more (b ∷ bytes) e is =
      turn_refused (until EndOfData one n) (until EndOfData one k) more e (λ rest. all_refused n k (omega (arith, le)) more rest e) (one (b ∷ bytes)) (one (b ∷ (bytes ++ more))) (g.grows more (b ∷ bytes)) is

-- ---- the laws

refused_on : (limit : ℕ) (front behind : List ℕ) (e : CborError) → IsRefusedAs limit front e → IsShort e ⊎ IsRefusedAs limit (front ++ behind) e
refused_on limit front behind e is =
    all_refused (item_at trees limit) (item_reads trees limit) (suc (length front)) (suc (length (front ++ behind))) (omega (arith, length-append front behind)) behind front e is

pub suffices : FrontsSuffice
suffices limit front behind e is = elim (refused_on limit front behind e is) [
  | inl short ↦ inl short
  | inr same ↦ inr (same, sequence_refused limit (front ++ behind) e same)
]

pub refused_so : FrontsAreRefusedSo
refused_so limit front behind d e whole is = elim (refused_on limit front behind d is) [
  | inl short ↦ inl short
  | inr same ↦ inr (fault_is d e (sym same ∙ whole))
]
