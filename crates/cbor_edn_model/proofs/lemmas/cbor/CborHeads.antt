-- A head that is read is the head that was written, and what was written is read again.
use Rattle.std.proofs.Common.{◌≡◌, ℕ, suc, ◌+◌, ◌*◌, ◌/◌, ◌%◌, ◌^◌, ◌<◌, ◌≤◌, Bool, true, false, cond, ltb, eqb, List, [], ◌∷◌, ◌++◌, length, get_or, take, drop, Option, Some, None, Result, Ok, Err, refl, sym, ap, subst, ◌∙◌, ◌⊎◌, append_assoc, arith, inl, inr}
use Rattle.std.specs.Int.{w8, w16, w32, w64, byte_len, from_be_bytes, to_be_bytes}
use Rattle.std.specs.Int.{Width as Bits}
use Rattle.std.proofs.lemmas.Bool.{cases_lt, ltb-true, ltb-false, lt-ltb, le-ltb, eqb-true}
use Rattle.std.proofs.lemmas.List.{take_at, drop_at, take-append-drop, length-append, length-take, get_or-drop, get_or-take, get_or_past}
use Rattle.std.proofs.lemmas.Nat.{be_bytes_2, be_bytes_4, be_bytes_8, from_be_bytes-to_be_bytes_2, from_be_bytes-to_be_bytes_4, from_be_bytes-to_be_bytes_8}
use Rattle.cbor_edn_model.specs.declared.cbor.heads.Width.{Width}
use Rattle.cbor_edn_model.specs.declared.cbor.heads.Width.TheVariants.{Immediate, One, Two, Four, Eight}
use Rattle.cbor_edn_model.specs.declared.cbor.decode.CborError.{CborError}
use Rattle.cbor_edn_model.specs.declared.cbor.decode.CborError.TheVariants.{MissingArgument}
use Rattle.cbor_edn_model.specs.cbor.Value.{head, ArgumentFits, limit_of, open_head}
use Rattle.cbor_edn_model.specs.internal.Results.{◌>>=◌}
use Rattle.cbor_edn_model.specs.internal.CborReading.{Head, head_at, head_by, argument_at}

abbrev pub IsBytes : List ℕ → Type 0
IsBytes bytes = (i : ℕ) → get_or bytes i 0 < 256

pub IsBytes-drop : (n : ℕ) (bytes : List ℕ) → IsBytes bytes → IsBytes (drop n bytes)
IsBytes-drop n bytes h i = rw get_or-drop (h (n + i))

pub IsBytes-take : (n : ℕ) (bytes : List ℕ) → IsBytes bytes → IsBytes (take n bytes)
IsBytes-take n bytes h i =
    elim (cases_lt i n) [
      | inl lt ↦ rw (get_or-take n bytes i 0 lt) (h i)
      | inr le ↦ rw (get_or_past (take n bytes) i 0 (omega (arith, length-take n bytes))) (omega arith)
    ]

pub IsBytes-rest : (b : ℕ) (bytes : List ℕ) → IsBytes (b ∷ bytes) → IsBytes bytes
IsBytes-rest b bytes h i = h (suc i)

-- the value of a step that did not fail
pub bind_ok : {A B : Type 0} (r : Result A CborError) (f : A → Result B CborError) (y : B) → (r >>= f) ≡ Ok y → (x : A) × (r ≡ Ok x) × (f x ≡ Ok y)
bind_ok (Ok x) f y e = (x, refl, e)
bind_ok (Err d) f y e = absurd cc

-- a test that did not fail
pub guard_ok : {A : Type 0} (b : Bool) (d : CborError) (x y : A) → cond b (Err d) (Ok x) ≡ Ok y → (b ≡ false) × (x ≡ y)
guard_ok true d x y e = absurd cc
guard_ok false d x y e = (refl, cc)

abbrev done : {A : Type 0} → A → Result A CborError
done x = Ok x

pub ok_is : {A : Type 0} (x y : A) → done x ≡ done y → x ≡ y
ok_is x y e = cc

pub chosen : {A : Type 0} (b : Bool) (x y z : A) → cond b x y ≡ z → ((b ≡ true) × (x ≡ z)) ⊎ ((b ≡ false) × (y ≡ z))
chosen true x y z e = inl (refl, e)
chosen false x y z e = inr (refl, e)

-- what a reader took from the front
pub record Takes (bytes text rest : List ℕ) : Type 0 where
  pub parts : bytes ≡ text ++ rest
  pub rest_fits : IsBytes rest

pub Takes-then : (a x b y c : List ℕ) → Takes a x b → Takes b y c → Takes a (x ++ y) c
Takes-then a x b y c p q = record { parts = p.parts ∙ ap (λ (t : List ℕ). x ++ t) q.parts ∙ sym (append_assoc x y c); rest_fits = q.rest_fits }

-- ---- numbers

pub record IsWide (w : Bits) (limit : ℕ) : Type 0 where
  pub len : (n : ℕ) → length (to_be_bytes w n) ≡ byte_len w
  pub back : (bytes : List ℕ) → length bytes ≡ byte_len w → IsBytes bytes → to_be_bytes w (from_be_bytes w bytes) ≡ bytes
  pub again : (n : ℕ) → n < limit → from_be_bytes w (to_be_bytes w n) ≡ n
  pub below : (bytes : List ℕ) → IsBytes bytes → from_be_bytes w bytes < limit

one_byte : (bytes : List ℕ) → length bytes ≡ 1 → IsBytes bytes → to_be_bytes w8 (from_be_bytes w8 bytes) ≡ bytes
one_byte [] len fits = absurd (omega arith)
one_byte (b ∷ []) len fits = let lt : b < 256 = fits 0 in let same : b % 256 ≡ b = omega arith in ap (λ (x : ℕ). x ∷ []) (omega arith)
one_byte (b ∷ c ∷ bs) len fits = absurd (omega arith)

pub wide8 : IsWide w8 (2 ^ 8)
wide8 = record {
  len = λ n. refl;
  back = one_byte;
  again = λ n lt. omega arith;
  below = λ bytes fits. omega (arith, fits 0);
}

pub wide16 : IsWide w16 (2 ^ 16)
wide16 = record {
  len = λ n. refl;
  back = λ bytes len fits. be_bytes_2 bytes _ len fits refl;
  again = λ n lt. from_be_bytes-to_be_bytes_2 n lt;
  below = λ bytes fits. omega (arith, fits 0, fits 1);
}

pub wide32 : IsWide w32 (2 ^ 32)
wide32 = record {
  len = λ n. refl;
  back = λ bytes len fits. be_bytes_4 bytes _ len fits refl;
  again = λ n lt. from_be_bytes-to_be_bytes_4 n lt;
  below = λ bytes fits. omega (arith, fits 0, fits 1, fits 2, fits 3);
}

pub wide64 : IsWide w64 (2 ^ 64)
wide64 = record {
  len = λ n. refl;
  back = λ bytes len fits. be_bytes_8 bytes _ len fits refl;
  again = λ n lt. from_be_bytes-to_be_bytes_8 n lt;
  below = λ bytes fits. omega (arith, fits 0, fits 1, fits 2, fits 3, fits 4, fits 5, fits 6, fits 7);
}

abbrev At : ℕ → Width → ℕ → List ℕ → Head × List ℕ
At major width n rest = ((major, Some (width, n)), rest)

argument_takes : (major : ℕ) (width : Width) (w : Bits) (limit : ℕ) (wide : IsWide w limit) (bytes : List ℕ) (x : Head × List ℕ) → IsBytes bytes → argument_at major width w bytes ≡ Ok x
    → (n : ℕ) × (n < limit) × Takes bytes (to_be_bytes w n) x.1 × (x.0 ≡ (major, Some (width, n)))
argument_takes major width w limit wide bytes x fits e =
    let n = from_be_bytes w (take (byte_len w) bytes) in
    let g = guard_ok (ltb (length bytes) (byte_len w)) MissingArgument (At major width n (drop (byte_len w) bytes)) x e in
    let long : byte_len w ≤ length bytes = ltb-false _ _ g.0 in
    let front : to_be_bytes w n ≡ take (byte_len w) bytes = wide.back (take (byte_len w) bytes) (omega (arith, length-take (byte_len w) bytes)) (IsBytes-take (byte_len w) bytes fits) in
    let whole : Takes bytes (to_be_bytes w n) (drop (byte_len w) bytes) = record { parts = rw front (sym (take-append-drop (byte_len w) bytes)); rest_fits = IsBytes-drop (byte_len w) bytes fits } in
    (n, wide.below (take (byte_len w) bytes) (IsBytes-take (byte_len w) bytes fits), subst (λ (y : Head × List ℕ). Takes bytes (to_be_bytes w n) y.1) g.1 whole, sym (ap (λ (y : Head × List ℕ). y.0) g.1))

argument_again : (major : ℕ) (width : Width) (w : Bits) (limit : ℕ) (wide : IsWide w limit) (n : ℕ) (rest : List ℕ) → n < limit → argument_at major width w (to_be_bytes w n ++ rest) ≡ Ok (At major width n rest)
argument_again major width w limit wide n rest lt =
    let len = wide.len n in
    let long : ltb (length (to_be_bytes w n ++ rest)) (byte_len w) ≡ false = le-ltb _ _ (omega (arith, length-append (to_be_bytes w n) rest)) in
    rw (long, take_at (to_be_bytes w n) rest (byte_len w) len, drop_at (to_be_bytes w n) rest (byte_len w) len, wide.again n lt) refl

-- ---- heads

by_first : (major info : ℕ) (rest : List ℕ) → info < 32 → head_at ((32 * major + info) ∷ rest) ≡ head_by major info rest
unfolding head_at
by_first major info rest lt =
    let q : (32 * major + info) / 32 ≡ major = omega arith in
    let r : (32 * major + info) % 32 ≡ info = omega arith in
    rw (q, r) refl

pub head_again : (major : ℕ) (w : Width) (n : ℕ) (rest : List ℕ) → ArgumentFits w n → head_at (head major w n ++ rest) ≡ Ok (At major w n rest)
unfolding head
head_again major Immediate n rest lt = let small : ltb n 24 ≡ true = lt-ltb n 24 lt in by_first major n rest (omega arith) ∙ rw small refl
head_again major One n rest lt = by_first major 24 (to_be_bytes w8 n ++ rest) (omega arith) ∙ argument_again major One w8 (2 ^ 8) wide8 n rest lt
head_again major Two n rest lt = by_first major 25 (to_be_bytes w16 n ++ rest) (omega arith) ∙ argument_again major Two w16 (2 ^ 16) wide16 n rest lt
head_again major Four n rest lt = by_first major 26 (to_be_bytes w32 n ++ rest) (omega arith) ∙ argument_again major Four w32 (2 ^ 32) wide32 n rest lt
head_again major Eight n rest lt = by_first major 27 (to_be_bytes w64 n ++ rest) (omega arith) ∙ argument_again major Eight w64 (2 ^ 64) wide64 n rest lt

pub open_again : (major : ℕ) (rest : List ℕ) → head_at (open_head major ∷ rest) ≡ Ok ((major, None), rest)
open_again major rest = by_first major 31 rest (omega arith)

-- what was read as a head
abbrev pub HeadIs : List ℕ → ℕ → Option (Width × ℕ) → List ℕ → Type 0
HeadIs bytes major (Some (w, n)) rest = ArgumentFits w n × Takes bytes (head major w n) rest
HeadIs bytes major None rest = Takes bytes (open_head major ∷ []) rest

width_takes : (major info : ℕ) (width : Width) (w : Bits) (limit : ℕ) (wide : IsWide w limit) (bytes : List ℕ) (x : Head × List ℕ) → ((n : ℕ) → head major width n ≡ (32 * major + info) ∷ to_be_bytes w n) → limit_of width ≡ limit
    → IsBytes bytes → argument_at major width w bytes ≡ Ok x → HeadIs ((32 * major + info) ∷ bytes) major x.0.1 x.1 × (x.0.0 ≡ major)
width_takes major info width w limit wide bytes x spelled same fits e =
    let t = argument_takes major width w limit wide bytes x fits e in
    let n = t.0 in
    let parts : (32 * major + info) ∷ bytes ≡ head major width n ++ x.1 = ap (λ (l : List ℕ). (32 * major + info) ∷ l) t.2.parts ∙ sym (ap (λ (l : List ℕ). l ++ x.1) (spelled n)) in
    let taken : HeadIs ((32 * major + info) ∷ bytes) major (Some (width, n)) x.1 = (rw same t.1, record { parts = parts; rest_fits = t.2.rest_fits }) in
    (subst (λ (o : Option (Width × ℕ)). HeadIs ((32 * major + info) ∷ bytes) major o x.1) (sym (ap (λ (h : Head). h.1) t.3)) taken, ap (λ (h : Head). h.0) t.3)

head_by_takes : (major info : ℕ) (bytes : List ℕ) (x : Head × List ℕ) → info < 32 → IsBytes bytes → head_by major info bytes ≡ Ok x → HeadIs ((32 * major + info) ∷ bytes) major x.0.1 x.1 × (x.0.0 ≡ major)
unfolding head
head_by_takes major info bytes x lt fits e =
    elim (chosen (ltb info 24) _ _ _ e) [
      | inl a ↦ subst (λ (y : Head × List ℕ). HeadIs ((32 * major + info) ∷ bytes) major y.0.1 y.1 × (y.0.0 ≡ major)) (ok_is (At major Immediate info bytes) x a.1) ((ltb-true info 24 a.0, record { parts = refl; rest_fits = fits }), refl)
      | inr a ↦ elim (chosen (eqb info 24) _ _ _ a.1) [
        | inl b ↦ rw (eqb-true info 24 b.0) (width_takes major 24 One w8 (2 ^ 8) wide8 bytes x (λ n. refl) refl fits b.1)
        | inr b ↦ elim (chosen (eqb info 25) _ _ _ b.1) [
          | inl c ↦ rw (eqb-true info 25 c.0) (width_takes major 25 Two w16 (2 ^ 16) wide16 bytes x (λ n. refl) refl fits c.1)
          | inr c ↦ elim (chosen (eqb info 26) _ _ _ c.1) [
            | inl d ↦ rw (eqb-true info 26 d.0) (width_takes major 26 Four w32 (2 ^ 32) wide32 bytes x (λ n. refl) refl fits d.1)
            | inr d ↦ elim (chosen (eqb info 27) _ _ _ d.1) [
              | inl f ↦ rw (eqb-true info 27 f.0) (width_takes major 27 Eight w64 (2 ^ 64) wide64 bytes x (λ n. refl) refl fits f.1)
              | inr f ↦ elim (chosen (eqb info 31) _ _ _ f.1) [
                | inl g ↦ rw (eqb-true info 31 g.0) (subst (λ (y : Head × List ℕ). HeadIs (open_head major ∷ bytes) major y.0.1 y.1 × (y.0.0 ≡ major)) (ok_is ((major, None), bytes) x g.1) (record { parts = refl; rest_fits = fits }, refl))
                | inr g ↦ absurd (let h = g.1 in cc)
              ]
            ]
          ]
        ]
      ]
    ]

pub head_takes : (bytes : List ℕ) (x : Head × List ℕ) → IsBytes bytes → head_at bytes ≡ Ok x → HeadIs bytes x.0.0 x.0.1 x.1 × (x.0.0 < 8)
unfolding head_at
head_takes [] x fits e = absurd cc
head_takes (b ∷ bytes) x fits e =
    let t = head_by_takes (b / 32) (b % 32) bytes x (omega arith) (IsBytes-rest b bytes fits) e in
    let whole : 32 * (b / 32) + b % 32 ≡ b = omega arith in
    let lt : b < 256 = fits 0 in
    (subst (λ (m : ℕ). HeadIs (b ∷ bytes) m x.0.1 x.1) (sym t.1) (subst (λ (k : ℕ). HeadIs (k ∷ bytes) (b / 32) x.0.1 x.1) whole t.0), omega (arith, t.1))
