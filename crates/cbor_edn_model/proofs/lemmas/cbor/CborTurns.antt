-- Reading several of a kind, as a loop does.
use Rattle.std.proofs.Common.{◌≡◌, ℕ, zero, suc, ◌-◌, ◌+◌, ◌≤◌, ◌<◌, List, [], ◌∷◌, ◌++◌, Some, None, Result, Ok, Err, refl, sym, ap, ◌∙◌, append_assoc, arith}
use Rattle.std.proofs.lemmas.List.{append-nil}
use Rattle.cbor_edn_model.specs.declared.cbor.decode.CborError.{CborError}
use Rattle.cbor_edn_model.specs.declared.cbor.decode.head.Stop.{Stop}
use Rattle.cbor_edn_parts.specs.declared.base.error.Fault.{Fault}
use Rattle.cbor_edn_parts.specs.declared.base.error.Fault.TheVariants.{Memory, Told}
use Rattle.cbor_edn_model.specs.internal.Results.{◌>>=◌}
use Rattle.cbor_edn_model.specs.internal.CborReading.{DecoderResult, Decoder, shown, DecoderFails, many, until, past_stop, turn, head_at, item_at, Makes}

-- ---- what is seen by a function

abbrev refusal : {A : Type 0} → CborError → DecoderResult A
refusal e = Err e

abbrev answer : {A : Type 0} → A → Result A CborError
answer x = Ok x

answers : {A : Type 0} (x y : A) → answer x ≡ answer y → x ≡ y
answers x y e = cc

pub shown_ok : {A B : Type 0} (f : A → B) (r : DecoderResult A) (y : B × List ℕ) → shown f r ≡ Ok y → (x : A × List ℕ) × (r ≡ Ok x) × ((f x.0, x.1) ≡ y)
shown_ok f (Ok x) y e = (x, refl, answers (f x.0, x.1) y e)
shown_ok f (Err e) y is = absurd cc

pub shown_err : {A B : Type 0} (f : A → B) (r : DecoderResult A) (e : CborError) → shown f r ≡ Err e → r ≡ Err e
shown_err f (Ok x) e is = absurd cc
shown_err {A} f (Err d) e is = let same : d ≡ e = cc in ap (λ c. refusal {A = A} c) same

-- a refusal is seen as it is
pub shown_fails : {A B : Type 0} (f : A → B) (e : Fault CborError) (r : DecoderResult A) → DecoderFails e r → DecoderFails e (shown f r)
shown_fails f (Memory m) r h = tt
shown_fails f (Told e) r h = rw h refl

pub fails_shown : {A B : Type 0} (f : A → B) (e : Fault CborError) (r : DecoderResult A) → DecoderFails e (shown f r) → DecoderFails e r
fails_shown f (Memory m) r h = tt
fails_shown f (Told e) r h = shown_err f r e h

-- what was read before, and what is still read
abbrev pub with_front : {A : Type 0} → List A → DecoderResult (List A) → DecoderResult (List A)
with_front front read = read >>= λ x. Ok (front ++ x.0, x.1)

regroup : {A : Type 0} → (front : List A) (a : A) (read : DecoderResult (List A)) → with_front front (read >>= λ x. Ok (a ∷ x.0, x.1)) ≡ with_front (front ++ a ∷ []) read
regroup {A} front a (Ok x) = ap (λ (as' : List A). Ok (as', x.1)) (simp append_assoc)
regroup front a (Err f) = refl

ended : {A : Type 0} → (front : List A) (rest : List ℕ) → with_front front (Ok ([], rest)) ≡ Ok (front, rest)
ended {A} front rest = ap (λ (as' : List A). Ok (as', rest)) (append-nil front)

-- ---- so many

many_more : {A : Type 0} → (one : Decoder A) (n : ℕ) (bytes after : List ℕ) (a : A) → one bytes ≡ Ok (a, after) → many one (suc n) bytes ≡ (many one n after >>= λ xs. Ok (a ∷ xs.0, xs.1))
unfolding many
many_more one n bytes after a h = rw h refl

many_fails : {A : Type 0} → (one : Decoder A) (n : ℕ) (bytes : List ℕ) (f : CborError) → one bytes ≡ Err f → many one (suc n) bytes ≡ Err f
unfolding many
many_fails one n bytes f h = rw h refl

many_none : {A : Type 0} → (one : Decoder A) (bytes : List ℕ) → many one 0 bytes ≡ Ok ([], bytes)
unfolding many
many_none one bytes = refl

pub goes_on : {A : Type 0} → (one : Decoder A) (front : List A) (count i : ℕ) (bytes after : List ℕ) (a : A) (total : DecoderResult (List A)) → i < count → one bytes ≡ Ok (a, after)
    → with_front front (many one (count - i) bytes) ≡ total → with_front (front ++ a ∷ []) (many one (count - (i + 1)) after) ≡ total
goes_on one front count i bytes after a total lt h so_far =
    let k : count - i ≡ suc (count - (i + 1)) = omega arith in
    let step : many one (count - i) bytes ≡ (many one (count - (i + 1)) after >>= λ xs. Ok (a ∷ xs.0, xs.1)) = ap (λ n. many one n bytes) k ∙ many_more one (count - (i + 1)) bytes after a h in
    sym (ap (with_front front) step ∙ regroup front a (many one (count - (i + 1)) after)) ∙ so_far

pub fails : {A : Type 0} → (e : Fault CborError) (one : Decoder A) (front : List A) (count i : ℕ) (bytes : List ℕ) (total : DecoderResult (List A)) → i < count → DecoderFails e (one bytes)
    → with_front front (many one (count - i) bytes) ≡ total → DecoderFails e total
fails (Memory m) one front count i bytes total lt h so_far = tt
fails (Told f) one front count i bytes total lt h so_far =
    let k : count - i ≡ suc (count - (i + 1)) = omega arith in
    sym so_far ∙ ap (with_front front) (ap (λ n. many one n bytes) k ∙ many_fails one (count - (i + 1)) bytes f h)

pub is_done : {A : Type 0} → (one : Decoder A) (front : List A) (count i : ℕ) (bytes : List ℕ) (total : DecoderResult (List A)) → count ≤ i → with_front front (many one (count - i) bytes) ≡ total → total ≡ Ok (front, bytes)
is_done one front count i bytes total le so_far =
    let k : count - i ≡ 0 = omega arith in
    sym so_far ∙ ap (with_front front) (ap (λ n. many one n bytes) k ∙ many_none one bytes) ∙ ended front bytes

-- ---- up to an end

turns : {A : Type 0} → (stop : Stop) (one : Decoder A) (n : ℕ) (bytes : List ℕ) → 0 < n → until stop one n bytes ≡ turn one (until stop one (n - 1)) bytes (past_stop stop bytes)
unfolding until
turns stop one zero bytes lt = absurd (omega arith)
turns stop one (suc n) bytes lt = let k : suc n - 1 ≡ n = omega arith in rw k refl

pub until_more : {A : Type 0} → (stop : Stop) (one : Decoder A) (front : List A) (n : ℕ) (bytes after : List ℕ) (a : A) (total : DecoderResult (List A)) → 0 < n → past_stop stop bytes ≡ None → one bytes ≡ Ok (a, after)
    → with_front front (until stop one n bytes) ≡ total → with_front (front ++ a ∷ []) (until stop one (n - 1) after) ≡ total
until_more stop one front n bytes after a total lt going h so_far =
    let step : until stop one n bytes ≡ (until stop one (n - 1) after >>= λ xs. Ok (a ∷ xs.0, xs.1)) = turns stop one n bytes lt ∙ rw (going, h) refl in
    sym (ap (with_front front) step ∙ regroup front a (until stop one (n - 1) after)) ∙ so_far

pub until_fails : {A : Type 0} → (stop : Stop) (e : Fault CborError) (one : Decoder A) (front : List A) (n : ℕ) (bytes : List ℕ) (total : DecoderResult (List A)) → 0 < n → past_stop stop bytes ≡ None → DecoderFails e (one bytes)
    → with_front front (until stop one n bytes) ≡ total → DecoderFails e total
until_fails stop (Memory m) one front n bytes total lt going h so_far = tt
until_fails stop (Told f) one front n bytes total lt going h so_far =
    let step : until stop one n bytes ≡ Err f = turns stop one n bytes lt ∙ rw (going, h) refl in
    sym so_far ∙ ap (with_front front) step

pub until_done : {A : Type 0} → (stop : Stop) (one : Decoder A) (front : List A) (n : ℕ) (bytes after : List ℕ) (total : DecoderResult (List A)) → 0 < n → past_stop stop bytes ≡ Some after
    → with_front front (until stop one n bytes) ≡ total → total ≡ Ok (front, after)
until_done stop one front n bytes after total lt ends so_far =
    let step : until stop one n bytes ≡ Ok ([], after) = turns stop one n bytes lt ∙ rw ends refl in
    sym so_far ∙ ap (with_front front) step ∙ ended front after

-- ---- an item by its head

item_at_err : {A B : Type 0} (m : Makes A B) (depth : ℕ) (bytes : List ℕ) (f : CborError) → head_at bytes ≡ Err f → item_at m depth bytes ≡ Err f
unfolding item_at
item_at_err m zero bytes f e = rw e refl
item_at_err m (suc depth) bytes f e = rw e refl

pub item_fails : {A B : Type 0} (m : Makes A B) (e : Fault CborError) (depth : ℕ) (bytes : List ℕ) → DecoderFails e (head_at bytes) → DecoderFails e (item_at m depth bytes)
item_fails m (Memory _) depth bytes h = tt
item_fails m (Told f) depth bytes h = item_at_err m depth bytes f h
