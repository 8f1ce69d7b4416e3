-- The innermost bracket stands last in the vector, and first in the list of what is open.
use Rattle.std.proofs.Common.{◌≡◌, ◌<◌, ◌-◌, ℕ, [], ◌∷◌, ◌++◌, length, get_or, Option, Some, None, refl, sym, ap, ◌∙◌, arith}
use Rattle.std.specs.Prelude.{reverse, slice_get}
use Rattle.std.specs.Option.{option_to_list}
use Rattle.std.proofs.lemmas.List.{length-reverse, get_or-reverse, reverse-append}
use Rattle.std.proofs.lemmas.Option.{slice_get-get_or}
use Rattle.cbor_edn_explain.specs.declared.state.Open.{Open}
use Rattle.cbor_edn_explain.specs.State.{Opened, innermost, rest_of}

first_got : (os : Opened) → slice_get os 0 ≡ innermost os
first_got [] = refl
first_got (o ∷ os) = refl

last_of : (o : Open) (xs : Opened) → 0 < length xs → slice_get xs (length xs - 1) ≡ innermost (reverse xs)
last_of o xs some =
    let lt : length xs - 1 < length xs = omega arith in
    let more : 0 < length (reverse xs) = rw length-reverse some in
    let zero-off : length xs - 1 - 0 ≡ length xs - 1 = omega arith in
    slice_get-get_or xs (length xs - 1) o lt
    ∙ ap (λ (k : ℕ). Some (get_or xs k o)) (sym zero-off)
    ∙ ap (λ (x : Open). Some x) (sym (get_or-reverse xs 0 o some))
    ∙ sym (slice_get-get_or (reverse xs) 0 o more)
    ∙ first_got (reverse xs)

pub innermost_is_last : (xs : Opened) → slice_get xs (length xs - 1) ≡ innermost (reverse xs)
innermost_is_last [] = refl
innermost_is_last (o ∷ os) = last_of o (o ∷ os) (omega arith)

-- without the last one, if there is one
pub popped : (new : Opened) (r : Option Open) (old : Opened) → old ≡ new ++ option_to_list r → (r ≡ None → new ≡ []) → reverse new ≡ rest_of (reverse old)
popped new None old parts empty =
    let none : new ≡ [] = empty refl in
    let h : old ≡ [] = parts ∙ ap (λ (l : Opened). l ++ option_to_list None) none in
    rw (none, h) refl
popped new (Some o) old parts empty =
    let h : reverse old ≡ o ∷ reverse new = ap (λ (l : Opened). reverse l) parts ∙ reverse-append new (o ∷ []) in
    rw h refl

pub pushed : (old : Opened) (o : Open) → reverse (old ++ o ∷ []) ≡ o ∷ reverse old
pushed old o = reverse-append old (o ∷ [])
