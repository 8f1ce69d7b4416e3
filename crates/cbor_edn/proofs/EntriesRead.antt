-- The elements of an array that are read one behind the other.
use Rattle.std.specs.Prelude.{false, nat_eq}
use Rattle.std.proofs.Common.{◌≡◌, ℕ, zero, suc, ◌-◌, ◌<◌, List, [], ◌∷◌, ◌++◌, ◌+◌, ◌≤◌, map, length, length-append, Option, Some, Ok, Err, refl, sym, ap, ◌∙◌, arith}
use Rattle.cbor_edn_parts.specs.declared.base.error.Fault.{Fault}
use Rattle.cbor_edn_parts.specs.declared.base.error.Fault.TheVariants.{Memory, Told}
use Rattle.cbor_edn_parts.specs.base.Refusals.{IfTold}
use Rattle.cbor_edn_model.specs.declared.cbor.decode.CborError.{CborError}
use Rattle.cbor_edn_model.specs.declared.cbor.decode.CborError.TheVariants.{OutOfData}
use Rattle.cbor_edn_model.specs.declared.cbor.heads.Width.{Width}
use Rattle.cbor_edn_model.specs.tree.Items.{Elements}
use Rattle.cbor_edn_model.specs.tree.Trees.{Tree, OneItem, Rest}
use Rattle.cbor_edn_model.specs.internal.CborReading.{Decoder, DecoderFails, Head, head_at, item_at, item_by, array_by, several, inner, many, trees, element_row, sequence_at}
use Rattle.cbor_edn_model.proofs.lemmas.cbor.CborAgain.{inner_more, item_at_ok}
use Rattle.cbor_edn_command.specs.declared.options.Options.{Options}
use Rattle.cbor_edn.specs.Elements.{AreRead, IsFault, IsFaultAmong}
use Rattle.cbor_edn.specs.LongArrays.{AreElementsOf, array_of, head_of_width}
use Rattle.cbor_edn.proofs.ElementTexts.{IsDone, read_on, sequence_fails, fault_behind}
use Rattle.cbor_edn.proofs.NestedSteps.{row_length, some_same}

-- no bytes are an item
nothing_read : (limit : ℕ) → item_at trees limit [] ≡ Err OutOfData
unfolding item_at head_at
nothing_read zero = refl
nothing_read (suc limit) = refl

module _ (limit : ℕ) where
  pub many_read : (ws : List (Tree OneItem)) (n : ℕ) (bytes rest : List ℕ) → AreElementsOf limit n bytes ws rest → many (item_at trees limit) n bytes ≡ Ok (ws, rest)
  unfolding many
  many_read [] zero bytes rest (read, is) = ap (λ (l : List ℕ). Ok ([], l)) read
  many_read [] (suc n) bytes rest (read, is) = absurd (omega (arith, is))
  many_read (w ∷ ws) zero bytes rest (read, is) = absurd (omega (arith, is))
  many_read (w ∷ ws) (suc n) bytes rest ((behind, one, shorter, more), is) = rw (one, many_read ws n behind rest (more, omega (arith, is))) refl

  many_refused : (ws : List (Tree OneItem)) (n : ℕ) (bytes rest : List ℕ) (f : CborError) → AreRead limit bytes ws rest → length ws < n → item_at trees limit rest ≡ Err f → many (item_at trees limit) n bytes ≡ Err f
  unfolding many
  many_refused ws zero bytes rest f read less fails = absurd (omega (arith, less))
  many_refused [] (suc n) bytes rest f read less fails = rw (read, fails) refl
  many_refused (w ∷ ws) (suc n) bytes rest f (behind, one, shorter, more) less fails = rw (one, many_refused ws n behind rest f more (omega (arith, less)) fails) refl

  -- the refusal of an element behind some
  pub array_refused : (X : Type 0) (ws : List (Tree OneItem)) (n left : ℕ) (bytes rest : List ℕ) (e : Fault CborError) → AreRead limit bytes ws rest → length ws + left ≡ n → IsFaultAmong limit left rest e
      → IfTold {X = X} (Err e) (λ f. many (item_at trees limit) n bytes ≡ Err f)
  array_refused X ws n left bytes rest (Memory m) read count fault = tt
  array_refused X ws n left bytes rest (Told f) read count (xs, behind, more, less, some, fails) =
      let s = length-append ws xs in
      many_refused (ws ++ xs) n bytes behind f (read_on limit bytes rest behind ws xs read more) (omega (arith, s, less, count)) fails

  -- of the next, where the bytes end
  pub array_ends : (ws : List (Tree OneItem)) (n left : ℕ) (bytes rest : List ℕ) → AreRead limit bytes ws rest → length ws + left ≡ n → 0 < left → rest ≡ [] → many (item_at trees limit) n bytes ≡ Err OutOfData
  array_ends ws n left bytes rest read count some ends = many_refused ws n bytes rest OutOfData read (omega (arith, count, some)) (ap (item_at trees limit) ends ∙ nothing_read limit)

  -- what is read leaves no more
  pub none_read : (ws : List (Tree OneItem)) (bytes rest : List ℕ) → AreRead limit bytes ws rest → length rest ≤ length bytes
  none_read [] bytes rest read = let same : length bytes ≡ length rest = ap length read in omega (arith, same)
  none_read (w ∷ ws) bytes rest (behind, one, shorter, more) = let h = none_read ws behind rest more in omega (arith, shorter, h)

  -- where nothing is read that could be, there is nothing
  pub no_items : {X : Type 0} (f : X → Tree OneItem) (most : ℕ) (xs : List X) (bytes rest : List ℕ) → AreRead limit bytes (map f xs) rest → length xs ≡ 0 → 0 < most → (0 < most → 0 < length bytes → length rest < length bytes) → bytes ≡ []
  no_items f most xs [] rest read none some shorter = refl
  no_items f most [] (b ∷ bytes) rest read none some shorter = let same : length (b ∷ bytes) ≡ length rest = ap length read in let h = shorter some (omega arith) in absurd (omega (arith, h, same))
  no_items f most (x ∷ xs) (b ∷ bytes) rest read none some shorter = absurd (omega (arith, none))

-- elements in a row
pub row_counted : (ws : List (Tree OneItem)) (m : Tree (Rest Elements)) → element_row ws ≡ Some m → row_length m ≡ length ws
row_counted [] m is = cc
row_counted (w ∷ []) m is = ap row_length (sym (some_same is))
row_counted (w ∷ (x ∷ ws)) m is = ap row_length (sym (some_same is)) ∙ ap suc (row_counted (x ∷ ws) _ refl)

-- ---- an array, behind its head

behind_head : (limit : ℕ) (w : Width) (n : ℕ) (bytes rest : List ℕ) → head_at bytes ≡ Ok ((4, Some (w, n)), rest) → item_at trees limit bytes ≡ array_by trees (inner trees limit) (Some (w, n)) rest
unfolding item_by
behind_head limit w n bytes rest h = item_at_ok trees limit bytes rest (4, Some (w, n)) h

-- where there is room, its elements are read
with_room : (limit : ℕ) (w : Width) (n : ℕ) (bytes rest : List ℕ) → 0 < limit → head_at bytes ≡ Ok ((4, Some (w, n)), rest) → item_at trees limit bytes ≡ array_by trees (Some (item_at trees (limit - 1))) (Some (w, n)) rest
with_room zero w n bytes rest some head = absurd (omega (arith, some))
with_room (suc limit) w n bytes rest some head =
    let less : suc limit - 1 ≡ limit = omega arith in
    behind_head (suc limit) w n bytes rest head ∙ ap (λ (o : Option (Decoder (Tree OneItem))). array_by trees o (Some (w, n)) rest) (inner_more trees limit)
    ∙ ap (λ d. array_by trees (Some (item_at trees d)) (Some (w, n)) rest) (sym less)

pub array_read : (limit : ℕ) (w : Width) (n : ℕ) (bytes behind rest : List ℕ) (ws : List (Tree OneItem)) (m : Tree (Rest Elements)) → 0 < limit → head_at bytes ≡ Ok ((4, Some (w, n)), behind) → AreElementsOf (limit - 1) n behind ws rest → element_row ws ≡ Some m
    → item_at trees limit bytes ≡ Ok (array_of (head_of_width w n) m, rest)
unfolding several
array_read limit w n bytes behind rest ws m some head read row = with_room limit w n bytes behind some head ∙ rw (many_read (limit - 1) ws n behind rest read, row) refl

-- a head stands in bytes
pub some_head : (bytes : List ℕ) (x : Head × List ℕ) → head_at bytes ≡ Ok x → 0 < length bytes
unfolding head_at
some_head [] x is = cc
some_head (b ∷ bytes) x is = omega arith

pub array_fault : (X Y : Type 0) (limit : ℕ) (w : Width) (n : ℕ) (bytes behind : List ℕ) (e : Fault CborError) → 0 < limit → head_at bytes ≡ Ok ((4, Some (w, n)), behind) → IfTold {X = X} (Err e) (λ f. many (item_at trees (limit - 1)) n behind ≡ Err f)
    → IfTold {X = Y} (Err e) (λ f. IsFault limit bytes (Told f))
unfolding several
array_fault X Y limit w n bytes behind (Memory m) some head fails = tt
array_fault X Y limit w n bytes behind (Told f) some head fails = ([], bytes, refl, some_head bytes _ head, with_room limit w n bytes behind some head ∙ rw fails refl)

-- ---- refusals of what is in front

pub among_fault : (Y : Type 0) (limit most : ℕ) (bytes : List ℕ) (e : Fault CborError) → IsFaultAmong limit most bytes e → IfTold {X = Y} (Err e) (λ f. IsFault limit bytes (Told f))
among_fault Y limit most bytes (Memory m) fault = tt
among_fault Y limit most bytes (Told f) (ws, rest, read, less, some, fails) = (ws, rest, read, some, fails)

pub front_fails : (Y : Type 0) (limit : ℕ) (bytes : List ℕ) (e : Fault CborError) → IfTold {X = Y} (Err e) (λ f. IsFault limit bytes (Told f)) → DecoderFails e (sequence_at trees limit bytes)
front_fails Y limit bytes (Memory m) fault = tt
front_fails Y limit bytes (Told f) fault = sequence_fails limit bytes (Told f) fault

pub behind_fails : (Y : Type 0) (o : Options) (bytes rest out : List ℕ) (e : Fault CborError) → IsDone o bytes rest out → IfTold {X = Y} (Err e) (λ f. IsFault o.limit rest (Told f)) → DecoderFails e (sequence_at trees o.limit bytes)
behind_fails Y o bytes rest out (Memory m) done fault = tt
behind_fails Y o bytes rest out (Told f) done fault = fault_behind o bytes rest out (Told f) done fault

-- bytes that are not empty
pub some_left : (bytes : List ℕ) → nat_eq (length bytes) 0 ≡ false → 0 < length bytes
some_left [] is = cc
some_left (b ∷ bytes) is = omega arith
