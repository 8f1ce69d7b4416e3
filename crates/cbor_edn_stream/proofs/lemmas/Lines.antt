-- The layout of an item: by what its heads tell, and by whether it stands in the front of the bytes.
use Rattle.std.proofs.Common.{◌≡◌, ℕ, ◌-◌, ◌^◌, ◌≤◌, ◌<◌, take, drop, List, [], ◌∷◌, ◌++◌, length, Result, Ok, Err, refl, sym, ap, subst, ◌∙◌, arith, inl, inr}
use Rattle.std.specs.Prelude.{min}
use Rattle.std.proofs.lemmas.Bool.{cases_lt, lt-ltb, le-ltb}
use Rattle.cbor_edn_parts.specs.space.LayoutColumns.{of_parts, saturating_add}
use Rattle.cbor_edn_parts.specs.declared.base.error.Fault.{Fault}
use Rattle.cbor_edn_model.specs.declared.cbor.decode.CborError.{CborError}
use Rattle.cbor_edn_model.specs.text.Spelling.{open_byte, close_byte}
use Rattle.cbor_edn_model.specs.tree.Trees.{Tree, OneItem, ListTree, EnclosedTree, text, opener_text}
use Rattle.cbor_edn_model.specs.layout.Layout.{Layout, Kept, Inline, Lines, laid}
use Rattle.cbor_edn_model.specs.internal.CborReading.{Argument, head_at, item_at, trees}
use Rattle.cbor_edn_model.specs.internal.Widths.{measured}
use Rattle.cbor_edn_model.proofs.lemmas.cbor.CborHeads.{IsBytes}
use Rattle.cbor_edn_model.proofs.lemmas.layout.LaidTexts.{text_laid_enclosed, text_laid_list}
use Rattle.cbor_edn_stream.specs.declared.print.Nested.{Nested}
use Rattle.cbor_edn_stream.specs.declared.print.Nested.TheVariants as nested
use Rattle.cbor_edn_stream.specs.Printed.{Prints, Writes, WritesParts, nested_major, nested_by}
use Rattle.cbor_edn_stream.specs.Wide.{greatest, front_columns, front_room}
use Rattle.cbor_edn_stream.proofs.lemmas.Lengths.{line_width}
use Rattle.cbor_edn_stream.proofs.lemmas.Prefixes.{front_read, front_refused}
use Rattle.cbor_edn_stream.proofs.lemmas.Turns.{array_at, map_at, tag_at}

-- an item that is wider than what is left of the line has lines of its own
wide_parts : (l : Layout) (t : Tree OneItem) → front_columns l < line_width t → of_parts l (measured t) ≡ of_parts l greatest
wide_parts Kept t lt = refl
wide_parts (Inline column) t lt = refl
wide_parts (Lines base end level width) t lt =
    elim (cases_lt 18446744073709551615 width) [
      | inl big ↦ rw (lt-ltb (saturating_add (measured t) base) width (omega (arith, big)), lt-ltb (saturating_add 18446744073709551615 base) width (omega (arith, big))) refl
      | inr narrow ↦ (
          let first : width ≤ saturating_add (measured t) base = omega (arith, narrow, lt) in
          let second : width ≤ saturating_add 18446744073709551615 base = omega (arith, narrow) in
          rw (le-ltb (saturating_add (measured t) base) width first, le-ltb (saturating_add 18446744073709551615 base) width second) refl)
    ]

-- what is written of an item in which others nest, by the layout of its parts
pub parts_written : (l p : Layout) (t : Tree OneItem) (old new : List ℕ) → of_parts l (measured t) ≡ p → WritesParts p t old new → Writes l t old new
parts_written l p (ListTree k w) old new e is = is ∙ ap (λ (x : List ℕ). old ++ x) (ap (λ (m : Layout). open_byte k ∷ (text (laid m w) ++ (close_byte k ∷ []))) (sym e) ∙ sym (text_laid_list l k w))
parts_written l p (EnclosedTree opener w) old new e is = is ∙ ap (λ (x : List ℕ). old ++ x) (ap (λ (m : Layout). opener_text opener ++ (40 ∷ (text (laid m w) ++ (41 ∷ [])))) (sym e) ∙ sym (text_laid_enclosed l opener w))
parts_written l p _ old new e is = absurd is

-- ---- bytes behind a head

pub nested_at : (limit : ℕ) (n : Nested) (argument : Argument) (bytes behind : List ℕ) → head_at bytes ≡ Ok ((nested_major n, argument), behind) → item_at trees limit bytes ≡ nested_by n limit argument behind
nested_at limit nested.Array argument bytes behind read = array_at limit argument bytes behind read
nested_at limit nested.Map argument bytes behind read = map_at limit argument bytes behind read
nested_at limit nested.Tag argument bytes behind read = tag_at limit argument bytes behind read

-- what the front does not hold is wider
pub front_wider : (l parts : Layout) (limit n : ℕ) (bytes front : List ℕ) (e : CborError) → IsBytes bytes → n ≡ min (front_room l) (length bytes) → length bytes < 2 ^ 64
    → front ≡ take n bytes → item_at trees limit front ≡ Err e → parts ≡ of_parts l greatest → (t : Tree OneItem) (rest : List ℕ) → item_at trees limit bytes ≡ Ok (t, rest) → parts ≡ of_parts l (measured t)
front_wider l parts limit n bytes front e fits is small part refused given t rest read =
    let long = front_refused limit n bytes e (t, rest) fits (subst (λ (b : List ℕ). item_at trees limit b ≡ Err e) part refused) read in
    given ∙ sym (wide_parts l t (omega (arith, is, long.0, long.1, small)))

-- It is written by the layout that is known of its parts.
pub known_written : {X : Type 0} (view : X → List ℕ) (l parts : Layout) (limit : ℕ) (bytes old new : List ℕ) (r : Result X (Fault CborError)) → ((t : Tree OneItem) (rest : List ℕ) → item_at trees limit bytes ≡ Ok (t, rest) → parts ≡ of_parts l (measured t))
    → Prints (λ t. WritesParts parts t) view old new r (item_at trees limit bytes) → Prints (λ t. Writes l t) view old new r (item_at trees limit bytes)
known_written view l parts limit bytes old new (Ok x) known p = (p.0, p.1, parts_written l parts p.0 old new (sym (known p.0 (view x) p.1)) p.2)
known_written view l parts limit bytes old new (Err f) known p = p

-- What it holds is read from all.
pub front_written : (l : Layout) (limit n : ℕ) (bytes front behind rest old new : List ℕ) (t : Tree OneItem) → IsBytes bytes → front ≡ take n bytes → item_at trees limit front ≡ Ok (t, behind) → rest ≡ drop (length front - length behind) bytes → Writes l t old new
    → (w : Tree OneItem) × (item_at trees limit bytes ≡ Ok (w, rest)) × Writes l w old new
front_written l limit n bytes front behind rest old new t fits part read back is =
    let whole = front_read limit n bytes behind t fits (subst (λ (b : List ℕ). item_at trees limit b ≡ Ok (t, behind)) part read) in
    let same : drop (length (take n bytes) - length behind) bytes ≡ rest = ap (λ (b : List ℕ). drop (length b - length behind) bytes) (sym part) ∙ sym back in
    (t, whole ∙ ap (λ (b : List ℕ). Ok (t, b)) same, is)
