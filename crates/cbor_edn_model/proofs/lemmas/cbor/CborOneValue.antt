-- One value, one encoding, and no encoding begins another: the reader finds each value again.
use Rattle.std.proofs.Common.{◌≡◌, ℕ, ◌≤◌, max, List, ◌++◌, Ok, refl, sym, ap, ◌∙◌, arith}
use Rattle.cbor_edn_model.specs.cbor.Value.{Value, encoding, Enc}
use Rattle.cbor_edn_model.specs.cbor.CborLaws.{OneEncoding}
use Rattle.cbor_edn_model.proofs.lemmas.cbor.Nestings.{value_nesting}
use Rattle.cbor_edn_model.proofs.lemmas.cbor.CborHeads.{ok_is}
use Rattle.cbor_edn_model.proofs.lemmas.cbor.CborValues.{value_at}
use Rattle.cbor_edn_model.proofs.lemmas.cbor.CborOutcomes.{within}
use Rattle.cbor_edn_model.proofs.lemmas.cbor.CborAgain.{item_again}

reads : (v : Value) (front rest bytes : List ℕ) (limit : ℕ) → Enc front v → bytes ≡ front ++ rest → value_nesting v ≤ limit → value_at limit bytes ≡ Ok (v, rest)
reads v front rest bytes limit enc is le = ap (value_at limit) (is ∙ ap (λ (l : List ℕ). l ++ rest) enc.1) ∙ item_again v limit rest enc.0 ∙ within (value_nesting v) limit (v, rest) le

one_value : (a b r s : List ℕ) (v w : Value) → Enc a v → Enc b w → a ++ r ≡ b ++ s → (v ≡ w) × (a ≡ b) × (r ≡ s)
one_value a b r s v w left right same =
    let n = max (value_nesting v) (value_nesting w) in
    let first : value_at n (a ++ r) ≡ Ok (v, r) = reads v a r (a ++ r) n left refl (omega arith) in
    let second : value_at n (a ++ r) ≡ Ok (w, s) = reads w b s (a ++ r) n right same (omega arith) in
    let both : (v, r) ≡ (w, s) = ok_is (v, r) (w, s) (sym first ∙ second) in
    let values : v ≡ w = ap (λ (p : Value × List ℕ). p.0) both in
    (values, left.1 ∙ ap encoding values ∙ sym right.1, ap (λ (p : Value × List ℕ). p.1) both)

pub one_encoding_holds : OneEncoding
one_encoding_holds = (one_value, λ a b v left right. left.1 ∙ sym right.1)
