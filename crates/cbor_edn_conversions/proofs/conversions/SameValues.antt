-- Items that mean the same bytes mean the same value, and indicators that say no more than their arguments.
use Rattle.std.proofs.Common.{ℕ, ℤ, pos, negsuc, ◌^◌, ◌<◌, ◌≤◌, ◌≡◌, Bool, true, false, cond, nat_lt, List, [], ◌∷◌, ◌++◌, Option, Some, None, refl, sym, ap, ◌∙◌, subst, arith, lt-ltb, le-ltb}
use Rattle.std.specs.Prelude.{option_and_then}
use Rattle.std.specs.List.{list_all}
use Rattle.std.proofs.lemmas.Bool.{and_parts, ltb-true, leb-true}
use Rattle.std.proofs.lemmas.List.Elements.{All-nil, All-cons, All-head, All-tail}
use Rattle.cbor_edn_parts.specs.declared.base.indicator.Indicator.{Indicator}
use Rattle.cbor_edn_parts.specs.declared.base.indicator.Indicator.TheVariants as indicator
use Rattle.cbor_edn_parts.proofs.lemmas.string.LiteralPrefixes.{same-found}
use Rattle.cbor_edn_model.specs.declared.cbor.heads.Width.TheVariants.{Immediate, One, Two, Four, Eight}
use Rattle.cbor_edn_model.specs.cbor.Meaning.{◌>>=◌, means, means_integer, width_of, shortest, fitting}
use Rattle.cbor_edn_model.specs.tree.Trees.{Tree, OneItem, items}
use Rattle.cbor_edn_model.specs.cbor.Value.{Value, unsigned, negative, encoding, AreBytes, Fits, Enc}
use Rattle.cbor_edn_model.proofs.lemmas.cbor.MeaningSteps.{given, some_is}
use Rattle.cbor_edn_model.proofs.lemmas.cbor.Meanings.{meaning_fits}
use Rattle.cbor_edn_model.proofs.lemmas.cbor.CborOneValue.{one_encoding_holds}
use Rattle.cbor_edn_conversions.specs.Conversions.{encoded, are_same, mean_the_same, is_shortest, argument}
use Rattle.cbor_edn_conversions.specs.ConversionLaws.{EncodingsComputed}

-- ---- the same bytes

bytes_true : (bs : List ℕ) → list_all (λ b. nat_lt b 256) bs ≡ true → AreBytes bs
bytes_true [] e = All-nil (λ b. b < 256)
bytes_true (b ∷ bs) e = let both = and_parts _ _ e in All-cons (λ b. b < 256) b bs (ltb-true b 256 both.0) (bytes_true bs both.1)

record SameEncodings (o p : Option Value) : Type 0 where
  pub x : Value
  pub y : Value
  pub left : o ≡ Some x
  pub right : p ≡ Some y
  pub same : encoding x ≡ encoding y
  pub are_bytes : AreBytes (encoding x)
  pub too : AreBytes (encoding y)

same_by : (x y : Value) (a b : Bool) → list_all (λ b. nat_lt b 256) (encoding x) ≡ a → list_all (λ b. nat_lt b 256) (encoding y) ≡ b
    → are_same (cond a (Some (encoding x)) None) (cond b (Some (encoding y)) None) ≡ true → SameEncodings (Some x) (Some y)
same_by x y true true p q e = record { x = x; y = y; left = refl; right = refl; same = same-found (encoding x) (encoding y) e; are_bytes = bytes_true (encoding x) p; too = bytes_true (encoding y) q }
same_by x y true false p q e = absurd cc
same_by x y false b p q e = absurd cc

same_options : (o p : Option Value) → are_same (option_and_then encoded o) (option_and_then encoded p) ≡ true → SameEncodings o p
same_options None p e = absurd cc
same_options (Some x) None e = by (list_all (λ b. nat_lt b 256) (encoding x)) e
  where
    by : (a : Bool) → are_same (cond a (Some (encoding x)) None) None ≡ true → SameEncodings (Some x) None
    by true e = absurd cc
    by false e = absurd cc
same_options (Some x) (Some y) e = same_by x y _ _ refl refl e

-- Two items mean one value that can be encoded.
pub record MeanOne (w v : Tree OneItem) : Type 0 where
  pub value : Value
  pub left : means (items w) ≡ Some value
  pub right : means (items v) ≡ Some value
  pub fits : Fits value

pub mean_one : (w v : Tree OneItem) → mean_the_same w v ≡ true → MeanOne w v
mean_one w v e =
    let h = same_options (means (items w)) (means (items v)) e in
    let left = meaning_fits (items w) h.x h.left h.are_bytes in
    let right = meaning_fits (items v) h.y h.right h.too in
    let one = one_encoding_holds.0 (encoding h.x) (encoding h.y) [] [] h.x h.y (left, refl) (right, refl) (ap (λ (l : List ℕ). l ++ []) h.same) in
    record { value = h.x; left = h.left; right = h.right ∙ ap (λ (x : Value). Some x) (sym one.0); fits = left }

-- ---- indicators

shortest_one : (n : ℕ) → 24 ≤ n → n < 2 ^ 8 → shortest n ≡ One
shortest_one n low high = rw (le-ltb n 24 low, lt-ltb n (2 ^ 8) high) refl

shortest_two : (n : ℕ) → 2 ^ 8 ≤ n → n < 2 ^ 16 → shortest n ≡ Two
shortest_two n low high = rw (le-ltb n 24 (omega arith), le-ltb n (2 ^ 8) low, lt-ltb n (2 ^ 16) high) refl

shortest_four : (n : ℕ) → 2 ^ 16 ≤ n → n < 2 ^ 32 → shortest n ≡ Four
shortest_four n low high = rw (le-ltb n 24 (omega arith), le-ltb n (2 ^ 8) (omega arith), le-ltb n (2 ^ 16) low, lt-ltb n (2 ^ 32) high) refl

shortest_eight : (n : ℕ) → 2 ^ 32 ≤ n → shortest n ≡ Eight
shortest_eight n low = rw (le-ltb n 24 (omega arith), le-ltb n (2 ^ 8) (omega arith), le-ltb n (2 ^ 16) (omega arith), le-ltb n (2 ^ 32) low) refl

shortest_immediate : (n : ℕ) → n < 24 → shortest n ≡ Immediate
shortest_immediate n high = rw (lt-ltb n 24 high) refl

pub narrow_width : (i : Option Indicator) (n : ℕ) → is_shortest i n ≡ true → width_of i n ≡ width_of None n
narrow_width None n e = refl
narrow_width (Some indicator.Indefinite) n e = absurd cc
narrow_width (Some indicator.Immediate) n e = ap (λ w. fitting w n) (sym (shortest_immediate n (ltb-true n 24 e)))
narrow_width (Some indicator.One) n e = let both = and_parts _ _ e in ap (λ w. fitting w n) (sym (shortest_one n (leb-true 24 n both.0) (ltb-true n (2 ^ 8) both.1)))
narrow_width (Some indicator.Two) n e = let both = and_parts _ _ e in ap (λ w. fitting w n) (sym (shortest_two n (leb-true (2 ^ 8) n both.0) (ltb-true n (2 ^ 16) both.1)))
narrow_width (Some indicator.Four) n e = let both = and_parts _ _ e in ap (λ w. fitting w n) (sym (shortest_four n (leb-true (2 ^ 16) n both.0) (ltb-true n (2 ^ 32) both.1)))
narrow_width (Some indicator.Eight) n e = let both = and_parts _ _ e in ap (λ w. fitting w n) (sym (shortest_eight n (leb-true (2 ^ 32) n both.0)))

pub plain_integer : (i : Option Indicator) (z : ℤ) → argument z < 2 ^ 64 → is_shortest i (argument z) ≡ true → means_integer i z ≡ means_integer None z
plain_integer i (pos n) high e = let small = lt-ltb n (2 ^ 64) high in rw small (ap (λ o. o >>= λ w. Some (unsigned w n)) (narrow_width i n e))
plain_integer i (negsuc n) high e = let small = lt-ltb n (2 ^ 64) high in rw small (ap (λ o. o >>= λ w. Some (negative w n)) (narrow_width i n e))

-- ---- the bytes of an item

bytes_back : (bs : List ℕ) → AreBytes bs → list_all (λ b. nat_lt b 256) bs ≡ true
bytes_back [] h = refl
bytes_back (b ∷ bs) h = rw (lt-ltb b 256 (All-head (λ b. b < 256) b bs h), bytes_back bs (All-tail (λ b. b < 256) b bs h)) refl

abbrev Encodes : Tree OneItem → List ℕ → Type 0
Encodes w bs = (v : Value) × (means (items w) ≡ Some v) × Enc bs v × AreBytes bs

encodes_by : (w : Tree OneItem) (bs : List ℕ) (v : Value) (b : Bool) → means (items w) ≡ Some v → list_all (λ b. nat_lt b 256) (encoding v) ≡ b → cond b (given (encoding v)) None ≡ given bs → Encodes w bs
encodes_by w bs v false is p e = absurd cc
encodes_by w bs v true is p e =
    let same = some_is (encoding v) bs e in
    let all = bytes_true (encoding v) p in
    (v, is, (meaning_fits (items w) v is all, sym same), subst AreBytes same all)

encodes_of : (w : Tree OneItem) (bs : List ℕ) (o : Option Value) → means (items w) ≡ o → option_and_then encoded o ≡ Some bs → Encodes w bs
encodes_of w bs None is e = absurd cc
encodes_of w bs (Some v) is e = encodes_by w bs v _ is refl e

encoded_back : (bs : List ℕ) (v : Value) → Enc bs v → AreBytes bs → encoded v ≡ Some bs
encoded_back bs v enc all = let test = bytes_back (encoding v) (subst AreBytes enc.1 all) in ap (λ b. cond b (given (encoding v)) None) test ∙ ap (λ x. given x) (sym enc.1)

pub encodings_computed : EncodingsComputed
encodings_computed w bs = (λ e. encodes_of w bs (means (items w)) refl e, λ h. ap (option_and_then encoded) h.1 ∙ encoded_back bs h.0 h.2 h.3)
