-- What is pushed of an integer is the encoding of what it means.
use Rattle.std.proofs.Common.{◌≡◌, ℕ, pos, negsuc, ◌^◌, ◌<◌, ◌≤◌, Bool, true, false, cond, ltb, List, ◌++◌, Option, Some, Result, Ok, Err, refl, sym, ap, ◌∙◌}
use Rattle.std.proofs.lemmas.Bool.{lt-ltb, le-ltb}
use Rattle.cbor_edn_parts.specs.declared.base.error.Fault.{Fault}
use Rattle.cbor_edn_parts.specs.declared.base.error.Fault.TheVariants.{Memory, Told}
use Rattle.cbor_edn_parts.specs.declared.base.error.InconsistentEdn.{InconsistentEdn}
use Rattle.cbor_edn_parts.specs.declared.base.indicator.Indicator.{Indicator}
use Rattle.cbor_edn_model.specs.declared.cbor.heads.Width.{Width}
use Rattle.cbor_edn_model.specs.cbor.Value.{Value, unsigned, negative, head, encoding}
use Rattle.cbor_edn_model.specs.cbor.Meaning.{◌>>=◌, width_of, no_indicator, tagged_bytes, magnitude_bytes, bignum, means_integer}
use Rattle.cbor_edn_model.specs.internal.Encoding.{Encodes}

abbrev Pushed : Type 0
Pushed = Result (Unit {0}) (Fault InconsistentEdn)

made : (o : Option Width) (make : Width → Value) (spelled : Width → List ℕ) (old new : List ℕ) (r : Pushed) → ((w : Width) → encoding (make w) ≡ spelled w) → Encodes spelled o old new r → Encodes encoding (o >>= λ w. Some (make w)) old new r
made o make spelled old new (Ok u) same (w, is, e) = (make w, rw is refl, e ∙ ap (λ (l : List ℕ). old ++ l) (sym (same w)))
made o make spelled old new (Err (Told e)) same none = rw none refl
made o make spelled old new (Err (Memory e)) same none = tt

abbrev is_small : ℕ → Bool
is_small n = ltb n (2 ^ 64)

pub positive_small : (i : Option Indicator) (n m : ℕ) (old new : List ℕ) (r : Pushed) → m ≡ n → m < 2 ^ 64 → Encodes (λ w. head 0 w m) (width_of i m) old new r → Encodes encoding (means_integer i (pos n)) old new r
positive_small i n m old new r same lt pushed =
    let small : is_small m ≡ true = lt-ltb m (2 ^ 64) lt in
    rw (← same, small) (made (width_of i m) (λ w. unsigned w m) (λ w. head 0 w m) old new r (λ w. refl) pushed)

pub negative_small : (i : Option Indicator) (n m : ℕ) (old new : List ℕ) (r : Pushed) → m ≡ n → m < 2 ^ 64 → Encodes (λ w. head 1 w m) (width_of i m) old new r → Encodes encoding (means_integer i (negsuc n)) old new r
negative_small i n m old new r same lt pushed =
    let small : is_small m ≡ true = lt-ltb m (2 ^ 64) lt in
    rw (← same, small) (made (width_of i m) (λ w. negative w m) (λ w. head 1 w m) old new r (λ w. refl) pushed)

large_is : (n magnitude number : ℕ) (i : Option Indicator) (small : Option Value) → 2 ^ 64 ≤ n → magnitude < 2 ^ 128 → cond (ltb n (2 ^ 64)) small (bignum number n magnitude i) ≡ no_indicator i (tagged_bytes number (magnitude_bytes n))
large_is n magnitude number i small le lt =
    let large : is_small n ≡ false = le-ltb n (2 ^ 64) le in
    let below : ltb magnitude (2 ^ 128) ≡ true = lt-ltb magnitude (2 ^ 128) lt in
    rw (large, below) refl
