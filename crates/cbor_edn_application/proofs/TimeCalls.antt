-- What calls at time literals and at tags 1 convert.
use Rattle.std.proofs.Common.{ℕ, ℤ, ◌≡◌, ◌≢◌, ◌==◌, Bool, true, false, cond, codes, List, Option, Some, None, Ok, Err, refl, sym, ap, ◌∙◌, ne_eqb}
use Rattle.std.proofs.lemmas.Bool.{eqb-true}
use Rattle.cbor_edn_parts.specs.declared.base.indicator.Indicator.{Indicator}
use Rattle.cbor_edn_parts.specs.internal.ContentReading.{same}
use Rattle.cbor_edn_parts.proofs.lemmas.string.LiteralPrefixes.{differ}
use Rattle.cbor_edn_model.specs.declared.text.opener.OpenerKind.TheVariants as opener
use Rattle.cbor_edn_model.specs.visit.Seeking.{number}
use Rattle.cbor_edn_model.specs.tree.Trees.{Tree, OneItem, NumberTree, FloatTree, NamedTree, EnclosedTree, ListTree, StringTree, StreamTree}
use Rattle.cbor_edn_times_and_addresses.specs.Time.{HasInstant}
use Rattle.cbor_edn_times_and_addresses.specs.internal.TimeComputing.{instant_of, instant_number}
use Rattle.cbor_edn_times_and_addresses.proofs.TimeComputed.{instant_computed, instant_answered}
use Rattle.cbor_edn_conversions.specs.Conversions.{Conversion, in_tag, called_tag, without_tag}
use Rattle.cbor_edn_conversions.specs.Times.{instant_item, time_item, time_of_literal, time_literal, time_of_tag}

abbrev ok : Tree OneItem → Conversion
ok v = Ok v

-- ---- literals

abbrev by_tests : Bool → Bool → List ℕ → Option Conversion
by_tests a b t = cond a (Some (time_item false t)) (cond b (Some (time_item true t)) None)

pub of_other : (p t : List ℕ) → p ≢ codes "dt" → p ≢ codes "DT" → time_of_literal p t ≡ None
of_other p t small large = ap (λ a. by_tests a (same p (codes "DT")) t) (differ p (codes "dt") small) ∙ ap (λ b. by_tests false b t) (differ p (codes "DT") large)

-- what the instant of a text becomes
pub time_is : (wrap : Bool) (t u : List ℕ) (s : ℤ) (n : ℕ) (v : Tree OneItem) → HasInstant u s n → u ≡ t → v ≡ in_tag wrap 1 (NumberTree (instant_number s n) None) → time_item wrap t ≡ Ok v
time_is wrap t u s n v has same is = ap (instant_item wrap) (ap instant_of (sym same) ∙ (instant_computed u s n).0 has) ∙ ap ok (sym is)

pub no_time : (wrap : Bool) (t u : List ℕ) → ((s : ℤ) (n : ℕ) → ¬ HasInstant u s n) → u ≡ t → time_item wrap t ≡ Err (codes "DateTime parsing failed")
no_time wrap t u none same = ap (instant_item wrap) (ap instant_of (sym same) ∙ instant_answered u None tt (λ h. none))

-- ---- tags

other_by : (n m : ℕ) (i : Option Indicator) (c : Tree OneItem) (b : Bool) → (n == m) ≡ b → n ≢ 1 → time_of_tag (cond b (Some (m, i, c)) None) ≡ None
other_by n m i c false e other = refl
other_by n m i c true e other = let same = eqb-true n m e in rw (ne_eqb m 1 (λ one. other (same ∙ one)))

pub other_tag : (n : ℕ) (w : Tree OneItem) → n ≢ 1 → time_of_tag (called_tag (number n) w) ≡ None
other_tag n (EnclosedTree (opener.Tag i m) w) other = other_by n m i _ (n == m) refl other
other_tag n (EnclosedTree opener.Simple w) other = refl
other_tag n (NumberTree x i) other = refl
other_tag n (FloatTree f i) other = refl
other_tag n (NamedTree b) other = refl
other_tag n (ListTree k w) other = refl
other_tag n (StringTree w) other = refl
other_tag n (StreamTree s m) other = refl

pub of_tag : (n : ℕ) (i : Option Indicator) (c w : Tree OneItem) → n ≡ 1 → Some (n, i, c) ≡ called_tag (number n) w → time_of_tag (called_tag (number n) w) ≡ Some (without_tag i 1 (time_literal c true))
of_tag n i c w one called = ap time_of_tag (sym called) ∙ ap (λ n. time_of_tag (Some (n, i, c))) one
