-- Where the first item begins that has no encoding, as a call tells it.
use Rattle.std.proofs.Common.{◌≡◌, ℕ, List, sym, subst}
use Rattle.cbor_edn_parts.specs.base.Location.{IsLocation}
use Rattle.cbor_edn_command.specs.declared.options.Options.{Options}
use Rattle.cbor_edn_findings.specs.WithoutEncoding.{IsFirstWithout, NoneWithout}
use Rattle.cbor_edn_findings.proofs.ToldPlaces.{boundary}
use Rattle.cbor_edn_c.specs.Places.{IsPlaceAt, IsTextPlace}
use Rattle.cbor_edn_c_calls.specs.declared.place.Place.{Place}
use Rattle.cbor_edn_c_calls.specs.declared.place.Place.TheVariants.{Nowhere, NotFound, InText, InBytes}

pub told_place : (o : Options) (text input : List ℕ) (offset : ℕ) (p : Place) → text ≡ input → IsFirstWithout o text offset → IsPlaceAt text offset p → IsTextPlace o input p
told_place o text input offset Nowhere same first none = absurd (none (boundary o text offset first))
told_place o text input offset NotFound same first bad = absurd bad
told_place o text input offset (InText at line column) same first (is, place) =
    (subst (λ t. IsFirstWithout o t at) same (subst (IsFirstWithout o text) (sym is) first), subst (λ t. IsLocation t at line column) same (subst (λ n. IsLocation text n line column) (sym is) place))
told_place o text input offset (InBytes at) same first bad = absurd bad

pub none_told : (o : Options) (text input : List ℕ) → text ≡ input → NoneWithout o text → NoneWithout o input
none_told o text input same none = subst (NoneWithout o) same none
