-- What some items mean and how some values are encoded and decoded, computed.
use Rattle.std.proofs.Common.{[], ◌∷◌, ◌≡◌, refl}
use Rattle.std.specs.Prelude.{Some, None}
use Rattle.std.specs.Fmt.{digits}
use Rattle.cbor_edn_parts.specs.declared.base.indicator.Indicator.TheVariants as indicator
use Rattle.cbor_edn_parts.specs.internal.NumberReading.{integer_of}
use Rattle.cbor_edn_model.specs.declared.cbor.heads.Width.TheVariants.{Immediate, One, Two, Four, Eight}
use Rattle.cbor_edn_model.specs.declared.text.keyword.NamedSimple.TheVariants.{True, Null}
use Rattle.cbor_edn_model.specs.declared.text.keyword.NonFinite.TheVariants.{Infinity, NegativeInfinity, NaN}
use Rattle.cbor_edn_model.specs.tree.Items.{Number, Float, Tagged, Named, Simple, nesting}
use Rattle.cbor_edn_model.specs.cbor.Value.{unsigned, tag, simple, float, encoding, head}
use Rattle.cbor_edn_model.specs.cbor.Meaning.{means}
use Rattle.cbor_edn_model.specs.cbor.Decoded.{item_of}

-- Floating-point numbers.
floats :
    -- Infinity is f9 7c 00, and NaN f9 7e 00
    encoding (float Two Infinity) ≡ 0xf9 ∷ 0x7c ∷ 0 ∷ []
    × encoding (float Two NaN) ≡ 0xf9 ∷ 0x7e ∷ 0 ∷ []
    -- -Infinity_2 is fa ff 80 00 00
    × encoding (float Four NegativeInfinity) ≡ 0xfa ∷ 0xff ∷ 0x80 ∷ 0 ∷ 0 ∷ []
    -- NaN_3 is fb 7f f8 00 00 00 00 00 00
    × encoding (float Eight NaN) ≡ 0xfb ∷ 0x7f ∷ 0xf8 ∷ 0 ∷ 0 ∷ 0 ∷ 0 ∷ 0 ∷ 0 ∷ []
    -- without an indicator they have two bytes, and `_i` is no width
    × means (Float NaN None) ≡ Some (float Two NaN)
    × means (Float Infinity (Some indicator.Eight)) ≡ Some (float Eight Infinity)
    × means (Float NaN (Some indicator.Immediate)) ≡ None
    -- a decoded one has an indicator always
    × item_of (float Two NaN) ≡ Float NaN (Some indicator.Two)
unfolding means head
floats = (refl, refl, refl, refl, refl, refl, refl, refl)

-- Simple values.
simple_values :
    -- true is f5, and so is simple(21)
    means (Named True) ≡ Some (simple 21)
    × means (Simple (Number (50 ∷ 49 ∷ []) None)) ≡ Some (simple 21)
    × encoding (simple 21) ≡ 0xf5 ∷ []
    × item_of (simple 22) ≡ Named Null
    -- simple(24) and simple(256) mean nothing
    × means (Simple (Number (50 ∷ 52 ∷ []) None)) ≡ None
    × means (Simple (Number (50 ∷ 53 ∷ 54 ∷ []) None)) ≡ None
    -- simple(32) and simple(32_0) are f8 20
    × means (Simple (Number (51 ∷ 50 ∷ []) None)) ≡ Some (simple 32)
    × means (Simple (Number (51 ∷ 50 ∷ []) (Some indicator.One))) ≡ Some (simple 32)
    × encoding (simple 32) ≡ 0xf8 ∷ 0x20 ∷ []
    × item_of (simple 32) ≡ Simple (Number (51 ∷ 50 ∷ []) None)
    -- simple(4_i) has the shortest indicator, simple(4_0) has not
    × means (Simple (Number (52 ∷ []) (Some indicator.Immediate))) ≡ Some (simple 4)
    × means (Simple (Number (52 ∷ []) (Some indicator.One))) ≡ None
    -- simple(-1) and simple(true) mean nothing
    × means (Simple (Number (45 ∷ 49 ∷ []) None)) ≡ None
    × means (Simple (Named True)) ≡ None
    -- only those without a name nest
    × nesting (item_of (simple 21)) ≡ 0
    × nesting (item_of (simple 32)) ≡ 1
unfolding means head integer_of digits
simple_values = (refl, refl, refl, refl, refl, refl, refl, refl, refl, refl, refl, refl, refl, refl, refl, refl)

-- Tags.
tags :
    -- 1(2) is c1 02
    means (Tagged 1 None (Number (50 ∷ []) None)) ≡ Some (tag Immediate 1 (unsigned Immediate 2))
    × encoding (tag Immediate 1 (unsigned Immediate 2)) ≡ 0xc1 ∷ 0x02 ∷ []
    -- 1_0(2) is d8 01 02, and back
    × means (Tagged 1 (Some indicator.One) (Number (50 ∷ []) None)) ≡ Some (tag One 1 (unsigned Immediate 2))
    × encoding (tag One 1 (unsigned Immediate 2)) ≡ 0xd8 ∷ 0x01 ∷ 0x02 ∷ []
    × item_of (tag One 1 (unsigned Immediate 2)) ≡ Tagged 1 (Some indicator.One) (Number (50 ∷ []) None)
    -- 256_0(2) and 1_(2) mean nothing
    × means (Tagged 256 (Some indicator.One) (Number (50 ∷ []) None)) ≡ None
    × means (Tagged 1 (Some indicator.Indefinite) (Number (50 ∷ []) None)) ≡ None
    -- nor does 1(simple(24))
    × means (Tagged 1 None (Simple (Number (50 ∷ 52 ∷ []) None))) ≡ None
unfolding means head integer_of digits
tags = (refl, refl, refl, refl, refl, refl, refl, refl)
