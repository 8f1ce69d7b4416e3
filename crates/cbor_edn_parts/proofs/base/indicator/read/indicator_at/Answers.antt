use Rattle.std.proofs.Common.{ℕ, ◌≡◌, ◌≢◌, ◌+◌, drop, List, [], ◌∷◌, Option, Some, None, refl, sym, ap, ◌∙◌}
use Rattle.std.proofs.lemmas.Bool.{ne_eqb}
use Rattle.cbor_edn_parts.specs.base.Indicator.{suffix_at, indicator_at}
use Rattle.cbor_edn_parts.specs.declared.base.indicator.Indicator.{Indicator}
use Rattle.cbor_edn_parts.specs.declared.base.indicator.Indicator.TheVariants.{Indefinite, Immediate, One, Two, Four, Eight}
use Rattle.cbor_edn_parts.specs.internal.Scans.{IsAt}
use Rattle.cbor_edn_parts.specs.internal.Input.{text_bytes}
use Rattle.cbor_edn_parts.proofs.base.indicator.read.indicator_at.Goals as goal

none_here : (text : List ℕ) (at : ℕ) (r : Option ℕ) → IsAt text at r → r ≡ None → drop at text ≡ []
none_here text at r h e = rw e at h

end_none : (xs : List ℕ) → xs ≡ [] → indicator_at xs ≡ (None, xs)
unfolding indicator_at
end_none xs e = rw e refl

other_none : (xs ys : List ℕ) (c : ℕ) → xs ≡ c ∷ ys → c ≢ 95 → indicator_at xs ≡ (None, xs)
unfolding indicator_at
other_none xs ys c e other = ap indicator_at e ∙ rw (ne_eqb c 95 other) (ap (λ (u : List ℕ). (None, u)) (sym e))

by_suffix : (xs ys : List ℕ) (c : ℕ) (i : Indicator) (zs : List ℕ) → xs ≡ c ∷ ys → c ≡ 95 → suffix_at ys ≡ (i, zs) → indicator_at xs ≡ (Some i, zs)
unfolding indicator_at
by_suffix xs ys c i zs e underscore suffix = rw (e, underscore) (ap (λ (p : Indicator × List ℕ). (Some p.0, p.1)) suffix)

suffix_by : (ys zs : List ℕ) (d b : ℕ) (i : Indicator) → ys ≡ d ∷ zs → d ≡ b → suffix_at (b ∷ zs) ≡ (i, zs) → suffix_at ys ≡ (i, zs)
suffix_by ys zs d b i e is suffix = ap suffix_at (e ∙ ap (λ k. k ∷ zs) is) ∙ suffix

bare_end : (ys : List ℕ) → ys ≡ [] → suffix_at ys ≡ (Indefinite, ys)
unfolding suffix_at
bare_end ys e = rw e refl

bare_other : (ys zs : List ℕ) (d : ℕ) → ys ≡ d ∷ zs → d ≢ 105 → d ≢ 48 → d ≢ 49 → d ≢ 50 → d ≢ 51 → suffix_at ys ≡ (Indefinite, ys)
unfolding suffix_at
bare_other ys zs d e i one two four eight =
    ap suffix_at e
    ∙ rw (ne_eqb d 105 i, ne_eqb d 48 one, ne_eqb d 49 two, ne_eqb d 50 four, ne_eqb d 51 eight) (ap (λ (u : List ℕ). (Indefinite, u)) (sym e))

pub returns-in_default-clause-value : goal.returns-in_default-clause-value
returns-in_default-clause-value c = other_none _ _ _ c.in_default.ensures.value.0 c.in_default.field-0-test.1

pub returns-in_default-2-clause-value : goal.returns-in_default-2-clause-value
returns-in_default-2-clause-value c = end_none _ (none_here (text_bytes c.args.text.now) c.args.from c.byte.result c.byte.ensures.value c.in_default.is)

pub returns-in-Some-eq105-clause-value : goal.returns-in-Some-eq105-clause-value
unfolding suffix_at
returns-in-Some-eq105-clause-value c = by_suffix _ _ _ Immediate _ c.in-Some-eq95.ensures.value.0 c.in-Some-eq95.field-0-test (suffix_by _ _ _ 105 Immediate c.in-Some-eq105.ensures.value.0 c.in-Some-eq105.field-0-test refl)

pub returns-in-Some-eq48-clause-value : goal.returns-in-Some-eq48-clause-value
unfolding suffix_at
returns-in-Some-eq48-clause-value c = by_suffix _ _ _ One _ c.in-Some-eq95.ensures.value.0 c.in-Some-eq95.field-0-test (suffix_by _ _ _ 48 One c.in-Some-eq48.ensures.value.0 c.in-Some-eq48.field-0-test refl)

pub returns-in-Some-eq49-clause-value : goal.returns-in-Some-eq49-clause-value
unfolding suffix_at
returns-in-Some-eq49-clause-value c = by_suffix _ _ _ Two _ c.in-Some-eq95.ensures.value.0 c.in-Some-eq95.field-0-test (suffix_by _ _ _ 49 Two c.in-Some-eq49.ensures.value.0 c.in-Some-eq49.field-0-test refl)

pub returns-in-Some-eq50-clause-value : goal.returns-in-Some-eq50-clause-value
unfolding suffix_at
returns-in-Some-eq50-clause-value c = by_suffix _ _ _ Four _ c.in-Some-eq95.ensures.value.0 c.in-Some-eq95.field-0-test (suffix_by _ _ _ 50 Four c.in-Some-eq50.ensures.value.0 c.in-Some-eq50.field-0-test refl)

pub returns-in-Some-eq51-clause-value : goal.returns-in-Some-eq51-clause-value
unfolding suffix_at
returns-in-Some-eq51-clause-value c = by_suffix _ _ _ Eight _ c.in-Some-eq95.ensures.value.0 c.in-Some-eq95.field-0-test (suffix_by _ _ _ 51 Eight c.in-Some-eq51.ensures.value.0 c.in-Some-eq51.field-0-test refl)

pub returns-in_default-byte-clause-value : goal.returns-in_default-byte-clause-value
returns-in_default-byte-clause-value c =
    let (((((_, i), one), two), four), eight) = c.in_default-byte.field-0-test in
    by_suffix _ _ _ Indefinite _ c.in-Some-eq95.ensures.value.0 c.in-Some-eq95.field-0-test (bare_other _ _ _ c.in_default-byte.ensures.value.0 i one two four eight)

pub returns-in_default-byte-2-clause-value : goal.returns-in_default-byte-2-clause-value
returns-in_default-byte-2-clause-value c =
    by_suffix _ _ _ Indefinite _ c.in-Some-eq95.ensures.value.0 c.in-Some-eq95.field-0-test (bare_end _ (none_here (text_bytes c.args.text.now) (c.args.from + 1) c.byte-2.result c.byte-2.ensures.value c.in_default-byte.is))
