-- Encoding indicators: spec = ["_" suffix], suffix = "" / "i" / "0" / "1" / "2" / "3".
use Rattle.std.specs.Prelude.{ℕ, cond, eqb, List, [], ◌∷◌, Option, Some, None}
use Rattle.cbor_edn_parts.specs.declared.base.indicator.Indicator.{Indicator}
use Rattle.cbor_edn_parts.specs.declared.base.indicator.Indicator.TheVariants.{Indefinite, Immediate, One, Two, Four, Eight}

abbrev pub suffix_text : Indicator → List ℕ
suffix_text Indefinite = []
suffix_text Immediate = 105 ∷ []
suffix_text One = 48 ∷ []
suffix_text Two = 49 ∷ []
suffix_text Four = 50 ∷ []
suffix_text Eight = 51 ∷ []

-- spec
abbrev pub indicator_text : Option Indicator → List ℕ
indicator_text None = []
indicator_text (Some i) = 95 ∷ suffix_text i

-- the suffix in front of a text, and what follows it
unfoldable pub suffix_at : List ℕ → Indicator × List ℕ
suffix_at [] = (Indefinite, [])
suffix_at (c ∷ xs) = cond (eqb c 105) (Immediate, xs) (cond (eqb c 48) (One, xs) (cond (eqb c 49) (Two, xs) (cond (eqb c 50) (Four, xs) (cond (eqb c 51) (Eight, xs) (Indefinite, c ∷ xs)))))

-- the indicator in front of a text, if any, and what follows it
unfoldable pub indicator_at : List ℕ → Option Indicator × List ℕ
indicator_at [] = (None, [])
indicator_at (c ∷ xs) = cond (eqb c 95) (Some (suffix_at xs).0, (suffix_at xs).1) (None, c ∷ xs)
