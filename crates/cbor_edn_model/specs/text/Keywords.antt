-- The keywords of the grammar.
use Rattle.std.specs.Prelude.{ℕ, List, [], ◌∷◌}
use Rattle.cbor_edn_model.specs.declared.text.keyword.NamedSimple.{NamedSimple}
use Rattle.cbor_edn_model.specs.declared.text.keyword.NamedSimple.TheVariants.{False, True, Null, Undefined}
use Rattle.cbor_edn_model.specs.declared.text.keyword.NonFinite.{NonFinite}
use Rattle.cbor_edn_model.specs.declared.text.keyword.NonFinite.TheVariants.{Infinity, NegativeInfinity, NaN}
use Rattle.cbor_edn_model.specs.declared.text.keyword.Keyword.{Keyword}
use Rattle.cbor_edn_model.specs.declared.text.keyword.Keyword.TheVariants as keyword

-- "false" / "true" / "null" / "undefined"
abbrev pub named_text : NamedSimple → List ℕ
named_text False = 102 ∷ 97 ∷ 108 ∷ 115 ∷ 101 ∷ []
named_text True = 116 ∷ 114 ∷ 117 ∷ 101 ∷ []
named_text Null = 110 ∷ 117 ∷ 108 ∷ 108 ∷ []
named_text Undefined = 117 ∷ 110 ∷ 100 ∷ 101 ∷ 102 ∷ 105 ∷ 110 ∷ 101 ∷ 100 ∷ []

-- "simple"
abbrev pub simple_text : List ℕ
simple_text = 115 ∷ 105 ∷ 109 ∷ 112 ∷ 108 ∷ 101 ∷ []

-- "Infinity" / "-Infinity" / "NaN"
abbrev pub non_finite_text : NonFinite → List ℕ
non_finite_text Infinity = 73 ∷ 110 ∷ 102 ∷ 105 ∷ 110 ∷ 105 ∷ 116 ∷ 121 ∷ []
non_finite_text NegativeInfinity = 45 ∷ 73 ∷ 110 ∷ 102 ∷ 105 ∷ 110 ∷ 105 ∷ 116 ∷ 121 ∷ []
non_finite_text NaN = 78 ∷ 97 ∷ 78 ∷ []

abbrev pub keyword_text : Keyword → List ℕ
keyword_text (keyword.Named b) = named_text b
keyword_text keyword.Simple = simple_text
keyword_text (keyword.NonFinite f) = non_finite_text f
