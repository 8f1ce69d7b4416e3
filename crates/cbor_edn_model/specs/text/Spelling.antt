-- What spells an item, and what spells a sequence: the grammar of EDN.
--   seq       = S [item *(MSC item) SOC]
--   one-item  = S item S
--   item      = map / array / tagged / number / simple / string / stream
--   array     = "[" (specms S item *(MSC item) SOC / spec S) "]"
--   map       = "{" (specms S keyp *(MSC keyp) SOC / spec S) "}"
--   keyp      = item S ":" S item
--   tagged    = uint spec "(" S item S ")"        uint = "0" / DIGIT1 *DIGIT, below 2^64
--   simple    = "false" / "true" / "null" / "undefined" / "simple(" S item S ")"
--   stream    = "(_" MS string *(MSC string) SOC ")"
--   string    = piece *(S "+" S piece)
--   piece     = (dquoted / [prefix] squoted / "<<" seq ">>") spec / 3*"."
--   number    = (hexfloat / hexint / octint / binint / decnumber / "Infinity" / "-Infinity" / "NaN") spec
--   specms    = ["_" suffix MS]
use Rattle.std.specs.Prelude.{ℕ, ◌<◌, ◌^◌, codes, List, [], ◌∷◌, ◌≡◌, ◌++◌, Option, Some, None}
use Rattle.std.specs.Fmt.{decimal}
use Rattle.cbor_edn_parts.specs.declared.base.indicator.Indicator.{Indicator}
use Rattle.cbor_edn_parts.specs.base.Indicator.{indicator_text}
use Rattle.cbor_edn_parts.specs.space.Space.{IsSpace, IsMandatorySpace, IsSeparator, IsListEnd}
use Rattle.cbor_edn_parts.specs.number.Number.{IsNumber}
use Rattle.cbor_edn_parts.specs.string.Literal.{IsQuoted, IsEllipsis}
use Rattle.cbor_edn_model.specs.text.Keywords.{named_text, simple_text, non_finite_text}
use Rattle.cbor_edn_model.specs.tree.Items.{Bracketed, Array, Map, Sort, Item, Node, Number, Float, Listed, Tagged, Named, Simple, String, Stream, Literal, Ellipsis, Embedded, LastPiece, Plus, Element, Pair, Chunk, End, Then, Items}

-- the bytes that open and end a list
abbrev pub open_byte : Bracketed → ℕ
open_byte Array = 91
open_byte Map = 123

abbrev pub close_byte : Bracketed → ℕ
close_byte Array = 93
close_byte Map = 125

-- specms
abbrev pub IsSpecms : Option Indicator → List ℕ → Type 0
IsSpecms None h = h ≡ []
IsSpecms (Some i) h = (ms : List ℕ) × IsMandatorySpace ms × (h ≡ indicator_text (Some i) ++ ms)

unfoldable mutual
  -- What spells an item, a part of one, an entry, or what follows the first entry of a row, *(MSC entry) SOC.
  pub Spells : {s : Sort} → Node s → List ℕ → Type 0
  -- (hexfloat / hexint / octint / binint / decnumber) spec
  Spells (Number x i) t = IsNumber x × (t ≡ x ++ indicator_text i)
  -- ("Infinity" / "-Infinity" / "NaN") spec
  Spells (Float f i) t = t ≡ non_finite_text f ++ indicator_text i
  -- "[" spec S "]", "{" spec S "}"
  Spells (Listed k i End) t = (s : List ℕ) × IsSpace s × (t ≡ open_byte k ∷ (indicator_text i ++ (s ++ (close_byte k ∷ []))))
  -- "[" specms S item *(MSC item) SOC "]", "{" specms S keyp *(MSC keyp) SOC "}"
  Spells (Listed k i (Then e m)) t = (h s a b : List ℕ) × IsSpecms i h × IsSpace s × Spells e a × Spells m b × (t ≡ open_byte k ∷ (h ++ (s ++ (a ++ (b ++ (close_byte k ∷ []))))))
  -- uint spec "(" S item S ")"
  Spells (Tagged n i w) t = (s a u : List ℕ) × (n < 2 ^ 64) × IsSpace s × Spells w a × IsSpace u × (t ≡ decimal n ++ (indicator_text i ++ (codes "(" ++ (s ++ (a ++ (u ++ codes ")"))))))
  -- "false" / "true" / "null" / "undefined"
  Spells (Named b) t = t ≡ named_text b
  -- "simple(" S item S ")"
  Spells (Simple w) t = (s a u : List ℕ) × IsSpace s × Spells w a × IsSpace u × (t ≡ simple_text ++ (codes "(" ++ (s ++ (a ++ (u ++ codes ")")))))
  Spells (String w) t = Spells w t
  -- "(_" MS string *(MSC string) SOC ")", with one string or more
  Spells (Stream End) t = ⊥
  Spells (Stream (Then e m)) t = (ms a b : List ℕ) × IsMandatorySpace ms × Spells e a × Spells m b × (t ≡ codes "(_" ++ (ms ++ (a ++ (b ++ codes ")"))))
  -- (dquoted / [prefix] squoted) spec
  Spells (Literal x i) t = IsQuoted x × (t ≡ x ++ indicator_text i)
  -- 3*"."
  Spells (Ellipsis x) t = IsEllipsis x × (t ≡ x)
  -- "<<" seq ">>" spec
  Spells (Embedded m i) t = (a : List ℕ) × SpellsSequence m a × (t ≡ codes "<<" ++ (a ++ (codes ">>" ++ indicator_text i)))
  Spells (LastPiece p) t = Spells p t
  -- piece *(S "+" S piece)
  Spells (Plus p w) t = (a s u b : List ℕ) × Spells p a × IsSpace s × IsSpace u × Spells w b × (t ≡ a ++ (s ++ (codes "+" ++ (u ++ b))))
  Spells (Element w) t = Spells w t
  -- keyp = item S ":" S item
  Spells (Pair v w) t = (a s u b : List ℕ) × Spells v a × IsSpace s × IsSpace u × Spells w b × (t ≡ a ++ (s ++ (codes ":" ++ (u ++ b))))
  Spells (Chunk w) t = Spells w t
  -- SOC, behind the last entry
  Spells End t = IsListEnd t
  -- MSC entry, and what follows it
  Spells (Then e m) t = (c a b : List ℕ) × IsSeparator c × Spells e a × Spells m b × (t ≡ c ++ (a ++ b))

  -- seq
  pub SpellsSequence : Items → List ℕ → Type 0
  SpellsSequence End t = IsSpace t
  SpellsSequence (Then e m) t = (s a b : List ℕ) × IsSpace s × Spells e a × Spells m b × (t ≡ s ++ (a ++ b))

-- one-item
unfoldable pub SpellsOne : Node Item → List ℕ → Type 0
SpellsOne w t = (s a u : List ℕ) × IsSpace s × Spells w a × IsSpace u × (t ≡ s ++ (a ++ u))
