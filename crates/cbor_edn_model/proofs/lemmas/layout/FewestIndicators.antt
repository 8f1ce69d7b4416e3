-- Items with fewer indicators, and bare items, which have fewest.
use Rattle.std.proofs.Common.{◌≡◌, refl, Option, None, inl, inr}
use Rattle.cbor_edn_parts.specs.declared.base.indicator.Indicator.{Indicator}
use Rattle.cbor_edn_model.specs.tree.Items.{Sort, Node, Number, Float, Listed, Tagged, Named, Simple, String, Stream, Literal, Ellipsis, Embedded, LastPiece, Plus, Element, Pair, Chunk, End, Then}
use Rattle.cbor_edn_model.specs.layout.Bare.{bare}
use Rattle.cbor_edn_model.specs.layout.Fewer.{IndicatorsBecome, number, float, listed, tagged, named, simple, string, stream, literal, ellipsis, embedded, last_piece, plus, element, pair, chunk, end, then, StaysOrGoes, Fewer}

abbrev pub Goes : Option Indicator → Option Indicator → Type 0
Goes i j = j ≡ None

pub bare_goes : {s : Sort} (x : Node s) → IndicatorsBecome Goes s x (bare x)
unfolding bare
bare_goes (Number x i) = number refl
bare_goes (Float f i) = float refl
bare_goes (Listed k i m) = listed refl (bare_goes m)
bare_goes (Tagged n i w) = tagged refl (bare_goes w)
bare_goes (Named b) = named
bare_goes (Simple w) = simple (bare_goes w)
bare_goes (String w) = string (bare_goes w)
bare_goes (Stream m) = stream (bare_goes m)
bare_goes (Literal x i) = literal refl
bare_goes (Ellipsis x) = ellipsis
bare_goes (Embedded m i) = embedded refl
bare_goes (LastPiece p) = last_piece (bare_goes p)
bare_goes (Plus p w) = plus (bare_goes p) (bare_goes w)
bare_goes (Element w) = element (bare_goes w)
bare_goes (Pair v w) = pair (bare_goes v) (bare_goes w)
bare_goes (Chunk w) = chunk (bare_goes w)
bare_goes End = end
bare_goes (Then e m) = then (bare_goes e) (bare_goes m)

module _ (R Q : Option Indicator → Option Indicator → Type 0) (weaker : (i j : Option Indicator) → R i j → Q i j) where
  pub weakened : {s : Sort} {x y : Node s} → IndicatorsBecome R s x y → IndicatorsBecome Q s x y
  weakened (number {i = i} {j = j} r) = number (weaker i j r)
  weakened (float {i = i} {j = j} r) = float (weaker i j r)
  weakened (listed {i = i} {j = j} r m) = listed (weaker i j r) (weakened m)
  weakened (tagged {i = i} {j = j} r w) = tagged (weaker i j r) (weakened w)
  weakened named = named
  weakened (simple w) = simple (weakened w)
  weakened (string w) = string (weakened w)
  weakened (stream m) = stream (weakened m)
  weakened (literal {i = i} {j = j} r) = literal (weaker i j r)
  weakened ellipsis = ellipsis
  weakened (embedded {i = i} {j = j} r) = embedded (weaker i j r)
  weakened (last_piece p) = last_piece (weakened p)
  weakened (plus p w) = plus (weakened p) (weakened w)
  weakened (element w) = element (weakened w)
  weakened (pair v w) = pair (weakened v) (weakened w)
  weakened (chunk w) = chunk (weakened w)
  weakened end = end
  weakened (then e m) = then (weakened e) (weakened m)

-- nothing goes
pub same_fewer : {s : Sort} (x : Node s) → Fewer x x
same_fewer (Number x i) = number (inl refl)
same_fewer (Float f i) = float (inl refl)
same_fewer (Listed k i m) = listed (inl refl) (same_fewer m)
same_fewer (Tagged n i w) = tagged (inl refl) (same_fewer w)
same_fewer (Named b) = named
same_fewer (Simple w) = simple (same_fewer w)
same_fewer (String w) = string (same_fewer w)
same_fewer (Stream m) = stream (same_fewer m)
same_fewer (Literal x i) = literal (inl refl)
same_fewer (Ellipsis x) = ellipsis
same_fewer (Embedded m i) = embedded (inl refl)
same_fewer (LastPiece p) = last_piece (same_fewer p)
same_fewer (Plus p w) = plus (same_fewer p) (same_fewer w)
same_fewer (Element w) = element (same_fewer w)
same_fewer (Pair v w) = pair (same_fewer v) (same_fewer w)
same_fewer (Chunk w) = chunk (same_fewer w)
same_fewer End = end
same_fewer (Then e m) = then (same_fewer e) (same_fewer m)

-- everything goes
pub bare_fewer : {s : Sort} (x : Node s) → Fewer x (bare x)
bare_fewer x = weakened Goes StaysOrGoes (λ i j e. inr e) (bare_goes x)
