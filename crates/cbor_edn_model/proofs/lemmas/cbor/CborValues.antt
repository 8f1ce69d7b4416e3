-- The reader that makes values.
use Rattle.std.proofs.Common.{◌≡◌, ℕ, List, [], ◌∷◌, Option, Some, None, Ok, refl, ap}
use Rattle.cbor_edn_model.specs.declared.cbor.heads.Width.{Width}
use Rattle.cbor_edn_model.specs.cbor.Value as cbor
use Rattle.cbor_edn_model.specs.cbor.Value.{Value, array, Values, no_values, value, Pairs, no_pairs, pair, cbor_map}
use Rattle.cbor_edn_model.specs.internal.CborReading.{Argument, DecoderResult, Decoder, Makes, item_at}

abbrev pub values_of : List Value → Values
values_of [] = no_values
values_of (v ∷ vs) = value v (values_of vs)

abbrev pub pairs_of : List (Value × Value) → Pairs
pairs_of [] = no_pairs
pairs_of (p ∷ ps) = pair p.0 p.1 (pairs_of ps)

abbrev pub list_of : Values → List Value
list_of no_values = []
list_of (value v vs) = v ∷ list_of vs

abbrev pub pair_list_of : Pairs → List (Value × Value)
pair_list_of no_pairs = []
pair_list_of (pair k v ps) = (k, v) ∷ pair_list_of ps

pub values_of_list : (vs : Values) → values_of (list_of vs) ≡ vs
values_of_list no_values = refl
values_of_list (value v vs) = ap (value v) (values_of_list vs)

pub pairs_of_list : (ps : Pairs) → pairs_of (pair_list_of ps) ≡ ps
pairs_of_list no_pairs = refl
pairs_of_list (pair k v ps) = ap (pair k v) (pairs_of_list ps)

abbrev pub argument_width : Argument → Option Width
argument_width None = None
argument_width (Some (w, n)) = Some w

abbrev pub makes : Makes Value (Value × Value)
makes = record {
  unsigned = cbor.unsigned;
  negative = cbor.negative;
  string = cbor.string;
  chunks = cbor.chunks;
  array = λ argument vs. array (argument_width argument) (values_of vs);
  pair = λ k v. (k, v);
  cbor_map = λ argument ps. cbor_map (argument_width argument) (pairs_of ps);
  tag = cbor.tag;
  simple = cbor.simple;
  float = cbor.float;
}

abbrev pub value_at : ℕ → Decoder Value
value_at = item_at makes

-- what is read with these bytes behind it
abbrev pub in_front_of : {A : Type 0} → List ℕ → A → DecoderResult A
in_front_of rest x = Ok (x, rest)
