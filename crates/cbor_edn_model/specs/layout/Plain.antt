-- What a value is, whatever the form of its heads.
use Rattle.std.specs.Prelude.{ℕ, ℤ, pos, negsuc, ◌≡◌, List, [], ◌∷◌, ◌++◌, length, Some}
use Rattle.cbor_edn_parts.specs.declared.string.StringKind.{StringKind}
use Rattle.cbor_edn_model.specs.declared.text.keyword.NonFinite.{NonFinite}
use Rattle.cbor_edn_model.specs.declared.cbor.heads.Width.TheVariants.{Two}
use Rattle.cbor_edn_model.specs.cbor.Value as values
use Rattle.cbor_edn_model.specs.cbor.Value.{Value, Values, Pairs, values_len, pairs_len}
use Rattle.cbor_edn_model.specs.cbor.Meaning.{shortest}

-- Values without the widths of their arguments, and without a difference between definite and indefinite length. Tags stay as they are.
mutual
  pub data Plain : Type 0 where
    integer : ℤ → Plain
    string : StringKind → List ℕ → Plain
    array : Plains → Plain
    -- a map
    cbor_map : PlainPairs → Plain
    tag : ℕ → Plain → Plain
    simple : ℕ → Plain
    float : NonFinite → Plain

  pub data Plains : Type 0 where
    no_plains : Plains
    one_plain : Plain → Plains → Plains

  pub data PlainPairs : Type 0 where
    no_plain_pairs : PlainPairs
    plain_pair : Plain → Plain → PlainPairs → PlainPairs

-- the bytes of chunks, one behind the other
abbrev pub concatenated : List values.Chunk → List ℕ
concatenated [] = []
concatenated (c ∷ cs) = c.1 ++ concatenated cs

-- The plain value: that of 18 01 is that of 01, that of 9f 01 ff that of 81 01, and that of 5f 41 61 41 62 ff that of 42 61 62.
abbrev mutual
  pub plain : Value → Plain
  plain (values.unsigned w n) = integer (pos n)
  plain (values.negative w n) = integer (negsuc n)
  plain (values.string k w bs) = string k bs
  plain (values.chunks k cs) = string k (concatenated cs)
  plain (values.array w vs) = array (plain_values vs)
  plain (values.cbor_map w ps) = cbor_map (plain_pairs ps)
  plain (values.tag w n v) = tag n (plain v)
  plain (values.simple n) = simple n
  plain (values.float w f) = float f

  pub plain_values : Values → Plains
  plain_values values.no_values = no_plains
  plain_values (values.value v vs) = one_plain (plain v) (plain_values vs)

  pub plain_pairs : Pairs → PlainPairs
  plain_pairs values.no_pairs = no_plain_pairs
  plain_pairs (values.pair k v ps) = plain_pair (plain k) (plain v) (plain_pairs ps)

abbrev pub ChunksAreShort : List values.Chunk → Type 0
ChunksAreShort [] = Unit {0}
ChunksAreShort (c ∷ cs) = (c.0 ≡ shortest (length c.1)) × ChunksAreShort cs

-- Each head is the shortest of its argument, and only strings have indefinite length. (Floating-point numbers have two bytes.)
abbrev mutual
  pub IsShort : Value → Type 0
  IsShort (values.unsigned w n) = w ≡ shortest n
  IsShort (values.negative w n) = w ≡ shortest n
  IsShort (values.string k w bs) = w ≡ shortest (length bs)
  IsShort (values.chunks k cs) = ChunksAreShort cs
  IsShort (values.array w vs) = (w ≡ Some (shortest (values_len vs))) × AreShort vs
  IsShort (values.cbor_map w ps) = (w ≡ Some (shortest (pairs_len ps))) × PairsAreShort ps
  IsShort (values.tag w n v) = (w ≡ shortest n) × IsShort v
  IsShort (values.simple n) = Unit {0}
  IsShort (values.float w f) = w ≡ Two

  pub AreShort : Values → Type 0
  AreShort values.no_values = Unit {0}
  AreShort (values.value v vs) = IsShort v × AreShort vs

  pub PairsAreShort : Pairs → Type 0
  PairsAreShort values.no_pairs = Unit {0}
  PairsAreShort (values.pair k v ps) = IsShort k × IsShort v × PairsAreShort ps
