-- Where bytes are refused: at a head.
use Rattle.std.specs.Prelude.{◌≡◌, ◌≢◌, ℕ, ◌<◌, ◌≤◌, List, [], ◌∷◌, ◌++◌, length}
use Rattle.std.specs.List.{flat_map, AllByRecursion}
use Rattle.cbor_edn_parts.specs.declared.string.StringKind.{StringKind}
use Rattle.cbor_edn_model.specs.declared.cbor.heads.Width.{Width}
use Rattle.cbor_edn_model.specs.tree.Items.{nesting}
use Rattle.cbor_edn_model.specs.cbor.Value.{Values, EncAll, Chunk, head, open_head, ArgumentFits, ChunkFits, chunk_encoding}
use Rattle.cbor_edn_model.specs.cbor.Decoded.{items_of}

-- The bytes encode values one behind the other, whose items nest no deeper than the limit.
pub record IsSequence (limit : ℕ) (bytes : List ℕ) : Type 0 where
  pub values : Values
  pub encoded : EncAll bytes values
  pub within : nesting (items_of values) ≤ limit

-- The bytes are a head (RFC 8949, section 3): with an argument, of indefinite length, which a break has too, or that of a string with its bytes.
pub data IsHead (bytes : List ℕ) : Type 0 where
  with_argument : (major : ℕ) (w : Width) (n : ℕ) → major < 8 → major ≢ 2 → major ≢ 3 → ArgumentFits w n → bytes ≡ head major w n → IsHead bytes
  indefinite : (major : ℕ) → major < 8 → bytes ≡ open_head major ∷ [] → IsHead bytes
  of_string : (k : StringKind) (c : Chunk) → ChunkFits k c → bytes ≡ chunk_encoding k c → IsHead bytes

-- The bytes are whole heads, one behind the other.
abbrev pub AreHeads : List ℕ → Type 0
AreHeads bytes = (heads : List (List ℕ)) × AllByRecursion IsHead heads × (bytes ≡ flat_map (λ h. h) heads)

-- The bytes begin with these, which are whole heads, and with which such a sequence may begin.
pub record IsSoundFront (limit : ℕ) (bytes front : List ℕ) : Type 0 where
  pub behind : List ℕ
  pub parts : bytes ≡ front ++ behind
  pub heads : AreHeads front
  pub others : List ℕ
  pub begins : IsSequence limit (front ++ others)

-- The longest such front has this length: behind it stands a head that is not whole or may not stand there, or an item is missing.
abbrev pub IsFaultOffset : ℕ → List ℕ → ℕ → Type 0
IsFaultOffset limit bytes offset = (front : List ℕ) × IsSoundFront limit bytes front × (length front ≡ offset) × ((other : List ℕ) → IsSoundFront limit bytes other → length other ≤ offset)
