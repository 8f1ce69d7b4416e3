-- The text of a leaf: the bytes, wherever they stand.
use Rattle.std.specs.Prelude.{ℕ, List, take, ⊤, string_bytes}
use Rattle.cbor_edn_parts.specs.declared.base.leaf_text.LeafText.{LeafText}
use Rattle.cbor_edn_parts.specs.declared.base.leaf_text.LeafText.TheVariants.{Borrowed, Short, Long}
use Rattle.cbor_edn_parts.specs.declared.base.leaf_text.ShortText.{ShortText}

abbrev pub short_bytes : ShortText → List ℕ
short_bytes t = take t.length t.bytes

abbrev pub leaf_bytes : LeafText → List ℕ
leaf_bytes (Borrowed s) = s.now
leaf_bytes (Short s) = short_bytes s
leaf_bytes (Long s) = string_bytes s.value

-- a part of what was read
abbrev pub IsBorrowed : LeafText → Type 0
IsBorrowed (Borrowed s) = ⊤
IsBorrowed (Short s) = ⊥
IsBorrowed (Long s) = ⊥
