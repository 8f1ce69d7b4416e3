-- What a caller does at the values of a map.
use Rattle.std.specs.Prelude.{Option, Some}
use Rattle.cbor_edn.specs.Decoded.{alone}
use Rattle.cbor_edn.specs.Constructed.{tagged_tree}
use Rattle.cbor_edn.specs.Trees.{Tree, OneItem}
use Rattle.cbor_edn.specs.Visits.{fine}
use Rattle.cbor_edn.specs.Claims.{KeyReply}
use Rattle.cbor_edn.specs.Conversions.{Reply}

-- a value in a tag 1: `1(5)` of `5`
abbrev pub as_time : Tree OneItem → Reply
as_time w = (fine, tagged_tree 1 (alone w))

-- whatever the key is
abbrev pub at_any_key : Tree OneItem → KeyReply
at_any_key k = (fine, Some as_time)
