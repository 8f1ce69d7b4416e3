-- The bytes of each leaf of a tree.
use Rattle.std.specs.Prelude.{ℕ, List}
use Rattle.cbor_edn_parts.specs.Leaves.{space_bytes, mandatory_bytes, separator_bytes, list_end_bytes, number_bytes, literal_bytes, ellipsis_bytes}
use Rattle.cbor_edn_parts.specs.declared.space.Space.{Space}
use Rattle.cbor_edn_parts.specs.declared.space.MandatorySpace.{MandatorySpace}
use Rattle.cbor_edn_parts.specs.declared.space.Separator.{Separator}
use Rattle.cbor_edn_parts.specs.declared.space.ListEnd.{ListEnd}
use Rattle.cbor_edn_parts.specs.declared.number.Number.{Number}
use Rattle.cbor_edn_parts.specs.declared.string.Literal.{Literal}
use Rattle.cbor_edn_parts.specs.declared.string.Ellipsis.{Ellipsis}

pub record Ghosts (O M C E N L D : Type 0) : Type 0 where
  pub space : O → List ℕ
  pub mandatory : M → List ℕ
  pub separator : C → List ℕ
  pub end : E → List ℕ
  pub number : N → List ℕ
  pub literal : L → List ℕ
  pub ellipsis : D → List ℕ

-- the bytes of the leaves of a text
abbrev pub texts : Ghosts Space MandatorySpace Separator ListEnd Number Literal Ellipsis
texts = record { space = space_bytes; mandatory = mandatory_bytes; separator = separator_bytes; end = list_end_bytes; number = number_bytes; literal = literal_bytes; ellipsis = ellipsis_bytes }
