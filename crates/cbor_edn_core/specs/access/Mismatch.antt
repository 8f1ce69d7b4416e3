-- What is told of an item of another type.
use Rattle.std.specs.Prelude.{◌≡◌, ◌⊎◌, if◌then◌else◌, Option, Some, None}
use Rattle.cbor_edn_model.specs.access.Accessed.{are_several}
use Rattle.cbor_edn_model.specs.tree.Trees.{Tree, OneString}
use Rattle.cbor_edn_core.specs.declared.access.TypeMismatch.{TypeMismatch}
use Rattle.cbor_edn_core.specs.declared.access.TypeMismatch.TheVariants.{ApplicationLiteral, SingleApplicationLiteral, Integer, IntegerInRange}

-- `Expected integer in i128 range` of an integer literal, and `Expected integer` of anything else
abbrev pub IsIntegerMismatch : Type 0 → TypeMismatch → Type 0
IsIntegerMismatch IsLiteral e = ((e ≡ IntegerInRange) × IsLiteral) ⊎ ((e ≡ Integer) × (IsLiteral → ⊥))

-- `Expected single application-oriented literal` of a string of several pieces, and `Expected application-oriented literal` of
-- anything else
abbrev pub literal_mismatch : Option (Tree OneString) → TypeMismatch
literal_mismatch (Some w) = if are_several w then SingleApplicationLiteral else ApplicationLiteral
literal_mismatch None = ApplicationLiteral
