-- The first space of a list whose indicator is gone.
use Rattle.std.specs.Prelude.{ℕ, List, Option, Some, None}
use Rattle.cbor_edn_parts.specs.Leaves.{space_bytes}
use Rattle.cbor_edn_parts.specs.declared.space.Space.{Space}

-- a space text that may stand in place of another
abbrev pub space_or : Option Space → List ℕ → List ℕ
space_or None s = s
space_or (Some t) s = space_bytes t
