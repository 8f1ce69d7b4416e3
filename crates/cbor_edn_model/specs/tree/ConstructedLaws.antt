-- The law of items that are made from values, as a contract names it.
use Rattle.std.specs.Prelude.{ℕ, ◌≡◌, ◌<◌, ◌↔◌, All, List}
use Rattle.cbor_edn_parts.specs.string.Literal.{IsPrefix}
use Rattle.cbor_edn_parts.specs.Written.{application_literal}
use Rattle.cbor_edn_model.specs.access.Accessed.{IsApplicationItem}
use Rattle.cbor_edn_model.specs.tree.Constructed.{literal_tree}

-- The item that is made of a prefix p and the bytes v of a text is the literal of this prefix that stands for this text, and of no
-- other prefix and text.
abbrev pub LiteralIsAnswered : Type 0
LiteralIsAnswered = (p v : List ℕ) → IsPrefix p → All (λ b. b < 256) v → (q w : List ℕ) → IsApplicationItem (literal_tree (application_literal p v)) q w ↔ ((q ≡ p) × (w ≡ v))
