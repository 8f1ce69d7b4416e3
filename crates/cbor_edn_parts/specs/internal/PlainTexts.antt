-- The text between double quotes, up to what does not stand for itself.
use Rattle.std.specs.Prelude.{ℕ, Bool, false, Option, Some, None}
use Rattle.cbor_edn_parts.specs.internal.LiteralTokens.{is_plain}
use Rattle.cbor_edn_parts.specs.declared.string.Quote.TheVariants.{Double}
use Rattle.cbor_edn_parts.specs.declared.string.QuotedState.TheVariants.{Between}
use Rattle.cbor_edn_parts.specs.declared.string.LiteralState.{LiteralState}
use Rattle.cbor_edn_parts.specs.declared.string.LiteralState.TheVariants.{Inside}

-- where a scan stands behind the quote and behind each character
abbrev pub in_text : LiteralState
in_text = Inside Double Between

-- whether a byte is there that stands for itself
abbrev pub is_plain_at : Option ℕ → Bool
is_plain_at None = false
is_plain_at (Some c) = is_plain Double c
