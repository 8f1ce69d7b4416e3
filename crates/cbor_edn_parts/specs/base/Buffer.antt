-- The text of a buffer.
use Rattle.std.specs.Prelude.{ℕ, List}
use Rattle.cbor_edn_parts.specs.declared.base.buffer.TextBuffer.{TextBuffer}

abbrev pub buffer_bytes : TextBuffer → List ℕ
buffer_bytes b = b.bytes.items
