-- The bytes of the text that is read.
use Rattle.std.specs.Prelude.{ℕ, List}
use Rattle.cbor_edn_parts.specs.declared.base.input.Input.{Input}

abbrev pub text_bytes : Input → List ℕ
text_bytes t = t.all.now
