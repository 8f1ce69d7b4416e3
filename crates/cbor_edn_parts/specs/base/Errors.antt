-- What a refusal of a text says: why, and where.
use Rattle.std.specs.Prelude.{ℕ}
use Rattle.cbor_edn_parts.specs.declared.base.error.ParseErrorKind.{ParseErrorKind}
use Rattle.cbor_edn_parts.specs.declared.base.error.ParseError.{ParseError}

abbrev pub error_kind : ParseError → ParseErrorKind
error_kind e = e.kind

-- in bytes, from 0
abbrev pub error_offset : ParseError → ℕ
error_offset e = e.offset

-- from 1
abbrev pub error_line : ParseError → ℕ
error_line e = e.line

-- in characters, from 1
abbrev pub error_column : ParseError → ℕ
error_column e = e.column
