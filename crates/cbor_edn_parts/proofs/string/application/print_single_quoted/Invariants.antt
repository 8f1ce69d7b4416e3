use Rattle.std.proofs.Common.{◌≡◌, ◌++◌}
use Rattle.std.specs.Prelude.{string_bytes}
use Rattle.std.specs.Str.{encode_utf8_all}
use Rattle.cbor_edn_parts.specs.Written.{all_single_escaped}
use Rattle.cbor_edn_parts.proofs.string.application.print_single_quoted.Given as goal

abbrev pub invariant-loop-character : goal.invariant-loop-character
invariant-loop-character l = string_bytes l.literal ≡ string_bytes l.fn.literal ++ all_single_escaped (encode_utf8_all l.yielded)
