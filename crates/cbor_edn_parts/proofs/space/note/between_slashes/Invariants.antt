use Rattle.std.proofs.Common.{◌≡◌, ◌∷◌, map}
use Rattle.std.specs.Prelude.{string_bytes}
use Rattle.std.specs.Str.{encode_utf8_all}
use Rattle.cbor_edn_parts.specs.space.Notes.{cleaned}
use Rattle.cbor_edn_parts.proofs.space.note.between_slashes.Given as goal

abbrev pub invariant-loop-character : goal.invariant-loop-character
invariant-loop-character l = string_bytes l.text ≡ 47 ∷ 32 ∷ map cleaned (encode_utf8_all l.yielded)
