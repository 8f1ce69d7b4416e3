use Rattle.std.proofs.Common.{◌≡◌, ◌∷◌, [], ℕ, ◌<◌, get_or}
use Rattle.cbor_edn_parts.specs.string.Contents.{escaped}
use Rattle.cbor_edn_stream.proofs.columns.is_plain.Given as goal

abbrev pub invariant-loop-byte : goal.invariant-loop-byte
invariant-loop-byte l = (k : ℕ) → k < l.byte-index → escaped (get_or l.text k 0) ≡ get_or l.text k 0 ∷ []
