-- What a step between two quotes answers.
use Rattle.std.specs.Prelude.{ℕ, ◌≡◌, List, [], ◌∷◌, Option, Some, None, encode_utf8}
use Rattle.cbor_edn_parts.specs.internal.LiteralTokens.{Step}
use Rattle.cbor_edn_parts.specs.declared.string.QuotedState.{QuotedState}
use Rattle.cbor_edn_parts.specs.declared.string.Ended.{Ended}
use Rattle.cbor_edn_parts.specs.declared.string.Ended.TheVariants.{Nothing, Byte, Character}

-- the bytes of what ends
abbrev pub ended_bytes : Ended → List ℕ
ended_bytes Nothing = []
ended_bytes (Byte b) = b ∷ []
ended_bytes (Character c) = encode_utf8 c

abbrev pub stepped : Option (QuotedState × Ended) → Step
stepped None = None
stepped (Some x) = Some (x.0, ended_bytes x.1)

abbrev pub Steps : Option (QuotedState × Ended) → Step → Type 0
Steps result step = stepped result ≡ step
