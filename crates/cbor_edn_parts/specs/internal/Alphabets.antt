-- The alphabets of the code.
use Rattle.cbor_edn_parts.specs.string.Contents as contents
use Rattle.cbor_edn_parts.specs.declared.string.base.Alphabet.{Alphabet}
use Rattle.cbor_edn_parts.specs.declared.string.base.Alphabet.TheVariants.{Base64, Base32, Base32Hex}

abbrev pub alphabet : Alphabet → contents.Alphabet
alphabet Base64 = contents.base64
alphabet Base32 = contents.base32
alphabet Base32Hex = contents.base32hex
