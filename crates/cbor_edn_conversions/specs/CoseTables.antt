-- The tables of COSE (RFC 9052, 9053 and 9360), row by row.
use Rattle.std.specs.Prelude.{ℕ, ℤ, pos, codes, Bool, true, false, List, [], ◌∷◌, ◌++◌, Option, None, Some}
use Rattle.cbor_edn_conversions.specs.declared.tables.KeyType.{KeyType}
use Rattle.cbor_edn_conversions.specs.declared.tables.KeyType.TheVariants.{Okp, Ec2, Symmetric}
use Rattle.cbor_edn_conversions.specs.declared.tables.NamedNumber.{NamedNumber}
use Rattle.cbor_edn_conversions.specs.declared.tables.NamedNumber.TheVariants as named
use Rattle.cbor_edn_conversions.specs.declared.tables.Part.{Part}
use Rattle.cbor_edn_conversions.specs.declared.tables.Part.TheVariants.{Protected, Unprotected, Payload, Ciphertext, Tag, Signature, Signatures, Recipients}
use Rattle.cbor_edn_conversions.specs.declared.tables.Structure.{Structure}
use Rattle.cbor_edn_conversions.specs.declared.tables.Structure.TheVariants.{Encrypt0, Mac0, Sign1, Encrypt, Mac, Sign, Signer, Recipient}
use Rattle.cbor_edn_conversions.specs.Tables.{neg, algorithms}

-- a table of labels: each with its name, and what the number behind it is, where that has a name
abbrev pub Openers : Type 0
Openers = List (ℤ × (List ℕ × Option NamedNumber))

-- ---- messages

-- messages, by the number of their tag
unfoldable pub messages : List (ℤ × (List ℕ × Structure))
messages =
    (pos 16, (codes "COSE_Encrypt0", Encrypt0))
    ∷ (pos 17, (codes "COSE_Mac0", Mac0))
    ∷ (pos 18, (codes "COSE_Sign1", Sign1))
    ∷ (pos 96, (codes "COSE_Encrypt", Encrypt))
    ∷ (pos 97, (codes "COSE_Mac", Mac))
    ∷ (pos 98, (codes "COSE_Sign", Sign))
    ∷ []

-- the elements of the array that a structure is
abbrev pub parts : Structure → List Part
parts Encrypt0 = Protected ∷ Unprotected ∷ Ciphertext ∷ []
parts Mac0 = Protected ∷ Unprotected ∷ Payload ∷ Tag ∷ []
parts Sign1 = Protected ∷ Unprotected ∷ Payload ∷ Signature ∷ []
parts Encrypt = Protected ∷ Unprotected ∷ Ciphertext ∷ Recipients ∷ []
parts Mac = Protected ∷ Unprotected ∷ Payload ∷ Tag ∷ Recipients ∷ []
parts Sign = Protected ∷ Unprotected ∷ Payload ∷ Signatures ∷ []
parts Signer = Protected ∷ Unprotected ∷ Signature ∷ []
parts Recipient = Protected ∷ Unprotected ∷ Ciphertext ∷ Recipients ∷ []

abbrev pub part_name : Part → List ℕ
part_name Protected = codes "protected"
part_name Unprotected = codes "unprotected"
part_name Payload = codes "payload"
part_name Ciphertext = codes "ciphertext"
part_name Tag = codes "tag"
part_name Signature = codes "signature"
part_name Signatures = codes "signatures"
part_name Recipients = codes "recipients"

-- header parameters, by their label
unfoldable pub headers : Openers
headers =
    (pos 1, (codes "alg", Some named.Algorithm))
    ∷ (pos 2, (codes "crit", None))
    ∷ (pos 3, (codes "content type", None))
    ∷ (pos 4, (codes "kid", None))
    ∷ (pos 5, (codes "IV", None))
    ∷ (pos 6, (codes "Partial IV", None))
    ∷ (pos 7, (codes "counter signature", None))
    ∷ (pos 32, (codes "x5bag", None))
    ∷ (pos 33, (codes "x5chain", None))
    ∷ (pos 34, (codes "x5t", None))
    ∷ (pos 35, (codes "x5u", None))
    ∷ []

-- ---- algorithms

-- algorithms, by their number, that the other table doesn't have
unfoldable pub further_algorithms : List (ℤ × List ℕ)
further_algorithms =
    (neg 36, codes "ES512")
    ∷ (neg 35, codes "ES384")
    ∷ (neg 34, codes "ECDH-SS + A256KW")
    ∷ (neg 33, codes "ECDH-SS + A192KW")
    ∷ (neg 32, codes "ECDH-SS + A128KW")
    ∷ (neg 31, codes "ECDH-ES + A256KW")
    ∷ (neg 30, codes "ECDH-ES + A192KW")
    ∷ (neg 29, codes "ECDH-ES + A128KW")
    ∷ (neg 28, codes "ECDH-SS + HKDF-512")
    ∷ (neg 27, codes "ECDH-SS + HKDF-256")
    ∷ (neg 26, codes "ECDH-ES + HKDF-512")
    ∷ (neg 25, codes "ECDH-ES + HKDF-256")
    ∷ (pos 25, codes "AES-MAC 128/128")
    ∷ (pos 26, codes "AES-MAC 256/128")
    ∷ (pos 30, codes "AES-CCM-16-128-128")
    ∷ (pos 31, codes "AES-CCM-16-128-256")
    ∷ (pos 32, codes "AES-CCM-64-128-128")
    ∷ (pos 33, codes "AES-CCM-64-128-256")
    ∷ []

unfoldable pub cose_algorithms : List (ℤ × List ℕ)
cose_algorithms = algorithms ++ further_algorithms

-- ---- keys

-- types of keys, by their number
unfoldable pub key_types : List (ℤ × (List ℕ × KeyType))
key_types =
    (pos 1, (codes "OKP", Okp))
    ∷ (pos 2, (codes "EC2", Ec2))
    ∷ (pos 4, (codes "Symmetric", Symmetric))
    ∷ []

-- elliptic curves, by their number
unfoldable pub curves : List (ℤ × List ℕ)
curves =
    (pos 1, codes "P-256")
    ∷ (pos 2, codes "P-384")
    ∷ (pos 3, codes "P-521")
    ∷ (pos 4, codes "X25519")
    ∷ (pos 5, codes "X448")
    ∷ (pos 6, codes "Ed25519")
    ∷ (pos 7, codes "Ed448")
    ∷ []

-- parameters of keys of any type, by their label
unfoldable pub key_parameters : Openers
key_parameters =
    (pos 1, (codes "kty", Some named.KeyType))
    ∷ (pos 2, (codes "kid", None))
    ∷ (pos 3, (codes "alg", Some named.Algorithm))
    ∷ (pos 4, (codes "key_ops", None))
    ∷ (pos 5, (codes "Base IV", None))
    ∷ []

-- those of one type
abbrev pub typed_parameters : Option KeyType → Openers
typed_parameters None = []
typed_parameters (Some Okp) =
    (neg 1, (codes "crv", Some named.Curve))
    ∷ (neg 2, (codes "x", None))
    ∷ (neg 4, (codes "d", None))
    ∷ []
typed_parameters (Some Ec2) =
    (neg 1, (codes "crv", Some named.Curve))
    ∷ (neg 2, (codes "x", None))
    ∷ (neg 3, (codes "y", None))
    ∷ (neg 4, (codes "d", None))
    ∷ []
typed_parameters (Some Symmetric) = (neg 1, (codes "k", None)) ∷ []

-- confirmation methods that have a key, by their own key; true where it is a COSE key
unfoldable pub key_confirmations : List (ℤ × (List ℕ × Bool))
key_confirmations =
    (pos 1, (codes "COSE_Key", true))
    ∷ (pos 2, (codes "Encrypted_COSE_Key", false))
    ∷ []
