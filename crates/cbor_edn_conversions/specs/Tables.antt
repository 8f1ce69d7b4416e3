-- The tables of numbers and their names, row by row.
use Rattle.std.specs.Prelude.{ℕ, ℤ, pos, neg_ℤ, codes, if◌then◌else◌, List, [], ◌∷◌, Option, None, Some, map}
use Rattle.std.specs.Borrow.{Bor}
use Rattle.std.specs.Ordering.{int_eq}
use Rattle.cbor_edn_conversions.specs.declared.tables.ClaimValue.{ClaimValue}
use Rattle.cbor_edn_conversions.specs.declared.tables.ClaimValue.TheVariants.{Timestamp, Confirmation}
use Rattle.cbor_edn_conversions.specs.declared.tables.ConfirmationValue.{ConfirmationValue}
use Rattle.cbor_edn_conversions.specs.declared.tables.ConfirmationValue.TheVariants.{Oscore}
use Rattle.cbor_edn_conversions.specs.declared.tables.ParameterValue.{ParameterValue}
use Rattle.cbor_edn_conversions.specs.declared.tables.ParameterValue.TheVariants.{Algorithm}

-- the rows of a table that is lent: a number, its name, and what the value behind it is
abbrev pub rows : {V : Type 0} → List (ℤ × Bor (List ℕ) × V) → List (ℤ × (List ℕ × V))
rows table = map (λ r. (r.0, (r.1.now, r.2))) table

-- the rows of a table of names alone, where it is lent
abbrev pub names : List (ℤ × Bor (List ℕ)) → List (ℤ × List ℕ)
names table = map (λ r. (r.0, r.1.now)) table

-- what stands behind a number, in the first of its rows
abbrev pub found : {X : Type 0} → List (ℤ × X) → ℤ → Option X
found [] z = None
found (row ∷ rows) z = if int_eq row.0 z then Some row.1 else found rows z

-- the number below zero: -7 of 7
abbrev pub neg : ℕ → ℤ
neg n = neg_ℤ (pos n)

-- ---- the tables: a number, its name, and what the value behind it is, where something is done with it

-- claims of a CBOR Web Token, by their key
unfoldable pub claims : List (ℤ × (List ℕ × Option ClaimValue))
claims =
    (pos 1, (codes "iss", None))
    ∷ (pos 2, (codes "sub", None))
    ∷ (pos 3, (codes "aud", None))
    ∷ (pos 4, (codes "exp", Some Timestamp))
    ∷ (pos 5, (codes "nbf", Some Timestamp))
    ∷ (pos 6, (codes "iat", Some Timestamp))
    ∷ (pos 7, (codes "jti", None))
    ∷ (pos 8, (codes "cnf", Some Confirmation))
    ∷ (pos 9, (codes "scope", None))
    ∷ (pos 38, (codes "ace_profile", None))
    ∷ (pos 39, (codes "cnonce", None))
    ∷ (pos 40, (codes "exi", None))
    ∷ []

-- confirmation methods, by their key
unfoldable pub confirmations : List (ℤ × (List ℕ × Option ConfirmationValue))
confirmations =
    (pos 3, (codes "kid", None))
    ∷ (pos 4, (codes "osc", Some Oscore))
    ∷ []

-- parameters of an OSCORE security context, by their key
unfoldable pub parameters : List (ℤ × (List ℕ × Option ParameterValue))
parameters =
    (pos 0, (codes "id", None))
    ∷ (pos 1, (codes "version", None))
    ∷ (pos 2, (codes "ms", None))
    ∷ (pos 3, (codes "hkdf", Some Algorithm))
    ∷ (pos 4, (codes "alg", Some Algorithm))
    ∷ (pos 5, (codes "salt", None))
    ∷ (pos 6, (codes "contextId", None))
    ∷ []

-- algorithms of COSE, by their number
unfoldable pub algorithms : List (ℤ × List ℕ)
algorithms =
    (neg 18, codes "SHAKE128")
    ∷ (neg 17, codes "SHA-512/256")
    ∷ (neg 16, codes "SHA-256")
    ∷ (neg 15, codes "SHA-256/64")
    ∷ (neg 14, codes "SHA-1")
    ∷ (neg 13, codes "direct+HKDF-AES-256")
    ∷ (neg 12, codes "direct+HKDF-AES-128")
    ∷ (neg 11, codes "direct+HKDF-SHA-512")
    ∷ (neg 10, codes "direct+HKDF-SHA-256")
    ∷ (neg 9, codes "Unassigned")
    ∷ (neg 8, codes "EdDSA")
    ∷ (neg 7, codes "ES256")
    ∷ (neg 6, codes "direct")
    ∷ (neg 5, codes "A256KW")
    ∷ (neg 4, codes "A192KW")
    ∷ (neg 3, codes "A128KW")
    ∷ (pos 0, codes "Reserved")
    ∷ (pos 1, codes "A128GCM")
    ∷ (pos 2, codes "A192GCM")
    ∷ (pos 3, codes "A256GCM")
    ∷ (pos 4, codes "HMAC 256/64")
    ∷ (pos 5, codes "HMAC 256/256")
    ∷ (pos 6, codes "HMAC 384/384")
    ∷ (pos 7, codes "HMAC 512/512")
    ∷ (pos 10, codes "AES-CCM-16-64-128")
    ∷ (pos 11, codes "AES-CCM-16-64-256")
    ∷ (pos 12, codes "AES-CCM-64-64-128")
    ∷ (pos 13, codes "AES-CCM-64-64-256")
    ∷ (pos 14, codes "AES-MAC 128/64")
    ∷ (pos 15, codes "AES-MAC 256/64")
    ∷ (pos 24, codes "ChaCha20/Poly1305")
    ∷ []
