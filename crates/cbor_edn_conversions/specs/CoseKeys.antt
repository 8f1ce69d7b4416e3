-- Numbers of COSE with their names, and the keys of COSE (RFC 9052, section 7) that claims sets hold:
-- `{8/ cnf /: {1/ COSE_Key /: {1/ kty /: 2/ EC2 /, -1/ crv /: 1/ P-256 /}}}`.
use Rattle.std.specs.Prelude.{ℕ, ℤ, pos, List, [], ◌∷◌, ◌++◌, Bool, true, false, if◌then◌else◌, Option, None, Some, option_map, option_and_then}
use Rattle.std.specs.Ordering.{int_eq}
use Rattle.cbor_edn_model.specs.access.Accessed.{map_items}
use Rattle.cbor_edn_model.specs.tree.Trees.{Tree, OneItem}
use Rattle.cbor_edn_model.specs.visit.Visits.{fine, comment}
use Rattle.cbor_edn_conversions.specs.declared.tables.KeyType.{KeyType}
use Rattle.cbor_edn_conversions.specs.declared.tables.NamedNumber.{NamedNumber}
use Rattle.cbor_edn_conversions.specs.declared.tables.NamedNumber.TheVariants as named_number
use Rattle.cbor_edn_conversions.specs.Claims.{KeyReply, with_keys, key_of, name_answer}
use Rattle.cbor_edn_conversions.specs.Conversions.{Reply}
use Rattle.cbor_edn_conversions.specs.CoseTables.{cose_algorithms, key_types, curves, key_parameters, typed_parameters, key_confirmations}
use Rattle.cbor_edn_conversions.specs.Integers.{item_integer}
use Rattle.cbor_edn_conversions.specs.Tables.{found}

-- ---- numbers and maps

-- the name of a number, by what it is
abbrev pub number_name : NamedNumber → ℤ → Option (List ℕ)
number_name named_number.Algorithm z = found cose_algorithms z
number_name named_number.KeyType z = option_map (λ r. r.0) (found key_types z)
number_name named_number.Curve z = found curves z

-- a map with the names of its keys; anything else stays, without a message
abbrev pub with_names : (Tree OneItem → KeyReply) → Tree OneItem → Tree OneItem
with_names at_key w = (with_keys at_key w).1

-- an item that is such a number stays, and has its name
abbrev pub with_name : NamedNumber → Tree OneItem → Reply
with_name k v = (name_answer (option_and_then (number_name k) (item_integer v)), v)

-- ---- keys

abbrev pub is_this : ℤ → Option ℤ → Bool
is_this z None = false
is_this z (Some y) = int_eq y z

-- the value of the first key that is this integer
abbrev pub value_of : ℤ → List (Tree OneItem × Tree OneItem) → Option (Tree OneItem)
value_of z [] = None
value_of z (p ∷ ps) = if is_this z (item_integer p.0) then Some p.1 else value_of z ps

-- the type of a key, behind its label 1
abbrev pub type_of_key : Tree OneItem → Option KeyType
type_of_key w = option_map (λ r. r.1) (option_and_then (found key_types) (option_and_then item_integer (option_and_then (value_of (pos 1)) (map_items w))))

-- the labels of a key of this type
abbrev pub key_label : Option KeyType → Tree OneItem → KeyReply
key_label t = key_of with_name (found (key_parameters ++ typed_parameters t))

-- a key with the names of its parameters
unfoldable pub with_parameters : Tree OneItem → Tree OneItem
with_parameters w = with_names (key_label (type_of_key w)) w

-- ---- keys in claims sets

-- A confirmation method that has a key: it is named, and a COSE key behind it has its names.
abbrev pub key_method : Option (List ℕ × Bool) → KeyReply
key_method None = (fine, None)
key_method (Some (name, true)) = (comment name, Some (λ v. (fine, with_parameters v)))
key_method (Some (name, false)) = (comment name, None)

abbrev pub method_key : Tree OneItem → KeyReply
method_key k = key_method (option_and_then (found key_confirmations) (item_integer k))

-- In the value of the claim `cnf`, 8, such methods have their names.
abbrev pub cnf_key : Tree OneItem → KeyReply
cnf_key k = (fine, if is_this (pos 8) (item_integer k) then Some (λ v. (fine, with_names method_key v)) else None)

-- a claims set with the names of the keys in it
unfoldable pub with_key_names : Tree OneItem → Tree OneItem
with_key_names = with_names cnf_key
