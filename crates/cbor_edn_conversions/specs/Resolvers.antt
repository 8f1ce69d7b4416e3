-- The values that time and address literals stand for: those of the items that they become.
use Rattle.std.specs.Prelude.{ℕ, ◌≡◌, List, Option, Some, None, Ok, Err}
use Rattle.cbor_edn_model.specs.cbor.Meaning.{means}
use Rattle.cbor_edn_model.specs.tree.Trees.{Tree, OneItem, items}
use Rattle.cbor_edn_model.specs.cbor.Value.{Value}
use Rattle.cbor_edn_conversions.specs.Resolving.{Resolver, by_prefix, either, means_by}
use Rattle.cbor_edn_conversions.specs.Conversions.{Conversion}
use Rattle.cbor_edn_conversions.specs.Times.{time_of_literal}
use Rattle.cbor_edn_conversions.specs.Addresses.{address_of_literal}

-- the value of what a literal becomes, if it becomes something
abbrev pub value_of : Option Conversion → Option Value
value_of None = None
value_of (Some (Err e)) = None
value_of (Some (Ok w)) = means (items w)

abbrev pub time_value : List ℕ → List ℕ → Option Value
time_value p t = value_of (time_of_literal p t)

abbrev pub address_value : List ℕ → List ℕ → Option Value
address_value p t = value_of (address_of_literal p t)

-- the values of `dt'..'` and `DT'..'`: the integer 42, and tag 1 over it; times with a fraction have none, as decimals mean nothing
abbrev pub time_resolver : Resolver
time_resolver = by_prefix time_value

-- those of `ip'..'` and `IP'..'`: bytes, or an array of a length and bytes, and these in tag 52 or 54
abbrev pub address_resolver : Resolver
address_resolver = by_prefix address_value

abbrev pub literal_resolver : Resolver
literal_resolver = either time_resolver address_resolver

-- Where the one item meant a value by the first resolver, the other means it by the second.
abbrev pub TurnsTo : Resolver → Resolver → Tree OneItem → Tree OneItem → Type 0
TurnsTo B A w v = (x : Value) → means_by B (items w) ≡ Some x → means_by A (items v) ≡ Some x
