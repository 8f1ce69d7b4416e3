-- Comments in confirmation methods and in OSCORE security contexts change spaces alone.
use Rattle.std.proofs.Common.{◌≡◌, ℤ, List, ℕ, Option, None, Some, refl}
use Rattle.std.specs.Prelude.{option_map, option_and_then}
use Rattle.cbor_edn_model.specs.tree.Trees.{Tree, OneItem, items}
use Rattle.cbor_edn_conversions.specs.declared.tables.ConfirmationValue.{ConfirmationValue}
use Rattle.cbor_edn_conversions.specs.declared.tables.ConfirmationValue.TheVariants.{Oscore}
use Rattle.cbor_edn_conversions.specs.declared.tables.ParameterValue.{ParameterValue}
use Rattle.cbor_edn_conversions.specs.declared.tables.ParameterValue.TheVariants.{Algorithm}
use Rattle.cbor_edn_conversions.specs.Claims.{named, parameter_value, fitting_parameter, numbered_parameter, parameter_key, confirmation_value, confirmation_key}
use Rattle.cbor_edn_conversions.specs.Conversions.{Reply}
use Rattle.cbor_edn_conversions.specs.Integers.{literal_integer, within_128, item_integer}
use Rattle.cbor_edn_conversions.specs.Tables.{found, confirmations, parameters}
use Rattle.cbor_edn_application.proofs.MapVisits.{Keeps, keys_kept}

module _ {V : Type 0} (at_value : V → Tree OneItem → Reply) (kept : (x : V) (v : Tree OneItem) → items (at_value x v).1 ≡ items v) where
  value_kept : (o : Option V) → Keeps (option_map at_value o)
  value_kept None = tt
  value_kept (Some x) = kept x

  named_kept : (o : Option (List ℕ × Option V)) → Keeps (named at_value o).1
  named_kept None = tt
  named_kept (Some r) = value_kept r.1

parameter_kept : (x : ParameterValue) (v : Tree OneItem) → items (parameter_value x v).1 ≡ items v
parameter_kept Algorithm v = refl

fitting_kept : (o : Option ℤ) → Keeps (fitting_parameter o).1
fitting_kept None = tt
fitting_kept (Some z) = named_kept parameter_value parameter_kept (found parameters z)

numbered_kept : (o : Option ℤ) → Keeps (numbered_parameter o).1
numbered_kept None = tt
numbered_kept (Some z) = fitting_kept (within_128 z)

pub parameter_keys_kept : (k : Tree OneItem) → Keeps (parameter_key k).1
parameter_keys_kept k = numbered_kept (literal_integer k)

confirmation_kept : (x : ConfirmationValue) (v : Tree OneItem) → items (confirmation_value x v).1 ≡ items v
confirmation_kept Oscore v = keys_kept parameter_key parameter_keys_kept v

pub confirmation_keys_kept : (k : Tree OneItem) → Keeps (confirmation_key k).1
confirmation_keys_kept k = named_kept confirmation_value confirmation_kept (option_and_then (found confirmations) (item_integer k))
