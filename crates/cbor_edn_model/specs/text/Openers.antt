-- What stands in front of an item between parentheses.
use Rattle.std.specs.Prelude.{◌<◌, ◌^◌}
use Rattle.std.specs.Coded.{Unit-prop, le_prop}
use Rattle.cbor_edn_model.specs.declared.text.opener.OpenerKind.{OpenerKind}
use Rattle.cbor_edn_model.specs.declared.text.opener.OpenerKind.TheVariants.{Tag, Simple}

-- a tag's number is below 2^64
abbrev pub IsOpener : OpenerKind → Type 0
IsOpener (Tag i n) = n < 2 ^ 64
IsOpener Simple = Unit {0}

pub IsOpener-prop : (l : OpenerKind) → IsProp (IsOpener l)
IsOpener-prop (Tag i n) = le_prop
IsOpener-prop Simple = Unit-prop
