-- The integers of items.
use Rattle.std.specs.Prelude.{ℤ, pos, negsuc, nat_lt, ◌^◌, if◌then◌else◌, Option, None, Some, option_and_then}
use Rattle.cbor_edn_parts.specs.internal.NumberReading.{integer_of}
use Rattle.cbor_edn_model.specs.access.Accessed.{number_text}
use Rattle.cbor_edn_model.specs.tree.Trees.{Tree, OneItem}

-- the integer of an integer literal, whatever its encoding indicator: 16 of `0x10_1`
abbrev pub literal_integer : Tree OneItem → Option ℤ
literal_integer w = option_and_then integer_of (number_text w)

-- those of 128 bits with a sign: `negsuc n` is -1 - n
abbrev pub within_128 : ℤ → Option ℤ
within_128 (pos n) = if nat_lt n (2 ^ 127) then Some (pos n) else None
within_128 (negsuc n) = if nat_lt n (2 ^ 127) then Some (negsuc n) else None

abbrev pub item_integer : Tree OneItem → Option ℤ
item_integer w = option_and_then within_128 (literal_integer w)
