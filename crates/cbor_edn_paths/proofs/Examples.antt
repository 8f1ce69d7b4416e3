-- The examples are computed.
use Rattle.std.proofs.Common.{refl}
use Rattle.cbor_edn_parts.specs.internal.NumberReading.{integer_of}
use Rattle.cbor_edn_parts.specs.internal.LiteralTokens.{decoded, prefix_of, quoted_of}
use Rattle.cbor_edn_parts.specs.internal.ContentReading.{hex_bytes, base_bytes}
use Rattle.cbor_edn_parts.specs.base.Bytes.{kind}
use Rattle.cbor_edn_model.specs.cbor.Meaning.{means}
use Rattle.cbor_edn_model.specs.cbor.Value.{head}
use Rattle.cbor_edn_model.specs.layout.Bare.{bare}
use Rattle.cbor_edn_paths.specs.Examples.{NamesKeysByValue, LeadsSo}

pub by_value : NamesKeysByValue
unfolding means bare integer_of head decoded prefix_of quoted_of hex_bytes base_bytes kind
by_value = record { hexadecimal = refl; wide = refl; digits = refl; base = refl; joined = refl; other_kind = refl; fraction = refl }

pub leads_so : LeadsSo
unfolding means bare integer_of head decoded prefix_of quoted_of hex_bytes base_bytes kind
leads_so = record {
  itself = refl;
  element = refl;
  tag = refl;
  any_tag = refl;
  embedded = refl;
  first = refl;
  second = refl;
  lone = refl;
  numbered = refl;
  no_item = refl;
  nothing = refl;
  not_lone = refl;
  not_array = refl;
  not_string = refl;
  not_map = refl;
  not_tag = refl;
  no_element = refl;
  past_last = refl;
  other_tag = refl;
  no_embedded = refl;
  several = refl;
  no_third = refl;
  no_key = refl;
}
