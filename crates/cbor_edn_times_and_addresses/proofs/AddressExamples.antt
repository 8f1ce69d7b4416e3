-- Rows of addresses, computed: what a text spells or why it is refused, and what is printed.
use Rattle.std.proofs.Common.{codes, [], ◌∷◌, Some, None, Ok, Err, ◌≡◌, refl}
use Rattle.std.specs.Fmt.{digits}
use Rattle.std.specs.Net.Reader.{read_ipv4, read_octet, read_number, read_ipv6, read_segments, read_segment}
use Rattle.std.specs.Net.Text.{hex, ipv6_text, hex_groups_text}
use Rattle.cbor_edn_times_and_addresses.specs.declared.address.IpVersion.TheVariants.{V4, V6}
use Rattle.cbor_edn_times_and_addresses.specs.declared.address.AddressError.TheVariants.{NoLength, UnknownFormat, LengthTooLarge, BitsOutside}
use Rattle.cbor_edn_times_and_addresses.specs.Address.{HasAddress, Refuses, address_text, filled_address, shown, address_bytes}
use Rattle.cbor_edn_times_and_addresses.specs.internal.AddressReading.{address_of}
use Rattle.cbor_edn_times_and_addresses.proofs.ReadAddresses.{reads_computed}

-- ---- texts

prefix_24 : HasAddress (codes "192.0.2.0/24") (filled_address V4 (192 ∷ 0 ∷ 2 ∷ [])) (Some 24)
unfolding address_of read_ipv4 read_octet read_number read_ipv6 read_segments read_segment
prefix_24 = reads_computed (codes "192.0.2.0/24") (Ok (filled_address V4 (192 ∷ 0 ∷ 2 ∷ []), Some 24)) refl

all_of_them : HasAddress (codes "::/0") (filled_address V6 []) (Some 0)
unfolding address_of read_ipv4 read_octet read_number read_ipv6 read_segments read_segment
all_of_them = reads_computed (codes "::/0") (Ok (filled_address V6 [], Some 0)) refl

-- the length is told before the address is looked at
length_256 : Refuses (codes "x/256") NoLength
unfolding address_of read_ipv4 read_octet read_number read_ipv6 read_segments read_segment
length_256 = reads_computed (codes "x/256") (Err NoLength) refl

leading_zero : Refuses (codes "01.2.3.4/33") UnknownFormat
unfolding address_of read_ipv4 read_octet read_number read_ipv6 read_segments read_segment
leading_zero = reads_computed (codes "01.2.3.4/33") (Err UnknownFormat) refl

length_33 : Refuses (codes "10.0.0.1/33") LengthTooLarge
unfolding address_of read_ipv4 read_octet read_number read_ipv6 read_segments read_segment
length_33 = reads_computed (codes "10.0.0.1/33") (Err LengthTooLarge) refl

bits_behind : Refuses (codes "192.0.2.1/24") BitsOutside
unfolding address_of read_ipv4 read_octet read_number read_ipv6 read_segments read_segment
bits_behind = reads_computed (codes "192.0.2.1/24") (Err BitsOutside) refl

-- ---- printed

-- of two longest runs the first
first_run : address_text (filled_address V6 (0 ∷ 1 ∷ 0 ∷ 0 ∷ 0 ∷ 0 ∷ 0 ∷ 2 ∷ 0 ∷ 0 ∷ 0 ∷ 0 ∷ 0 ∷ 3 ∷ 0 ∷ 4 ∷ [])) None ≡ codes "1::2:0:0:3:4"
unfolding digits hex ipv6_text hex_groups_text
first_run = refl

mapped : address_text (filled_address V6 (0 ∷ 0 ∷ 0 ∷ 0 ∷ 0 ∷ 0 ∷ 0 ∷ 0 ∷ 0 ∷ 0 ∷ 255 ∷ 255 ∷ 192 ∷ 0 ∷ 2 ∷ 1 ∷ [])) None ≡ codes "::ffff:192.0.2.1"
unfolding digits hex ipv6_text hex_groups_text
mapped = refl

prefix_0 : address_text (filled_address V6 []) (Some 0) ≡ codes "::/0"
unfolding digits hex ipv6_text hex_groups_text
prefix_0 = refl

-- ---- bytes

without_zeros : shown (Some 24) (address_bytes (filled_address V4 (192 ∷ 0 ∷ 2 ∷ []))) ≡ 192 ∷ 0 ∷ 2 ∷ []
without_zeros = refl
