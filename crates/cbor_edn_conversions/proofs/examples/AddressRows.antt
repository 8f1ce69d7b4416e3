-- Worked examples of conversions of addresses and bignums.
use Rattle.std.specs.Fmt.{digits}
use Rattle.std.specs.Net.Reader.{read_ipv4, read_octet, read_number, read_ipv6, read_segments, read_segment}
use Rattle.std.specs.Net.Text.{ipv6_text, hex_groups_text}
use Rattle.hex.specs.Hex.{encode_with}
use Rattle.std.proofs.Common.{ℕ, codes, false, List, [], None, Some, Ok, ◌≡◌, refl}
use Rattle.cbor_edn_parts.specs.declared.base.indicator.Indicator.TheVariants as indicator
use Rattle.cbor_edn_parts.specs.internal.NumberReading.{integer_of}
use Rattle.cbor_edn_parts.specs.internal.ContentReading.{hex_bytes, base_bytes}
use Rattle.cbor_edn_parts.specs.internal.LiteralTokens.{decoded, prefix_of, quoted_of}
use Rattle.cbor_edn_model.specs.declared.text.opener.OpenerKind.TheVariants as opener
use Rattle.cbor_edn_model.specs.cbor.Decoded.{alone}
use Rattle.cbor_edn_model.specs.tree.Items.{Array}
use Rattle.cbor_edn_model.specs.cbor.Meaning.{means, magnitude_bytes}
use Rattle.cbor_edn_model.specs.cbor.Value.{head}
use Rattle.cbor_edn_model.specs.visit.Seeking.{number, prefix_and_text}
use Rattle.cbor_edn_model.specs.tree.Trees.{Tree, OneItem, ListHead, NoIndicator, WithIndicator, NumberTree, EnclosedTree, ListTree, StringTree, EmbeddedTree, LastPieceTree, LiteralTree, ElementTree, EmptyTree, FullTree, LastTree, MoreTree, SequenceTree, onto, items}
use Rattle.cbor_edn_model.specs.visit.Visits.{fine, comment}
use Rattle.cbor_edn_times_and_addresses.specs.declared.address.IpVersion.TheVariants.{V4}
use Rattle.cbor_edn_times_and_addresses.specs.internal.AddressReading.{address_of}
use Rattle.cbor_edn_conversions.specs.Conversions.{tag_tree, changed_encoding}
use Rattle.cbor_edn_conversions.specs.Addresses.{resolve_address, pretty_address, address_literal}
use Rattle.cbor_edn_conversions.specs.Bignums.{pretty_bignum}
use Rattle.cbor_edn_conversions.proofs.examples.TimeRows.{Row}

abbrev written : List ℕ → Tree OneItem
written t = StringTree (LastPieceTree (LiteralTree t None))

abbrev numeral : List ℕ → Tree OneItem
numeral t = NumberTree t None

-- `[w, v]` with this separator
abbrev two : ListHead → Tree OneItem → List ℕ → Tree OneItem → Tree OneItem
two h w s v = ListTree Array (FullTree h [] (MoreTree (ElementTree w) s (LastTree (ElementTree v) [])))

mapped : Row (pretty_address (number 54) (tag_tree 54 (written (codes "h'00000000000000000000ffffc0000201'")))) fine (codes "IP'::ffff:192.0.2.1'")
unfolding pretty_address address_literal integer_of onto items means decoded prefix_of quoted_of hex_bytes head digits address_of read_ipv4 read_octet read_number read_ipv6 read_segments read_segment ipv6_text hex_groups_text encode_with
mapped = (refl, refl)

all : Row (pretty_address (number 54) (tag_tree 54 (two NoIndicator (numeral (codes "0")) (codes ", ") (written (codes "h''"))))) fine (codes "IP'::/0'")
unfolding pretty_address address_literal integer_of onto items means decoded prefix_of quoted_of hex_bytes head digits address_of read_ipv4 read_octet read_number read_ipv6 read_segments read_segment ipv6_text hex_groups_text encode_with
all = (refl, refl)

prefix_24 : Row (pretty_address (number 52) (tag_tree 52 (two NoIndicator (numeral (codes "24")) (codes ", ") (written (codes "h'c00002'"))))) fine (codes "IP'192.0.2.0/24'")
unfolding pretty_address address_literal integer_of onto items means decoded prefix_of quoted_of hex_bytes head digits address_of read_ipv4 read_octet read_number read_ipv6 read_segments read_segment ipv6_text hex_groups_text encode_with
prefix_24 = (refl, refl)

with_indicator : Row (pretty_address (number 52) (EnclosedTree (opener.Tag (Some indicator.Two) 52) (alone (written (codes "h'c0000201'"))))) (comment changed_encoding) (codes "52_1(h'c0000201')")
unfolding pretty_address address_literal integer_of onto items means decoded prefix_of quoted_of hex_bytes head digits address_of read_ipv4 read_octet read_number read_ipv6 read_segments read_segment ipv6_text hex_groups_text encode_with
with_indicator = (refl, refl)

other_indicator : Row (pretty_address (number 52) (EnclosedTree (opener.Tag (Some indicator.Two) 52) (alone (numeral (codes "1"))))) (comment (codes "Unexpected type for this tag")) (codes "52_1(1)")
unfolding pretty_address address_literal integer_of onto items means decoded prefix_of quoted_of hex_bytes head digits address_of read_ipv4 read_octet read_number read_ipv6 read_segments read_segment ipv6_text hex_groups_text encode_with
other_indicator = (refl, refl)

zone : Row (pretty_address (number 52) (tag_tree 52 (two NoIndicator (written (codes "h'c000022a'")) (codes ",") (numeral (codes "24"))))) fine (codes "52([ip'192.0.2.42',24])")
unfolding pretty_address address_literal integer_of onto items means decoded prefix_of quoted_of hex_bytes head digits address_of read_ipv4 read_octet read_number read_ipv6 read_segments read_segment ipv6_text hex_groups_text encode_with
zone = (refl, refl)

zone_indicator : Row (pretty_address (number 52) (tag_tree 52 (two (WithIndicator indicator.Indefinite (codes " ")) (written (codes "h'c000022a'")) (codes ", ") (numeral (codes "24"))))) fine (codes "52([_ ip'192.0.2.42', 24])")
unfolding pretty_address address_literal integer_of onto items means decoded prefix_of quoted_of hex_bytes head digits address_of read_ipv4 read_octet read_number read_ipv6 read_segments read_segment ipv6_text hex_groups_text encode_with
zone_indicator = (refl, refl)

short : Row (pretty_address (number 52) (tag_tree 52 (written (codes "h'c000'")))) (comment (codes "Data too short for address type")) (codes "52(h'c000')")
unfolding pretty_address address_literal integer_of onto items means decoded prefix_of quoted_of hex_bytes head digits address_of read_ipv4 read_octet read_number read_ipv6 read_segments read_segment ipv6_text hex_groups_text encode_with
short = (refl, refl)

long : Row (pretty_address (number 52) (tag_tree 52 (written (codes "h'c000020102'")))) (comment (codes "Data too long for address type")) (codes "52(h'c000020102')")
unfolding pretty_address address_literal integer_of onto items means decoded prefix_of quoted_of hex_bytes head digits address_of read_ipv4 read_octet read_number read_ipv6 read_segments read_segment ipv6_text hex_groups_text encode_with
long = (refl, refl)

end_zero : Row (pretty_address (number 52) (tag_tree 52 (two NoIndicator (numeral (codes "24")) (codes ", ") (written (codes "h'c0000200'"))))) (comment changed_encoding) (codes "52([24, h'c0000200'])")
unfolding pretty_address address_literal integer_of onto items means decoded prefix_of quoted_of hex_bytes head digits address_of read_ipv4 read_octet read_number read_ipv6 read_segments read_segment ipv6_text hex_groups_text encode_with
end_zero = (refl, refl)

bits_behind : Row (pretty_address (number 52) (tag_tree 52 (two NoIndicator (numeral (codes "8")) (codes ", ") (written (codes "h'c00002'"))))) (comment changed_encoding) (codes "52([8, h'c00002'])")
unfolding pretty_address address_literal integer_of onto items means decoded prefix_of quoted_of hex_bytes head digits address_of read_ipv4 read_octet read_number read_ipv6 read_segments read_segment ipv6_text hex_groups_text encode_with
bits_behind = (refl, refl)

long_prefix : Row (pretty_address (number 52) (tag_tree 52 (two NoIndicator (numeral (codes "33")) (codes ", ") (written (codes "h'c00002'"))))) (comment (codes "Prefix exceeds address size")) (codes "52([33, h'c00002'])")
unfolding pretty_address address_literal integer_of onto items means decoded prefix_of quoted_of hex_bytes head digits address_of read_ipv4 read_octet read_number read_ipv6 read_segments read_segment ipv6_text hex_groups_text encode_with
long_prefix = (refl, refl)

below_zero : Row (pretty_address (number 52) (tag_tree 52 (two NoIndicator (numeral (codes "-1")) (codes ", ") (written (codes "h'c00002'"))))) (comment (codes "Prefix exceeds address size")) (codes "52([-1, h'c00002'])")
unfolding pretty_address address_literal integer_of onto items means decoded prefix_of quoted_of hex_bytes head digits address_of read_ipv4 read_octet read_number read_ipv6 read_segments read_segment ipv6_text hex_groups_text encode_with
below_zero = (refl, refl)

no_integer : Row (pretty_address (number 52) (tag_tree 52 (two NoIndicator (numeral (codes "1.5")) (codes ", ") (written (codes "h'c00002'"))))) (comment (codes "Address with prefix is inexpressible in IP'' literal")) (codes "52([1.5, h'c00002'])")
unfolding pretty_address address_literal integer_of onto items means decoded prefix_of quoted_of hex_bytes head digits address_of read_ipv4 read_octet read_number read_ipv6 read_segments read_segment ipv6_text hex_groups_text encode_with
no_integer = (refl, refl)

no_bytes : Row (pretty_address (number 52) (tag_tree 52 (two NoIndicator (numeral (codes "24")) (codes ", ") (numeral (codes "24"))))) (comment (codes "Second element after an integer must be a byte string")) (codes "52([24, 24])")
unfolding pretty_address address_literal integer_of onto items means decoded prefix_of quoted_of hex_bytes head digits address_of read_ipv4 read_octet read_number read_ipv6 read_segments read_segment ipv6_text hex_groups_text encode_with
no_bytes = (refl, refl)

one_element : Row (pretty_address (number 52) (tag_tree 52 (ListTree Array (FullTree NoIndicator [] (LastTree (ElementTree (numeral (codes "24"))) []))))) (comment (codes "Array too short for IP tag")) (codes "52([24])")
unfolding pretty_address address_literal integer_of onto items means decoded prefix_of quoted_of hex_bytes head digits address_of read_ipv4 read_octet read_number read_ipv6 read_segments read_segment ipv6_text hex_groups_text encode_with
one_element = (refl, refl)

no_element : Row (pretty_address (number 52) (tag_tree 52 (ListTree Array (EmptyTree None [])))) (comment (codes "Array too short for IP tag")) (codes "52([])")
unfolding pretty_address address_literal integer_of onto items means decoded prefix_of quoted_of hex_bytes head digits address_of read_ipv4 read_octet read_number read_ipv6 read_segments read_segment ipv6_text hex_groups_text encode_with
no_element = (refl, refl)

three : Row (pretty_address (number 52) (tag_tree 52 (ListTree Array (FullTree NoIndicator [] (MoreTree (ElementTree (numeral (codes "24"))) (codes ",") (MoreTree (ElementTree (numeral (codes "24"))) (codes ",") (LastTree (ElementTree (numeral (codes "24"))) []))))))) (comment (codes "Address with prefix and zone identifier is inexpressible in IP'' literal")) (codes "52([24,24,24])")
unfolding pretty_address address_literal integer_of onto items means decoded prefix_of quoted_of hex_bytes head digits address_of read_ipv4 read_octet read_number read_ipv6 read_segments read_segment ipv6_text hex_groups_text encode_with
three = (refl, refl)

embedded : Row (pretty_address (number 52) (tag_tree 52 (StringTree (LastPieceTree (EmbeddedTree (SequenceTree [] (MoreTree (ElementTree (numeral (codes "1"))) (codes ",") (MoreTree (ElementTree (numeral (codes "2"))) (codes ",") (MoreTree (ElementTree (numeral (codes "3"))) (codes ",") (LastTree (ElementTree (numeral (codes "4"))) []))))) None))))) fine (codes "IP'1.2.3.4'")
unfolding pretty_address address_literal integer_of onto items means decoded prefix_of quoted_of hex_bytes head digits address_of read_ipv4 read_octet read_number read_ipv6 read_segments read_segment ipv6_text hex_groups_text encode_with
embedded = (refl, refl)

without_tag : address_literal (written (codes "h'c0000201'")) V4 false ≡ Ok (written (codes "ip'192.0.2.1'"))
unfolding pretty_address address_literal integer_of onto items means decoded prefix_of quoted_of hex_bytes head digits address_of read_ipv4 read_octet read_number read_ipv6 read_segments read_segment ipv6_text hex_groups_text encode_with
without_tag = refl

bits_set : Row (resolve_address (prefix_and_text (codes "IP") (codes "192.0.2.1/24")) (written (codes "IP'192.0.2.1/24'"))) (comment (codes "No bits must be set in the address outside the prefix length")) (codes "IP'192.0.2.1/24'")
unfolding resolve_address onto address_of digits read_ipv4 read_octet read_number read_ipv6 read_segments read_segment ipv6_text hex_groups_text encode_with
bits_set = (refl, refl)

no_length : Row (resolve_address (prefix_and_text (codes "ip") (codes "10.0.0.0/256")) (written (codes "ip'10.0.0.0/256'"))) (comment (codes "Prefix is not a (short) number")) (codes "ip'10.0.0.0/256'")
unfolding resolve_address onto address_of digits read_ipv4 read_octet read_number read_ipv6 read_segments read_segment ipv6_text hex_groups_text encode_with
no_length = (refl, refl)

two_slashes : Row (resolve_address (prefix_and_text (codes "ip") (codes "10.0.0.0/8/8")) (written (codes "ip'10.0.0.0/8/8'"))) (comment (codes "Prefix is not a (short) number")) (codes "ip'10.0.0.0/8/8'")
unfolding resolve_address onto address_of digits read_ipv4 read_octet read_number read_ipv6 read_segments read_segment ipv6_text hex_groups_text encode_with
two_slashes = (refl, refl)

everything : Row (resolve_address (prefix_and_text (codes "IP") (codes "0.0.0.0/0")) (written (codes "IP'0.0.0.0/0'"))) fine (codes "52([0, h''])")
unfolding resolve_address onto address_of digits read_ipv4 read_octet read_number read_ipv6 read_segments read_segment ipv6_text hex_groups_text encode_with
everything = (refl, refl)

sixteen : Row (resolve_address (prefix_and_text (codes "ip") (codes "2001:db8::1234")) (written (codes "ip'2001:db8::1234'"))) fine (codes "h'20010db8000000000000000000001234'")
unfolding resolve_address onto address_of digits read_ipv4 read_octet read_number read_ipv6 read_segments read_segment ipv6_text hex_groups_text encode_with
sixteen = (refl, refl)

loopback : Row (resolve_address (prefix_and_text (codes "IP") (codes "127.0.0.0/8")) (written (codes "IP'127.0.0.0/8'"))) fine (codes "52([8, h'7f'])")
unfolding resolve_address onto address_of digits read_ipv4 read_octet read_number read_ipv6 read_segments read_segment ipv6_text hex_groups_text encode_with
loopback = (refl, refl)

unknown : Row (resolve_address (prefix_and_text (codes "ip") (codes "1.2.3")) (written (codes "ip'1.2.3'"))) (comment (codes "No recognized address format")) (codes "ip'1.2.3'")
unfolding resolve_address onto address_of digits read_ipv4 read_octet read_number read_ipv6 read_segments read_segment ipv6_text hex_groups_text encode_with
unknown = (refl, refl)

too_large : Row (resolve_address (prefix_and_text (codes "ip") (codes "::/129")) (written (codes "ip'::/129'"))) (comment (codes "Prefix exceeds address size")) (codes "ip'::/129'")
unfolding resolve_address onto address_of digits read_ipv4 read_octet read_number read_ipv6 read_segments read_segment ipv6_text hex_groups_text encode_with
too_large = (refl, refl)

below : Row (pretty_bignum (number 3) (tag_tree 3 (written (codes "h'010000000000000000'")))) fine (codes "-18446744073709551617")
unfolding pretty_bignum integer_of onto items means decoded prefix_of quoted_of hex_bytes base_bytes head digits magnitude_bytes
below = (refl, refl)

above : Row (pretty_bignum (number 2) (tag_tree 2 (written (codes "h'010000000000000000'")))) fine (codes "18446744073709551616")
unfolding pretty_bignum integer_of onto items means decoded prefix_of quoted_of hex_bytes base_bytes head digits magnitude_bytes
above = (refl, refl)

small : Row (pretty_bignum (number 2) (tag_tree 2 (written (codes "h'ff'")))) fine (codes "2(h'ff')")
unfolding pretty_bignum integer_of onto items means decoded prefix_of quoted_of hex_bytes base_bytes head digits magnitude_bytes
small = (refl, refl)

leading : Row (pretty_bignum (number 2) (tag_tree 2 (written (codes "h'00010000000000000000'")))) fine (codes "2(h'00010000000000000000')")
unfolding pretty_bignum integer_of onto items means decoded prefix_of quoted_of hex_bytes base_bytes head digits magnitude_bytes
leading = (refl, refl)

widest : Row (pretty_bignum (number 3) (tag_tree 3 (written (codes "h'ffffffffffffffffffffffffffffffff'")))) fine (codes "3(h'ffffffffffffffffffffffffffffffff')")
unfolding pretty_bignum integer_of onto items means decoded prefix_of quoted_of hex_bytes base_bytes head digits magnitude_bytes
widest = (refl, refl)

almost : Row (pretty_bignum (number 3) (tag_tree 3 (written (codes "h'fffffffffffffffffffffffffffffffe'")))) fine (codes "-340282366920938463463374607431768211455")
unfolding pretty_bignum integer_of onto items means decoded prefix_of quoted_of hex_bytes base_bytes head digits magnitude_bytes
almost = (refl, refl)

bignum_indicator : Row (pretty_bignum (number 2) (EnclosedTree (opener.Tag (Some indicator.Immediate) 2) (alone (written (codes "h'010000000000000000'"))))) fine (codes "2_i(h'010000000000000000')")
unfolding pretty_bignum integer_of onto items means decoded prefix_of quoted_of hex_bytes base_bytes head digits magnitude_bytes
bignum_indicator = (refl, refl)
