-- The texts of IP addresses and of address prefixes, what they stand for, and how they are printed.
use Rattle.std.specs.Prelude.{ℕ, ◌≡◌, ◌≢◌, ◌-◌, ◌<◌, ◌≤◌, ◌==◌, false, List, [], ◌∷◌, ◌++◌, length, drop, replicate, codes, decimal, All, Option, Some, None, Result, MatchResult, if◌then◌else◌}
use Rattle.std.specs.declared.net.ip_addr.IpAddr.{IpAddr}
use Rattle.std.specs.declared.net.ip_addr.IpAddr.TheVariants.{V4, V6}
use Rattle.std.specs.Net.Addr.{ipv4_octets, ipv6_octets, segments_of}
use Rattle.std.specs.Net.Grammar.{IsIpText, IsNumber}
use Rattle.std.specs.Net.Text.{ip_text}
use Rattle.cbor_edn_parts.specs.string.Contents.{joined_bits}
use Rattle.cbor_edn_times_and_addresses.specs.declared.address.IpVersion.{IpVersion}
use Rattle.cbor_edn_times_and_addresses.specs.declared.address.IpVersion.TheVariants as Version
use Rattle.cbor_edn_times_and_addresses.specs.declared.address.AddressError.{AddressError}
use Rattle.cbor_edn_times_and_addresses.specs.declared.address.AddressError.TheVariants.{NoLength, UnknownFormat, LengthTooLarge, BitsOutside}

-- the 4 or 16 bytes of an address: those of 192.0.2.1 are C0 00 02 01
abbrev pub address_bytes : IpAddr → List ℕ
address_bytes (V4 a) = ipv4_octets a
address_bytes (V6 a) = ipv6_octets a

-- the address of 4 or 16 bytes
abbrev pub address_from : IpVersion → List ℕ → IpAddr
address_from Version.V4 bytes = V4 (record { octets = bytes })
address_from Version.V6 bytes = V6 (record { segments = segments_of bytes })

-- how many bytes those are: 4 of V4, 16 of V6
abbrev pub size_of : IpVersion → ℕ
size_of Version.V4 = 4
size_of Version.V6 = 16

abbrev pub version_of : IpAddr → IpVersion
version_of (V4 a) = Version.V4
version_of (V6 a) = Version.V6

-- how many bits an address has
abbrev pub address_bits : IpAddr → ℕ
address_bits (V4 a) = 32
address_bits (V6 a) = 128

-- ---- texts

abbrev pub slash : ℕ
slash = 47

-- The text, cut at its first slash: what stands before it, and what stands behind it, if there is one:
-- `10.0.0.0/8/8` is cut into `10.0.0.0` and `8/8`, `::1` has nothing behind.
abbrev pub IsCut : List ℕ → List ℕ → Option (List ℕ) → Type 0
IsCut text front None = (text ≡ front) × All (λ b. b ≢ slash) front
IsCut text front (Some back) = (text ≡ front ++ slash ∷ back) × All (λ b. b ≢ slash) front

-- 1 to 3 digits of value at most 255, and that value: `8` and `008` have 8
abbrev pub IsLength : List ℕ → ℕ → Type 0
IsLength digits n = IsNumber 10 digits n × (length digits ≤ 3) × (n ≤ 255)

-- what stands behind a slash is this length; no length where there is no slash
abbrev pub HasLength : Option (List ℕ) → Option ℕ → Type 0
HasLength None None = Unit {0}
HasLength None (Some n) = ⊥
HasLength (Some digits) None = ⊥
HasLength (Some digits) (Some n) = IsLength digits n

-- The text spells this address, and this prefix length or none: `::1`, `10.0.0.0/8`. `IsIpText` is the
-- kit's grammar of addresses (RFC 4291, section 2.2; of IPv4 four decimals without leading zeros).
pub record SpellsAddress (text : List ℕ) (a : IpAddr) (n : Option ℕ) : Type 0 where
  pub front : List ℕ
  pub back : Option (List ℕ)
  pub cut : IsCut text front back
  pub read : HasLength back n
  pub spelled : IsIpText front a

-- ---- what is set behind a prefix

-- behind the first n bits of the bytes there are zeros alone: behind 6 of FC, but not behind 5
abbrev pub IsZeroBehind : ℕ → List ℕ → Type 0
IsZeroBehind n bytes = All (λ b. b ≡ false) (drop n (joined_bits 8 bytes))

-- the address has that many bits, and none is set outside them: 192.0.2.0 fits 24, 23 and 32
abbrev pub FitsLength : IpAddr → Option ℕ → Type 0
FitsLength a None = Unit {0}
FitsLength a (Some n) = (n ≤ address_bits a) × IsZeroBehind n (address_bytes a)

-- the length is past the bits of the address: 33 of 192.0.2.0
abbrev pub IsTooLarge : IpAddr → Option ℕ → Type 0
IsTooLarge a None = ⊥
IsTooLarge a (Some n) = address_bits a < n

-- it is not, and bits are set behind the prefix: 192.0.2.1 leaves one behind 24
abbrev pub LeavesBits : IpAddr → Option ℕ → Type 0
LeavesBits a None = ⊥
LeavesBits a (Some n) = (n ≤ address_bits a) × ¬ (IsZeroBehind n (address_bytes a))

-- ---- what a text stands for, or why it is refused: the first reason that holds

-- the text stands for this address with this prefix length, or with none: `192.0.2.0/24` does, `192.0.2.1/24` does not
abbrev pub HasAddress : List ℕ → IpAddr → Option ℕ → Type 0
HasAddress text a n = SpellsAddress text a n × FitsLength a n

-- what stands behind the slash is no length, as in `10.0.0.0/256`, `10.0.0.0/`, `x/+8`
pub record HasNoLength (text : List ℕ) : Type 0 where
  pub front : List ℕ
  pub back : Option (List ℕ)
  pub cut : IsCut text front back
  pub unread : (n : Option ℕ) → ¬ (HasLength back n)

-- what stands before the slash, or the whole text, is no address, as in `01.2.3.4/8`, `1::2::3`
pub record HasUnknownFormat (text : List ℕ) : Type 0 where
  pub front : List ℕ
  pub back : Option (List ℕ)
  pub n : Option ℕ
  pub cut : IsCut text front back
  pub read : HasLength back n
  pub unspelled : (a : IpAddr) → ¬ (IsIpText front a)

abbrev pub Refuses : List ℕ → AddressError → Type 0
Refuses text NoLength = HasNoLength text
Refuses text UnknownFormat = HasUnknownFormat text
Refuses text LengthTooLarge = (a : IpAddr) × (n : Option ℕ) × SpellsAddress text a n × IsTooLarge a n
Refuses text BitsOutside = (a : IpAddr) × (n : Option ℕ) × SpellsAddress text a n × LeavesBits a n

-- what a reader of the text answers
abbrev pub Reads : List ℕ → Result (IpAddr × Option ℕ) AddressError → Type 0
Reads text r = MatchResult r (λ p. HasAddress text p.0 p.1) (Refuses text)

-- the message of a refusal
abbrev pub message_of : AddressError → List ℕ
message_of NoLength = codes "Prefix is not a (short) number"
message_of UnknownFormat = codes "No recognized address format"
message_of LengthTooLarge = codes "Prefix exceeds address size"
message_of BitsOutside = codes "No bits must be set in the address outside the prefix length"

-- ---- printing

-- `ip_text` is the kit's text of an address by RFC 5952: `1::2:0:0:3:4`, the first longest run of zeros as `::`; `::ffff:192.0.2.1`
abbrev pub address_text : IpAddr → Option ℕ → List ℕ
address_text a None = ip_text a
address_text a (Some n) = ip_text a ++ slash ∷ decimal n

-- ---- the bytes of an address with a prefix length

-- a byte in front of bytes that end in no zero; a zero in front of none is dropped
abbrev pub before : ℕ → List ℕ → List ℕ
before b [] = if b == 0 then [] else b ∷ []
before b (c ∷ cs) = b ∷ c ∷ cs

-- the bytes without the zeros at their end: C0 00 02 of C0 00 02 00
abbrev pub without_end_zeros : List ℕ → List ℕ
without_end_zeros [] = []
without_end_zeros (b ∷ bs) = before b (without_end_zeros bs)

-- the bytes, with zeros behind them up to this size: C0 00 02 00 of C0 00 02 up to 4
abbrev pub filled : ℕ → List ℕ → List ℕ
filled size bytes = bytes ++ replicate (size - length bytes) 0

-- the address of these bytes and of zeros behind them
abbrev pub filled_address : IpVersion → List ℕ → IpAddr
filled_address version bytes = address_from version (filled (size_of version) bytes)

-- The bytes as they stand in an item: all of them, or behind a prefix length those before the zeros at the end.
abbrev pub shown : Option ℕ → List ℕ → List ℕ
shown None bytes = bytes
shown (Some n) bytes = without_end_zeros bytes
