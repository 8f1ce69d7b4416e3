-- What holds of the texts of addresses.
use Rattle.std.specs.Prelude.{ℕ, ◌+◌, ◌≡◌, ◌≢◌, ◌↔◌, ◌<◌, ◌≤◌, List, [], ◌∷◌, ◌++◌, length, take, drop, replicate, All, None, Option, IfSome, Result}
use Rattle.std.specs.declared.net.ip_addr.IpAddr.{IpAddr}
use Rattle.cbor_edn_times_and_addresses.specs.declared.address.IpVersion.{IpVersion}
use Rattle.cbor_edn_times_and_addresses.specs.declared.address.AddressError.{AddressError}
use Rattle.std.specs.Net.Text.{longest_zero_run}
use Rattle.std.specs.Net.Addr.{MatchIp, IsIpv4Addr, IsIpv6Addr}
use Rattle.cbor_edn_times_and_addresses.specs.Address.{address_from, filled_address, size_of, version_of, address_bytes, SpellsAddress, Reads, address_text, without_end_zeros, filled, shown}
use Rattle.cbor_edn_times_and_addresses.specs.internal.AddressReading.{address_of}

-- A text spells one address with one length or none, at most, and has one answer, which the reader that computes gives.
pub record AddressTexts (text : List ℕ) : Type 0 where
  pub spelled : (a b : IpAddr) (m n : Option ℕ) → SpellsAddress text a m → SpellsAddress text b n → (a ≡ b) × (m ≡ n)
  pub one : (r s : Result (IpAddr × Option ℕ) AddressError) → Reads text r → Reads text s → r ≡ s
  pub computed : (r : Result (IpAddr × Option ℕ) AddressError) → Reads text r ↔ (address_of text ≡ r)

-- what the types keep: four octets, or eight segments of 16 bits
abbrev pub IsAddress : IpAddr → Type 0
IsAddress a = MatchIp a IsIpv4Addr IsIpv6Addr

-- a prefix length is a byte
abbrev pub IsByte : Option ℕ → Type 0
IsByte n = IfSome n (λ k. k < 256)

-- Addresses and their bytes go with one another.
pub record AddressBytes (version : IpVersion) (bytes : List ℕ) : Type 0 where
  pub back : address_bytes (address_from version bytes) ≡ bytes
  pub same_version : version_of (address_from version bytes) ≡ version
  pub kept : IsAddress (address_from version bytes)

abbrev pub AreBytes : List ℕ → Type 0
AreBytes bytes = All (λ b. b < 256) bytes

-- Bytes of an item, with a prefix length or none: the address that they are filled to is printed as a text that spells it and
-- the length, and has the bytes again, but for zeros that they have at the end beside a length.
pub record PrintedBytes (version : IpVersion) (bytes : List ℕ) (n : Option ℕ) : Type 0 where
  pub spelled : SpellsAddress (address_text (filled_address version bytes) n) (filled_address version bytes) n
  pub same_version : version_of (filled_address version bytes) ≡ version
  pub again : shown n (address_bytes (filled_address version bytes)) ≡ shown n bytes

-- bytes as an item has them: the whole address, or at most that beside a prefix length
pub record AreOfItem (version : IpVersion) (bytes : List ℕ) (n : Option ℕ) : Type 0 where
  pub are_bytes : AreBytes bytes
  pub is_byte : IsByte n
  pub within : length bytes ≤ size_of version
  pub whole : n ≡ None → length bytes ≡ size_of version

-- this many zeros stand from there on
abbrev pub IsZeroRun : List ℕ → ℕ → ℕ → Type 0
IsZeroRun xs start len = (start + len ≤ length xs) × (take len (drop start xs) ≡ replicate len 0)

-- The run of zero segments that is printed as `::`: no other is longer, and none of its length begins before it.
pub record LongestZeroRun (segments : List ℕ) : Type 0 where
  pub run : IsZeroRun segments (longest_zero_run segments).0 (longest_zero_run segments).1
  pub longest : (start len : ℕ) → IsZeroRun segments start len → len ≤ (longest_zero_run segments).1
  pub first : (start len : ℕ) → IsZeroRun segments start len → len ≡ (longest_zero_run segments).1 → (longest_zero_run segments).0 ≤ start

-- Zeros at the end are dropped and filled in again.
pub record EndZeros (bytes : List ℕ) : Type 0 where
  pub shortest : (front : List ℕ) → without_end_zeros bytes ≢ front ++ 0 ∷ []
  pub filled_again : filled (length bytes) (without_end_zeros bytes) ≡ bytes
  pub dropped_again : (size : ℕ) → without_end_zeros (filled size bytes) ≡ without_end_zeros bytes
  pub stays : (front : List ℕ) (b : ℕ) → b ≢ 0 → bytes ≡ front ++ b ∷ [] → without_end_zeros bytes ≡ bytes
