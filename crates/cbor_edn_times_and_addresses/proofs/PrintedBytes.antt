-- Bytes of an item, through the text and back.
use Rattle.std.proofs.Common.{◌≡◌, ◌∙◌, All, ◌-◌, ◌<◌, ◌≤◌, ℕ, List, ◌++◌, length, replicate, Option, Some, None, refl, ap, arith, lit<, append-nil, length-append}
use Rattle.std.proofs.lemmas.List.{length-replicate}
use Rattle.std.proofs.lemmas.List.Elements.{All-append, All-replicate}
use Rattle.cbor_edn_times_and_addresses.specs.declared.address.IpVersion.{IpVersion}
use Rattle.cbor_edn_times_and_addresses.specs.Address.{address_text, filled_address, size_of, filled, shown}
use Rattle.cbor_edn_times_and_addresses.specs.AddressLaws.{AreBytes, AreOfItem, PrintedBytes}
use Rattle.cbor_edn_times_and_addresses.proofs.AddressBytes.{bytes_back}
use Rattle.cbor_edn_times_and_addresses.proofs.EndZeros.{end_zeros}
use Rattle.cbor_edn_times_and_addresses.proofs.PrintedAddresses.{printed_spells, IsTextByte, text_bytes}

length-filled : (size : ℕ) (bytes : List ℕ) → length bytes ≤ size → length (filled size bytes) ≡ size
length-filled size bytes h =
    let zeros : List ℕ = replicate (size - length bytes) 0 in
    let many : length zeros ≡ size - length bytes = length-replicate (size - length bytes) 0 in
    omega (arith, length-append bytes zeros, many)

AreBytes-filled : (size : ℕ) (bytes : List ℕ) → AreBytes bytes → AreBytes (filled size bytes)
AreBytes-filled size bytes all =
    All-append (λ b. b < 256) bytes _ all (All-replicate (λ b. b < 256) (size - length bytes) 0 (lit< tt))

filled_whole : (size : ℕ) (bytes : List ℕ) → length bytes ≡ size → filled size bytes ≡ bytes
filled_whole size bytes whole =
    let none : size - length bytes ≡ 0 = omega arith in
    ap (λ k. bytes ++ replicate k 0) none ∙ append-nil bytes

shown_filled : (v : IpVersion) (bytes : List ℕ) (n : Option ℕ) → AreOfItem v bytes n → shown n (filled (size_of v) bytes) ≡ shown n bytes
shown_filled v bytes None h = filled_whole (size_of v) bytes (h.whole refl)
shown_filled v bytes (Some n) h = (end_zeros bytes).dropped_again (size_of v)

pub printed_bytes : (v : IpVersion) (bytes : List ℕ) (n : Option ℕ) → AreOfItem v bytes n → PrintedBytes v bytes n
printed_bytes v bytes n h =
    let same = bytes_back v (filled (size_of v) bytes) (AreBytes-filled (size_of v) bytes h.are_bytes) (length-filled (size_of v) bytes h.within) in
    record {
      spelled = printed_spells (filled_address v bytes) n same.kept h.is_byte;
      same_version = same.same_version;
      again = ap (shown n) same.back ∙ shown_filled v bytes n h;
    }

-- The text is of bytes.
pub printed_text_bytes : (v : IpVersion) (bytes : List ℕ) (n : Option ℕ) → AreOfItem v bytes n → All IsTextByte (address_text (filled_address v bytes) n)
printed_text_bytes v bytes n h =
    let same = bytes_back v (filled (size_of v) bytes) (AreBytes-filled (size_of v) bytes h.are_bytes) (length-filled (size_of v) bytes h.within) in
    text_bytes (filled_address v bytes) n same.kept h.is_byte
