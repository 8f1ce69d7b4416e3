-- A reader of address texts that computes.
use Rattle.std.specs.Prelude.{ℕ, ◌-◌, ◌%◌, ◌^◌, Bool, true, ◌&&◌, ◌==◌, nat_lt, nat_le, List, [], ◌∷◌, length, Option, Some, None, Result, Ok, Err, if◌then◌else◌}
use Rattle.std.specs.Str.{all_ascii_digits}
use Rattle.std.specs.Str.Parse.{digits_value}
use Rattle.std.specs.Net.Reader.{whole_value, read_ipv4, read_ipv6}
use Rattle.std.specs.declared.net.ip_addr.IpAddr.{IpAddr}
use Rattle.std.specs.declared.net.ip_addr.IpAddr.TheVariants.{V4, V6}
use Rattle.cbor_edn_times_and_addresses.specs.declared.address.AddressError.{AddressError}
use Rattle.cbor_edn_times_and_addresses.specs.declared.address.AddressError.TheVariants.{NoLength, UnknownFormat, LengthTooLarge, BitsOutside}
use Rattle.cbor_edn_times_and_addresses.specs.Address.{slash, address_bits, address_bytes, IsTooLarge, LeavesBits}

-- what stands before the first slash, and behind it, if there is one
abbrev pub cut : List ℕ → List ℕ × Option (List ℕ)
cut [] = ([], None)
cut (c ∷ t) = if c == slash then ([], Some t) else (c ∷ (cut t).0, (cut t).1)

abbrev pub is_length : List ℕ → Bool
is_length digits = nat_lt 0 (length digits) && all_ascii_digits digits && nat_le (length digits) 3 && nat_le (digits_value 10 digits) 255

abbrev pub length_of : Option (List ℕ) → Result (Option ℕ) AddressError
length_of None = Ok None
length_of (Some digits) = if is_length digits then Ok (Some (digits_value 10 digits)) else Err NoLength

-- the address of these octets, or else of these segments
abbrev pub ip_from : Option (List ℕ) → Option (List ℕ) → Result IpAddr AddressError
ip_from (Some octets) segments = Ok (V4 (record { octets = octets }))
ip_from None (Some segments) = Ok (V6 (record { segments = segments }))
ip_from None None = Err UnknownFormat

abbrev pub ip_of : List ℕ → Result IpAddr AddressError
ip_of text = ip_from (whole_value (read_ipv4 text)) (whole_value (read_ipv6 text))

-- `IsZeroBehind` by bytes: each is a multiple of a power of two
abbrev pub is_zero_behind : ℕ → List ℕ → Bool
is_zero_behind n [] = true
is_zero_behind n (b ∷ bs) = (b % 2 ^ (8 - n) == 0) && is_zero_behind (n - 8) bs

-- what a refusal says of an address and a prefix length that have been read
abbrev pub Misfits : IpAddr → Option ℕ → AddressError → Type 0
Misfits a n NoLength = ⊥
Misfits a n UnknownFormat = ⊥
Misfits a n LengthTooLarge = IsTooLarge a n
Misfits a n BitsOutside = LeavesBits a n

abbrev pub fitted : IpAddr → Option ℕ → Result (IpAddr × Option ℕ) AddressError
fitted a None = Ok (a, None)
fitted a (Some n) =
    if nat_lt (address_bits a) n then Err LengthTooLarge
    else (if is_zero_behind n (address_bytes a) then Ok (a, Some n) else Err BitsOutside)

abbrev pub onto : {A B : Type 0} → Result A AddressError → (A → Result B AddressError) → Result B AddressError
onto (Ok x) f = f x
onto (Err e) f = Err e

unfoldable pub address_of : List ℕ → Result (IpAddr × Option ℕ) AddressError
address_of text = onto (length_of (cut text).1) λ n. onto (ip_of (cut text).0) λ a. fitted a n
