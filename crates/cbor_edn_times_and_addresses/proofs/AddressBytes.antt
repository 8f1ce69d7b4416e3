-- Addresses and their bytes.
use Rattle.std.proofs.Common.{◌≡◌, ◌+◌, ◌-◌, ◌*◌, ◌/◌, ◌%◌, ◌^◌, ◌<◌, ℕ, zero, suc, List, [], ◌∷◌, length, get_or, refl, arith, inl, inr}
use Rattle.std.proofs.lemmas.Bool.{cases_lt}
use Rattle.std.proofs.lemmas.List.Elements.{All-get_or}
use Rattle.std.proofs.Math.ListN.{get_or-eq_default}
use Rattle.std.specs.Net.Addr.{octets_of, segments_of}
use Rattle.std.specs.declared.net.ip_addr.IpAddr.{IpAddr}
use Rattle.std.specs.declared.net.ip_addr.IpAddr.TheVariants.{V4, V6}
use Rattle.cbor_edn_times_and_addresses.specs.declared.address.IpVersion.{IpVersion}
use Rattle.cbor_edn_times_and_addresses.specs.declared.address.IpVersion.TheVariants as Version
use Rattle.cbor_edn_times_and_addresses.specs.Address.{address_bytes, address_from, size_of, version_of}
use Rattle.cbor_edn_times_and_addresses.specs.AddressLaws.{IsAddress, AreBytes, AddressBytes}

abbrev Small : List ℕ → Type 0
Small xs = (k : ℕ) → get_or xs k 0 < 256

octets_of-segments_of : (n : ℕ) (xs : List ℕ) → length xs ≡ 2 * n → Small xs → octets_of (segments_of xs) ≡ xs
octets_of-segments_of n [] even small = refl
octets_of-segments_of n (a ∷ []) even small = absurd (omega arith)
octets_of-segments_of n (a ∷ b ∷ xs) even small =
    let high : (a * 256 + b) / 256 ≡ a = omega (arith, small 0, small 1) in
    let low : (a * 256 + b) % 256 ≡ b = omega (arith, small 0, small 1) in
    λ i. high i ∷ low i ∷ octets_of-segments_of (n - 1) xs (omega arith) (λ k. small (suc (suc k))) i

segments_of-octets_of : (xs : List ℕ) → segments_of (octets_of xs) ≡ xs
segments_of-octets_of [] = refl
segments_of-octets_of (s ∷ xs) =
    let whole : s / 256 * 256 + s % 256 ≡ s = omega arith in
    λ i. whole i ∷ segments_of-octets_of xs i

segments_fit : (n : ℕ) (xs : List ℕ) → length xs ≡ 2 * n → Small xs → (length (segments_of xs) ≡ n) × ((k : ℕ) → get_or (segments_of xs) k 0 < 2 ^ 16)
segments_fit n [] even small = (omega arith, λ k. omega arith)
segments_fit n (a ∷ []) even small = absurd (omega arith)
segments_fit n (a ∷ b ∷ xs) even small =
    let (len, later) = segments_fit (n - 1) xs (omega arith) (λ k. small (suc (suc k))) in (
      omega arith,
      λ k. elim k as (λ j. get_or ((a * 256 + b) ∷ segments_of xs) j 0 < 2 ^ 16) [
        | zero ↦ omega (arith, small 0, small 1)
        | suc j ↦ later j
      ],
    )

small : (bytes : List ℕ) → AreBytes bytes → Small bytes
small bytes all k =
    elim (cases_lt k (length bytes)) [
      | inl within ↦ All-get_or (λ b. b < 256) bytes k 0 within all
      | inr past ↦ omega (arith, get_or-eq_default bytes 0 past)
    ]

pub bytes_back : (v : IpVersion) (bytes : List ℕ) → AreBytes bytes → length bytes ≡ size_of v → AddressBytes v bytes
bytes_back Version.V4 bytes all len = record { back = refl; same_version = refl; kept = (len, small bytes all) }
bytes_back Version.V6 bytes all len = record {
  back = octets_of-segments_of 8 bytes len (small bytes all);
  same_version = refl;
  kept = segments_fit 8 bytes len (small bytes all);
}

pub address_back : (a : IpAddr) → IsAddress a → address_from (version_of a) (address_bytes a) ≡ a
address_back (V4 a) h = refl
address_back (V6 a) h = let e = segments_of-octets_of a.segments in λ i. V6 (record { segments = e i })
