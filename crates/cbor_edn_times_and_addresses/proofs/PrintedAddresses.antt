-- What is printed reads back.
use Rattle.std.proofs.Common.{◌^◌, ◌<◌, ℕ, List, [], ◌∷◌, ◌++◌, All, Option, Some, None, refl, arith, codes, decimal, lit<, take, drop, get_or, zero, suc, bytes_eq}
use Rattle.std.proofs.lemmas.Bool.{cond_both}
use Rattle.std.proofs.lemmas.List.Elements.{All-nil, All-cons, All-append, All-weaker, All-from_recursion}
use Rattle.std.proofs.lemmas.Str.Parse.{digit_at}
use Rattle.std.specs.Str.Parse.{AllDigits}
use Rattle.std.proofs.lemmas.Fmt.{decimal_is_IsNumeral, length-decimal-le}
use Rattle.std.specs.Net.Addr.{ipv4_octets, ipv6_segments, octets_of}
use Rattle.std.specs.Net.Text.{ipv4_text, ipv6_text, hex_groups_text, ip_text}
use Rattle.std.specs.Net.Grammar.{IsIpText}
use Rattle.std.proofs.NetLemmas.Alphabet.{IsDigitOrDot, IsHexOrColon, All-ipv4_text, All-hex_groups_text}
use Rattle.std.proofs.NetLemmas.Texts.{IsDotted-ipv4_text, IsColonHex-ipv6_text, AllSegments, AllSegments-drop, IsZeroRun-longest_zero_run, longest_zero_run_first}
use Rattle.std.specs.declared.net.ip_addr.IpAddr.{IpAddr}
use Rattle.std.specs.declared.net.ip_addr.IpAddr.TheVariants.{V4, V6}
use Rattle.cbor_edn_times_and_addresses.specs.Address.{IsCut, HasLength, SpellsAddress, address_text}
use Rattle.cbor_edn_times_and_addresses.specs.AddressLaws.{IsAddress, IsByte, LongestZeroRun}
use Rattle.cbor_edn_times_and_addresses.proofs.ReadAddresses.{NoSlash}

spelled : (a : IpAddr) → IsAddress a → IsIpText (ip_text a) a
spelled (V4 a) h = IsDotted-ipv4_text _ h.0 h.1
spelled (V6 a) h = IsColonHex-ipv6_text _ h.0 h.1

no_slash4 : (o : List ℕ) → ((k : ℕ) → get_or o k 0 < 2 ^ 8) → All NoSlash (ipv4_text o)
no_slash4 o h = All-weaker IsDigitOrDot NoSlash (λ b k. omega arith) (ipv4_text o) (All-ipv4_text o h)

octets_fit : (xs : List ℕ) → AllSegments xs → (k : ℕ) → get_or (octets_of xs) k 0 < 2 ^ 8
octets_fit [] h k = omega arith
octets_fit (s ∷ xs) h zero = omega (arith, h 0)
octets_fit (s ∷ xs) h (suc zero) = omega arith
octets_fit (s ∷ xs) h (suc (suc k)) = octets_fit xs (λ j. h (suc j)) k

mapped : All NoSlash (codes "::ffff:")
mapped = All-from_recursion NoSlash (codes "::ffff:") (omega arith)

no_slash6 : (s : List ℕ) → AllSegments s → All NoSlash (ipv6_text s)
unfolding ipv6_text
no_slash6 s h =
    let dotted = codes "::ffff:" ++ ipv4_text (octets_of (drop 6 s)) in
    cond_both (bytes_eq (take 6 s) (0 ∷ 0 ∷ 0 ∷ 0 ∷ 0 ∷ 0xffff ∷ [])) dotted (hex_groups_text s) (All NoSlash)
    (λ _. All-append NoSlash (codes "::ffff:") (ipv4_text (octets_of (drop 6 s))) mapped (no_slash4 _ (octets_fit (drop 6 s) (AllSegments-drop 6 s h))))
    (λ _. All-weaker IsHexOrColon NoSlash (λ b k. omega arith) (hex_groups_text s) (All-hex_groups_text s h))

no_slash : (a : IpAddr) → IsAddress a → All NoSlash (ip_text a)
no_slash (V4 a) h = no_slash4 (ipv4_octets a) h.1
no_slash (V6 a) h = no_slash6 (ipv6_segments a) h.1

-- what stands behind the slash
abbrev behind : Option ℕ → Option (List ℕ)
behind None = None
behind (Some n) = Some (decimal n)

printed_cut : (a : IpAddr) (n : Option ℕ) → IsAddress a → IsCut (address_text a n) (ip_text a) (behind n)
printed_cut a None h = (refl, no_slash a h)
printed_cut a (Some n) h = (refl, no_slash a h)

printed_length : (n : Option ℕ) → IsByte n → HasLength (behind n) n
printed_length None h = tt
printed_length (Some n) h =
    (decimal_is_IsNumeral n (omega (arith, h)), length-decimal-le 3 n (lit< tt) (omega (arith, h)) (omega (arith, h)), omega (arith, h))

pub printed_spells : (a : IpAddr) (n : Option ℕ) → IsAddress a → IsByte n → SpellsAddress (address_text a n) a n
printed_spells a n h fits = record {
  front = ip_text a;
  back = behind n;
  cut = printed_cut a n h;
  read = printed_length n fits;
  spelled = spelled a h;
}

pub longest_run : (segments : List ℕ) → LongestZeroRun segments
longest_run segments = record {
  run = IsZeroRun-longest_zero_run segments;
  longest = λ start len h. (longest_zero_run_first segments start len h).0;
  first = λ start len h. (longest_zero_run_first segments start len h).1;
}

-- ---- the text is of bytes

abbrev pub IsTextByte : ℕ → Type 0
IsTextByte b = b < 256

dotted_bytes : (o : List ℕ) → ((k : ℕ) → get_or o k 0 < 2 ^ 8) → All IsTextByte (ipv4_text o)
dotted_bytes o h = All-weaker IsDigitOrDot IsTextByte (λ b k. omega arith) (ipv4_text o) (All-ipv4_text o h)

mapped_bytes : All IsTextByte (codes "::ffff:")
mapped_bytes = All-from_recursion IsTextByte (codes "::ffff:") (omega arith)

colon_bytes : (s : List ℕ) → AllSegments s → All IsTextByte (ipv6_text s)
unfolding ipv6_text
colon_bytes s h =
    let dotted = codes "::ffff:" ++ ipv4_text (octets_of (drop 6 s)) in
    cond_both (bytes_eq (take 6 s) (0 ∷ 0 ∷ 0 ∷ 0 ∷ 0 ∷ 0xffff ∷ [])) dotted (hex_groups_text s) (All IsTextByte)
    (λ _. All-append IsTextByte (codes "::ffff:") (ipv4_text (octets_of (drop 6 s))) mapped_bytes (dotted_bytes _ (octets_fit (drop 6 s) (AllSegments-drop 6 s h))))
    (λ _. All-weaker IsHexOrColon IsTextByte (λ b k. omega arith) (hex_groups_text s) (All-hex_groups_text s h))

ip_bytes : (a : IpAddr) → IsAddress a → All IsTextByte (ip_text a)
ip_bytes (V4 a) h = dotted_bytes (ipv4_octets a) h.1
ip_bytes (V6 a) h = colon_bytes (ipv6_segments a) h.1

digit_bytes : (ds : List ℕ) → AllDigits 10 ds → All IsTextByte ds
digit_bytes [] h = All-nil IsTextByte
digit_bytes (c ∷ ds) h = let d = digit_at (c ∷ ds) 0 h (omega arith) in All-cons IsTextByte c ds (omega (arith, d)) (digit_bytes ds h.1)

pub text_bytes : (a : IpAddr) (n : Option ℕ) → IsAddress a → IsByte n → All IsTextByte (address_text a n)
text_bytes a None h is = ip_bytes a h
text_bytes a (Some n) h is =
    let numeral = decimal_is_IsNumeral n (omega (arith, is)) in
    All-append IsTextByte (ip_text a) (47 ∷ decimal n) (ip_bytes a h) (All-cons IsTextByte 47 (decimal n) (omega arith) (digit_bytes (decimal n) numeral.0.1))
