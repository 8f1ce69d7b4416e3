-- The table of numbers below 100 has the two digits of each.
use Rattle.std.proofs.Common.{ℕ, ◌+◌, ◌*◌, ◌/◌, ◌%◌, ◌<◌, ◌≤◌, ◌≡◌, List, [], ◌∷◌, ◌++◌, length, take, drop, map, get_or, refl, sym, ap, ◌∙◌, arith}
use Rattle.std.specs.List.{range_with_len}
use Rattle.std.specs.Str.{IsAscii, IsCharBoundary}
use Rattle.std.proofs.lemmas.Fmt.{IsAscii-from_digits}
use Rattle.std.proofs.lemmas.List.FromFn.{get_or-map-range_with_len}
use Rattle.std.proofs.lemmas.Str.{IsAscii-append, IsCharBoundary-from_ascii}
use Rattle.std.proofs.lemmas.Str.Ascii.{IsAscii-nil}
use Rattle.cbor_edn_times_and_addresses.specs.internal.TimeWriting.{padded, paired, pairs}
use Rattle.cbor_edn_times_and_addresses.proofs.TimeDigits.{padded_are}

pub pairs_length : length pairs ≡ 200
unfolding pairs padded
pairs_length = refl

paired_ascii : (ns : List ℕ) → IsAscii (paired ns)
paired_ascii [] = IsAscii-nil
paired_ascii (n ∷ ns) = IsAscii-append (padded 2 n) (paired ns) (IsAscii-from_digits (padded 2 n) (padded_are 2 n).1) (paired_ascii ns)

pub pairs_cut : (i : ℕ) → i ≤ 200 → IsCharBoundary pairs i
unfolding pairs
pairs_cut i le = IsCharBoundary-from_ascii pairs i (paired_ascii (range_with_len 0 100)) (omega (arith, pairs_length))

cut : ℕ → List ℕ
cut n = take 2 (drop (2 * n) pairs)

cuts : map cut (range_with_len 0 100) ≡ map (padded 2) (range_with_len 0 100)
unfolding cut pairs padded
cuts = refl

pub pair_at : (n : ℕ) → n < 100 → take 2 (drop (2 * n) pairs) ≡ padded 2 n
unfolding cut
pair_at n lt =
    sym (get_or-map-range_with_len cut 0 100 n n [] lt (omega arith)) ∙ ap (λ ps. get_or ps n []) cuts ∙ get_or-map-range_with_len (padded 2) 0 100 n n [] lt (omega arith)

-- more digits in front change nothing
pub last_pair : (n : ℕ) → padded 2 (n % 100) ≡ padded 2 n
unfolding padded
last_pair n =
    let one : n % 100 % 10 ≡ n % 10 = omega arith in
    let ten : n % 100 / 10 % 10 ≡ n / 10 % 10 = omega arith in
    rw (one, ten) refl

pub two_pairs : (n : ℕ) → padded 4 n ≡ padded 2 (n / 100) ++ padded 2 n
unfolding padded
two_pairs n =
    let hundred : n / 10 / 10 ≡ n / 100 = omega arith in
    rw hundred refl
