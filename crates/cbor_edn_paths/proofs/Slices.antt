-- Pieces of a text that grow byte by byte, and where they may be cut.
use Rattle.std.proofs.Common.{arith, ◌≡◌, ℕ, suc, ◌+◌, ◌-◌, ◌<◌, ◌≤◌, Bool, true, false, List, [], ◌∷◌, ◌++◌, ap, ◌∙◌, length, take, drop, get_or, length-drop}
use Rattle.std.specs.Prelude.{slice_range, ◌==◌, ◌&&◌, ◌||◌, nat_le}
use Rattle.std.specs.Str.{IsUtf8}
use Rattle.std.proofs.Math.Seq.{take-suc}
use Rattle.std.proofs.lemmas.List.{get_or-drop}
use Rattle.std.proofs.lemmas.Bool.{leb-false}
use Rattle.std.proofs.lemmas.Str.{IsCharBoundary-before_ascii, IsCharBoundary-after_ascii}
use Rattle.cbor_edn_parts.proofs.lemmas.base.ScanLoops.{piece_none}
use Rattle.cbor_edn_paths.specs.Spelling.{is_name_byte}
use Rattle.cbor_edn_paths.specs.internal.Moves.{Stands}

pub piece_more : (text : List ℕ) (from at c : ℕ) → from ≤ at → Stands text at c → slice_range text from (at + 1) ≡ slice_range text from at ++ (c ∷ [])
piece_more text from at c le s =
    let n : (at + 1) - from ≡ suc (at - from) = omega arith in
    let whole : from + (at - from) ≡ at = omega arith in
    let short : at - from < length (drop from text) = omega (arith, length-drop from text, s.there) in
    rw n (take-suc (drop from text) (at - from) 0 short ∙ ap (λ b. take (at - from) (drop from text) ++ (b ∷ [])) (get_or-drop from text (at - from) 0 ∙ ap (λ i. get_or text i 0) whole ∙ s.is))

pub no_piece : (text : List ℕ) (at : ℕ) → slice_range text at at ≡ []
no_piece text at = piece_none text at

pub one_byte : (text : List ℕ) (at c : ℕ) → Stands text at c → slice_range text at (at + 1) ≡ c ∷ []
one_byte text at c s = piece_more text at at c (omega arith) s ∙ ap (λ x. x ++ (c ∷ [])) (no_piece text at)

pub stands : (text : List ℕ) (at c : ℕ) → IsUtf8 text → at < length text → get_or text at 0 ≡ c → Stands text at c
stands text at c utf8 lt is = record {
  there = lt;
  is = is;
  before = λ ascii. IsCharBoundary-before_ascii text at lt (rw is ascii);
  behind = λ ascii. IsCharBoundary-after_ascii text at utf8 lt (rw is ascii);
}

or_right : (a b : Bool) → (a || b) ≡ false → b ≡ false
or_right true b e = absurd (cc)
or_right false b e = e

-- each byte of a character from U+0080 on is one of a name
pub other_is_ascii : (c : ℕ) → is_name_byte c ≡ false → c < 128
other_is_ascii c h = leb-false 128 c (or_right (c == 45) _ (or_right (c == 95) _ (or_right (nat_le 48 c && nat_le c 57) _ (or_right (nat_le 65 c && nat_le c 90) _ (or_right (nat_le 97 c && nat_le c 122) _ h)))))
