use Rattle.std.proofs.Common.{◌≡◌, ℕ, ◌+◌, ◌<◌, get_or, drop, Option, Some, None, IsUtf8, List, add-zero, refl}
use Rattle.std.specs.Prelude.{IfSome}
use Rattle.std.specs.Str.{IsCharBoundary}
use Rattle.std.proofs.lemmas.List.{get_or-drop}
use Rattle.std.proofs.lemmas.Str.{IsCharBoundary-after_ascii}
use Rattle.cbor_edn_parts.specs.internal.Scans.{IsAt}
use Rattle.cbor_edn_parts.proofs.base.input.Input.byte.Goals as goal

behind : (text : List ℕ) (at : ℕ) (r : Option ℕ) → IsUtf8 text → IsAt text at r → IfSome r (λ c. c < 128 → IsCharBoundary text (at + 1))
behind text at None utf8 h = tt
behind text at (Some c) utf8 h = λ ascii.
    let same : get_or (drop at text) 0 0 ≡ c = rw h.0 refl in
    let is : get_or text at 0 ≡ c = rw (get_or-drop at text 0 0, add-zero) at same in
    IsCharBoundary-after_ascii text at utf8 h.1 (rw is ascii)

pub returns-clause-behind : goal.returns-clause-behind
returns-clause-behind c = rw (← c.as_str.ensures) (behind c.as_str.result.now c.args.at c.byte_of.result c.as_str.utf8 c.byte_of.ensures)
