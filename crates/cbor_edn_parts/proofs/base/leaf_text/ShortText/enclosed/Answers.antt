use Rattle.std.proofs.Common.{◌≡◌, ◌+◌, ◌++◌, ℕ, List, length, take, ap, sym, subst, ◌∙◌, append_assoc, zero-add}
use Rattle.std.specs.Str.{IsUtf8}
use Rattle.std.proofs.lemmas.Str.{IsUtf8-append}
use Rattle.cbor_edn_parts.proofs.base.leaf_text.ShortText.enclosed.Goals as goal

-- three texts, written one behind the other
written : (f t l a b c : List ℕ) → take (0 + length f) a ≡ f → take (length f + length t) b ≡ take (length f) a ++ t
    → take (length f + length t + length l) c ≡ take (length f + length t) b ++ l → take (length f + length t + length l) c ≡ f ++ (t ++ l)
written f t l a b c first second third =
    let front : take (length f) a ≡ f = subst (λ n. take n a ≡ f) (zero-add (length f)) first in
    third ∙ ap (λ x. x ++ l) (second ∙ ap (λ x. x ++ t) front) ∙ append_assoc f t l

pub invariant_of-result-clause-utf8 : goal.invariant_of-result-clause-utf8
invariant_of-result-clause-utf8 c =
    let all = written _ _ _ _ _ _ c.put.ensures c.put-2.ensures c.put-3.ensures in
    ∣ subst IsUtf8 (sym all) (IsUtf8-append _ _ c.utf8.first (IsUtf8-append _ _ c.utf8.text c.utf8.last)) ∣₁

pub returns : goal.returns
returns c = written _ _ _ _ _ _ c.put.ensures c.put-2.ensures c.put-3.ensures
