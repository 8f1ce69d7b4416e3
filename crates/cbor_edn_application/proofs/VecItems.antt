-- What an iterator of a `Vec` gives.
use Rattle.std.proofs.Common.{List, ◌≡◌, length, sym, subst, ◌∙◌}
use Rattle.std.specs.Iterator.{Drains}
use Rattle.std.specs.Vec.Iter.{into_iter_items, into_iter_len, into_iter_steps}
use Rattle.std.proofs.lemmas.Iterator.{items_from_drains}
use Rattle.std.proofs.lemmas.Iterator.Adapters.{YieldsList-from_vec}
use mathlib.Core.List.{map-id}

pub all_of_vec : {A Z : Type 0} (P : List A → Type 0) (xs ys : List A) (it : _) → into_iter_items {X = A} {Z = Z} it ≡ xs → into_iter_len it ≡ length xs → Drains (into_iter_steps {X = A} {Z = Z}) it ys → P ys → P xs
all_of_vec P xs ys it items len drains holds =
    let same : ys ≡ xs = sym (map-id ys) ∙ items_from_drains ys (drains.1.0, drains.1.1, λ _. (drains.0, drains.1.2)) (YieldsList-from_vec xs items len) in
    subst P same holds
