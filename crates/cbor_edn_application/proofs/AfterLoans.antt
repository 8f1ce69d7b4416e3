-- What holds where something was lent, and what stays where nothing was.
use Rattle.std.proofs.Common.{◌≡◌, ℕ, List, [], ◌∷◌, Option, Some, None, refl, sym, ap, ◌∙◌, subst}
use Rattle.std.specs.Option.{OnSome}
use Rattle.std.specs.Prelude.{slice_get, option_map, option_and_then, unwrap_or}
use Rattle.cbor_edn_model.specs.access.Paths.{items_in, at, at_standalone, with_item, with_at, with_at_standalone}
use Rattle.cbor_edn_model.specs.tree.Trees.{Rule, Tree, OneItem, Standalone, StandaloneTree}
use Rattle.cbor_edn_model.proofs.lemmas.access.ReplacedItems.{put_back}

pub where_lent : {A P : Type 0} {o : Option A} {x : A} → o ≡ Some x → OnSome o P → P
where_lent {A} {P} h k = subst (λ r. OnSome r P) h k

-- where a path leads nowhere or to x, the tree with x there is the tree
unchanged_by : {s : Rule} (w : Tree s) (i : ℕ) (path : List ℕ) (x : Tree OneItem) → ((c : Tree OneItem) → unwrap_or (at path c) x ≡ x → with_at path x c ≡ c)
    → (o : Option (Tree OneItem)) → slice_get (items_in w) i ≡ o → unwrap_or (option_and_then (at path) o) x ≡ x → unwrap_or (option_map (λ c. with_item i (with_at path x c) w) o) w ≡ w
unchanged_by w i path x below None is e = refl
unchanged_by w i path x below (Some c) is e = ap (λ u. with_item i u w) (below c e) ∙ put_back i c w is

unchanged : (path : List ℕ) (x w : Tree OneItem) → unwrap_or (at path w) x ≡ x → with_at path x w ≡ w
unchanged [] x w e = sym e
unchanged (i ∷ path) x w e = unchanged_by w i path x (λ c. unchanged path x c) (slice_get (items_in w) i) refl e

-- where it leads nowhere
pub nowhere : (path : List ℕ) (x : Tree OneItem) (w : Tree Standalone) → None ≡ at_standalone path w → w ≡ with_at_standalone path x w
nowhere path x (StandaloneTree s w t) e = ap (λ z. StandaloneTree s z t) (sym (unchanged path x w (subst (λ o. unwrap_or o x ≡ x) e refl)))
