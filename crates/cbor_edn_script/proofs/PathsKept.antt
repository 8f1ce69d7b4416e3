-- Paths along which nothing changes, and the item where a path leads in a tag.
use Rattle.std.proofs.Common.{◌≡◌, ℕ, Result, Ok, Err, List, [], ◌∷◌, Option, Some, None, refl, sym, ap, ◌∙◌, subst}
use Rattle.std.specs.Option.{OnSome}
use Rattle.std.specs.Prelude.{slice_get, option_map, option_and_then, unwrap_or, OnErr, IfErr}
use Rattle.cbor_edn_model.specs.tree.Constructed.{tagged_tree}
use Rattle.cbor_edn_model.specs.cbor.Decoded.{alone}
use Rattle.cbor_edn_model.specs.access.Paths.{items_in, at, at_sequence, with_item, with_at, with_at_sequence}
use Rattle.cbor_edn_model.specs.tree.Trees.{Rule, Tree, OneItem, Seq}
use Rattle.cbor_edn_model.proofs.lemmas.access.ReplacedItems.{put_back}
use Rattle.cbor_edn_script.specs.Edits.{tagged_at}

-- where a path leads nowhere or to x, the tree with x there is the tree
unchanged_by : {s : Rule} (w : Tree s) (i : ℕ) (path : List ℕ) (x : Tree OneItem) → ((c : Tree OneItem) → unwrap_or (at path c) x ≡ x → with_at path x c ≡ c)
    → (o : Option (Tree OneItem)) → slice_get (items_in w) i ≡ o → unwrap_or (option_and_then (at path) o) x ≡ x → unwrap_or (option_map (λ c. with_item i (with_at path x c) w) o) w ≡ w
unchanged_by w i path x below None is e = refl
unchanged_by w i path x below (Some c) is e = ap (λ u. with_item i u w) (below c e) ∙ put_back i c w is

pub unchanged : (path : List ℕ) (x w : Tree OneItem) → unwrap_or (at path w) x ≡ x → with_at path x w ≡ w
unchanged [] x w e = sym e
unchanged (i ∷ path) x w e = unchanged_by w i path x (λ c. unchanged path x c) (slice_get (items_in w) i) refl e

pub sequence_unchanged : (path : List ℕ) (x : Tree OneItem) (w : Tree Seq) → unwrap_or (at_sequence path w) x ≡ x → with_at_sequence path x w ≡ w
sequence_unchanged [] x w e = refl
sequence_unchanged (i ∷ path) x w e = unchanged_by w i path x (λ c. unchanged path x c) (slice_get (items_in w) i) refl e

-- where it leads nowhere
pub nowhere : (path : List ℕ) (x : Tree OneItem) (w : Tree Seq) → None ≡ at_sequence path w → w ≡ with_at_sequence path x w
nowhere path x w e = sym (sequence_unchanged path x w (subst (λ o. unwrap_or o x ≡ x) e refl))

-- where it leads to x
pub put_again : (path : List ℕ) (x : Tree OneItem) (w : Tree Seq) → Some x ≡ at_sequence path w → with_at_sequence path x w ≡ w
put_again path x w e = sequence_unchanged path x w (subst (λ o. unwrap_or o x ≡ x) e refl)

-- the item in its tag
pub tagged_there : (path : List ℕ) (n : ℕ) (x : Tree OneItem) (w : Tree Seq) → Some x ≡ at_sequence path w → with_at_sequence path (tagged_tree n (alone x)) w ≡ tagged_at path n w
tagged_there path n x w e = subst (λ o. with_at_sequence path (tagged_tree n (alone x)) w ≡ unwrap_or (option_map (λ x. with_at_sequence path (tagged_tree n (alone x)) w) o) w) e refl

pub tagged_nowhere : (path : List ℕ) (n : ℕ) (w : Tree Seq) → None ≡ at_sequence path w → w ≡ tagged_at path n w
tagged_nowhere path n w e = subst (λ o. w ≡ unwrap_or (option_map (λ x. with_at_sequence path (tagged_tree n (alone x)) w) o) w) e refl

-- what holds where something was lent
pub where_lent : {A P : Type 0} {o : Option A} {x : A} → o ≡ Some x → OnSome o P → P
where_lent {A} {P} h k = subst (λ r. OnSome r P) h k

-- and where memory was refused
pub where_refused : {X E P Q : Type 0} (r : Result X E) → (P → Q) → IfErr r (λ _. P) → OnErr r Q
where_refused (Ok x) f h = tt
where_refused (Err e) f h = f h
