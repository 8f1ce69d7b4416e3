-- Sequences whose items get the names of keys, one by one.
use Rattle.std.proofs.Common.{◌≡◌, ℕ, suc, [], ◌∷◌, true, false, Option, None, Some, refl, ap, ◌∙◌, subst}
use Rattle.std.specs.Prelude.{slice_get, option_map, option_and_then, unwrap_or}
use Rattle.cbor_edn_model.specs.access.Paths.{items_in, at, at_sequence, with_item, with_at, with_at_sequence}
use Rattle.cbor_edn_model.specs.tree.Trees.{Tree, OneItem, Seq, items}
use Rattle.cbor_edn_model.proofs.lemmas.access.ReplacedItems.{put_back}
use Rattle.cbor_edn_conversions.specs.CoseKeys.{with_key_names}
use Rattle.cbor_edn_conversions.proofs.conversions.CoseKept.{same_items}
use Rattle.cbor_edn_application.specs.Sequences.{with_each, with_first_items, IsChangedAt}
use Rattle.cbor_edn_application.proofs.ClaimsSets.{none_first, next_first, last_first}

abbrev pub with_first_names : ℕ → Tree Seq → Tree Seq
with_first_names = with_first_items with_key_names

pub names_first : (w : Tree Seq) → w ≡ with_first_names 0 w
names_first = none_first with_key_names

-- from the sequence as it was, w, to that with one item more
pub names_next : (n : ℕ) (w u v : Tree Seq) → u ≡ with_first_names n w → IsChangedAt with_key_names n true u v → v ≡ with_first_names (suc n) w
names_next n w u v so_far (c, there, is) =
    is ∙ ap (with_at_sequence (n ∷ []) (with_key_names c)) so_far ∙ next_first with_key_names n c w (subst (λ t. at_sequence (n ∷ []) t ≡ Some c) so_far there)

pub names_last : (n : ℕ) (w u v : Tree Seq) → u ≡ with_first_names n w → IsChangedAt with_key_names n false u v → v ≡ with_each with_key_names w
names_last n w u v so_far (none, is) = is ∙ so_far ∙ last_first with_key_names n w (subst (λ t. at_sequence (n ∷ []) t ≡ None) so_far none)

-- an item in a sequence that keeps its items
kept_by : (i : ℕ) (w : Tree Seq) (c x : Tree OneItem) (o : Option (Tree OneItem)) → slice_get (items_in w) i ≡ o → Some c ≡ option_and_then (at []) o → items x ≡ items c
    → items (unwrap_or (option_map (λ d. with_item i (with_at [] x d) w) o) w) ≡ items w
kept_by i w c x None got is same = absurd cc
kept_by i w c x (Some d) got is same =
    let there : c ≡ d = cc in same_items i x d w (same ∙ ap (λ (z : Tree OneItem). items z) there) ∙ ap (λ (z : Tree Seq). items z) (put_back i d w got)

pub item_in_kept : (i : ℕ) (w v : Tree Seq) (c x : Tree OneItem) → Some c ≡ at_sequence (i ∷ []) w → v ≡ with_at_sequence (i ∷ []) x w → items x ≡ items c → items v ≡ items w
item_in_kept i w v c x stood lent same = ap (λ (z : Tree Seq). items z) lent ∙ kept_by i w c x (slice_get (items_in w) i) refl stood same
