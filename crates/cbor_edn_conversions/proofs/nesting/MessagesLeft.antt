-- Messages with their claims are no deeper, by any measure that is no greater where an item in an item is no deeper.
use Rattle.std.proofs.Common.{ℕ, ◌≤◌, ◌≡◌, Bool, true, false, cond, List, slice_get, Option, Some, None, refl, ap, arith}
use Rattle.cbor_edn_model.specs.access.Paths.{items_in, with_item}
use Rattle.cbor_edn_model.specs.tree.Items.{Array, Map}
use Rattle.cbor_edn_model.specs.tree.Trees.{Tree, OneItem, NumberTree, FloatTree, NamedTree, EnclosedTree, ListTree, StringTree, StreamTree}
use Rattle.cbor_edn_model.proofs.lemmas.access.ReplacedItems.{put_back}
use Rattle.cbor_edn_conversions.specs.Cose.{with_other, in_item, in_string}
use Rattle.cbor_edn_conversions.specs.CoseTables.{parts}
use Rattle.cbor_edn_conversions.specs.EmbeddedItems.{is_structure}
use Rattle.cbor_edn_conversions.specs.MessageClaims.{claims_and_keys, is_payload, in_payload, in_message}
use Rattle.cbor_edn_conversions.specs.declared.tables.Structure.{Structure}

module _ (measure : Tree OneItem → ℕ) (in_place : (i : ℕ) (x y w : Tree OneItem) → measure x ≤ measure y → measure (with_item i x w) ≤ measure (with_item i y w)) where
  -- what leaves no item deeper
  abbrev pub Shallows : (Tree OneItem → Tree OneItem) → Type 0
  Shallows f = (v : Tree OneItem) → measure (f v) ≤ measure v

  itself : (w : Tree OneItem) → measure w ≤ measure w
  itself w = omega arith

  other_within : (i : ℕ) (f : Tree OneItem → Tree OneItem) → Shallows f → (w : Tree OneItem) (o : Option (Tree OneItem)) → slice_get (items_in w) i ≡ o → measure (with_other i f w o) ≤ measure w
  other_within i f leaves w None got = itself w
  other_within i f leaves w (Some c) got = let k = in_place i (f c) c w (leaves c) in let e = ap measure (put_back i c w got) in omega (arith, k, e)

  item_within : (i : ℕ) (f : Tree OneItem → Tree OneItem) → Shallows f → Shallows (in_item i f)
  item_within i f leaves w = other_within i f leaves w (slice_get (items_in w) i) refl

  string_within : (f : Tree OneItem → Tree OneItem) → Shallows f → Shallows (in_string f)
  string_within f leaves w = by (is_structure w)
    where
      by : (b : Bool) → measure (cond b w (in_item 0 f w)) ≤ measure w
      by true = itself w
      by false = item_within 0 f leaves w

  payload_within : (f : Tree OneItem → Tree OneItem) → Shallows f → Shallows (in_payload f)
  payload_within f leaves (ListTree Array w) = item_within 2 (in_string f) (string_within f leaves) (ListTree Array w)
  payload_within f leaves (ListTree Map w) = itself (ListTree Map w)
  payload_within f leaves (NumberTree x i) = itself (NumberTree x i)
  payload_within f leaves (FloatTree g i) = itself (FloatTree g i)
  payload_within f leaves (NamedTree b) = itself (NamedTree b)
  payload_within f leaves (EnclosedTree l w) = itself (EnclosedTree l w)
  payload_within f leaves (StringTree w) = itself (StringTree w)
  payload_within f leaves (StreamTree s m) = itself (StreamTree s m)

  pub message_within : Shallows claims_and_keys → (o : Option (List ℕ × Structure)) (w : Tree OneItem) → measure (in_message w o) ≤ measure w
  message_within leaves None w = itself w
  message_within leaves (Some r) w = by (is_payload (slice_get (parts r.1) 2))
    where
      by : (b : Bool) → measure (cond b (in_item 0 (in_payload claims_and_keys) w) w) ≤ measure w
      by true = item_within 0 (in_payload claims_and_keys) (payload_within claims_and_keys leaves) w
      by false = itself w
