-- What is done to the entries of a list leaves the items of the list.
use Rattle.std.proofs.Common.{ℕ, suc, ◌≡◌, List, Option, Some, None, refl, ap, ◌∙◌}
use Rattle.cbor_edn_model.specs.tree.Items as kind
use Rattle.cbor_edn_model.specs.tree.Items.{Row, Pairs, Array, Map, Pair, Then, Listed}
use Rattle.cbor_edn_model.specs.tree.Trees.{Tree, OneItem, OneEntry, Rest, head_indicator, NumberTree, FloatTree, NamedTree, EnclosedTree, ListTree, StringTree, StreamTree, PairTree, EmptyTree, FullTree, LastTree, MoreTree, items}
use Rattle.cbor_edn_conversions.specs.Annotations.{Turn, turned}
use Rattle.cbor_edn_conversions.specs.Claims.{KeyReply, value_turn, key_turn, with_keys}
use Rattle.cbor_edn_conversions.specs.Conversions.{Reply}

-- what leaves the items of each item
abbrev pub LeavesItems : (Tree OneItem → Tree OneItem) → Type 0
LeavesItems f = (v : Tree OneItem) → items (f v) ≡ items v

-- ---- lists, entry by entry

pub turned_left : {k : Row} (turn : Turn k) → ((i : ℕ) (e : Tree (OneEntry k)) (s : List ℕ) → items (turn i e s).0 ≡ items e) → (i : ℕ) (m : Tree (Rest k)) → items (turned turn i m) ≡ items m
unfolding items
turned_left turn leaves i (LastTree e s) = ap (λ x. Then x kind.End) (leaves i e s)
turned_left turn leaves i (MoreTree e s m) = ap (λ x. Then x (items (turned turn (suc i) m))) (leaves i e s) ∙ ap (Then (items e)) (turned_left turn leaves (suc i) m)

-- ---- maps

-- what is done at a value leaves its items
abbrev pub Leaves : Option (Tree OneItem → Reply) → Type 0
Leaves None = Unit {0}
Leaves (Some f) = LeavesItems (λ v. (f v).1)

value_left : (o : Option (Tree OneItem → Reply)) → Leaves o → (v : Tree OneItem) (r : List ℕ) → items (value_turn o v r).0 ≡ items v
value_left None h v r = refl
value_left (Some f) h v r = h v

module _ (at_key : Tree OneItem → KeyReply) (leaves : (k : Tree OneItem) → Leaves (at_key k).1) where
  pair_left : (i : ℕ) (e : Tree (OneEntry Pairs)) (r : List ℕ) → items (key_turn at_key i e r).0 ≡ items e
  unfolding items
  pair_left i (PairTree k s t v) r = ap (Pair (items k)) (value_left (at_key k).1 (leaves k) v r)

  pub keys_left : (w : Tree OneItem) → items (with_keys at_key w).1 ≡ items w
  unfolding items
  keys_left (ListTree Map (FullTree h s m)) = ap (Listed Map (head_indicator h)) (turned_left (key_turn at_key) pair_left 0 m)
  keys_left (ListTree Map (EmptyTree i s)) = refl
  keys_left (ListTree Array w) = refl
  keys_left (NumberTree t i) = refl
  keys_left (FloatTree f i) = refl
  keys_left (NamedTree b) = refl
  keys_left (EnclosedTree l w) = refl
  keys_left (StringTree w) = refl
  keys_left (StreamTree s m) = refl
