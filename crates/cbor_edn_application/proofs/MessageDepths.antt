-- Claims in COSE messages, with their comments and their times, nest no deeper.
use Rattle.std.proofs.Common.{ℕ, suc, ◌-◌, ◌≤◌, Bool, true, false, cond, eqb, ltb, List, length, Option, Some, None, arith}
use Rattle.std.specs.Prelude.{option_map, option_and_then}
use Rattle.cbor_edn_model.specs.access.Paths.{items_in, with_item}
use Rattle.cbor_edn_model.specs.declared.text.opener.OpenerKind.TheVariants as opener
use Rattle.cbor_edn_model.specs.tree.Items.{Pairs, Array, Map}
use Rattle.cbor_edn_model.specs.tree.Trees.{Rule, Tree, OneItem, Rest, NumberTree, FloatTree, NamedTree, EnclosedTree, ListTree, StringTree, StreamTree, LiteralTree, EllipsisTree, EmbeddedTree, LastPieceTree, PlusTree, ElementTree, PairTree, ChunkTree, EmptyTree, FullTree, LastTree, MoreTree, NothingTree, SequenceTree, StandaloneTree}
use Rattle.cbor_edn_model.specs.visit.Depth.{depth}
use Rattle.cbor_edn_model.specs.visit.Seeking.{CallArguments}
use Rattle.cbor_edn_conversions.specs.Annotations.{turned}
use Rattle.cbor_edn_conversions.specs.Claims.{KeyReply, value_turn, key_turn, with_keys, named, confirmation_key, claim_value, claim_key, with_claims}
use Rattle.cbor_edn_conversions.specs.Conversions.{Reply}
use Rattle.cbor_edn_conversions.specs.Cose.{called_message}
use Rattle.cbor_edn_conversions.specs.Integers.{item_integer}
use Rattle.cbor_edn_conversions.specs.MessageClaims.{claims_and_keys, message_claims}
use Rattle.cbor_edn_conversions.specs.Tables.{found, claims}
use Rattle.cbor_edn_conversions.specs.Times.{time_literal}
use Rattle.cbor_edn_conversions.specs.declared.tables.ClaimValue.{ClaimValue}
use Rattle.cbor_edn_conversions.specs.declared.tables.ClaimValue.TheVariants.{Timestamp, Confirmation}
use Rattle.cbor_edn_conversions.proofs.conversions.CoseKept.{key_names_keep}
use Rattle.cbor_edn_conversions.proofs.nesting.GivenItems.{reply_gives, time_gives}
use Rattle.cbor_edn_conversions.proofs.nesting.MessagesLeft.{message_within}
use Rattle.cbor_edn_conversions.proofs.nesting.TagDepths.{NoDeeper, literal_flat}
use Rattle.cbor_edn_application.proofs.CommentVisits.{items_depth}
use Rattle.cbor_edn_application.proofs.KeptClaims.{confirmation_keys_kept}
use Rattle.cbor_edn_application.proofs.MapVisits.{keys_kept}

-- ---- items in items

pick : {s : Rule} (b : Bool) (l r k q : Tree s) → depth l ≤ depth k → depth r ≤ depth q → depth (cond b l r) ≤ depth (cond b k q)
pick true l r k q first second = first
pick false l r k q first second = second

same : {s : Rule} (w : Tree s) → depth w ≤ depth w
same w = omega arith

-- an item in the place of one that nests as deep
in_place : {s : Rule} (i : ℕ) (x y : Tree OneItem) (w : Tree s) → depth x ≤ depth y → depth (with_item i x w) ≤ depth (with_item i y w)
unfolding depth
in_place i x y (NumberTree n p) h = omega arith
in_place i x y (FloatTree f p) h = omega arith
in_place i x y (NamedTree b) h = omega arith
in_place i x y (EnclosedTree (opener.Tag p n) w) h = let k = in_place i x y w h in omega (arith, k)
in_place i x y (EnclosedTree opener.Simple w) h = omega arith
in_place i x y (ListTree k w) h = let k = in_place i x y w h in omega (arith, k)
in_place i x y (StringTree w) h = in_place i x y w h
in_place i x y (StreamTree ms m) h = in_place i x y m h
in_place i x y (LiteralTree t p) h = omega arith
in_place i x y (EllipsisTree t) h = omega arith
in_place i x y (EmbeddedTree w p) h = let k = in_place i x y w h in omega (arith, k)
in_place i x y (LastPieceTree p) h = in_place i x y p h
in_place i x y (PlusTree p s t w) h =
    pick (ltb i (length (items_in p))) (PlusTree (with_item i x p) s t w) _ (PlusTree (with_item i y p) s t w) _ (let k = in_place i x y p h in omega (arith, k))
    (let k = in_place (i - length (items_in p)) x y w h in omega (arith, k))
in_place i x y (ElementTree w) h = pick (eqb i 0) x w y w h (same w)
in_place i x y (PairTree v s t w) h = let k = pick (eqb i 0) x v y v h (same v) in let l = pick (eqb i 1) x w y w h (same w) in omega (arith, k, l)
in_place i x y (ChunkTree w) h = in_place i x y w h
in_place i x y (EmptyTree p s) h = omega arith
in_place i x y (FullTree d s m) h = in_place i x y m h
in_place i x y (LastTree d s) h = in_place i x y d h
in_place i x y (MoreTree d s m) h =
    pick (ltb i (length (items_in d))) (MoreTree (with_item i x d) s m) _ (MoreTree (with_item i y d) s m) _ (let k = in_place i x y d h in omega (arith, k))
    (let k = in_place (i - length (items_in d)) x y m h in omega (arith, k))
in_place i x y (NothingTree s) h = omega arith
in_place i x y (SequenceTree s m) h = in_place i x y m h
in_place i x y (StandaloneTree s w t) h = pick (eqb i 0) x w y w h (same w)

-- what leaves no item deeper
abbrev LeavesDepth : (Tree OneItem → Tree OneItem) → Type 0
LeavesDepth f = (v : Tree OneItem) → depth (f v) ≤ depth v

-- ---- maps

-- what is done at a value, if something is, leaves it no deeper
abbrev Leaves : Option (Tree OneItem → Reply) → Type 0
Leaves None = Unit {0}
Leaves (Some f) = LeavesDepth (λ v. (f v).1)

value_left : (o : Option (Tree OneItem → Reply)) → Leaves o → (v : Tree OneItem) (r : List ℕ) → depth (value_turn o v r).0 ≤ depth v
value_left None h v r = same v
value_left (Some f) h v r = h v

module _ (at_key : Tree OneItem → KeyReply) (leaves : (k : Tree OneItem) → Leaves (at_key k).1) where
  row_left : (i : ℕ) (m : Tree (Rest Pairs)) → depth (turned (key_turn at_key) i m) ≤ depth m
  unfolding depth
  row_left i (LastTree (PairTree k s t v) r) = let h = value_left (at_key k).1 (leaves k) v r in omega (arith, h)
  row_left i (MoreTree (PairTree k s t v) r m) = let h = value_left (at_key k).1 (leaves k) v r in let n = row_left (suc i) m in omega (arith, h, n)

  map_left : LeavesDepth (λ w. (with_keys at_key w).1)
  unfolding depth
  map_left (ListTree Map (FullTree h s m)) = let n = row_left 0 m in omega (arith, n)
  map_left (ListTree Map (EmptyTree i s)) = omega arith
  map_left (ListTree Array w) = omega arith
  map_left (NumberTree x i) = omega arith
  map_left (FloatTree f i) = omega arith
  map_left (NamedTree b) = omega arith
  map_left (EnclosedTree l w) = omega arith
  map_left (StringTree w) = omega arith
  map_left (StreamTree s m) = omega arith

-- ---- claims

claim_left : (k : ClaimValue) → LeavesDepth (λ v. (claim_value k v).1)
claim_left Timestamp v = let P : Tree OneItem → Type 0 = λ w. depth w ≤ depth v in reply_gives P v (Some (time_literal v false)) (time_gives P (literal_flat (depth v)) v false) (same v)
claim_left Confirmation v = items_depth v _ (keys_kept confirmation_key confirmation_keys_kept v)

value_leaves : (o : Option ClaimValue) → Leaves (option_map claim_value o)
value_leaves None = tt
value_leaves (Some k) = claim_left k

named_leaves : (o : Option (List ℕ × Option ClaimValue)) → Leaves (named claim_value o).1
named_leaves None = tt
named_leaves (Some r) = value_leaves r.1

claims_left : LeavesDepth (λ w. (with_claims w).1)
unfolding with_claims
claims_left = map_left claim_key (λ k. named_leaves (option_and_then (found claims) (item_integer k)))

claims_and_keys_left : LeavesDepth claims_and_keys
claims_and_keys_left w = let h = claims_left w in let k = items_depth (with_claims w).1 _ (key_names_keep (with_claims w).1) in omega (arith, h, k)

-- ---- messages

pub messages_no_deeper : (a : CallArguments) → NoDeeper (message_claims a)
unfolding message_claims
messages_no_deeper a w = message_within depth in_place claims_and_keys_left (called_message a w) w
