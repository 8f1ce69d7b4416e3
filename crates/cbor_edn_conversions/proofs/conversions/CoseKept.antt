-- Comments in COSE messages, and in keys of claims sets, leave the items.
use Rattle.std.proofs.Common.{ℕ, ℤ, zero, suc, ◌-◌, ◌≡◌, Bool, true, false, cond, eqb, ltb, List, length, slice_get, Option, Some, None, refl, ap, ◌∙◌}
use Rattle.std.specs.Prelude.{option_map, option_and_then, pos}
use Rattle.cbor_edn_model.specs.access.Paths.{items_in, with_item}
use Rattle.cbor_edn_model.specs.declared.text.opener.OpenerKind.TheVariants as opener
use Rattle.cbor_edn_model.specs.tree.Items as kind
use Rattle.cbor_edn_model.specs.tree.Items.{Elements, Array, Map, Plus, Pair, Then, Listed}
use Rattle.cbor_edn_model.specs.tree.Trees.{Rule, Tree, OneItem, OneEntry, head_indicator, NumberTree, FloatTree, NamedTree, EnclosedTree, ListTree, StringTree, StreamTree, LiteralTree, EllipsisTree, EmbeddedTree, LastPieceTree, PlusTree, ElementTree, PairTree, ChunkTree, EmptyTree, FullTree, LastTree, MoreTree, NothingTree, SequenceTree, StandaloneTree, items}
use Rattle.cbor_edn_model.specs.visit.Visits.{fine, no_memory}
use Rattle.cbor_edn_model.proofs.lemmas.access.ReplacedItems.{put_back}
use Rattle.cbor_edn_conversions.specs.Claims.{named, key_of}
use Rattle.cbor_edn_conversions.specs.Conversions.{Reply}
use Rattle.cbor_edn_conversions.specs.Cose.{with_other, in_item, in_string, replied, with_elements, header_key, with_headers, in_part, part_reply, with_parts, called_message, all_levels, named_message, comment_cose}
use Rattle.cbor_edn_conversions.specs.CoseKeys.{with_names, with_name, is_this, type_of_key, key_label, with_parameters, key_method, method_key, cnf_key, with_key_names}
use Rattle.cbor_edn_conversions.specs.CoseLaws.{CoseKeepsItems, HeadersKeepItems, KeyNamesKeepItems, CoseGiven}
use Rattle.cbor_edn_conversions.specs.CoseTables.{parts, headers, key_confirmations}
use Rattle.cbor_edn_conversions.specs.EmbeddedItems.{is_structure}
use Rattle.cbor_edn_conversions.specs.Integers.{item_integer}
use Rattle.cbor_edn_conversions.specs.Tables.{found}
use Rattle.cbor_edn_conversions.specs.declared.tables.NamedNumber.{NamedNumber}
use Rattle.cbor_edn_conversions.specs.declared.tables.Part.{Part}
use Rattle.cbor_edn_conversions.specs.declared.tables.Part.TheVariants.{Protected, Unprotected, Payload, Ciphertext, Tag, Signature, Signatures, Recipients}
use Rattle.cbor_edn_conversions.specs.declared.tables.Structure.{Structure}
use Rattle.cbor_edn_conversions.specs.declared.tables.Structure.TheVariants.{Signer, Recipient}
use Rattle.cbor_edn_conversions.proofs.conversions.KeysLeft.{LeavesItems, turned_left, Leaves, keys_left}

-- ---- labels

number_leaves : (o : Option NamedNumber) → Leaves (option_map with_name o)
number_leaves None = tt
number_leaves (Some k) = λ v. refl

named_leaves : (o : Option (List ℕ × Option NamedNumber)) → Leaves (named with_name o).1
named_leaves None = tt
named_leaves (Some r) = number_leaves r.1

pub opener_leaves : (find : ℤ → Option (List ℕ × Option NamedNumber)) (k : Tree OneItem) → Leaves (key_of with_name find k).1
opener_leaves find k = named_leaves (option_and_then find (item_integer k))

pub headers_keep : HeadersKeepItems
unfolding with_headers
headers_keep w = keys_left header_key (opener_leaves (found headers)) w

-- ---- keys

pub parameters_left : LeavesItems with_parameters
unfolding with_parameters
parameters_left w = keys_left (key_label (type_of_key w)) (opener_leaves _) w

method_leaves : (o : Option (List ℕ × Bool)) → Leaves (key_method o).1
method_leaves None = tt
method_leaves (Some (name, true)) = parameters_left
method_leaves (Some (name, false)) = tt

pub method_key_leaves : (k : Tree OneItem) → Leaves (method_key k).1
method_key_leaves k = method_leaves (option_and_then (found key_confirmations) (item_integer k))

pub methods_left : LeavesItems (with_names method_key)
methods_left w = keys_left method_key method_key_leaves w

cnf_leaves : (b : Bool) → Leaves (cond b (Some (λ v. (fine, with_names method_key v))) None)
cnf_leaves true = methods_left
cnf_leaves false = tt

pub cnf_key_leaves : (k : Tree OneItem) → Leaves (cnf_key k).1
cnf_key_leaves k = cnf_leaves (is_this (pos 8) (item_integer k))

pub key_names_keep : KeyNamesKeepItems
unfolding with_key_names
key_names_keep w = keys_left cnf_key cnf_key_leaves w

-- ---- items in items

pick : {s : Rule} (b : Bool) (l r k q : Tree s) → items l ≡ items k → items r ≡ items q → items (cond b l r) ≡ items (cond b k q)
pick true l r k q first second = first
pick false l r k q first second = second

-- an item in the place of another with the same items
pub same_items : {s : Rule} (i : ℕ) (x y : Tree OneItem) (w : Tree s) → items x ≡ items y → items (with_item i x w) ≡ items (with_item i y w)
unfolding items
same_items i x y (NumberTree n p) e = refl
same_items i x y (FloatTree f p) e = refl
same_items i x y (NamedTree b) e = refl
same_items i x y (EnclosedTree (opener.Tag p n) w) e = ap (kind.Tagged n p) (same_items i x y w e)
same_items i x y (EnclosedTree opener.Simple w) e = refl
same_items i x y (ListTree k w) e = ap (λ l. Listed k l.0 l.1) (same_items i x y w e)
same_items i x y (StringTree w) e = ap kind.String (same_items i x y w e)
same_items i x y (StreamTree ms m) e = ap kind.Stream (same_items i x y m e)
same_items i x y (LiteralTree t p) e = refl
same_items i x y (EllipsisTree t) e = refl
same_items i x y (EmbeddedTree w p) e = ap (λ m. kind.Embedded m p) (same_items i x y w e)
same_items i x y (LastPieceTree p) e = ap kind.LastPiece (same_items i x y p e)
same_items i x y (PlusTree p s t w) e =
    pick (ltb i (length (items_in p))) (PlusTree (with_item i x p) s t w) _ (PlusTree (with_item i y p) s t w) _ (ap (λ q. Plus q (items w)) (same_items i x y p e))
    (ap (Plus (items p)) (same_items (i - length (items_in p)) x y w e))
same_items i x y (ElementTree w) e = ap kind.Element (pick (eqb i 0) x w y w e refl)
same_items i x y (PairTree v s t w) e = ap (λ k. Pair k (items (cond (eqb i 1) x w))) (pick (eqb i 0) x v y v e refl) ∙ ap (Pair (items (cond (eqb i 0) y v))) (pick (eqb i 1) x w y w e refl)
same_items i x y (ChunkTree w) e = ap kind.Chunk (same_items i x y w e)
same_items i x y (EmptyTree p s) e = refl
same_items i x y (FullTree h s m) e = ap (λ n. (head_indicator h, n)) (same_items i x y m e)
same_items i x y (LastTree d s) e = ap (λ n. Then n kind.End) (same_items i x y d e)
same_items i x y (MoreTree d s m) e =
    pick (ltb i (length (items_in d))) (MoreTree (with_item i x d) s m) _ (MoreTree (with_item i y d) s m) _ (ap (λ n. Then n (items m)) (same_items i x y d e))
    (ap (Then (items d)) (same_items (i - length (items_in d)) x y m e))
same_items i x y (NothingTree s) e = refl
same_items i x y (SequenceTree s m) e = same_items i x y m e
same_items i x y (StandaloneTree s w t) e = pick (eqb i 0) x w y w e refl

other_left : (i : ℕ) (f : Tree OneItem → Tree OneItem) → LeavesItems f → (w : Tree OneItem) (o : Option (Tree OneItem)) → slice_get (items_in w) i ≡ o → items (with_other i f w o) ≡ items w
other_left i f leaves w None got = refl
other_left i f leaves w (Some c) got = same_items i (f c) c w (leaves c) ∙ ap (λ (v : Tree OneItem). items v) (put_back i c w got)

pub in_item_left : (i : ℕ) (f : Tree OneItem → Tree OneItem) → LeavesItems f → LeavesItems (in_item i f)
in_item_left i f leaves w = other_left i f leaves w (slice_get (items_in w) i) refl

in_string_left : (f : Tree OneItem → Tree OneItem) → LeavesItems f → LeavesItems (in_string f)
in_string_left f leaves w = by (is_structure w)
  where
    by : (b : Bool) → items (cond b w (in_item 0 f w)) ≡ items w
    by true = refl
    by false = in_item_left 0 f leaves w

-- ---- parts

module _ (f : ℕ → Tree OneItem → Reply) (leaves : (i : ℕ) → LeavesItems (λ v. (f i v).1)) where
  element_left : (i : ℕ) (e : Tree (OneEntry Elements)) (s : List ℕ) → items (replied f i e s).0 ≡ items e
  unfolding items
  element_left i (ElementTree w) s = ap kind.Element (leaves i w)

  pub elements_left : LeavesItems (with_elements f)
  unfolding items
  elements_left (ListTree Array (FullTree h s m)) = ap (Listed Array (head_indicator h)) (turned_left (replied f) element_left 0 m)
  elements_left (ListTree Array (EmptyTree i s)) = refl
  elements_left (ListTree Map w) = refl
  elements_left (NumberTree t i) = refl
  elements_left (FloatTree g i) = refl
  elements_left (NamedTree b) = refl
  elements_left (EnclosedTree l w) = refl
  elements_left (StringTree w) = refl
  elements_left (StreamTree s m) = refl

module _ (inner : Structure → Tree OneItem → Tree OneItem) (leaves : (x : Structure) → LeavesItems (inner x)) where
  pub part_left : (p : Part) → LeavesItems (in_part inner p)
  part_left Protected = in_string_left with_headers headers_keep
  part_left Unprotected = headers_keep
  part_left Payload = λ v. refl
  part_left Ciphertext = λ v. refl
  part_left Tag = λ v. refl
  part_left Signature = λ v. refl
  part_left Signatures = elements_left (λ i x. (fine, inner Signer x)) (λ i. leaves Signer)
  part_left Recipients = elements_left (λ i x. (fine, inner Recipient x)) (λ i. leaves Recipient)

  reply_left : (o : Option Part) → LeavesItems (λ v. (part_reply (in_part inner) o v).1)
  reply_left None = λ v. refl
  reply_left (Some p) = part_left p

pub parts_left : (n : ℕ) (x : Structure) → LeavesItems (with_parts n x)
unfolding with_parts
parts_left zero x w = refl
parts_left (suc n) x w = elements_left (λ i. part_reply (in_part (with_parts n)) (slice_get (parts x) i)) (λ i. reply_left (with_parts n) (parts_left n) (slice_get (parts x) i)) w

-- ---- messages

named_left : (w : Tree OneItem) (o : Option (List ℕ × Structure)) → items (named_message w o).1 ≡ items w
named_left w None = refl
named_left w (Some r) = in_item_left 0 (with_parts all_levels r.1) (parts_left all_levels r.1) w

pub cose_keeps : CoseKeepsItems
unfolding comment_cose
cose_keeps a w = named_left w (called_message a w)

given_by : (w : Tree OneItem) (o : Option (List ℕ × Structure)) → (named_message w o).0 ≡ no_memory → ⊥
given_by w None e = absurd cc
given_by w (Some r) e = absurd cc

pub cose_given : CoseGiven
unfolding comment_cose
cose_given a w e = given_by w (called_message a w) e
