-- Claims sets in COSE messages, and the names of keys in them, keep what items mean where literals stand for values.
use Rattle.std.proofs.Common.{ℕ, ◌-◌, ◌≡◌, Bool, true, false, cond, eqb, ltb, List, length, slice_get, Option, Some, None, refl, ap, subst, ◌∙◌}
use Rattle.cbor_edn_parts.specs.declared.string.StringKind.TheVariants.{Bytes}
use Rattle.cbor_edn_model.specs.access.Paths.{items_in, with_item}
use Rattle.cbor_edn_model.specs.declared.text.opener.OpenerKind.TheVariants as opener
use Rattle.cbor_edn_model.specs.cbor.Meaning.{◌>>=◌, width_of, listed, pieces_indicator, chunk_of, stream_of, joined, one_more, no_entries}
use Rattle.cbor_edn_model.specs.cbor.Value.{Value, encodings, tag}
use Rattle.cbor_edn_model.specs.tree.Items.{Array, Map, Plus, LastPiece}
use Rattle.cbor_edn_model.specs.tree.Trees.{Rule, Tree, OneItem, OnePiece, OneString, NumberTree, FloatTree, NamedTree, EnclosedTree, ListTree, StringTree, StreamTree, LiteralTree, EllipsisTree, EmbeddedTree, LastPieceTree, PlusTree, ElementTree, PairTree, ChunkTree, EmptyTree, FullTree, LastTree, MoreTree, NothingTree, SequenceTree, StandaloneTree, items}
use Rattle.cbor_edn_model.proofs.lemmas.access.ReplacedItems.{put_back}
use Rattle.cbor_edn_conversions.specs.Claims.{with_claims}
use Rattle.cbor_edn_conversions.specs.Cose.{with_other, in_item, in_string, called_message}
use Rattle.cbor_edn_conversions.specs.CoseLaws.{ClaimsAndKeysKeep, MessageClaimsKeep, MessageClaimsGiven}
use Rattle.cbor_edn_conversions.specs.CoseTables.{parts}
use Rattle.cbor_edn_conversions.specs.EmbeddedItems.{is_structure}
use Rattle.cbor_edn_conversions.specs.MessageClaims.{claims_and_keys, is_payload, in_payload, in_message, message_claims}
use Rattle.cbor_edn_conversions.specs.Resolvers.{TurnsTo, literal_resolver}
use Rattle.cbor_edn_conversions.specs.Resolving.{Resolver, means_by}
use Rattle.cbor_edn_conversions.specs.declared.tables.Structure.{Structure}
use Rattle.cbor_edn_conversions.proofs.conversions.ConversionsKept.{claims_keep}
use Rattle.cbor_edn_conversions.proofs.conversions.CoseKept.{key_names_keep}
use Rattle.cbor_edn_conversions.proofs.resolving.Keeping.{KeptOf, shape, piece_shape, one_step, two_steps, string_kept, same_piece_indicator}
use Rattle.cbor_edn_conversions.proofs.resolving.VisitsKept.{Below, belows}

-- ---- an item in the place of another that means the same

pick_piece : (b : Bool) (l r k q : Tree OneString) → shape (items l) ≡ shape (items k) → shape (items r) ≡ shape (items q) → shape (items (cond b l r)) ≡ shape (items (cond b k q))
pick_piece true l r k q first second = first
pick_piece false l r k q first second = second

piece_stays : (i : ℕ) (x y : Tree OneItem) (p : Tree OnePiece) → piece_shape (items (with_item i x p)) ≡ piece_shape (items (with_item i y p))
unfolding items
piece_stays i x y (LiteralTree t j) = refl
piece_stays i x y (EllipsisTree t) = refl
piece_stays i x y (EmbeddedTree w j) = refl

string_stays : (i : ℕ) (x y : Tree OneItem) (w : Tree OneString) → shape (items (with_item i x w)) ≡ shape (items (with_item i y w))
unfolding items
string_stays i x y (LastPieceTree p) = ap LastPiece (piece_stays i x y p)
string_stays i x y (PlusTree p s t w) =
    pick_piece (ltb i (length (items_in p))) (PlusTree (with_item i x p) s t w) _ (PlusTree (with_item i y p) s t w) _ (ap (λ q. Plus q (shape (items w))) (piece_stays i x y p))
    (ap (Plus (piece_shape (items p))) (string_stays (i - length (items_in p)) x y w))

module _ (R : Resolver) where
  -- a part of a tree means what it meant, where it meant something
  abbrev Still : {s : Rule} → Tree s → Tree s → Type 0
  Still {s} w v = KeptOf Below R R s (items w) (items v)

  pick : {s : Rule} (b : Bool) (l r k q : Tree s) → Still l k → Still r q → Still (cond b l r) (cond b k q)
  pick true l r k q first second = first
  pick false l r k q first second = second

  chosen : (b : Bool) (l r k q : Tree OneItem) → TurnsTo R R l k → TurnsTo R R r q → TurnsTo R R (cond b l r) (cond b k q)
  chosen true l r k q first second = first
  chosen false l r k q first second = second

  same : {A : Type 0} (o : Option A) → Below A o o
  same o x e = e

  -- an item that means what the one in its place meant
  item_still : {s : Rule} (i : ℕ) (x y : Tree OneItem) (w : Tree s) → TurnsTo R R x y → Still (with_item i x w) (with_item i y w)
  unfolding items means_by
  item_still i x y (NumberTree n p) e = λ agree. same _
  item_still i x y (FloatTree f p) e = λ agree. same _
  item_still i x y (NamedTree b) e = λ agree. same _
  item_still i x y (EnclosedTree (opener.Tag p n) w) e =
      λ agree. two_steps Below belows (width_of p n) (width_of p n) (means_by R (items (with_item i x w))) (means_by R (items (with_item i y w))) (λ d v. tag d n v) (same (width_of p n)) (item_still i x y w e)
  item_still i x y (EnclosedTree opener.Simple w) e = λ agree. same _
  item_still i x y (ListTree k w) e = λ agree.
      let v = with_item i x w in let u = with_item i y w in
      let h = item_still i x y w e in
      subst (λ j. Below Value (means_by R (items v).1 >>= listed k (items v).0) (means_by R (items u).1 >>= listed k j)) h.0
      (one_step Below belows (means_by R (items v).1) (means_by R (items u).1) (listed k (items v).0) h.1)
  item_still i x y (StringTree w) e = string_kept Below belows R R (items (with_item i x w)) (items (with_item i y w)) (string_stays i x y w) (item_still i x y w e)
  item_still i x y (StreamTree ms m) e = λ agree. one_step Below belows (means_by R (items (with_item i x m))) (means_by R (items (with_item i y m))) stream_of (item_still i x y m e)
  item_still i x y (LiteralTree t p) e = same _
  item_still i x y (EllipsisTree t) e = same _
  item_still i x y (EmbeddedTree w p) e = one_step Below belows (means_by R (items (with_item i x w))) (means_by R (items (with_item i y w))) (λ vs. Some (Bytes, encodings vs)) (item_still i x y w e)
  item_still i x y (LastPieceTree p) e = item_still i x y p e
  item_still i x y (PlusTree p s t w) e =
      pick (ltb i (length (items_in p))) (PlusTree (with_item i x p) s t w) (PlusTree p s t (with_item (i - length (items_in p)) x w)) (PlusTree (with_item i y p) s t w) (PlusTree p s t (with_item (i - length (items_in p)) y w))
      (two_steps Below belows (means_by R (items (with_item i x p))) (means_by R (items (with_item i y p))) (means_by R (items w)) (means_by R (items w)) joined (item_still i x y p e) (same (means_by R (items w))))
      (two_steps Below belows (means_by R (items p)) (means_by R (items p)) (means_by R (items (with_item (i - length (items_in p)) x w))) (means_by R (items (with_item (i - length (items_in p)) y w))) joined (same (means_by R (items p))) (item_still (i - length (items_in p)) x y w e))
  item_still i x y (ElementTree w) e = chosen (eqb i 0) x w y w e (same (means_by R (items w)))
  item_still i x y (PairTree v s t w) e =
      two_steps Below belows (means_by R (items (cond (eqb i 0) x v))) (means_by R (items (cond (eqb i 0) y v))) (means_by R (items (cond (eqb i 1) x w))) (means_by R (items (cond (eqb i 1) y w))) (λ k z. (k, z))
      (chosen (eqb i 0) x v y v e (same (means_by R (items v)))) (chosen (eqb i 1) x w y w e (same (means_by R (items w))))
  item_still i x y (ChunkTree w) e =
      let v = with_item i x w in let u = with_item i y w in
      subst (λ o. Below _ (means_by R (items v) >>= λ c. pieces_indicator (items v) >>= chunk_of c) (means_by R (items u) >>= λ c. o >>= chunk_of c)) (same_piece_indicator (items v) (items u) (string_stays i x y w))
      (one_step Below belows (means_by R (items v)) (means_by R (items u)) (λ c. pieces_indicator (items v) >>= chunk_of c) (item_still i x y w e))
  item_still i x y (EmptyTree p s) e = (refl, same _)
  item_still i x y (FullTree h s m) e = (refl, item_still i x y m e)
  item_still i x y (LastTree {k} d s) e =
      two_steps Below belows (means_by R (items (with_item i x d))) (means_by R (items (with_item i y d))) (Some (no_entries k)) (Some (no_entries k)) (one_more k) (item_still i x y d e) (same (Some (no_entries k)))
  item_still i x y (MoreTree {k} d s m) e =
      pick (ltb i (length (items_in d))) (MoreTree (with_item i x d) s m) (MoreTree d s (with_item (i - length (items_in d)) x m)) (MoreTree (with_item i y d) s m) (MoreTree d s (with_item (i - length (items_in d)) y m))
      (two_steps Below belows (means_by R (items (with_item i x d))) (means_by R (items (with_item i y d))) (means_by R (items m)) (means_by R (items m)) (one_more k) (item_still i x y d e) (same (means_by R (items m))))
      (two_steps Below belows (means_by R (items d)) (means_by R (items d)) (means_by R (items (with_item (i - length (items_in d)) x m))) (means_by R (items (with_item (i - length (items_in d)) y m))) (one_more k) (same (means_by R (items d))) (item_still (i - length (items_in d)) x y m e))
  item_still i x y (NothingTree s) e = same _
  item_still i x y (SequenceTree s m) e = item_still i x y m e
  item_still i x y (StandaloneTree s w t) e = chosen (eqb i 0) x w y w e (same (means_by R (items w)))

  -- what is done to each item keeps it
  abbrev KeepsItems : (Tree OneItem → Tree OneItem) → Type 0
  KeepsItems f = (w : Tree OneItem) → TurnsTo R R w (f w)

  other_keeps : (i : ℕ) (f : Tree OneItem → Tree OneItem) → KeepsItems f → (w : Tree OneItem) (o : Option (Tree OneItem)) → slice_get (items_in w) i ≡ o → TurnsTo R R w (with_other i f w o)
  other_keeps i f keeps w None got = λ v e. e
  other_keeps i f keeps w (Some c) got = λ v e. item_still i c (f c) w (keeps c) refl v (ap (λ (t : Tree OneItem). means_by R (items t)) (put_back i c w got) ∙ e)

  in_item_keeps : (i : ℕ) (f : Tree OneItem → Tree OneItem) → KeepsItems f → KeepsItems (in_item i f)
  in_item_keeps i f keeps w = other_keeps i f keeps w (slice_get (items_in w) i) refl

  in_string_keeps : (f : Tree OneItem → Tree OneItem) → KeepsItems f → KeepsItems (in_string f)
  in_string_keeps f keeps w = by (is_structure w)
    where
      by : (b : Bool) → TurnsTo R R w (cond b w (in_item 0 f w))
      by true = λ v e. e
      by false = in_item_keeps 0 f keeps w

  payload_keeps : (f : Tree OneItem → Tree OneItem) → KeepsItems f → KeepsItems (in_payload f)
  payload_keeps f keeps (ListTree Array w) = in_item_keeps 2 (in_string f) (in_string_keeps f keeps) (ListTree Array w)
  payload_keeps f keeps (ListTree Map w) = λ v e. e
  payload_keeps f keeps (NumberTree x i) = λ v e. e
  payload_keeps f keeps (FloatTree g i) = λ v e. e
  payload_keeps f keeps (NamedTree b) = λ v e. e
  payload_keeps f keeps (EnclosedTree l w) = λ v e. e
  payload_keeps f keeps (StringTree w) = λ v e. e
  payload_keeps f keeps (StreamTree s m) = λ v e. e

pub claims_and_keys_keep : ClaimsAndKeysKeep
claims_and_keys_keep w v e = ap (λ x. means_by literal_resolver x) (key_names_keep (with_claims w).1) ∙ claims_keep w v e

message_keeps : (w : Tree OneItem) (o : Option (List ℕ × Structure)) → TurnsTo literal_resolver literal_resolver w (in_message w o)
message_keeps w None = λ v e. e
message_keeps w (Some r) = by (is_payload (slice_get (parts r.1) 2))
  where
    by : (b : Bool) → TurnsTo literal_resolver literal_resolver w (cond b (in_item 0 (in_payload claims_and_keys) w) w)
    by true = in_item_keeps literal_resolver 0 (in_payload claims_and_keys) (payload_keeps literal_resolver claims_and_keys claims_and_keys_keep) w
    by false = λ v e. e

pub message_claims_keep : MessageClaimsKeep
unfolding message_claims
message_claims_keep a w = message_keeps w (called_message a w)

pub message_claims_given : MessageClaimsGiven
unfolding message_claims
message_claims_given a w e = absurd cc
