-- Claims in COSE messages, with their comments and their times, nest no deeper, and names leave the items.
use Rattle.std.proofs.Common.{ℕ, ◌-◌, ◌≤◌, Bool, true, false, cond, eqb, ltb, length, ap, arith}
use Rattle.cbor_edn_model.specs.access.Paths.{items_in, with_item}
use Rattle.cbor_edn_model.specs.declared.text.opener.OpenerKind.TheVariants as opener
use Rattle.cbor_edn_model.specs.tree.Items.{nesting}
use Rattle.cbor_edn_model.specs.tree.Trees.{Rule, Tree, OneItem, NumberTree, FloatTree, NamedTree, EnclosedTree, ListTree, StringTree, StreamTree, LiteralTree, EllipsisTree, EmbeddedTree, LastPieceTree, PlusTree, ElementTree, PairTree, ChunkTree, EmptyTree, FullTree, LastTree, MoreTree, NothingTree, SequenceTree, StandaloneTree, items}
use Rattle.cbor_edn_model.specs.visit.Seeking.{CallArguments}
use Rattle.cbor_edn_model.specs.visit.Visits.{fine}
use Rattle.cbor_edn_model.proofs.lemmas.text.Spelled.{nesting_of}
use Rattle.cbor_edn_conversions.specs.Claims.{with_claims}
use Rattle.cbor_edn_conversions.specs.Cose.{called_message, comment_cose}
use Rattle.cbor_edn_conversions.specs.CoseKeys.{with_key_names}
use Rattle.cbor_edn_conversions.specs.MessageClaims.{claims_and_keys, message_claims}
use Rattle.cbor_edn_conversions.proofs.conversions.CoseKept.{cose_keeps, key_names_keep}
use Rattle.cbor_edn_conversions.proofs.nesting.MessagesLeft.{message_within}
use Rattle.cbor_edn.proofs.ClaimNestings.{claims_no_deeper}
use Rattle.cbor_edn.proofs.TagNestings.{NoDeeper, deep}

-- ---- items in items

-- how deep a part of a tree nests
abbrev deep_in : {s : Rule} → Tree s → ℕ
deep_in {s} w = nesting_of s (items w)

pick : {s : Rule} (b : Bool) (l r k q : Tree s) → deep_in l ≤ deep_in k → deep_in r ≤ deep_in q → deep_in (cond b l r) ≤ deep_in (cond b k q)
pick true l r k q first second = first
pick false l r k q first second = second

same : {s : Rule} (w : Tree s) → deep_in w ≤ deep_in w
same w = omega arith

-- an item in the place of one that nests as deep
in_place : {s : Rule} (i : ℕ) (x y : Tree OneItem) (w : Tree s) → nesting (items x) ≤ nesting (items y) → deep_in (with_item i x w) ≤ deep_in (with_item i y w)
unfolding items
in_place i x y (NumberTree n p) h = omega arith
in_place i x y (FloatTree f p) h = omega arith
in_place i x y (NamedTree b) h = omega arith
in_place i x y (EnclosedTree (opener.Tag p n) w) h = let k = in_place i x y w h in omega (arith, k)
in_place i x y (EnclosedTree opener.Simple w) h = omega arith
in_place i x y (ListTree l w) h = let k = in_place i x y w h in omega (arith, k)
in_place i x y (StringTree w) h = in_place i x y w h
in_place i x y (StreamTree ms m) h = in_place i x y m h
in_place i x y (LiteralTree t p) h = omega arith
in_place i x y (EllipsisTree t) h = omega arith
in_place i x y (EmbeddedTree w p) h = let k = in_place i x y w h in omega (arith, k)
in_place i x y (LastPieceTree p) h = in_place i x y p h
in_place i x y (PlusTree p s t w) h =
    pick (ltb i (length (items_in p))) (PlusTree (with_item i x p) s t w) _ (PlusTree (with_item i y p) s t w) _ (let k = in_place i x y p h in omega (arith, k))
    (let k = in_place (i - length (items_in p)) x y w h in omega (arith, k))
in_place i x y (ElementTree w) h = pick (eqb i 0) x w y w h (same w)
in_place i x y (PairTree v s t w) h = let k = pick (eqb i 0) x v y v h (same v) in let l = pick (eqb i 1) x w y w h (same w) in omega (arith, k, l)
in_place i x y (ChunkTree w) h = in_place i x y w h
in_place i x y (EmptyTree p s) h = omega arith
in_place i x y (FullTree d s m) h = in_place i x y m h
in_place i x y (LastTree d s) h = let k = in_place i x y d h in omega (arith, k)
in_place i x y (MoreTree d s m) h =
    pick (ltb i (length (items_in d))) (MoreTree (with_item i x d) s m) _ (MoreTree (with_item i y d) s m) _ (let k = in_place i x y d h in omega (arith, k))
    (let k = in_place (i - length (items_in d)) x y m h in omega (arith, k))
in_place i x y (NothingTree s) h = omega arith
in_place i x y (SequenceTree s m) h = in_place i x y m h
in_place i x y (StandaloneTree s w t) h = pick (eqb i 0) x w y w h (same w)

-- ---- messages

pub keys_no_deeper : NoDeeper (λ w. (fine, with_key_names w))
keys_no_deeper w = let k = ap nesting (key_names_keep w) in omega (arith, k)

claims_and_keys_within : (w : Tree OneItem) → deep (claims_and_keys w) ≤ deep w
claims_and_keys_within w = let h = claims_no_deeper w in let k = keys_no_deeper (with_claims w).1 in omega (arith, h, k)

pub messages_no_deeper : (a : CallArguments) → NoDeeper (message_claims a)
unfolding message_claims
messages_no_deeper a w = message_within deep in_place claims_and_keys_within (called_message a w) w

pub names_no_deeper : (a : CallArguments) → NoDeeper (comment_cose a)
names_no_deeper a w = let k = ap nesting (cose_keeps a w) in omega (arith, k)
