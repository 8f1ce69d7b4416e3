-- How deep items nest of which literals are shown.
use Rattle.std.proofs.Common.{ℕ, zero, suc, ◌+◌, ◌-◌, ◌≤◌, ◌≡◌, List, Option, Some, None, option_and_then, refl, sym, ap, ◌∙◌, subst, arith}
use Rattle.cbor_edn_parts.specs.declared.base.indicator.Indicator.{Indicator}
use Rattle.cbor_edn_model.specs.declared.text.opener.OpenerKind.TheVariants as opener
use Rattle.cbor_edn_model.specs.tree.Items.{nesting}
use Rattle.cbor_edn_model.specs.tree.Trees.{Rule, Tree, OneItem, NumberTree, FloatTree, NamedTree, EnclosedTree, ListTree, StringTree, StreamTree, LiteralTree, EllipsisTree, EmbeddedTree, LastPieceTree, PlusTree, ElementTree, PairTree, ChunkTree, EmptyTree, FullTree, LastTree, MoreTree, NothingTree, SequenceTree, StandaloneTree, items}
use Rattle.cbor_edn_model.proofs.lemmas.cbor.MeaningSteps.{some_if}
use Rattle.cbor_edn_model.proofs.lemmas.text.Spelled.{nesting_of}
use Rattle.cbor_edn_conversions.specs.EmbeddedItems.{OfLiteral, literal_item, with_literals, bytes_behind_prefix, decoded_item, is_structure, if_structure, structure_of, embedded_item, shown_or, shown}
use Rattle.cbor_edn_conversions.specs.EmbeddedLaws.{ShownNests, ShownWithin}
use Rattle.cbor_edn_conversions.proofs.embedded.LiteralBytes.{HasBytes, has_bytes}
use Rattle.cbor_edn_conversions.proofs.embedded.DecodedItems.{HoldsValue, holds_value}

-- ---- what is found in a literal

-- the bytes that a structure was decoded of
pub record HoldsStructure (limit : ℕ) (x : List ℕ) (w : Tree OneItem) : Type 0 where
  pub bytes : List ℕ
  pub behind : HasBytes x bytes
  pub holds : HoldsValue limit bytes w

if_structure_is : (w v : Tree OneItem) → if_structure w ≡ Some v → w ≡ v
if_structure_is w v e = (some_if (is_structure w) w v e).1

decoded_is : (limit : ℕ) (bytes : List ℕ) (o : Option (Tree OneItem)) (w : Tree OneItem) → decoded_item limit bytes ≡ o → structure_of limit (Some bytes) ≡ Some w → decoded_item limit bytes ≡ Some w
decoded_is limit bytes None w is e = let none : None ≡ Some w = sym (ap (λ o. option_and_then if_structure o) is) ∙ e in absurd cc
decoded_is limit bytes (Some v) w is e =
    let same : v ≡ w = if_structure_is v w (sym (ap (λ o. option_and_then if_structure o) is) ∙ e) in
    is ∙ ap (λ (t : Tree OneItem). Some t) same

structure_by : (limit : ℕ) (x : List ℕ) (o : Option (List ℕ)) (w : Tree OneItem) → bytes_behind_prefix x ≡ o → structure_of limit o ≡ Some w → HoldsStructure limit x w
structure_by limit x None w is e = absurd cc
structure_by limit x (Some bytes) w is e =
    let behind = has_bytes x bytes is in
    record { bytes = bytes; behind = behind; holds = holds_value limit bytes behind.fit w (decoded_is limit bytes (decoded_item limit bytes) w refl e) }

pub structure_is : (limit : ℕ) (x : List ℕ) (w : Tree OneItem) → structure_of limit (bytes_behind_prefix x) ≡ Some w → HoldsStructure limit x w
structure_is limit x w e = structure_by limit x (bytes_behind_prefix x) w refl e

-- ---- with other literals

module _ (f : OfLiteral) (n : ℕ) (nests : (x : List ℕ) (i : Option Indicator) → nesting (items (f x i)) ≤ n) where
  pub nests_with : {k : Rule} (w : Tree k) → nesting_of k (items (with_literals f w)) ≤ nesting_of k (items w) + n
  unfolding items with_literals
  nests_with (NumberTree x i) = omega arith
  nests_with (FloatTree g i) = omega arith
  nests_with (NamedTree b) = omega arith
  nests_with (EnclosedTree (opener.Tag i m) w) = let h = nests_with w in omega (arith, h)
  nests_with (EnclosedTree opener.Simple w) = omega arith
  nests_with (ListTree k w) = let h = nests_with w in omega (arith, h)
  nests_with (StringTree (LastPieceTree (LiteralTree x i))) = let h = nests x i in omega (arith, h)
  nests_with (StringTree (LastPieceTree (EllipsisTree x))) = omega arith
  nests_with (StringTree (LastPieceTree (EmbeddedTree w i))) = let h = nests_with w in omega (arith, h)
  nests_with (StringTree (PlusTree p s t w)) = nests_with (PlusTree p s t w)
  nests_with (StreamTree ms m) = nests_with m
  nests_with (LiteralTree x i) = omega arith
  nests_with (EllipsisTree x) = omega arith
  nests_with (EmbeddedTree w i) = let h = nests_with w in omega (arith, h)
  nests_with (LastPieceTree p) = nests_with p
  nests_with (PlusTree p s t w) = let h = nests_with p in let g = nests_with w in omega (arith, h, g)
  nests_with (ElementTree w) = nests_with w
  nests_with (PairTree v s t w) = let h = nests_with v in let g = nests_with w in omega (arith, h, g)
  nests_with (ChunkTree w) = nests_with w
  nests_with (EmptyTree i s) = omega arith
  nests_with (FullTree h s m) = nests_with m
  nests_with (LastTree e s) = let h = nests_with e in omega (arith, h)
  nests_with (MoreTree e s m) = let h = nests_with e in let g = nests_with m in omega (arith, h, g)
  nests_with (NothingTree s) = omega arith
  nests_with (SequenceTree s m) = nests_with m
  nests_with (StandaloneTree s w t) = nests_with w

-- ---- what is shown

embedded_nests : (w : Tree OneItem) (i : Option Indicator) → nesting (items (embedded_item w i)) ≡ suc (nesting (items w))
unfolding items
embedded_nests w i = omega arith

or_nests : (limit : ℕ) (x : List ℕ) (i : Option Indicator) (inside : Tree OneItem → Tree OneItem) (o : Option (Tree OneItem)) → ((w : Tree OneItem) → o ≡ Some w → nesting (items (inside w)) ≤ limit) → nesting (items (shown_or x i inside o)) ≤ suc limit
unfolding items
or_nests limit x i inside None fits = omega arith
or_nests limit x i inside (Some w) fits = let h = fits w refl in let e = embedded_nests (inside w) i in omega (arith, h, e)

literal_nests : (x : List ℕ) (i : Option Indicator) (limit : ℕ) → nesting (items (literal_item x i)) ≤ limit
unfolding items
literal_nests x i limit = omega arith

pub shown_nests_alone : (levels limit : ℕ) (x : List ℕ) (i : Option Indicator) → nesting (items (shown levels limit x i)) ≤ limit
unfolding shown
shown_nests_alone zero limit x i = literal_nests x i limit
shown_nests_alone (suc levels) zero x i = literal_nests x i zero
shown_nests_alone (suc levels) (suc limit) x i =
    or_nests limit x i _ (structure_of limit (bytes_behind_prefix x)) (λ w e.
    let h = structure_is limit x w e in
    let within : nesting (items w) ≤ limit = subst (λ y. nesting y ≤ limit) (sym h.holds.same_items) h.holds.within in
    let rest = nests_with (shown levels (limit - nesting (items w))) (limit - nesting (items w)) (shown_nests_alone levels (limit - nesting (items w))) w in
    omega (arith, within, rest))

pub shown_nests : ShownNests
shown_nests levels limit =
    (λ w. nests_with (shown levels limit) limit (shown_nests_alone levels limit) w, λ w. nests_with (shown levels limit) limit (shown_nests_alone levels limit) w)

within_by : (n limit m : ℕ) → n ≤ limit → m ≤ n + (limit - n) → m ≤ limit
within_by n limit m le h = omega (arith, le, h)

pub shown_within : ShownWithin
shown_within levels limit = (
  λ w le. within_by (nesting (items w)) limit _ le ((shown_nests levels (limit - nesting (items w))).0 w),
  λ w le. within_by (nesting (items w)) limit _ le ((shown_nests levels (limit - nesting (items w))).1 w),
)
