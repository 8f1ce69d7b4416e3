-- Bytes that encode an array, a map or a tag begin with 80 to df.
use Rattle.std.proofs.Common.{ℕ, ◌+◌, ◌*◌, ◌<◌, ◌≤◌, ◌≡◌, ◌==◌, ◌&&◌, Bool, true, false, cond, List, [], ◌∷◌, ◌++◌, Option, Some, None, refl, sym, ap, ◌∙◌, subst, arith}
use Rattle.std.specs.Int.{w8, w16, w32, w64, to_be_bytes}
use Rattle.std.specs.Prelude.{nat_le, nat_lt, option_and_then}
use Rattle.std.proofs.lemmas.Bool.Decides.{nat_tests}
use Rattle.cbor_edn_parts.specs.declared.string.StringKind.{StringKind}
use Rattle.cbor_edn_model.specs.declared.cbor.heads.Width.{Width}
use Rattle.cbor_edn_model.specs.declared.cbor.heads.Width.TheVariants.{Immediate, One, Two, Four, Eight}
use Rattle.cbor_edn_model.specs.declared.text.opener.OpenerKind.TheVariants as opener
use Rattle.cbor_edn_model.specs.cbor.Decoded.{item_of, simple_item, chunked_item}
use Rattle.cbor_edn_model.specs.cbor.Value as values
use Rattle.cbor_edn_model.specs.cbor.Value.{Value, unsigned, negative, string, chunks, array, cbor_map, tag, simple, float, values_len, pairs_len, head, open_head, break, list_encoding, LengthFits, ArgumentFits, AreBytes, encoding, encodings, pair_encodings, Fits}
use Rattle.cbor_edn_model.specs.tree.Items as kind
use Rattle.cbor_edn_model.specs.tree.Items.{Item, Node}
use Rattle.cbor_edn_model.specs.tree.Trees.{Tree, OneItem, NumberTree, FloatTree, NamedTree, EnclosedTree, ListTree, StringTree, StreamTree, items}
use Rattle.cbor_edn_conversions.specs.EmbeddedItems.{begins_structure, decoded_item, is_structure, if_structure, structure_of}
use Rattle.cbor_edn_conversions.proofs.embedded.DecodedItems.{holds_value}

-- ---- items

abbrev structure_node : Node Item → Bool
structure_node (kind.Listed k i m) = true
structure_node (kind.Tagged n i w) = true
structure_node _ = false

structure_is : (w : Tree OneItem) → is_structure w ≡ structure_node (items w)
unfolding items
structure_is (NumberTree x i) = refl
structure_is (FloatTree f i) = refl
structure_is (NamedTree b) = refl
structure_is (EnclosedTree (opener.Tag i n) w) = refl
structure_is (EnclosedTree opener.Simple w) = refl
structure_is (ListTree k w) = refl
structure_is (StringTree w) = refl
structure_is (StreamTree ms m) = refl

neither : (b : Bool) (x y : Node Item) → structure_node x ≡ false → structure_node y ≡ false → structure_node (cond b x y) ≡ false
neither true x y p q = p
neither false x y p q = q

simple_no_structure : (n : ℕ) → structure_node (simple_item n) ≡ false
simple_no_structure n = neither (n == 20) _ _ refl (neither (n == 21) _ _ refl (neither (n == 22) _ _ refl (neither (n == 23) _ _ refl refl)))

chunks_no_structure : (k : StringKind) (cs : List values.Chunk) → structure_node (chunked_item k cs) ≡ false
chunks_no_structure k [] = refl
chunks_no_structure k (c ∷ cs) = refl

-- ---- bytes

pub record BeginsStructure (bs : List ℕ) : Type 0 where
  pub first : ℕ
  pub rest : List ℕ
  pub is : bs ≡ first ∷ rest
  pub from : 128 ≤ first
  pub below : first < 224

head_begins : (major : ℕ) → 4 ≤ major → major ≤ 6 → (w : Width) (n : ℕ) → ArgumentFits w n → (parts : List ℕ) → BeginsStructure (head major w n ++ parts)
unfolding head
head_begins major from to Immediate n fits parts = record { first = 32 * major + n; rest = parts; is = refl; from = omega (arith, from); below = omega (arith, to, fits) }
head_begins major from to One n fits parts = record { first = 32 * major + 24; rest = to_be_bytes w8 n ++ parts; is = refl; from = omega (arith, from); below = omega (arith, to) }
head_begins major from to Two n fits parts = record { first = 32 * major + 25; rest = to_be_bytes w16 n ++ parts; is = refl; from = omega (arith, from); below = omega (arith, to) }
head_begins major from to Four n fits parts = record { first = 32 * major + 26; rest = to_be_bytes w32 n ++ parts; is = refl; from = omega (arith, from); below = omega (arith, to) }
head_begins major from to Eight n fits parts = record { first = 32 * major + 27; rest = to_be_bytes w64 n ++ parts; is = refl; from = omega (arith, from); below = omega (arith, to) }

list_begins : (major : ℕ) → 4 ≤ major → major ≤ 6 → (o : Option Width) (n : ℕ) → LengthFits o n → (parts : List ℕ) → BeginsStructure (list_encoding major o n parts)
list_begins major from to (Some w) n fits parts = head_begins major from to w n fits parts
list_begins major from to None n fits parts = record { first = open_head major; rest = parts ++ break ∷ []; is = refl; from = omega (arith, from); below = omega (arith, to) }

none_begins : {P : Type 0} (b : Bool) → b ≡ false → b ≡ true → P
none_begins b e f = let bad = sym e ∙ f in absurd cc

value_begins : (v : Value) → Fits v → structure_node (item_of v) ≡ true → BeginsStructure (encoding v)
value_begins (array w vs) fits is = list_begins 4 (omega arith) (omega arith) w (values_len vs) fits.0 (encodings vs)
value_begins (cbor_map w ps) fits is = list_begins 5 (omega arith) (omega arith) w (pairs_len ps) fits.0 (pair_encodings ps)
value_begins (tag w n v) fits is = head_begins 6 (omega arith) (omega arith) w n fits.0 (encoding v)
value_begins (unsigned w n) fits is = absurd cc
value_begins (negative w n) fits is = absurd cc
value_begins (string k w bs) fits is = absurd cc
value_begins (chunks k cs) fits is = none_begins (structure_node (chunked_item k cs)) (chunks_no_structure k cs) is
value_begins (simple n) fits is = none_begins (structure_node (simple_item n)) (simple_no_structure n) is
value_begins (float w f) fits is = absurd cc

first_tested : (b : ℕ) → 128 ≤ b → b < 224 → (nat_le 128 b && nat_lt b 224) ≡ true
first_tested b from below = grind (arith, nat_tests, from, below)

tested : (bs : List ℕ) → BeginsStructure bs → begins_structure bs ≡ true
tested bs h = ap begins_structure h.is ∙ first_tested h.first h.from h.below

-- ---- what is decoded

module _ (limit : ℕ) (bytes : List ℕ) (all : AreBytes bytes) where
  structure_begins : (w : Tree OneItem) → decoded_item limit bytes ≡ Some w → is_structure w ≡ true → BeginsStructure bytes
  structure_begins w e is =
      let h = holds_value limit bytes all w e in
      let node : structure_node (item_of h.value) ≡ true = ap structure_node (sym h.same_items) ∙ (sym (structure_is w) ∙ is) in
      subst BeginsStructure (sym h.encoded) (value_begins h.value h.fits node)

  -- other bytes hold no structure
  pub no_structure_in : begins_structure bytes ≡ false → structure_of limit (Some bytes) ≡ None
  no_structure_in other = by_item (decoded_item limit bytes) refl
    where
      by_test : (w : Tree OneItem) (b : Bool) → decoded_item limit bytes ≡ Some w → is_structure w ≡ b → cond b (Some w) None ≡ None
      by_test w true e is = none_begins (begins_structure bytes) other (tested bytes (structure_begins w e is))
      by_test w false e is = refl

      by_item : (o : Option (Tree OneItem)) → decoded_item limit bytes ≡ o → option_and_then if_structure o ≡ None
      by_item None e = refl
      by_item (Some w) e = by_test w (is_structure w) e refl
