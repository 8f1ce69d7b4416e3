-- How deep a value nests, as the readers of bytes count it, which is how deep its item nests.
use Rattle.std.proofs.Common.{ℕ, ◌+◌, ◌≡◌, ◌≤◌, ◌<◌, Bool, true, false, cond, eqb, List, [], ◌∷◌, max, refl, sym, arith}
use Rattle.std.proofs.lemmas.Bool.{eqb-true}
use Rattle.std.proofs.lemmas.Bool.Decides.{nat_tests}
use Rattle.cbor_edn_parts.specs.declared.string.StringKind.{StringKind}
use Rattle.cbor_edn_model.specs.tree.Items.{Node, Item, nesting}
use Rattle.cbor_edn_model.specs.cbor.Value.{Value, unsigned, negative, Chunk, string, chunks, array, cbor_map, tag, simple, float, Values, no_values, value, Pairs, no_pairs, pair}
use Rattle.cbor_edn_model.specs.cbor.Decoded.{chunk_items, chunked_item, simple_item, item_of, items_of, pairs_of}
use Rattle.cbor_edn_model.specs.internal.CborReading.{simple_nesting}

abbrev mutual
  pub value_nesting : Value → ℕ
  value_nesting (unsigned w n) = 0
  value_nesting (negative w n) = 0
  value_nesting (string k w bs) = 0
  value_nesting (chunks k cs) = 0
  value_nesting (array w vs) = values_nesting vs + 1
  value_nesting (cbor_map w ps) = pairs_nesting ps + 1
  value_nesting (tag w n v) = value_nesting v + 1
  value_nesting (simple n) = simple_nesting n
  value_nesting (float w f) = 0

  pub values_nesting : Values → ℕ
  values_nesting no_values = 0
  values_nesting (value v vs) = max (value_nesting v) (values_nesting vs)

  pub pairs_nesting : Pairs → ℕ
  pairs_nesting no_pairs = 0
  pairs_nesting (pair k v ps) = max (max (value_nesting k) (value_nesting v)) (pairs_nesting ps)

chunk_items_nest : (k : StringKind) (cs : List Chunk) → nesting (chunk_items k cs) ≡ 0
chunk_items_nest k [] = refl
chunk_items_nest k (c ∷ cs) = omega (arith, chunk_items_nest k cs)

chunked_nests : (k : StringKind) (cs : List Chunk) → nesting (chunked_item k cs) ≡ 0
chunked_nests k [] = refl
chunked_nests k (c ∷ cs) = chunk_items_nest k (c ∷ cs)

-- one of two
either : (b : Bool) (x y : Node Item) (k : ℕ) → (b ≡ true → nesting x ≡ k) → (b ≡ false → nesting y ≡ k) → nesting (cond b x y) ≡ k
either true x y k first second = first refl
either false x y k first second = second refl

-- a number from 20 to 23 has a name, and no other has
named : (n : ℕ) → 20 ≤ n → n < 24 → simple_nesting n ≡ 0
named n low high = grind (arith, nat_tests)

unnamed : (n : ℕ) → eqb n 20 ≡ false → eqb n 21 ≡ false → eqb n 22 ≡ false → eqb n 23 ≡ false → simple_nesting n ≡ 1
unnamed n a b c d = grind (arith, nat_tests)

simple_nests : (n : ℕ) → nesting (simple_item n) ≡ simple_nesting n
simple_nests n =
    either (eqb n 20) _ _ _ (λ is. at 20 is (omega arith) (omega arith)) (λ a.
    either (eqb n 21) _ _ _ (λ is. at 21 is (omega arith) (omega arith)) (λ b.
    either (eqb n 22) _ _ _ (λ is. at 22 is (omega arith) (omega arith)) (λ c.
    either (eqb n 23) _ _ _ (λ is. at 23 is (omega arith) (omega arith)) (λ d. sym (unnamed n a b c d)))))
  where
    at : (k : ℕ) → eqb n k ≡ true → 20 ≤ k → k < 24 → 0 ≡ simple_nesting n
    at k is low high = let same : n ≡ k = eqb-true n k is in sym (named n (omega arith) (omega arith))

mutual
  pub item_nests : (v : Value) → nesting (item_of v) ≡ value_nesting v
  item_nests (unsigned w n) = refl
  item_nests (negative w n) = refl
  item_nests (string k w bs) = refl
  item_nests (chunks k cs) = chunked_nests k cs
  item_nests (array w vs) = omega (arith, items_nest vs)
  item_nests (cbor_map w ps) = omega (arith, pairs_nest ps)
  item_nests (tag w n v) = omega (arith, item_nests v)
  item_nests (simple n) = simple_nests n
  item_nests (float w f) = refl

  pub items_nest : (vs : Values) → nesting (items_of vs) ≡ values_nesting vs
  items_nest no_values = refl
  items_nest (value v vs) = rw (item_nests v, items_nest vs)

  pairs_nest : (ps : Pairs) → nesting (pairs_of ps) ≡ pairs_nesting ps
  pairs_nest no_pairs = refl
  pairs_nest (pair k v ps) = rw (item_nests k, item_nests v, pairs_nest ps)
