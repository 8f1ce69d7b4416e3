-- Claims sets with their comments nest no deeper than they did.
use Rattle.std.proofs.Common.{◌≤◌, ℕ, suc, ℤ, false, List, Option, Some, None, option_and_then, option_map, arith}
use Rattle.cbor_edn_model.specs.tree.Items as kind
use Rattle.cbor_edn_model.specs.tree.Items.{Array, Map, nesting}
use Rattle.cbor_edn_model.specs.tree.Trees.{Tree, OneItem, Rest, NumberTree, FloatTree, NamedTree, EnclosedTree, ListTree, StringTree, StreamTree, PairTree, EmptyTree, FullTree, LastTree, MoreTree, items}
use Rattle.cbor_edn_conversions.specs.declared.tables.ClaimValue.{ClaimValue}
use Rattle.cbor_edn_conversions.specs.declared.tables.ClaimValue.TheVariants.{Timestamp, Confirmation}
use Rattle.cbor_edn_conversions.specs.declared.tables.ConfirmationValue.{ConfirmationValue}
use Rattle.cbor_edn_conversions.specs.declared.tables.ConfirmationValue.TheVariants.{Oscore}
use Rattle.cbor_edn_conversions.specs.declared.tables.ParameterValue.{ParameterValue}
use Rattle.cbor_edn_conversions.specs.declared.tables.ParameterValue.TheVariants.{Algorithm}
use Rattle.cbor_edn_conversions.specs.Annotations.{turned}
use Rattle.cbor_edn_conversions.specs.Conversions.{Reply}
use Rattle.cbor_edn_conversions.specs.Integers.{literal_integer, within_128, item_integer}
use Rattle.cbor_edn_conversions.specs.Tables.{found, claims, confirmations, parameters}
use Rattle.cbor_edn_conversions.specs.Times.{time_literal}
use Rattle.cbor_edn_conversions.specs.Claims.{KeyReply, value_turn, key_turn, with_keys, named, parameter_value, fitting_parameter, numbered_parameter, parameter_key, confirmation_value, confirmation_key, claim_value, claim_key, with_claims}
use Rattle.cbor_edn_conversions.proofs.nesting.GivenItems.{reply_gives, time_gives}
use Rattle.cbor_edn.proofs.TagNestings.{NoDeeper, deep, itself, literal_flat}

-- ---- maps, key by key

-- what is done at a value, if something is, leaves it no deeper
abbrev AtValue : Option (Tree OneItem → Reply) → Type 0
AtValue None = Unit {0}
AtValue (Some f) = NoDeeper f

value_within : (o : Option (Tree OneItem → Reply)) → AtValue o → (v : Tree OneItem) (r : List ℕ) → nesting (items (value_turn o v r).0) ≤ nesting (items v)
value_within None h v r = itself v
value_within (Some f) h v r = h v

module _ (at_key : Tree OneItem → KeyReply) (within : (k : Tree OneItem) → AtValue (at_key k).1) where
  pairs_within : (i : ℕ) (m : Tree (Rest kind.Pairs)) → nesting (items (turned (key_turn at_key) i m)) ≤ nesting (items m)
  unfolding items
  pairs_within i (LastTree (PairTree k s t v) r) = let h = value_within (at_key k).1 (within k) v r in omega (arith, h)
  pairs_within i (MoreTree (PairTree k s t v) r m) = let h = value_within (at_key k).1 (within k) v r in let g = pairs_within (suc i) m in omega (arith, h, g)

  keys_within : NoDeeper (with_keys at_key)
  unfolding items
  keys_within (ListTree Map (FullTree h s m)) = let g = pairs_within 0 m in omega (arith, g)
  keys_within (ListTree Map (EmptyTree i s)) = itself (ListTree Map (EmptyTree i s))
  keys_within (ListTree Array w) = itself (ListTree Array w)
  keys_within (StringTree w) = itself (StringTree w)
  keys_within (StreamTree s m) = itself (StreamTree s m)
  keys_within (NumberTree x i) = itself (NumberTree x i)
  keys_within (FloatTree f i) = itself (FloatTree f i)
  keys_within (NamedTree b) = itself (NamedTree b)
  keys_within (EnclosedTree l w) = itself (EnclosedTree l w)

-- ---- keys by their tables

module _ {V : Type 0} (at_value : V → Tree OneItem → Reply) (within : (x : V) → NoDeeper (at_value x)) where
  value_stays : (o : Option V) → AtValue (option_map at_value o)
  value_stays None = tt
  value_stays (Some x) = within x

  named_stays : (o : Option (List ℕ × Option V)) → AtValue (named at_value o).1
  named_stays None = tt
  named_stays (Some r) = value_stays r.1

parameter_within : (x : ParameterValue) → NoDeeper (parameter_value x)
parameter_within Algorithm v = itself v

fitting_within : (o : Option ℤ) → AtValue (fitting_parameter o).1
fitting_within (Some z) = named_stays parameter_value parameter_within (found parameters z)
fitting_within None = tt

numbered_within : (o : Option ℤ) → AtValue (numbered_parameter o).1
numbered_within (Some z) = fitting_within (within_128 z)
numbered_within None = tt

confirmation_within : (x : ConfirmationValue) → NoDeeper (confirmation_value x)
confirmation_within Oscore = keys_within parameter_key (λ k. numbered_within (literal_integer k))

claim_within : (x : ClaimValue) → NoDeeper (claim_value x)
claim_within Timestamp v = let P : Tree OneItem → Type 0 = λ w. deep w ≤ deep v in reply_gives P v (Some (time_literal v false)) (time_gives P (literal_flat (deep v)) v false) (itself v)
claim_within Confirmation v = keys_within confirmation_key (λ k. named_stays confirmation_value confirmation_within (option_and_then (found confirmations) (item_integer k))) v

pub claims_no_deeper : NoDeeper with_claims
unfolding with_claims
claims_no_deeper w = keys_within claim_key (λ k. named_stays claim_value claim_within (option_and_then (found claims) (item_integer k))) w
