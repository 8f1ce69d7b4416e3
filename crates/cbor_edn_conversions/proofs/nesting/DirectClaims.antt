-- Claims sets with their comments are as direct as they were.
use Rattle.std.proofs.Common.{ℕ, ℤ, false, List, Option, Some, None, option_and_then, option_map}
use Rattle.cbor_edn_model.specs.tree.Items as kind
use Rattle.cbor_edn_model.specs.tree.Items.{Array, Map}
use Rattle.cbor_edn_model.specs.tree.Trees.{Tree, OneItem, Rest, NumberTree, FloatTree, NamedTree, EnclosedTree, ListTree, StringTree, StreamTree, PairTree, EmptyTree, FullTree, LastTree, MoreTree, items}
use Rattle.cbor_edn_conversions.specs.declared.tables.ClaimValue.{ClaimValue}
use Rattle.cbor_edn_conversions.specs.declared.tables.ClaimValue.TheVariants.{Timestamp, Confirmation}
use Rattle.cbor_edn_conversions.specs.declared.tables.ConfirmationValue.{ConfirmationValue}
use Rattle.cbor_edn_conversions.specs.declared.tables.ConfirmationValue.TheVariants.{Oscore}
use Rattle.cbor_edn_conversions.specs.declared.tables.ParameterValue.{ParameterValue}
use Rattle.cbor_edn_conversions.specs.declared.tables.ParameterValue.TheVariants.{Algorithm}
use Rattle.cbor_edn_conversions.specs.Annotations.{turned}
use Rattle.cbor_edn_conversions.specs.Conversions.{Reply}
use Rattle.cbor_edn_conversions.specs.Integers.{literal_integer, within_128, item_integer}
use Rattle.cbor_edn_conversions.specs.Tables.{found, claims, confirmations, parameters}
use Rattle.cbor_edn_conversions.specs.Times.{time_literal}
use Rattle.cbor_edn_conversions.specs.Claims.{KeyReply, value_turn, key_turn, with_keys, named, parameter_value, fitting_parameter, numbered_parameter, parameter_key, confirmation_value, confirmation_key, claim_value, claim_key, with_claims}
use Rattle.cbor_edn_conversions.specs.Nesting.{IsDirect}
use Rattle.cbor_edn_conversions.specs.NestingLaws.{ClaimsKeepDirect}
use Rattle.cbor_edn_conversions.proofs.nesting.DirectAnswers.{Leaves, reply_leaves, time_leaves}

-- ---- maps, key by key

-- what is done at a value, if something is, leaves a direct one direct
abbrev AtValue : Option (Tree OneItem → Reply) → Type 0
AtValue None = Unit {0}
AtValue (Some f) = Leaves f

value_direct : (o : Option (Tree OneItem → Reply)) → AtValue o → (v : Tree OneItem) (r : List ℕ) → IsDirect (items v) → IsDirect (items (value_turn o v r).0)
value_direct None h v r d = d
value_direct (Some f) h v r d = h v d

module _ (at_key : Tree OneItem → KeyReply) (leaves : (k : Tree OneItem) → AtValue (at_key k).1) where
  pairs_direct : (i : ℕ) (m : Tree (Rest kind.Pairs)) → IsDirect (items m) → IsDirect (items (turned (key_turn at_key) i m))
  unfolding items
  pairs_direct i (LastTree (PairTree k s t v) r) d = ((d.0.0, value_direct (at_key k).1 (leaves k) v r d.0.1), tt)
  pairs_direct i (MoreTree (PairTree k s t v) r m) d = ((d.0.0, value_direct (at_key k).1 (leaves k) v r d.0.1), pairs_direct _ m d.1)

  keys_leave : Leaves (with_keys at_key)
  unfolding items
  keys_leave (ListTree Map (FullTree h s m)) d = pairs_direct 0 m d
  keys_leave (ListTree Map (EmptyTree i s)) d = d
  keys_leave (ListTree Array w) d = d
  keys_leave (StringTree w) d = d
  keys_leave (StreamTree s m) d = d
  keys_leave (NumberTree x i) d = d
  keys_leave (FloatTree f i) d = d
  keys_leave (NamedTree b) d = d
  keys_leave (EnclosedTree l w) d = d

-- ---- keys by their tables

module _ {V : Type 0} (at_value : V → Tree OneItem → Reply) (leaves : (x : V) → Leaves (at_value x)) where
  value_leaves : (o : Option V) → AtValue (option_map at_value o)
  value_leaves None = tt
  value_leaves (Some x) = leaves x

  named_leaves : (o : Option (List ℕ × Option V)) → AtValue (named at_value o).1
  named_leaves None = tt
  named_leaves (Some r) = value_leaves r.1

parameter_leaves : (x : ParameterValue) → Leaves (parameter_value x)
parameter_leaves Algorithm v d = d

fitting_leaves : (o : Option ℤ) → AtValue (fitting_parameter o).1
fitting_leaves (Some z) = named_leaves parameter_value parameter_leaves (found parameters z)
fitting_leaves None = tt

numbered_leaves : (o : Option ℤ) → AtValue (numbered_parameter o).1
numbered_leaves (Some z) = fitting_leaves (within_128 z)
numbered_leaves None = tt

confirmation_leaves : (x : ConfirmationValue) → Leaves (confirmation_value x)
confirmation_leaves Oscore = keys_leave parameter_key (λ k. numbered_leaves (literal_integer k))

claim_leaves : (x : ClaimValue) → Leaves (claim_value x)
claim_leaves Timestamp v d = reply_leaves v (Some (time_literal v false)) (time_leaves v false) d
claim_leaves Confirmation v d = keys_leave confirmation_key (λ k. named_leaves confirmation_value confirmation_leaves (option_and_then (found confirmations) (item_integer k))) v d

pub claims_keep_direct : ClaimsKeepDirect
unfolding with_claims
claims_keep_direct w d = keys_leave claim_key (λ k. named_leaves claim_value claim_leaves (option_and_then (found claims) (item_integer k))) w d
