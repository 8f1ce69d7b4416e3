-- A claims set with its comments means what it meant: of its items, times alone become literals.
use Rattle.std.proofs.Common.{ℕ, suc, List, Option, Some, None}
use Rattle.std.specs.Prelude.{ℤ, false, option_map, option_and_then}
use Rattle.cbor_edn_model.specs.tree.Items.{Pairs, Array, Map}
use Rattle.cbor_edn_model.specs.cbor.Meaning.{listed, one_more}
use Rattle.cbor_edn_model.specs.tree.Trees.{Tree, OneItem, OneEntry, Rest, head_indicator, NumberTree, FloatTree, NamedTree, EnclosedTree, ListTree, StringTree, StreamTree, PairTree, EmptyTree, FullTree, LastTree, MoreTree, items}
use Rattle.cbor_edn_model.specs.cbor.Value as values
use Rattle.cbor_edn_model.specs.cbor.Value.{Value}
use Rattle.cbor_edn_model.proofs.lemmas.cbor.MeaningSteps.{some_is}
use Rattle.cbor_edn_conversions.specs.declared.tables.ClaimValue.{ClaimValue}
use Rattle.cbor_edn_conversions.specs.declared.tables.ClaimValue.TheVariants.{Timestamp, Confirmation}
use Rattle.cbor_edn_conversions.specs.declared.tables.ConfirmationValue.{ConfirmationValue}
use Rattle.cbor_edn_conversions.specs.declared.tables.ConfirmationValue.TheVariants.{Oscore}
use Rattle.cbor_edn_conversions.specs.declared.tables.ParameterValue.{ParameterValue}
use Rattle.cbor_edn_conversions.specs.declared.tables.ParameterValue.TheVariants.{Algorithm}
use Rattle.cbor_edn_conversions.specs.Annotations.{turned}
use Rattle.cbor_edn_conversions.specs.Claims.{KeyReply, value_turn, key_turn, with_keys, named, key_of, parameter_value, fitting_parameter, numbered_parameter, parameter_key, confirmation_value, confirmation_key, claim_value, claim_key, with_claims}
use Rattle.cbor_edn_conversions.specs.Conversions.{Reply}
use Rattle.cbor_edn_conversions.specs.Integers.{literal_integer, within_128, item_integer}
use Rattle.cbor_edn_conversions.specs.Resolvers.{TurnsTo}
use Rattle.cbor_edn_conversions.specs.Resolving.{Resolver, means_by}
use Rattle.cbor_edn_conversions.specs.Tables.{found, claims, confirmations, parameters}
use Rattle.cbor_edn_conversions.specs.Times.{time_literal}
use Rattle.cbor_edn_conversions.proofs.conversions.Calls.{reply_turns}
use Rattle.cbor_edn_conversions.proofs.conversions.Literals.{GivesTimes}
use Rattle.cbor_edn_conversions.proofs.conversions.TimesKept.{time_item_turns}
use Rattle.cbor_edn_conversions.proofs.resolving.Keeping.{one_step, two_steps}
use Rattle.cbor_edn_conversions.proofs.resolving.VisitsKept.{Below, belows}

module _ (R : Resolver) where
  -- what is done at a value keeps what the value means
  abbrev Keeps : (Tree OneItem → Reply) → Type 0
  Keeps f = (v : Tree OneItem) → TurnsTo R R v (f v).1

  abbrev HandlerKeeps : Option (Tree OneItem → Reply) → Type 0
  HandlerKeeps None = Unit {0}
  HandlerKeeps (Some f) = Keeps f

  value_keeps : (o : Option (Tree OneItem → Reply)) → HandlerKeeps o → (v : Tree OneItem) (r : List ℕ) → TurnsTo R R v (value_turn o v r).0
  value_keeps None h v r x e = e
  value_keeps (Some f) h v r x e = h v x e

  -- ---- maps, key by key

  module _ (at_key : Tree OneItem → KeyReply) (keeps : (k : Tree OneItem) → HandlerKeeps (at_key k).1) where
    pair_keeps : (i : ℕ) (e : Tree (OneEntry Pairs)) (s : List ℕ) → Below (Value × Value) (means_by R (items e)) (means_by R (items (key_turn at_key i e s).0))
    unfolding items means_by
    pair_keeps i (PairTree k s t v) r =
        two_steps Below belows (means_by R (items k)) (means_by R (items k)) (means_by R (items v)) (means_by R (items (value_turn (at_key k).1 v r).0)) (λ x y. (x, y)) (λ x e. e) (value_keeps (at_key k).1 (keeps k) v r)

    row_keeps : (i : ℕ) (m : Tree (Rest Pairs)) → Below values.Pairs (means_by R (items m)) (means_by R (items (turned (key_turn at_key) i m)))
    unfolding items means_by
    row_keeps i (LastTree e s) =
        two_steps Below belows (means_by R (items e)) (means_by R (items (key_turn at_key i e s).0)) (Some values.no_pairs) (Some values.no_pairs) (one_more Pairs) (pair_keeps i e s) (λ x e. e)
    row_keeps i (MoreTree e s m) =
        two_steps Below belows (means_by R (items e)) (means_by R (items (key_turn at_key i e s).0)) (means_by R (items m)) (means_by R (items (turned (key_turn at_key) (suc i) m))) (one_more Pairs) (pair_keeps i e s) (row_keeps (suc i) m)

    keys_keep : Keeps (with_keys at_key)
    unfolding items means_by
    keys_keep (ListTree Map (FullTree h s m)) x e = one_step Below belows (means_by R (items m)) (means_by R (items (turned (key_turn at_key) 0 m))) (listed Map (head_indicator h)) (row_keeps 0 m) x e
    keys_keep (ListTree Map (EmptyTree i s)) x e = e
    keys_keep (ListTree Array w) x e = e
    keys_keep (NumberTree t i) x e = e
    keys_keep (FloatTree f i) x e = e
    keys_keep (NamedTree b) x e = e
    keys_keep (EnclosedTree l w) x e = e
    keys_keep (StringTree w) x e = e
    keys_keep (StreamTree s m) x e = e

  -- ---- keys by their tables

  module _ {V : Type 0} (at_value : V → Tree OneItem → Reply) (keeps : (x : V) → Keeps (at_value x)) where
    mapped_keeps : (o : Option V) → HandlerKeeps (option_map at_value o)
    mapped_keeps None = tt
    mapped_keeps (Some x) = keeps x

    named_keeps : (o : Option (List ℕ × Option V)) → HandlerKeeps (named at_value o).1
    named_keeps None = tt
    named_keeps (Some r) = mapped_keeps r.1

    key_keeps : (find : ℤ → Option (List ℕ × Option V)) (k : Tree OneItem) → HandlerKeeps (key_of at_value find k).1
    key_keeps find k = named_keeps (option_and_then find (item_integer k))

  -- ---- claims sets

  parameter_value_keeps : (x : ParameterValue) → Keeps (parameter_value x)
  parameter_value_keeps Algorithm v x e = e

  fitting_keeps : (o : Option ℤ) → HandlerKeeps (fitting_parameter o).1
  fitting_keeps None = tt
  fitting_keeps (Some z) = named_keeps parameter_value parameter_value_keeps (found parameters z)

  numbered_keeps : (o : Option ℤ) → HandlerKeeps (numbered_parameter o).1
  numbered_keeps None = tt
  numbered_keeps (Some z) = fitting_keeps (within_128 z)

  confirmation_value_keeps : (x : ConfirmationValue) → Keeps (confirmation_value x)
  confirmation_value_keeps Oscore = keys_keep parameter_key (λ k. numbered_keeps (literal_integer k))

  module _ (gives : GivesTimes R) where
    claim_value_keeps : (x : ClaimValue) → Keeps (claim_value x)
    claim_value_keeps Timestamp v = reply_turns R R v (Some (time_literal v false)) (λ x e. e) (λ u e. time_item_turns R gives false v u (some_is _ _ e))
    claim_value_keeps Confirmation v = keys_keep confirmation_key (key_keeps confirmation_value confirmation_value_keeps (found confirmations)) v

    pub claims_turn : (w : Tree OneItem) → TurnsTo R R w (with_claims w).1
    unfolding with_claims
    claims_turn w = keys_keep claim_key (key_keeps claim_value claim_value_keeps (found claims)) w
