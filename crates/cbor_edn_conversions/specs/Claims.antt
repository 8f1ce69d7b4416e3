-- Claims sets (RFC 8392) with the names of their keys: `{4/ exp /: dt'2023-11-14T22:13:20+00:00'}` of `{4: 1700000000}`.
use Rattle.std.specs.Prelude.{ℕ, ℤ, codes, List, Option, None, Some, option_map, option_and_then, false}
use Rattle.cbor_edn_model.specs.tree.Items.{Pairs, Map}
use Rattle.cbor_edn_model.specs.tree.Trees.{Tree, OneItem, ListTree, EmptyTree, FullTree, PairTree}
use Rattle.cbor_edn_model.specs.visit.Visits.{Answer, fine, comment, answered}
use Rattle.cbor_edn_conversions.specs.declared.tables.ClaimValue.{ClaimValue}
use Rattle.cbor_edn_conversions.specs.declared.tables.ClaimValue.TheVariants.{Timestamp, Confirmation}
use Rattle.cbor_edn_conversions.specs.declared.tables.ConfirmationValue.{ConfirmationValue}
use Rattle.cbor_edn_conversions.specs.declared.tables.ConfirmationValue.TheVariants.{Oscore}
use Rattle.cbor_edn_conversions.specs.declared.tables.ParameterValue.{ParameterValue}
use Rattle.cbor_edn_conversions.specs.declared.tables.ParameterValue.TheVariants.{Algorithm}
use Rattle.cbor_edn_conversions.specs.Annotations.{Turn, turned}
use Rattle.cbor_edn_conversions.specs.Conversions.{Reply, reply}
use Rattle.cbor_edn_conversions.specs.Integers.{literal_integer, within_128, item_integer}
use Rattle.cbor_edn_conversions.specs.Tables.{found, claims, confirmations, parameters, algorithms}
use Rattle.cbor_edn_conversions.specs.Times.{time_literal}

-- ---- maps, key by key

-- what is answered at a key, and what is done at its value, if something is
abbrev pub KeyReply : Type 0
KeyReply = Answer × Option (Tree OneItem → Reply)

-- a value and the space that follows it
abbrev pub value_turn : Option (Tree OneItem → Reply) → Tree OneItem → List ℕ → Tree OneItem × List ℕ
value_turn None v r = (v, r)
value_turn (Some f) v r = ((f v).1, answered (f v).0 r)

-- a key stays, and has its comment; its value is changed where something is done with it
abbrev pub key_turn : (Tree OneItem → KeyReply) → Turn Pairs
key_turn at_key i (PairTree k s t v) r = let x = value_turn (at_key k).1 v r in (PairTree k (answered (at_key k).0 s) t x.0, x.1)

-- a map with what its keys are answered, or a message where there is none
abbrev pub with_keys : (Tree OneItem → KeyReply) → Tree OneItem → Reply
with_keys at_key (ListTree Map (FullTree h s m)) = (fine, ListTree Map (FullTree h s (turned (key_turn at_key) 0 m)))
with_keys at_key (ListTree Map (EmptyTree i s)) = (fine, ListTree Map (EmptyTree i s))
with_keys at_key w = (comment (codes "Expected map"), w)

-- ---- keys by their tables

-- the name of a key, and what is done with its value, by what the value is
abbrev pub named : {V : Type 0} → (V → Tree OneItem → Reply) → Option (List ℕ × Option V) → KeyReply
named at_value None = (fine, None)
named at_value (Some r) = (comment r.0, option_map at_value r.1)

-- keys that are no integer of 128 bits have no name
abbrev pub key_of : {V : Type 0} → (V → Tree OneItem → Reply) → (ℤ → Option (List ℕ × Option V)) → Tree OneItem → KeyReply
key_of at_value find k = named at_value (option_and_then find (item_integer k))

-- ---- OSCORE security contexts

-- the comment of a name, if there is one
abbrev pub name_answer : Option (List ℕ) → Answer
name_answer None = fine
name_answer (Some name) = comment name

-- the value of a parameter: an algorithm has its name
abbrev pub parameter_value : ParameterValue → Tree OneItem → Reply
parameter_value Algorithm v = (name_answer (option_and_then (found algorithms) (item_integer v)), v)

-- a key that is no integer of 128 bits is answered with a message
abbrev pub fitting_parameter : Option ℤ → KeyReply
fitting_parameter (Some z) = named parameter_value (found parameters z)
fitting_parameter None = (comment (codes "Expected integer in i128 range"), None)

abbrev pub numbered_parameter : Option ℤ → KeyReply
numbered_parameter (Some z) = fitting_parameter (within_128 z)
numbered_parameter None = (comment (codes "Expected integer"), None)

abbrev pub parameter_key : Tree OneItem → KeyReply
parameter_key k = numbered_parameter (literal_integer k)

-- ---- confirmation methods (RFC 8747)

abbrev pub confirmation_value : ConfirmationValue → Tree OneItem → Reply
confirmation_value Oscore = with_keys parameter_key

abbrev pub confirmation_key : Tree OneItem → KeyReply
confirmation_key = key_of confirmation_value (found confirmations)

-- ---- claims

-- the value of a claim: a time becomes a literal, which takes no comment
abbrev pub claim_value : ClaimValue → Tree OneItem → Reply
claim_value Timestamp v = reply v (Some (time_literal v false))
claim_value Confirmation v = with_keys confirmation_key v

-- `comment_ccs`
abbrev pub claim_key : Tree OneItem → KeyReply
claim_key = key_of claim_value (found claims)

-- a claims set with its comments
unfoldable pub with_claims : Tree OneItem → Reply
with_claims = with_keys claim_key
