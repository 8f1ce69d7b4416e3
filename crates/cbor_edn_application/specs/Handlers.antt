-- What keys of maps and their values are answered, and what each handler does with its value.
use Rattle.std.specs.Prelude.{List, Option, Some, None, Result, Ok, Err, All, ℕ, ◌≡◌, ◌≢◌, codes, string_bytes}
use Rattle.std.specs.declared.alloc.Global.{Global}
use Rattle.std.specs.declared.string.String.{String}
use Rattle.cbor_edn_parts.specs.declared.base.error.CallbackError.{CallbackError}
use Rattle.cbor_edn_parts.specs.declared.base.error.CallbackError.TheVariants as error
use Rattle.cbor_edn_core.specs.visit.Callbacks.{error_answer}
use Rattle.cbor_edn_core.specs.declared.access.TypeMismatch.{TypeMismatch}
use Rattle.cbor_edn_core.specs.declared.access.TypeMismatch.TheVariants.{IntegerInRange}
use Rattle.cbor_edn_model.specs.tree.Trees.{Tree, OneItem, items}
use Rattle.cbor_edn_model.specs.visit.Visits.{Answer, fine, no_memory, KeyCall, Handler, no_handler, dropped, spent, Ending, VisitMap}
use Rattle.cbor_edn_conversions.specs.declared.tables.ClaimValue.TheVariants as claim
use Rattle.cbor_edn_conversions.specs.declared.tables.ConfirmationValue.TheVariants as confirmation
use Rattle.cbor_edn_conversions.specs.declared.tables.ParameterValue.TheVariants as parameter
use Rattle.cbor_edn_conversions.specs.Claims.{KeyReply, claim_value, confirmation_value, parameter_value}
use Rattle.cbor_edn_conversions.specs.Conversions.{Reply}
use Rattle.cbor_edn_conversions.specs.CoseKeys.{with_name, with_names, method_key, with_parameters}
use Rattle.cbor_edn_application.specs.declared.claims.CcsHandler.{CcsHandler}
use Rattle.cbor_edn_application.specs.declared.claims.CcsHandler.TheVariants.{Timestamp, Cnf}
use Rattle.cbor_edn_application.specs.declared.confirmation.CnfHandler.{CnfHandler}
use Rattle.cbor_edn_application.specs.declared.confirmation.CnfHandler.TheVariants.{Osc}
use Rattle.cbor_edn_application.specs.declared.cose.keys.KeyHandler.{KeyHandler}
use Rattle.cbor_edn_application.specs.declared.cose.keys.MethodsHandler.{MethodsHandler}
use Rattle.cbor_edn_application.specs.declared.cose.labels.NameHandler.{NameHandler}
use Rattle.cbor_edn_application.specs.declared.oscore.OscHandler.{OscHandler}
use Rattle.cbor_edn_application.specs.declared.oscore.OscHandler.TheVariants.{Algorithm}

-- So a key is answered, with what is done at its value, unless memory was refused.
abbrev pub KeyAnswers : KeyReply → Answer → Option (Tree OneItem → Reply) → Type 0
KeyAnswers p no_memory f = Unit {0}
KeyAnswers p r f = (r ≡ p.0) × (f ≡ p.1)

-- So a value is answered and left, unless memory was refused; then its items are as before, but some of its keys may have their comments.
abbrev pub ValueAnswers : (Tree OneItem → Reply) → Tree OneItem → Answer → Tree OneItem → Type 0
ValueAnswers f w no_memory v = items v ≡ items w
ValueAnswers f w r v = (r ≡ (f w).0) × (v ≡ (f w).1)

-- ---- errors

-- It fails for want of memory alone: what it says is a comment, and no error.
abbrev pub FailsForMemory : {X : Type 0} → Result X CallbackError → Type 0
FailsForMemory (Ok x) = Unit {0}
FailsForMemory (Err e) = error_answer e ≡ no_memory

-- Words of the one kind are said as an error, and all others as a comment: of a name `Ok(Some("kid"))`, and of an error
-- `Err(Comment("Expected map"))`.
abbrev pub SaysAsErrors : (List ℕ → Type 0) → Result (Option (String Global)) CallbackError → Type 0
SaysAsErrors IsError (Ok None) = Unit {0}
SaysAsErrors IsError (Ok (Some s)) = IsError (string_bytes s) → ⊥
SaysAsErrors IsError (Err (error.Comment s)) = IsError (string_bytes s)
SaysAsErrors IsError (Err (error.Memory e)) = Unit {0}

-- where a value is no time or no map, all that is said is an error
abbrev pub AnyWords : List ℕ → Type 0
AnyWords c = Unit {0}

-- the word at the algorithm 0, which no algorithm is meant by
abbrev pub IsReserved : List ℕ → Type 0
IsReserved c = c ≡ codes "Reserved"

-- ---- visits of maps

-- what became of a handler, by what is done at the value
abbrev pub HandledBy : Option (Tree OneItem → Reply) → Handler → Type 0
HandledBy None no_handler = Unit {0}
HandledBy (Some f) dropped = Unit {0}
HandledBy (Some f) (spent d) = ValueAnswers f d.before d.answer d.after
HandledBy _ _ = ⊥

-- A call at a key, by what keys are answered and what is done at their values. The key stays.
pub record Keyed (at_key : Tree OneItem → KeyReply) (c : KeyCall) : Type 0 where
  pub same : c.at_key.after ≡ c.at_key.before
  pub answers : c.at_key.answer ≢ no_memory → (c.at_key.answer ≡ (at_key c.at_key.before).0) × HandledBy (at_key c.at_key.before).1 c.handler

-- What a visit of a map with such calls leaves of it; a visit that was cut made a beginning of them.
abbrev pub AreKeysVisited : (Tree OneItem → KeyReply) → Tree OneItem → Ending → Tree OneItem → Type 0
AreKeysVisited at_key w r v = (cs : List KeyCall) × All (Keyed at_key) cs × VisitMap w cs v r

-- the message of a key that is no integer of 128 bits
abbrev pub integer_message : TypeMismatch → List ℕ
integer_message IntegerInRange = codes "Expected integer in i128 range"
integer_message _ = codes "Expected integer"

-- ---- what a handler does

abbrev pub at_claim : CcsHandler → Tree OneItem → Reply
at_claim Timestamp = claim_value claim.Timestamp
at_claim Cnf = claim_value claim.Confirmation

abbrev pub at_confirmation : CnfHandler → Tree OneItem → Reply
at_confirmation Osc = confirmation_value confirmation.Oscore

abbrev pub at_parameter : OscHandler → Tree OneItem → Reply
at_parameter Algorithm = parameter_value parameter.Algorithm

abbrev pub at_number : NameHandler → Tree OneItem → Reply
at_number h = with_name h.number

abbrev pub at_cnf : MethodsHandler → Tree OneItem → Reply
at_cnf h v = (fine, with_names method_key v)

abbrev pub at_method : KeyHandler → Tree OneItem → Reply
at_method h v = (fine, with_parameters v)
