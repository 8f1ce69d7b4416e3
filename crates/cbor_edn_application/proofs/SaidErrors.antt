-- What answers say as errors.
use Rattle.std.proofs.Common.{ℕ, List, Option, Result, Err, ◌≡◌, sym, subst, string_bytes}
use Rattle.std.specs.declared.alloc.Global.{Global}
use Rattle.std.specs.declared.string.String.{String}
use Rattle.cbor_edn_parts.specs.declared.base.error.CallbackError.{CallbackError}
use Rattle.cbor_edn_parts.specs.declared.base.error.CallbackError.TheVariants as error
use Rattle.cbor_edn_core.specs.visit.Callbacks.{error_answer}
use Rattle.cbor_edn_model.specs.visit.Visits.{comment}
use Rattle.cbor_edn_application.specs.Acts.{AnswersSo}
use Rattle.cbor_edn_application.specs.Handlers.{SaysAsErrors, AnyWords}

abbrev err : CallbackError → Result (Option (String Global)) CallbackError
err e = Err e

pub any_error : (e : CallbackError) → SaysAsErrors AnyWords (err e)
any_error (error.Comment s) = tt
any_error (error.Memory e) = tt

pub said_error : (IsError : List ℕ → Type 0) (c : List ℕ) (e : CallbackError) → AnswersSo (comment c) (error_answer e) → IsError c → SaysAsErrors IsError (err e)
said_error IsError c (error.Comment s) said h = let same : string_bytes s ≡ c = cc in subst IsError (sym same) h
said_error IsError c (error.Memory e) said h = tt
