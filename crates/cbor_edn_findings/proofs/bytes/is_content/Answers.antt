use Rattle.std.proofs.Common.{◌≡◌, ℕ, List, Result, Ok, Err, inl, inr, sym}
use Rattle.std.specs.Result.{MatchResult, is_ok}
use Rattle.std.specs.Str.{is_utf8, IsUtf8, IsValidUpTo, valid_up_to}
use Rattle.std.proofs.lemmas.Str.{is_utf8-from_IsUtf8, IsUtf8-from_is_utf8}
use Rattle.cbor_edn_model.proofs.lemmas.cbor.StringKinds.{is_or_not}
use Rattle.cbor_edn_findings.proofs.bytes.is_content.Goals as goal

is_valid : {T E : Type 0} (bs : List ℕ) (r : Result T E) (P : T → Type 0) (Q : E → Type 0) → MatchResult r (λ x. P x × IsUtf8 bs) (λ e. (IsUtf8 bs → ⊥) × Q e) → is_ok r ≡ is_utf8 bs
is_valid bs (Ok x) P Q valid = sym (is_utf8-from_IsUtf8 bs valid.1)
is_valid bs (Err e) P Q invalid =
    elim (is_or_not (is_utf8 bs)) [
      | inl valid ↦ absurd (invalid.0 (IsUtf8-from_is_utf8 bs valid))
      | inr other ↦ sym other
    ]

pub returns-in-Text : goal.returns-in-Text
returns-in-Text c =
    let bs = c.args.content.now in
    rw (c.in-Text.is, c.is_ok.ensures.value) (is_valid bs c.from_utf8.result (λ x. x.now ≡ bs) (λ e. IsValidUpTo bs (valid_up_to e)) c.from_utf8.ensures.cases)
