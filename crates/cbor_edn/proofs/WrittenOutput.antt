-- What was written, by what was read.
use Rattle.std.proofs.Common.{◌≡◌, List, ℕ, Option, Some, None, Result, Ok, Err, IfSome, OnOk, IfErr, sym, subst, ◌∙◌, ap, append-nil, arith, inl, inr, ◌+◌, ◌++◌, [], ◌∷◌, refl}
use Rattle.std.specs.Prelude.{◌≢◌, is_err, if◌then◌else◌}
use Rattle.std.proofs.lemmas.List.Elements.{All-nil, All-cons}
use Rattle.std.proofs.KnownBytes.{Appends-nil, Keeps-refl}
use Rattle.std.specs.Io.KnownBytes.{Consumes, IsAtEnd, Appends}
use Rattle.cbor_edn_command.specs.Devices.{AppendsBeginning}
use Rattle.cbor_edn.specs.Runs.{IsOutput, IsFaultLine, IsReported, IsReportedWhole, Wrote}
use Rattle.cbor_edn_command.specs.declared.options.Options.{Options}

-- what was read to the end is what was known
of_all : (P : List ℕ → Type 0) (known left : Option (List ℕ)) (read input : List ℕ) → Consumes known left read → IsAtEnd left → input ≡ read → P input → IfSome known P
of_all P None left read input gone end is made = tt
of_all P (Some xs) None read input gone end is made = absurd gone
of_all P (Some xs) (Some ys) read input gone end is made = subst P (is ∙ sym (gone ∙ ap (λ l. read ++ l) end ∙ append-nil read)) made

pub wrote : (o : Options) (known left old new : Option (List ℕ)) (bytes out input read : List ℕ)
    → Appends old new bytes → bytes ≡ out → IsOutput o input out → input ≡ read → Consumes known left read → IsAtEnd left → Wrote o (Ok tt) known old new
wrote o known left old new bytes out input read all is made from gone end =
    (out, of_all (λ i. IsOutput o i out) known left read input gone end from made, subst (Appends old new) is all)

-- where nothing of a line was written
pub nothing_reported : (known : Option (List ℕ)) → IsReported known known
nothing_reported known = (_, (33 ∷ [], λ e. cc, All-cons (λ b. b ≢ 10) 33 [] (λ e. cc) (All-nil (λ b. b ≢ 10)), refl), ([], _, refl, Appends-nil known))

-- a line of which all was written, or a beginning
pub reported : {E : Type 0} (r : Result (Unit {0}) E) (old new : Option (List ℕ)) (bytes line : List ℕ)
    → OnOk r (Appends old new bytes) → IfErr r (λ _. AppendsBeginning old new bytes)
    → bytes ≡ line → IsFaultLine line → IsReported old new
reported (Ok _) old new bytes line all some is fault = (line, fault, (bytes, [], sym is ∙ sym (append-nil bytes), all))
reported (Err e) old new bytes line all some is fault = (line, fault, subst (AppendsBeginning old new) is some)

-- where the sink did not fail
pub nothing_reported_whole : (known : Option (List ℕ)) → IsReportedWhole known known
nothing_reported_whole known = inl (Keeps-refl known)

pub reported_whole : {E : Type 0} (r : Result (Unit {0}) E) (before after : ℕ) (old new : Option (List ℕ)) (bytes line : List ℕ)
    → OnOk r (Appends old new bytes) → after ≡ before + (if is_err r then 1 else 0) → after ≡ before
    → bytes ≡ line → IsFaultLine line → IsReportedWhole old new
reported_whole (Ok _) before after old new bytes line all counted same is fault = inr (line, fault, subst (Appends old new) is all)
reported_whole (Err e) before after old new bytes line all counted same is fault = absurd (omega (arith, counted, same))
