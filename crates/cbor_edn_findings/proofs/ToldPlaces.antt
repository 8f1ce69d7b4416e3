-- A place is told of each text that has no encoding.
use Rattle.std.proofs.Common.{◌≡◌, ◌++◌, ℕ, List, [], ◌∷◌, Some, inl, inr, length, take, refl, sym, ap, ◌∙◌, subst, arith, append-nil}
use Rattle.std.specs.Prelude.{Option, None, Result, Ok, Err, IfOk, IfSome}
use Rattle.std.specs.declared.alloc.AllocError.{AllocError}
use Rattle.std.specs.Str.{IsUtf8, IsCharBoundary}
use Rattle.std.proofs.Math.Seq.{take-length, take-append_seam}
use Rattle.std.proofs.lemmas.List.{length-append}
use Rattle.std.proofs.lemmas.Str.{IsCharBoundary-from_take}
use Rattle.cbor_edn_parts.specs.base.Location.{IsLocation}
use Rattle.cbor_edn_parts.specs.declared.base.error.InconsistentEdn.{InconsistentEdn}
use Rattle.cbor_edn_command.specs.declared.options.Options.{Options}
use Rattle.cbor_edn.specs.Runs.{IsRefused}
use Rattle.cbor_edn.specs.RunLaws.{NoText, NoItems, NoEncodings, NoDigits, NoMeaning}
use Rattle.cbor_edn.specs.declared.engine.RunError.{RunError}
use Rattle.cbor_edn.specs.declared.engine.RunError.TheVariants.{Read, NotUtf8, Parse, Cbor, Hex, Inconsistent, Write, Memory}
use Rattle.cbor_edn.proofs.Faults.{one_fault}
use Rattle.cbor_edn_findings.specs.Findings.{IsAt, IsAtFirst, IsInText, IsValidPart, IsFoundOf}
use Rattle.cbor_edn_findings.specs.WithoutEncoding.{IsFirstWithout}
use Rattle.cbor_edn_findings.specs.declared.finding.Finding.{Finding}
use Rattle.cbor_edn_findings.specs.declared.finding.Finding.TheVariants.{InText, InBytes, Nowhere}

at_seam : (bs xs ys : List ℕ) → bs ≡ xs ++ ys → IsUtf8 bs → IsUtf8 xs → IsCharBoundary bs (length xs)
at_seam bs xs ys is utf8 front =
    IsCharBoundary-from_take bs (length xs) utf8 (omega (arith, ap length is, length-append xs ys)) (subst IsUtf8 (sym (ap (take (length xs)) is ∙ take-append_seam xs ys)) front)

-- a character begins where an item does
pub boundary : (o : Options) (input : List ℕ) (offset : ℕ) → IsFirstWithout o input offset → IsCharBoundary input offset
boundary o input offset (w, read, first) =
    let h = first.begins first.item first.leads in
    subst (IsCharBoundary input) h.4 (at_seam input h.0 _ (sym read.prints ∙ h.2.there.2) read.utf8 h.3)

pub at_first : (o : Options) (told text : List ℕ) (offset : ℕ) (f : Finding) → IsFirstWithout o text offset → IsAt told text offset f → IsAtFirst o text f
at_first o told text offset (InText words at line column) first (_, is, place) =
    (subst (IsFirstWithout o text) (sym is) first, subst (λ n. IsLocation text n line column) (sym is) place)
at_first o told text offset (InBytes words at) first is = is
at_first o told text offset (Nowhere words) first is = is.1 (boundary o text offset first)

-- of a text in UTF-8 the valid part is all
whole_part : (input text behind : List ℕ) → input ≡ text ++ behind → IsUtf8 input → IsValidPart input text → text ≡ input
whole_part input text [] parts utf8 h = sym (parts ∙ append-nil text)
whole_part input text (b ∷ behind) parts utf8 h =
    absurd (h.longest (length input) (omega (arith, ap length parts, length-append text (b ∷ behind))) (omega arith) (subst IsUtf8 (sym (take-length input)) utf8))

-- What is found of an input that is refused so stands there.
pub told_first : (o : Options) (input : List ℕ) (fault : RunError) (f : Finding) (e : InconsistentEdn) → IsRefused o input fault → IsFoundOf o input fault f → IsRefused o input (Inconsistent e) → IsAtFirst o input f
told_first o input Read f e refused found without = absurd refused
told_first o input NotUtf8 f e refused found without = let same : NoText ≡ NoMeaning = one_fault o input NotUtf8 (Inconsistent e) NoText NoMeaning refused without refl refl in absurd cc
told_first o input (Parse d) f e refused found without = let same : NoItems ≡ NoMeaning = one_fault o input (Parse d) (Inconsistent e) NoItems NoMeaning refused without refl refl in absurd cc
told_first o input (Cbor d) f e refused found without = let same : NoEncodings ≡ NoMeaning = one_fault o input (Cbor d) (Inconsistent e) NoEncodings NoMeaning refused without refl refl in absurd cc
told_first o input Hex f e refused found without = let same : NoDigits ≡ NoMeaning = one_fault o input Hex (Inconsistent e) NoDigits NoMeaning refused without refl refl in absurd cc
told_first o input (Inconsistent d) f e refused (text, part, found) (is, (w, v, read, steps, none)) =
    let same : text ≡ input = whole_part input text part.behind part.parts read.utf8 part in
    elim (subst (λ t. IsInText o t f) same found) [
      | inl first ↦ first
      | inr nowhere ↦ absurd (nowhere.1 w v read steps none)
    ]
told_first o input Write f e refused found without = absurd refused
told_first o input (Memory d) f e refused found without = absurd found

module _ (o : Options) (input : List ℕ) where
  abbrev Placed : Result (Option Finding) AllocError → Type 0
  Placed r = IfOk r (λ found. IfSome found (λ f. (e : InconsistentEdn) → IsRefused o input (Inconsistent e) → IsAtFirst o input f))

  pub none_placed : (r : Result (Option Finding) AllocError) → r ≡ Ok None → Placed r
  none_placed r is = subst Placed (sym is) tt

  pub found_placed : (r s : Result (Option Finding) AllocError) (fault : RunError) → r ≡ s → IsRefused o input fault → IfOk s (λ found. IfSome found (IsFoundOf o input fault)) → Placed r
  found_placed r s fault is refused found = subst Placed (sym is) (by s found)
    where
      by : (s : Result (Option Finding) AllocError) → IfOk s (λ found. IfSome found (IsFoundOf o input fault)) → Placed s
      by (Ok (Some f)) h = λ e without. told_first o input fault f e refused h without
      by (Ok None) h = tt
      by (Err e) h = tt
