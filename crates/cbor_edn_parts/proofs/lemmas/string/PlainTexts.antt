-- What stands for itself between double quotes leaves a scan as it is, and the quote behind it ends the literal.
use Rattle.std.proofs.Common.{ℕ, ◌+◌, ◌≡◌, ◌<◌, List, [], ◌∷◌, drop, true, false, Option, Some, None, refl, sym, ap, ◌∙◌, arith}
use Rattle.std.specs.Prelude.{slice_range, not, IfSome, MatchOption, ⊤}
use Rattle.std.proofs.lemmas.Bool.{false≢true, cond-false, le-leb, lt-ltb, ne_eqb, and_from}
use Rattle.cbor_edn_parts.specs.base.Bytes.{IsLong}
use Rattle.cbor_edn_parts.specs.internal.Lex.{munch, token}
use Rattle.cbor_edn_parts.specs.internal.LiteralTokens as tokens
use Rattle.cbor_edn_parts.specs.internal.LiteralTokens.{inside, is_plain}
use Rattle.cbor_edn_parts.specs.internal.PlainTexts.{in_text, is_plain_at}
use Rattle.cbor_edn_parts.specs.internal.Scans.{IsAt, Comes}
use Rattle.cbor_edn_parts.specs.declared.string.Quote.TheVariants.{Double}
use Rattle.cbor_edn_parts.specs.declared.string.LiteralState.TheVariants.{Start, Closed}
use Rattle.cbor_edn_parts.proofs.lemmas.string.Quoted.{plain_step}
use Rattle.cbor_edn_parts.proofs.lemmas.base.ScanEnds.{comes_byte, comes_on, comes_done}
use Rattle.cbor_edn_parts.proofs.lemmas.base.ScanLoops.{munch_none, munch_end}

stays : (c : ℕ) → is_plain Double c ≡ true → tokens.literal.step c in_text ≡ Some in_text
stays c e = let step = plain_step Double c e in cond-false _ _ _ step.0 ∙ ap (inside Double) step.1

-- a byte that is there and stands for itself
pub plain_there : (next : Option ℕ) → IfSome next (λ c. c < 256) → is_plain_at next ≡ true → (c : ℕ) × (next ≡ Some c) × (c < 256) × (tokens.literal.step c in_text ≡ Some in_text)
plain_there None small e = absurd (false≢true e)
plain_there (Some c) small e = (c, refl, small, stays c e)

-- as a byte of a longer character does
long_plain : (c : ℕ) → IsLong c → is_plain Double c ≡ true
long_plain c long =
    and_from _ _ (le-leb 32 c (omega (arith, long.0))) (and_from _ _ (lt-ltb c 256 long.1) (and_from _ _ (ap not (ne_eqb c 92 (λ e. omega (arith, long.0, e)))) (ap not (ne_eqb c 34 (λ e. omega (arith, long.0, e))))))

pub other_there : (next : Option ℕ) → is_plain_at next ≡ false → IfSome next (λ c. c < 256) → MatchOption next ⊤ (λ c. (c < 256) × (IsLong c → tokens.literal.step c in_text ≡ None))
other_there None e small = tt
other_there (Some c) e small = (small, λ long. absurd (false≢true (sym e ∙ long_plain c long)))

pub quote_there : (text : List ℕ) (at : ℕ) (byte : Option ℕ) → IsAt text at byte → byte ≡ Some 34 → drop at text ≡ 34 ∷ drop (at + 1) text
quote_there text at byte here e = let is = rw e at here in is.0

-- behind the quote that opens the text
pub opened : (text : List ℕ) (from : ℕ) → drop from text ≡ 34 ∷ drop (from + 1) text → Comes tokens.literal text Start from in_text (from + 1)
opened text from here = comes_byte tokens.literal text Start in_text from 34 here refl

closed : (xs : List ℕ) → munch tokens.literal Closed xs ≡ Some ([], xs)
closed [] = munch_end tokens.literal Closed
closed (c ∷ xs) = munch_none tokens.literal Closed c xs refl

-- the literal that ends with the quote at a place
pub whole_text : (text : List ℕ) (from at : ℕ) → drop from text ≡ 34 ∷ drop (from + 1) text → Comes tokens.literal text in_text (from + 1) in_text at → drop at text ≡ 34 ∷ drop (at + 1) text
    → token tokens.literal (drop from text) ≡ Some (slice_range text from (at + 1), drop (at + 1) text)
whole_text text from at first comes last =
    let all = comes_on tokens.literal text Start in_text Closed from (from + 1) (at + 1) (opened text from first) (comes_on tokens.literal text in_text in_text Closed (from + 1) at (at + 1) comes (comes_byte tokens.literal text in_text Closed at 34 last refl)) in
    comes_done tokens.literal text Start Closed from (at + 1) all (closed (drop (at + 1) text))
