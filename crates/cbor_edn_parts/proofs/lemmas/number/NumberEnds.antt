-- No number goes on with what may stand behind an item.
use Rattle.std.proofs.Common.{ℕ, ◌≡◌, List, [], drop, true, Option, Some, None, refl, sym, subst}
use Rattle.std.specs.Prelude.{MatchOption, ⊤}
use Rattle.cbor_edn_parts.specs.base.Bytes.{Kind, Plus, Minus, Zero, One, TwoToSeven, EightOrNine, Dot, B, E, HexLetter, O, P, X, follows, kind, Follow}
use Rattle.cbor_edn_parts.specs.internal.Lex.{munch}
use Rattle.cbor_edn_parts.specs.internal.NumberStarts.{follows_at}
use Rattle.cbor_edn_parts.specs.internal.NumberTokens as tokens
use Rattle.cbor_edn_parts.specs.internal.NumberTokens.{number_step, number_final}
use Rattle.cbor_edn_parts.specs.internal.Scans.{IsAt}
use Rattle.cbor_edn_parts.specs.declared.number.NumberState.{NumberState}
use Rattle.cbor_edn_parts.specs.declared.number.NumberState.TheVariants.{AfterZero, DecimalDigits, Fraction, ExponentDigits, HexadecimalDigits, BinaryExponentDigits, OctalDigits, BinaryDigits}
use Rattle.cbor_edn_parts.proofs.lemmas.base.ScanLoops.{halted}

pub number_stop : (k : Kind) (m : NumberState) → number_final m ≡ true → follows k ≡ true → number_step k m ≡ None
number_stop Plus AfterZero e h = refl
number_stop Plus DecimalDigits e h = refl
number_stop Plus Fraction e h = refl
number_stop Plus ExponentDigits e h = refl
number_stop Plus HexadecimalDigits e h = refl
number_stop Plus BinaryExponentDigits e h = refl
number_stop Plus OctalDigits e h = refl
number_stop Plus BinaryDigits e h = refl
number_stop Plus _ e h = cc
number_stop Minus m e h = cc
number_stop Zero m e h = cc
number_stop One m e h = cc
number_stop TwoToSeven m e h = cc
number_stop EightOrNine m e h = cc
number_stop Dot m e h = cc
number_stop B m e h = cc
number_stop E m e h = cc
number_stop HexLetter m e h = cc
number_stop O m e h = cc
number_stop P m e h = cc
number_stop X m e h = cc
number_stop _ m e h = refl

-- the byte that is read there, and what stands there
pub follow_there : (text : List ℕ) (at : ℕ) (next : Option ℕ) → IsAt text at next → follows_at next ≡ true → Follow (drop at text)
follow_there text at None here follows = subst Follow (sym here) tt
follow_there text at (Some c) here follows = subst Follow (sym here.0) follows

pub there_follows : (text : List ℕ) (at : ℕ) (next : Option ℕ) → IsAt text at next → Follow (drop at text) → follows_at next ≡ true
there_follows text at None here follow = refl
there_follows text at (Some c) here follow = subst Follow here.0 follow

leads_nowhere : (next : Option ℕ) (m : NumberState) → number_final m ≡ true → follows_at next ≡ true → MatchOption next ⊤ (λ c. tokens.number.step c m ≡ None)
leads_nowhere None m final follows = tt
leads_nowhere (Some c) m final follows = number_stop (kind c) m final follows

-- so a number ends there
pub stopped_there : (text : List ℕ) (at : ℕ) (next : Option ℕ) (m : NumberState) → IsAt text at next → number_final m ≡ true → follows_at next ≡ true → munch tokens.number m (drop at text) ≡ Some ([], drop at text)
stopped_there text at next m here final follows = halted tokens.number m text at next final here (leads_nowhere next m final follows)
