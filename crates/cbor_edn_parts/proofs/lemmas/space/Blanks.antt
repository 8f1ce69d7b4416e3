-- Blanks leave a scan of space between comments as it is, and what is neither a blank nor begins a comment ends it.
use Rattle.std.proofs.Common.{ℕ, ◌≡◌, ◌<◌, List, drop, true, false, Option, Some, None, refl, ap}
use Rattle.std.specs.Prelude.{slice_range, IfSome, MatchOption, ⊤}
use Rattle.std.proofs.lemmas.Bool.{false≢true, both_ways}
use Rattle.cbor_edn_parts.specs.base.Bytes.{IsLong, kind}
use Rattle.cbor_edn_parts.specs.internal.Blanks.{begins_comment, is_blank_at, begins_comment_at}
use Rattle.cbor_edn_parts.specs.internal.CommentReading.{is_blank}
use Rattle.cbor_edn_parts.specs.internal.Lex.{token}
use Rattle.cbor_edn_parts.specs.internal.StateLaws.{space_inside}
use Rattle.cbor_edn_parts.specs.internal.Scans.{IsAt, Comes}
use Rattle.cbor_edn_parts.specs.internal.SpaceTokens as tokens
use Rattle.cbor_edn_parts.specs.internal.SpaceTokens.{space_step}
use Rattle.cbor_edn_parts.specs.declared.space.SpaceState.{SpaceState}
use Rattle.cbor_edn_parts.specs.declared.space.SpaceState.TheVariants.{Between, InSlashes, InHash}
use Rattle.cbor_edn_parts.proofs.lemmas.base.ScanEnds.{comes_done}
use Rattle.cbor_edn_parts.proofs.lemmas.base.ScanLoops.{halted}
use Rattle.cbor_edn_parts.proofs.lemmas.space.SpaceTexts.{Moves, decides_blank, step-to, step-from}

-- a blank that is there
pub blank_there : (next : Option ℕ) → IfSome next (λ c. c < 256) → is_blank_at next ≡ true → (c : ℕ) × (next ≡ Some c) × (c < 256) × (tokens.space.step c Between ≡ Some Between)
blank_there None small e = absurd (false≢true e)
blank_there (Some c) small e = (c, refl, small, step-to Between Between c ((decides_blank c).0 e))

-- a byte of a longer character is none of space
pub other_there : (next : Option ℕ) → IfSome next (λ c. c < 256) → MatchOption next ⊤ (λ c. (c < 256) × (IsLong c → tokens.space.step c Between ≡ None))
other_there None small = tt
other_there (Some c) small = (small, λ long. space_inside c long Between refl)

moves_nowhere : (m : SpaceState) (c : ℕ) → is_blank c ≡ false → begins_comment c ≡ false → Moves Between m c → ⊥
moves_nowhere Between c b s blank = both_ways (is_blank c) b ((decides_blank c).1 blank)
moves_nowhere InSlashes c b s is = both_ways (begins_comment c) s (ap begins_comment is)
moves_nowhere InHash c b s is = both_ways (begins_comment c) s (ap begins_comment is)

unless_some : (o : Option SpaceState) → ((m : SpaceState) → o ≡ Some m → ⊥) → o ≡ None
unless_some None h = refl
unless_some (Some m) h = absurd (h m refl)

other_ends : (c : ℕ) → is_blank c ≡ false → begins_comment c ≡ false → space_step (kind c) Between ≡ None
other_ends c b s = unless_some (space_step (kind c) Between) (λ m e. moves_nowhere m c b s (step-from Between m c e))

leads_nowhere : (next : Option ℕ) → is_blank_at next ≡ false → begins_comment_at next ≡ false → MatchOption next ⊤ (λ c. tokens.space.step c Between ≡ None)
leads_nowhere None b s = tt
leads_nowhere (Some c) b s = other_ends c b s

-- where neither stands, the space ends
pub blanks_whole : (text : List ℕ) (from at : ℕ) (next : Option ℕ) → Comes tokens.space text Between from Between at → IsAt text at next → is_blank_at next ≡ false → begins_comment_at next ≡ false
    → token tokens.space (drop from text) ≡ Some (slice_range text from at, drop at text)
blanks_whole text from at next comes here b s = comes_done tokens.space text Between Between from at comes (halted tokens.space Between text at next refl here (leads_nowhere next b s))
