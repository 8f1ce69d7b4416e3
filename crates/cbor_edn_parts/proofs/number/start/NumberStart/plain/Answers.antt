use Rattle.std.proofs.Common.{ℕ, ◌≡◌, ◌∙◌, List, drop, true, Some, sym}
use Rattle.std.specs.Prelude.{slice_range}
use Rattle.std.proofs.lemmas.Bool.{both_ways}
use Rattle.cbor_edn_parts.specs.declared.number.NumberState.TheVariants.{Start}
use Rattle.cbor_edn_parts.specs.declared.number.start.NumberStart.{NumberStart}
use Rattle.cbor_edn_parts.specs.internal.Lex.{token}
use Rattle.cbor_edn_parts.specs.internal.NumberStarts.{IsStart, follows_at}
use Rattle.cbor_edn_parts.specs.internal.NumberTokens as tokens
use Rattle.cbor_edn_parts.specs.internal.Input.{text_bytes}
use Rattle.cbor_edn_parts.proofs.lemmas.number.NumberEnds.{follow_there, there_follows, stopped_there}
use Rattle.cbor_edn_parts.proofs.lemmas.base.ScanEnds.{comes_done}
use Rattle.cbor_edn_parts.proofs.lemmas.base.Tokens.{taken}
use Rattle.cbor_edn_parts.proofs.number.start.NumberStart.plain.Goals as goal

pub returns-then-not-is_final-clause-none : goal.returns-then-not-is_final-clause-none
returns-then-not-is_final-clause-none c = λ _ final follow. both_ways (tokens.number_final c.args.self.state) (sym c.is_final.ensures ∙ c.if-not-is_final.true) final

pub returns-then-not-may_follow-clause-none : goal.returns-then-not-may_follow-clause-none
returns-then-not-may_follow-clause-none c = λ _ final follow.
    both_ways _ (sym c.may_follow.ensures ∙ c.if-not-may_follow.true) (there_follows (text_bytes c.args.text.now) c.args.self.at _ c.requires.start.read.here follow)

-- the token, where its scan may end
whole : (text : List ℕ) (from : ℕ) (s : NumberStart) → IsStart text from s → tokens.number_final s.state ≡ true → follows_at s.next ≡ true → token tokens.number (drop from text) ≡ Some (slice_range text from s.at, drop s.at text)
whole text from s start final follows =
    comes_done tokens.number text Start s.state from s.at start.comes (stopped_there text s.at s.next s.state start.read.here final follows)

pub invariant_of-result : goal.invariant_of-result
invariant_of-result c = record {
  spelled = rw c.slice.ensures (taken tokens.number _ _ _ (whole (text_bytes c.args.text.now) c.args.from c.args.self c.requires.start (sym c.is_final.ensures ∙ c.if-not-is_final.false) (sym c.may_follow.ensures ∙ c.if-not-may_follow.false)));
}

pub returns-clause-some : goal.returns-clause-some
returns-clause-some c =
    rw c.slice.ensures (whole (text_bytes c.args.text.now) c.args.from c.args.self c.requires.start (sym c.is_final.ensures ∙ c.if-not-is_final.false) (sym c.may_follow.ensures ∙ c.if-not-may_follow.false))

pub returns-clause-follow : goal.returns-clause-follow
returns-clause-follow c = follow_there (text_bytes c.args.text.now) c.args.self.at _ c.requires.start.read.here (sym c.may_follow.ensures ∙ c.if-not-may_follow.false)
