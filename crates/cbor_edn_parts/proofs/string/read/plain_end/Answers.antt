use Rattle.std.proofs.Common.{sym, ◌∙◌}
use Rattle.cbor_edn_parts.specs.internal.LiteralTokens as tokens
use Rattle.cbor_edn_parts.specs.internal.PlainTexts.{in_text}
use Rattle.cbor_edn_parts.specs.internal.StateLaws.{literal_stays}
use Rattle.cbor_edn_parts.proofs.lemmas.string.PlainTexts.{plain_there, other_there}
use Rattle.cbor_edn_parts.proofs.lemmas.base.ScanEnds.{standing}
use Rattle.cbor_edn_parts.proofs.lemmas.base.ScanLoops.{onward, over_read}
use Rattle.cbor_edn_parts.proofs.string.read.plain_end.Goals as goal

pub plain-init : goal.plain-init
plain-init c = standing tokens.literal in_text _ _ _ _ _ (record { place = c.requires; here = c.byte-next.ensures.value; behind = c.byte-next.ensures.behind }) c.byte-next.ensures.count

pub plain-preserved : goal.plain-preserved
plain-preserved c =
    let read = plain_there _ c.is_plain.ensures.byte (sym c.is_plain.ensures.plain ∙ c.plain-test.true) in
    onward tokens.literal literal_stays _ _ _ _ _ _ _ _ _ _ _ _ c.plain.invariant read.1 read.2 read.3 c.byte-next-in-plain.ensures.value c.byte-next-in-plain.ensures.behind c.byte-next-in-plain.ensures.count

pub returns-clause-read : goal.returns-clause-read
returns-clause-read c = over_read tokens.literal _ _ _ _ _ _ _ _ c.plain.invariant (other_there _ (sym c.is_plain.ensures.plain ∙ c.plain-test.false) c.is_plain.ensures.byte)
