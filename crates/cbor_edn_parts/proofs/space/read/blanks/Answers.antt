use Rattle.std.proofs.Common.{sym, ◌∙◌}
use Rattle.cbor_edn_parts.specs.internal.SpaceTokens as tokens
use Rattle.cbor_edn_parts.specs.internal.StateLaws.{space_stays}
use Rattle.cbor_edn_parts.specs.declared.space.SpaceState.TheVariants.{Between}
use Rattle.cbor_edn_parts.proofs.lemmas.base.ScanEnds.{standing}
use Rattle.cbor_edn_parts.proofs.lemmas.base.ScanLoops.{onward, over_read}
use Rattle.cbor_edn_parts.proofs.lemmas.space.Blanks.{blank_there, other_there}
use Rattle.cbor_edn_parts.proofs.space.read.blanks.Goals as goal

pub blanks-init : goal.blanks-init
blanks-init c = standing tokens.space Between _ _ _ _ _ (record { place = c.requires; here = c.byte-next.ensures.value; behind = c.byte-next.ensures.behind }) c.byte-next.ensures.count

pub blanks-preserved : goal.blanks-preserved
blanks-preserved c =
    let read = blank_there _ c.is_blank_there.ensures.byte (sym c.is_blank_there.ensures.blank ∙ c.blanks-test.true) in
    onward tokens.space space_stays _ _ _ _ _ _ _ _ _ _ _ _ c.blanks.invariant read.1 read.2 read.3 c.byte-next-in-blanks.ensures.value c.byte-next-in-blanks.ensures.behind c.byte-next-in-blanks.ensures.count

pub returns-clause-read : goal.returns-clause-read
returns-clause-read c = over_read tokens.space _ _ _ _ _ _ _ _ c.blanks.invariant (other_there _ c.is_blank_there.ensures.byte)
