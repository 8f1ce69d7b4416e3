use Rattle.std.proofs.Common.{sym, ◌∙◌}
use Rattle.cbor_edn_parts.specs.internal.SpaceTokens as tokens
use Rattle.cbor_edn_parts.proofs.lemmas.base.ScanEnds.{ends_before}
use Rattle.cbor_edn_parts.proofs.lemmas.space.Blanks.{blanks_whole}
use Rattle.cbor_edn_parts.proofs.space.read.space_end.Goals as goal

pub returns-then-is_comment_there-clause-value : goal.returns-then-is_comment_there-clause-value
returns-then-is_comment_there-clause-value c = ends_before tokens.space _ _ _ _ _ _ c.blanks-next.ensures.comes c.comments_end.ensures.place c.comments_end.ensures.value

pub returns-clause-value : goal.returns-clause-value
returns-clause-value c =
    let read = c.blanks-next.ensures in
    (read.read, blanks_whole _ _ _ _ read.comes read.read.here read.other (sym c.is_comment_there.ensures ∙ c.if-is_comment_there.false))
