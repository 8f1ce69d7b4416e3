-- A comment in front of an item.
use Rattle.std.proofs.Common.{refl}
use Rattle.cbor_edn_parts.proofs.lemmas.space.NoteSpaces.{notes_are_space}
use Rattle.cbor_edn_model.specs.tree.Trees.{StandaloneTree, Valid, items}
use Rattle.cbor_edn_model.specs.layout.LayoutLaws.{CommentKeepsItems, CommentStaysValid}

pub comment_keeps_items : CommentKeepsItems
unfolding items
comment_keeps_items c (StandaloneTree s w t) = refl

pub comment_stays_valid : CommentStaysValid
unfolding Valid
comment_stays_valid c (StandaloneTree s w t) small v = ((notes_are_space c small).0, v.1, v.2)
