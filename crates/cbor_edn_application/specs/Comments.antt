-- Calls that put comments into their item. Where memory was refused some of them may be there; the items are as before.
use Rattle.std.specs.Prelude.{◌≡◌, List, ℕ}
use Rattle.cbor_edn_model.specs.visit.Seeking.{CallArguments}
use Rattle.cbor_edn_model.specs.tree.Trees.{Tree, OneItem, Standalone, StandaloneTree}
use Rattle.cbor_edn_model.specs.visit.Visits.{Answer, comment}
use Rattle.cbor_edn_conversions.specs.declared.tables.Structure.{Structure}
use Rattle.cbor_edn_conversions.specs.Conversions.{Reply}
use Rattle.cbor_edn_conversions.specs.Cose.{with_parts, all_levels}
use Rattle.cbor_edn_application.specs.Acts.{Act}
use Rattle.cbor_edn_application.specs.Handlers.{ValueAnswers}

-- An item is answered and left by a function that puts comments.
abbrev pub CommentsSo : (Tree OneItem → Reply) → Tree OneItem → Answer → Tree OneItem → Type 0
CommentsSo = ValueAnswers

-- the same by the arguments too
abbrev pub CommentsBy : Act → CallArguments → Tree OneItem → Answer → Tree OneItem → Type 0
CommentsBy act a = CommentsSo (act a)

-- the same of an item between spaces, which stay
abbrev pub CommentsInside : (Tree OneItem → Reply) → Tree Standalone → Answer → Tree Standalone → Type 0
CommentsInside f (StandaloneTree s w t) r v = (x : Tree OneItem) × (v ≡ StandaloneTree s x t) × CommentsSo f w r x

-- what is answered at the array of a message, and left of it
abbrev pub message_reply : List ℕ → Structure → Tree OneItem → Reply
message_reply name x w = (comment name, with_parts all_levels x w)

-- what is done to the item between spaces, which stay
abbrev pub inside : (Tree OneItem → Tree OneItem) → Tree Standalone → Tree Standalone
inside f (StandaloneTree s w t) = StandaloneTree s (f w) t
