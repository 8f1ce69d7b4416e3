-- Comments behind tags, and behind the third element of a tag 38: `38(["he", "x", true/ Right-to-left /])`.
use Rattle.std.specs.Prelude.{ℕ, zero, suc, ◌==◌, ◌&&◌, codes, Bool, false, if◌then◌else◌, List}
use Rattle.cbor_edn_model.specs.declared.text.opener.OpenerKind.TheVariants as opener
use Rattle.cbor_edn_model.specs.declared.text.keyword.NamedSimple.TheVariants.{True, False, Null}
use Rattle.cbor_edn_model.specs.access.Accessed.{element}
use Rattle.cbor_edn_model.specs.tree.Items.{Row, Elements, Array}
use Rattle.cbor_edn_model.specs.visit.Seeking.{CallArguments}
use Rattle.cbor_edn_model.specs.tree.Trees.{Tree, OneItem, OneEntry, Rest, NamedTree, EnclosedTree, ListTree, EmptyTree, FullTree, LastTree, MoreTree, StandaloneTree}
use Rattle.cbor_edn_model.specs.visit.Visits.{Answer, fine, comment, answered}
use Rattle.cbor_edn_conversions.specs.Conversions.{Reply, tells}

-- the comment is answered, whatever the arguments are
abbrev pub commenting : List ℕ → CallArguments → Tree OneItem → Reply
commenting c a w = (comment c, w)

-- ---- entries of a list, one by one

-- what becomes of an entry, by its number, and of the space that follows it
abbrev pub Turn : Row → Type 0
Turn k = ℕ → Tree (OneEntry k) → List ℕ → Tree (OneEntry k) × List ℕ

-- Entries after a turn of each; the number of the first is i.
abbrev pub turned : {k : Row} → Turn k → ℕ → Tree (Rest k) → Tree (Rest k)
turned turn i (LastTree e s) = let x = turn i e s in LastTree x.0 x.1
turned turn i (MoreTree e s m) = let x = turn i e s in MoreTree x.0 x.1 (turned turn (suc i) m)

-- ---- tag 38 (RFC 9290, appendix A): a language, a text and the direction of the text

abbrev pub direction : Tree OneItem → Answer
direction (NamedTree True) = comment (codes "Right-to-left")
direction (NamedTree False) = comment (codes "Left-to-right")
direction (NamedTree Null) = comment (codes "Automatic direction")
direction _ = fine

-- of the third element, whose number is 2
abbrev pub direction_at : ℕ → Tree OneItem → Answer
direction_at (suc (suc zero)) w = direction w
direction_at _ w = fine

-- elements stay, and have the comments that are answered of them in front of the space that follows
abbrev pub commented : (ℕ → Tree OneItem → Answer) → Turn Elements
commented note i e s = (e, answered (note i (element e)) s)

-- an array with the comment, or a message where there is none
abbrev pub with_direction : Tree OneItem → Reply
with_direction (ListTree Array (FullTree h s m)) = (fine, ListTree Array (FullTree h s (turned (commented direction_at) 0 m)))
with_direction (ListTree Array (EmptyTree i s)) = (fine, ListTree Array (EmptyTree i s))
with_direction w = (comment (codes "Expected array"), w)

-- between the parentheses of a tag
abbrev pub at_content : (Tree OneItem → Reply) → Tree OneItem → Reply
at_content f (EnclosedTree l (StandaloneTree s w t)) = ((f w).0, EnclosedTree l (StandaloneTree s (f w).1 t))
at_content f w = (fine, w)

-- the item is the tag of the call, of this number
abbrev pub is_called_tag : CallArguments → ℕ → Tree OneItem → Bool
is_called_tag a n (EnclosedTree (opener.Tag i m) w) = tells a m && m == n
is_called_tag a n w = false

-- `comment_lang_tag`
unfoldable pub comment_lang : CallArguments → Tree OneItem → Reply
comment_lang a w = if is_called_tag a 38 w then at_content with_direction w else (fine, w)
