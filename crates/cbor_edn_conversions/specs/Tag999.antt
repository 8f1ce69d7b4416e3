-- Literals as tags of their prefix and their text: `foo'bar'` and `999(["foo", "bar"])`.
use Rattle.std.specs.Prelude.{ℕ, Bool, codes, ◌||◌, if◌then◌else◌, List, Option, None, Some, Ok}
use Rattle.cbor_edn_parts.specs.string.Contents.{text_literal}
use Rattle.cbor_edn_parts.specs.internal.ContentReading.{same}
use Rattle.cbor_edn_model.specs.visit.Seeking.{CallArguments}
use Rattle.cbor_edn_model.specs.tree.Trees.{Tree, OneItem, StringTree, LastPieceTree, LiteralTree}
use Rattle.cbor_edn_conversions.specs.Conversions.{Conversion, Reply, reply, of_literal, pair_tree, tag_tree}

-- the prefixes that a literal means bytes with
abbrev pub is_built_in : List ℕ → Bool
is_built_in p = same p (codes "h") || same p (codes "b64") || same p (codes "b32") || same p (codes "h32")

-- a text string: `"foo"`
abbrev pub text_tree : List ℕ → Tree OneItem
text_tree t = StringTree (LastPieceTree (LiteralTree (text_literal t) None))

-- `999(["p", "t"])`
abbrev pub tag999_tree : List ℕ → List ℕ → Tree OneItem
tag999_tree p t = tag_tree 999 (pair_tree (text_tree p) (text_tree t))

-- What a literal of this prefix and this text becomes, if its prefix is no built-in one.
abbrev pub tag999_of_literal : List ℕ → List ℕ → Option Conversion
tag999_of_literal p t = if is_built_in p then None else Some (Ok (tag999_tree p t))

-- `any_aol_to_tag999`
unfoldable pub to_tag999 : CallArguments → Tree OneItem → Reply
to_tag999 a w = reply w (of_literal tag999_of_literal a)
