-- The laws of what is written without characters that act, as contracts name them.
use Rattle.std.specs.Prelude.{◌≡◌, ℕ, List}
use Rattle.std.specs.Str.{IsUtf8}
use Rattle.cbor_edn_parts.specs.string.Literal.{Quoting, IsLiteral}
use Rattle.cbor_edn_model.specs.tree.Items.{nesting}
use Rattle.cbor_edn_model.specs.tree.Trees.{Tree, Seq, Valid, items, text}
use Rattle.cbor_edn_conversions.specs.Resolving.{means_by}
use Rattle.cbor_edn_conversions.specs.Resolvers.{literal_resolver}
use Rattle.cbor_edn_terminal.specs.Terminal.{IsHarmlessInLines}
use Rattle.cbor_edn_harmless.specs.Harmless.{harmless, harmless_literal}

-- The text of a tree, in its set, without what acts.
abbrev pub IsHarmlessText : List ℕ → List ℕ → Type 0
IsHarmlessText written out = (w : Tree Seq) → Valid w → text w ≡ written → out ≡ text (harmless w)

-- A quoted text is quoted as before, and stands for the same text.
abbrev pub LiteralsStay : Type 0
LiteralsStay = (q : Quoting) (v x : List ℕ) → IsUtf8 x → IsLiteral q v x → IsLiteral q v (harmless_literal x)

-- A tree with a UTF-8 text stays in its sets, its items mean the same and nest the same, and its text acts on nothing but by its line feeds.
pub record IsKeptHarmless (w : Tree Seq) : Type 0 where
  pub valid : Valid (harmless w)
  pub utf8 : IsUtf8 (text (harmless w))
  pub meaning : means_by literal_resolver (items (harmless w)) ≡ means_by literal_resolver (items w)
  pub nested : nesting (items (harmless w)) ≡ nesting (items w)
  pub acts_on_nothing : IsHarmlessInLines (text (harmless w))

abbrev pub HarmlessKeeps : Type 0
HarmlessKeeps = (w : Tree Seq) → Valid w → IsUtf8 (text w) → IsKeptHarmless w
