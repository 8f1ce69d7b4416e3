use Rattle.std.proofs.Common.{ℕ, List, Some, IfOk, ◌≡◌, refl, ap, subst, ◌∙◌}
use Rattle.cbor_edn_parts.specs.declared.base.indicator.Indicator.TheVariants.{Indefinite}
use Rattle.cbor_edn_model.specs.tree.Trees.{Tree, OneItem, StringTree, LastPieceTree, LiteralTree}
use Rattle.cbor_edn_core.specs.tree.View.{item_tree}
use Rattle.cbor_edn_model.specs.tree.TreeLeaves.{texts}
use Rattle.cbor_edn_core.proofs.lemmas.tree.Views.{view_stream_made}
use Rattle.cbor_edn_core.proofs.cbor.decode.strings.indefinite_string.Goals as goal

pub returns-in-Some : goal.returns-in-Some
returns-in-Some c =
    rw c.in-Some.is (subst (λ (w : Tree OneItem). IfOk c.stream.result (λ t. item_tree t ≡ w)) (view_stream_made texts _ ∙ rw c.single.ensures.bytes refl) c.stream.ensures.view)

pub returns-in-None : goal.returns-in-None
returns-in-None c =
    rw c.in-None.is (c.literal.ensures.view ∙ ap (λ (l : List ℕ). StringTree (LastPieceTree (LiteralTree l (Some Indefinite)))) c.empty.ensures)
