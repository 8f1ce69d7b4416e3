use Rattle.std.proofs.Common.{◌≡◌, Bool, true, false, refl, sym, ap}
use Rattle.std.proofs.lemmas.Bool.{false≢true}
use mathlib.Core.Bool.{not}
use Rattle.cbor_edn_parts.specs.Leaves.{literal_bytes}
use Rattle.cbor_edn_model.specs.access.Accessed.{string_tree}
use Rattle.cbor_edn_model.specs.tree.TreeLeaves.{texts}
use Rattle.cbor_edn_model.specs.tree.Trees.{LiteralTree}
use Rattle.cbor_edn_core.specs.tree.View.{item_tree, view_inner}
use Rattle.cbor_edn_model.proofs.lemmas.access.Pieces.{no_other}
use Rattle.cbor_edn_core.proofs.access.application.may_have_prefix.Goals as goal

is_so : (b : Bool) → not b ≡ false → b ≡ true
is_so true e = refl
is_so false e = absurd (false≢true (sym e))

pub returns-in-Literal : goal.returns-in-Literal
returns-in-Literal c e p v (l, is, h) =
    let only = ap (λ y. string_tree (view_inner texts y)) c.in-Literal.is in
    c.begins_with_quote.ensures (is_so c.begins_with_quote.result e) p v (no_other (string_tree (item_tree c.args.item.now)) (LiteralTree (literal_bytes c.in-Literal.literal) c.in-Literal.field-0) l p v only is h)
