use Rattle.std.proofs.Common.{◌++◌, ◌∷◌, [], Some, ap, sym, ◌∙◌}
use Rattle.cbor_edn_core.specs.tree.Constructed.{element_tree}
use Rattle.cbor_edn_model.specs.tree.TreeLeaves.{texts}
use Rattle.cbor_edn_model.proofs.lemmas.tree.Commas.{commas_made}
use Rattle.cbor_edn_core.proofs.lemmas.tree.Views.{view_items_made}
use Rattle.cbor_edn_core.proofs.tree.construct.comma_items.Goals as goal

pub returns : goal.returns
returns c =
    let all = c.in-Some.ensures.items ∙ ap (λ xs. xs ++ (c.in-Some.last ∷ [])) (sym c.in_ok-row.ensures.entries) in
    ap (λ m. Some m) (view_items_made texts _)
    ∙ commas_made element_tree c.in_ok-row.row.items c.in-Some.last _ c.args.items.items c.in_ok-row.ensures.commas c.empty.ensures all
