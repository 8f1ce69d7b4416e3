use Rattle.std.proofs.Common.{Some, ap, sym, ◌∙◌}
use Rattle.cbor_edn_model.specs.tree.Trees.{ElementTree}
use Rattle.cbor_edn_core.specs.tree.View.{item_tree}
use Rattle.cbor_edn_model.specs.tree.TreeLeaves.{texts}
use Rattle.cbor_edn_model.specs.internal.CborReading.{row_of}
use Rattle.cbor_edn_core.specs.internal.RowBuilder.{grown}
use Rattle.cbor_edn_core.proofs.lemmas.cbor.CborRows.{row_finished, map-map}
use Rattle.cbor_edn_core.proofs.lemmas.tree.Views.{view_items_made}
use Rattle.cbor_edn_core.proofs.cbor.decode.finish.finish_items.Goals as goal

pub returns : goal.returns
returns c =
    let found = c.args.found in
    ap (λ m. Some m) (view_items_made texts _)
    ∙ row_finished (λ x. ElementTree (item_tree x)) found.row.items found.last c.in-Some.last _ found.commas c.in-Some.is c.empty.ensures
    ∙ ap row_of (sym (map-map ElementTree item_tree (grown found)))
