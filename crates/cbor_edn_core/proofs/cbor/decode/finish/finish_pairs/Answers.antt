use Rattle.std.proofs.Common.{Some, ap, ◌∙◌}
use Rattle.cbor_edn_core.specs.tree.View.{view_pair}
use Rattle.cbor_edn_model.specs.tree.TreeLeaves.{texts}
use Rattle.cbor_edn_core.proofs.lemmas.cbor.CborRows.{row_finished}
use Rattle.cbor_edn_core.proofs.lemmas.tree.Views.{view_pairs_made}
use Rattle.cbor_edn_core.proofs.cbor.decode.finish.finish_pairs.Goals as goal

pub returns : goal.returns
returns c =
    let found = c.args.found in
    ap (λ m. Some m) (view_pairs_made texts _)
    ∙ row_finished (view_pair texts) found.row.items found.last c.in-Some.last _ found.commas c.in-Some.is c.empty.ensures
