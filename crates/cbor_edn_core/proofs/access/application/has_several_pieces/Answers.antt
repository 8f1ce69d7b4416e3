use Rattle.std.proofs.Common.{ap, ◌∙◌}
use Rattle.std.specs.Prelude.{◌==◌}
use mathlib.Core.Bool.{not}
use Rattle.cbor_edn_model.specs.tree.TreeLeaves.{texts}
use Rattle.cbor_edn_core.specs.tree.View.{seen_piece, view_piece}
use Rattle.cbor_edn_model.proofs.lemmas.access.Pieces.{several_is}
use Rattle.cbor_edn_core.proofs.access.application.has_several_pieces.Goals as goal

pub returns : goal.returns
returns c = ap not (c.is_empty.ensures ∙ ap (λ n. n == 0) c.args.string.now.row.ok.0) ∙ several_is (seen_piece texts) c.args.string.now.row.items (view_piece texts c.args.string.now.last)
