use Rattle.std.proofs.Common.{arith, ◌≡◌}
use Rattle.std.proofs.lemmas.Grind.{common_steps}
use Rattle.std.specs.String.{string_bytes}
use Rattle.cbor_edn_model.specs.tree.Trees.{text}
use Rattle.cbor_edn_core.specs.tree.View.{item_tree}
use Rattle.cbor_edn_model.proofs.lemmas.layout.LaidTrees.{laid_kept}
use Rattle.cbor_edn_core.proofs.lemmas.text.Printable.{item_spelled}
use Rattle.cbor_edn_core.proofs.text.serialize.Item.serialize.Goals as goal

pub returns-clause-spells : goal.returns-clause-spells
returns-clause-spells c =
    let printed : string_bytes c.into_string.result ≡ text (item_tree c.args.self.now) = grind (arith, common_steps, laid_kept) in
    item_spelled c.args.self.now _ printed
