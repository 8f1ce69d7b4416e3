use Rattle.std.proofs.Common.{sym, ap, ◌∙◌}
use Rattle.cbor_edn_parts.specs.space.LayoutColumns.{of_parts}
use Rattle.cbor_edn_model.specs.internal.Widths.{measured}
use Rattle.cbor_edn_core.specs.tree.View.{item_tree}
use Rattle.cbor_edn_core.proofs.layout.room.layout_of_parts.Goals as goal

pub returns-in-Lines : goal.returns-in-Lines
returns-in-Lines c = c.of_parts.ensures ∙ (c.line_width.ensures c.in-Lines.end c.in-Lines.level ∙ ap (λ l. of_parts l (measured (item_tree c.args.item.now))) (sym c.in-Lines.is))
