use Rattle.std.proofs.Common.{◌+◌, ◌*◌}
use Rattle.cbor_edn_application.proofs.embedded.+show.Given as goal

-- each call shows one level less, by way of the visit of what was decoded
abbrev pub decreases-show_embedded : goal.decreases-show_embedded
decreases-show_embedded l = 3 * l.levels

abbrev pub decreases-show_inside-visit_application_items : goal.decreases-show_inside-visit_application_items
decreases-show_inside-visit_application_items l = 3 * l.levels + 1

abbrev pub decreases-show_inside : goal.decreases-show_inside
decreases-show_inside l = 3 * l.levels + 2
