use Rattle.std.proofs.Common.{◌+◌, ◌*◌}
use Rattle.cbor_edn_application.proofs.cose.parts.+parts.Given as goal

-- each structure stands a level below the one that it is in
abbrev pub decreases-comment_parts : goal.decreases-comment_parts
decreases-comment_parts l = 8 * l.levels

abbrev pub decreases-comment_parts-visit_array_elements : goal.decreases-comment_parts-visit_array_elements
decreases-comment_parts-visit_array_elements l = 8 * l.below + 7

abbrev pub decreases-comment_element : goal.decreases-comment_element
decreases-comment_element l = 8 * l.levels + 6

abbrev pub decreases-comment_part : goal.decreases-comment_part
decreases-comment_part l = 8 * l.levels + 5

abbrev pub decreases-comment_each : goal.decreases-comment_each
decreases-comment_each l = 8 * l.levels + 4

abbrev pub decreases-comment_each-visit_array_elements : goal.decreases-comment_each-visit_array_elements
decreases-comment_each-visit_array_elements l = 8 * l.levels + 3

abbrev pub decreases-comment_structure : goal.decreases-comment_structure
decreases-comment_structure l = 8 * l.levels + 2
