use Rattle.std.proofs.Common.{refl}
use Rattle.cbor_edn_core.specs.tree.View.{sequence_tree}
use Rattle.cbor_edn.proofs.Loading.{read_as}
use Rattle.cbor_edn_findings.proofs.FirstOffsets.{first_read, none_of_read, none_read}
use Rattle.cbor_edn_findings.proofs.places.first_in_text.Goals as goal

pub returns-in-Ok-clause-some : goal.returns-in-Ok-clause-some
returns-in-Ok-clause-some c =
    first_read c.args.options.now c.args.text.now (sequence_tree c.in-Ok.sequence) (read_as c.args.options.now.limit c.args.text.now c.args.text.now c.in-Ok.sequence refl c.utf8.text c.in-Ok.ensures.parsed)
    c.first_offset.result c.first_offset.ensures.some

pub returns-in-Ok-clause-none : goal.returns-in-Ok-clause-none
returns-in-Ok-clause-none c =
    none_of_read c.args.options.now c.args.text.now (sequence_tree c.in-Ok.sequence) (read_as c.args.options.now.limit c.args.text.now c.args.text.now c.in-Ok.sequence refl c.utf8.text c.in-Ok.ensures.parsed)
    c.first_offset.result c.first_offset.ensures.none

pub returns-in-Err-Told-clause-none : goal.returns-in-Err-Told-clause-none
returns-in-Err-Told-clause-none c = none_read c.args.options.now c.args.text.now c.in-Err-Told.field-0 c.in-Err-Told.field-0-0 c.in-Err-Told.field-0-is c.in-Err-Told.ensures.refused
