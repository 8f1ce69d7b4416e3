use Rattle.std.proofs.Common.{sym, ◌∙◌}
use Rattle.cbor_edn_model.specs.internal.CborReading.{head_at}
use Rattle.cbor_edn_stream.specs.Tags.{values_have_tag}
use Rattle.cbor_edn_stream.proofs.lemmas.Heads.{sequence_met, met_at_end, met_here}
use Rattle.cbor_edn_stream.proofs.lemmas.TagBytes.{sought_among, none_shown}
use Rattle.cbor_edn_stream.proofs.lemmas.Turns.{fault_told}
use Rattle.cbor_edn_stream.proofs.tags.has_tag_of.Goals as goal

pub returns-then-not-may_have_tag_of : goal.returns-then-not-may_have_tag_of
returns-then-not-may_have_tag_of c = λ vs enc.
    let none = c.may_have_tag_of.ensures c.if-not-may_have_tag_of.true in
    sym (none_shown c.args.numbers.now (sought_among c.args.numbers.now none.0) c.args.bytes.now vs enc none.1)

pub returns-in-Err-Told : goal.returns-in-Err-Told
returns-in-Err-Told c = λ vs enc.
    sym (met_at_end c.args.numbers.now c.heads.rest.now (values_have_tag c.args.numbers.now vs) c.in-Err-Told.field-0-0
    (c.heads.invariant.met (values_have_tag c.args.numbers.now vs) (sequence_met c.args.numbers.now c.args.bytes.now vs enc))
    (fault_told c.in-Err-Told.field-0 c.in-Err-Told.field-0-0 (head_at c.heads.rest.now) c.in-Err-Told.field-0-is c.in-Err-Told.ensures.value))

pub returns-then-is_head_of : goal.returns-then-is_head_of
returns-then-is_head_of c = λ vs enc.
    sym (met_here c.args.numbers.now c.heads.rest.now c.in-Ok.read.1.now (values_have_tag c.args.numbers.now vs) c.in-Ok.read.0.0 c.in-Ok.read.0.1 c.in-Ok.ensures.value (sym c.is_head_of.ensures ∙ c.if-is_head_of.true)
    (c.heads.invariant.met (values_have_tag c.args.numbers.now vs) (sequence_met c.args.numbers.now c.args.bytes.now vs enc)))
