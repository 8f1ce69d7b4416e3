use Rattle.std.specs.String.{string_bytes}
use Rattle.cbor_edn.proofs.WrittenOutput.{nothing_reported, nothing_reported_whole, reported, reported_whole}
use Rattle.cbor_edn.proofs.engine.tell.Goals as goal

pub returns-in_default-clause-reported : goal.returns-in_default-clause-reported
returns-in_default-clause-reported g c = nothing_reported _

pub returns-in-Some-clause-reported : goal.returns-in-Some-clause-reported
returns-in-Some-clause-reported g c =
    reported c.write_all.result _ _ c.as_bytes.result.now (string_bytes c.in-Some.line) c.write_all.ensures.ok c.write_all.ensures.err c.as_bytes.ensures.value c.in-Some.ensures

pub returns-in_default-clause-whole : goal.returns-in_default-clause-whole
returns-in_default-clause-whole g c = λ same. nothing_reported_whole _

pub returns-in-Some-clause-whole : goal.returns-in-Some-clause-whole
returns-in-Some-clause-whole g c =
    λ same. reported_whole c.write_all.result _ _ _ _ c.as_bytes.result.now (string_bytes c.in-Some.line) c.write_all.ensures.ok c.write_all.ensures.counted same c.as_bytes.ensures.value
    c.in-Some.ensures
