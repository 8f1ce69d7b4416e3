-- The output is that of all that was known, since the run has read it to the end.
use Rattle.cbor_edn.proofs.WrittenOutput.{wrote}
use Rattle.cbor_edn.proofs.engine.run.Goals as goal

pub returns-in-Ok-clause-writes : goal.returns-in-Ok-clause-writes
returns-in-Ok-clause-writes g c =
    wrote c.args.options.now _ _ _ _ c.deref-2.result.now c.in_ok-out.out.items c.deref.result.now c.in_ok-input.input.items
    c.in-Ok.ensures.ok c.deref-2.ensures.value c.in_ok-out.ensures.ok c.deref.ensures.value c.in_ok-input.ensures.bytes c.in_ok-input.ensures.end
