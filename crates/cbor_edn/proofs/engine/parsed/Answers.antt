use Rattle.cbor_edn.proofs.Loading.{of_boxed, read_as}
use Rattle.cbor_edn.proofs.engine.parsed.Goals as goal

pub returns-clause-ok : goal.returns-clause-ok
returns-clause-ok c =
    read_as c.args.limit c.args.input.now c.in-Ok.text.now c.in_ok-boxed.field-0.value c.in-Ok.ensures.0 c.in-Ok.ensures.1
    (of_boxed _ _ _ c.in_ok-boxed.ensures.ok c.parse_within.ensures.parsed)
