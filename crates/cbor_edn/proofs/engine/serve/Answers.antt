-- What a run gives is handed on as it is.
use Rattle.std.proofs.Common.{ap, sym, arith, rules}
use Rattle.cbor_edn.specs.Runs.{status}
use Rattle.cbor_edn.proofs.engine.serve.Goals as goal

pub returns-in-Ok : goal.returns-in-Ok
returns-in-Ok g c = record {
  ran = (c.run.result, sym (ap status c.in-Ok.is), c.run.ensures.writes, c.run.ensures.end, c.run.ensures.read, c.run.ensures.write, c.run.ensures.last_read, c.run.ensures.last_write);
  quiet = search rules;
  reported = λ e. absurd (omega (arith, e));
  whole = λ e. absurd (omega (arith, e));
}

pub returns-in-Err : goal.returns-in-Err
returns-in-Err g c = record {
  ran = (c.run.result, sym (ap status c.in-Err.is), c.run.ensures.writes, c.run.ensures.end, c.run.ensures.read, c.run.ensures.write, c.run.ensures.last_read, c.run.ensures.last_write);
  quiet = λ e. absurd (omega (arith, e));
  reported = λ e. (c.tell.ensures.reported, c.tell.ensures.counted);
  whole = λ e. c.tell.ensures.whole;
}
