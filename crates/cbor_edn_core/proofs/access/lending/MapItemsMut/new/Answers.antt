use Rattle.cbor_edn_core.proofs.lemmas.access.IteratedEntries.{pairs_are}
use Rattle.cbor_edn_core.proofs.access.lending.MapItemsMut.new.Goals as goal

pub returns : goal.returns
returns c = rw (c.iter_mut.ensures.rest, c.deref_mut.ensures.value) (pairs_are c.args.pairs.now)
