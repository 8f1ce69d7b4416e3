use Rattle.cbor_edn_core.proofs.lemmas.access.IteratedEntries.{pairs_are}
use Rattle.cbor_edn_core.proofs.access.iterators.MapItems.new.Goals as goal

pub returns : goal.returns
returns c = rw (c.iter.ensures.rest, c.deref.ensures.value) (pairs_are c.args.pairs.now)
