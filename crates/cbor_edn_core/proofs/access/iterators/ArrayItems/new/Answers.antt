use Rattle.cbor_edn_core.proofs.lemmas.access.IteratedEntries.{elements_are}
use Rattle.cbor_edn_core.proofs.access.iterators.ArrayItems.new.Goals as goal

pub returns : goal.returns
returns c = rw (c.iter.ensures.rest, c.deref.ensures.value) (elements_are c.args.items.now)
