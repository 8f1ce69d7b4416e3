use Rattle.cbor_edn_core.proofs.lemmas.access.IteratedEntries.{elements_are}
use Rattle.cbor_edn_core.proofs.access.lending.ArrayItemsMut.new.Goals as goal

pub returns : goal.returns
returns c = rw (c.iter_mut.ensures.rest, c.deref_mut.ensures.value) (elements_are c.args.items.now)
