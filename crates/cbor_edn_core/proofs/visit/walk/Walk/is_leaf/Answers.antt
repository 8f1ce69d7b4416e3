use Rattle.cbor_edn_core.proofs.lemmas.visit.Walks.{number_walked, float_walked, name_walked, literal_alone_walked}
use Rattle.cbor_edn_core.proofs.visit.walk.Walk.is_leaf.Goals as goal

pub returns-in-Number : goal.returns-in-Number
returns-in-Number g c = λ _. number_walked g.K.Seek.leaves c.args.inner.now _ _ c.in-Number.is

pub returns-in-NonFinite : goal.returns-in-NonFinite
returns-in-NonFinite g c = λ _. float_walked g.K.Seek.leaves c.args.inner.now _ _ c.in-NonFinite.is

pub returns-in-Named : goal.returns-in-Named
returns-in-Named g c = λ _. name_walked g.K.Seek.leaves c.args.inner.now _ c.in-Named.is

pub returns-in-Literal : goal.returns-in-Literal
returns-in-Literal g c = λ _. literal_alone_walked g.K.Seek.leaves c.args.inner.now _ _ c.in-Literal.is
