use Rattle.cbor_edn_application.proofs.address.literals.address_text.Goals as goal

pub returns-clause-text : goal.returns-clause-text
returns-clause-text c = c.with_message.ensures.text _ c.whole_text.ensures.text

pub returns-clause-refused : goal.returns-clause-refused
returns-clause-refused c = c.with_message.ensures.refused _ c.whole_text.ensures.refused
