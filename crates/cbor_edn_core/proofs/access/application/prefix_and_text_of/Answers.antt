use Rattle.cbor_edn_core.proofs.access.application.prefix_and_text_of.Goals as goal

pub returns-in-Literal-clause-none : goal.returns-in-Literal-clause-none
returns-in-Literal-clause-none c = rw c.in-Literal.is c.application_parts.ensures.none

pub returns-in-Literal-clause-prefixed : goal.returns-in-Literal-clause-prefixed
returns-in-Literal-clause-prefixed c = rw c.in-Literal.is c.application_parts.ensures.prefixed
