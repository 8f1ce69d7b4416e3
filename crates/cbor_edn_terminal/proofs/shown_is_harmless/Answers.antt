use Rattle.cbor_edn_terminal.proofs.Harmless.{shown_is_harmless, lines_are_harmless}
use Rattle.cbor_edn_terminal.proofs.shown_is_harmless.Goals as goal

pub returns-clause-whole : goal.returns-clause-whole
returns-clause-whole c = shown_is_harmless

pub returns-clause-lines : goal.returns-clause-lines
returns-clause-lines c = lines_are_harmless
