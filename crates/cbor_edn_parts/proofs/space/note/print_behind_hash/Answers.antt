use Rattle.std.proofs.Common.{rules, arith}
use Rattle.cbor_edn_parts.proofs.lemmas.space.NoteTexts.{character_line, line_feed}
use Rattle.cbor_edn_parts.proofs.space.note.print_behind_hash.Goals as goal

pub returns-in-10 : goal.returns-in-10
returns-in-10 c = rw (c.in-10.is, line_feed) (search rules)

pub returns-in_default : goal.returns-in_default
returns-in_default c = rw (← character_line c.args.character (λ h. omega arith), ← c.cleaned.ensures) (search rules)
