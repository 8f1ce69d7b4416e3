use Rattle.std.proofs.Common.{sym, subst, ◌∙◌}
use Rattle.std.specs.Str.{NonePass}
use Rattle.std.proofs.lemmas.List.{map-id}
use Rattle.std.proofs.lemmas.Iterator.{YieldsList-from_chars}
use Rattle.std.proofs.lemmas.Iterator.Consumers.{YieldsList-end}
use Rattle.cbor_edn_terminal.specs.Terminal.{acts_in_lines}
use Rattle.cbor_edn_harmless.proofs.Kept.{none_more}
use Rattle.cbor_edn_harmless.proofs.acts_somewhere.Goals as goal

pub loop-character-preserved : goal.loop-character-preserved
loop-character-preserved c = none_more c.loop-character.yielded c.in-Some.character c.loop-character.invariant (sym c.acts.ensures ∙ c.if-acts.false)

pub returns : goal.returns
returns c h =
    let t = YieldsList-end (YieldsList-from_chars c.args.text.now c.utf8.text cc) c.loop-character.yielded _ c.loop-character.yielded_by _ _ c.in-None.is c.next.ensures.steps in
    subst (NonePass acts_in_lines) (sym (map-id c.loop-character.yielded) ∙ t.0) c.loop-character.invariant
