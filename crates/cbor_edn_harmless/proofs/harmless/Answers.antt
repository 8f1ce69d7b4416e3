use Rattle.std.proofs.Common.{◌≡◌, sym, subst, ◌∙◌}
use Rattle.std.specs.Prelude.{string_bytes}
use Rattle.std.specs.Str.{chars}
use Rattle.std.proofs.lemmas.Str.{encodes-chars}
use Rattle.std.proofs.lemmas.Result.{IfOk-weaker}
use Rattle.cbor_edn_terminal.specs.Terminal.{IsHarmlessInLines}
use Rattle.cbor_edn_harmless.specs.declared.Place.TheVariants.{Outside}
use Rattle.cbor_edn_harmless.proofs.Kept.{rewritten_in_lines, lent_as, unchanged}
use Rattle.cbor_edn_harmless.proofs.harmless.Goals as goal

pub returns-then-acts_somewhere-clause-text : goal.returns-then-acts_somewhere-clause-text
returns-then-acts_somewhere-clause-text c =
    let own : c.deref-then-acts_somewhere.result.now ≡ string_bytes c.args.text = cc in
    IfOk-weaker c.rewritten.result _ _ (λ s e. lent_as (string_bytes c.args.text) c.deref-then-acts_somewhere.result.now own c.deref-then-acts_somewhere.utf8 (string_bytes s) e) c.rewritten.ensures

pub returns-then-acts_somewhere-clause-acts_on_nothing : goal.returns-then-acts_somewhere-clause-acts_on_nothing
returns-then-acts_somewhere-clause-acts_on_nothing c = IfOk-weaker c.rewritten.result _ _ (λ s e. subst IsHarmlessInLines (sym e) (rewritten_in_lines Outside _)) c.rewritten.ensures

pub returns-else-acts_somewhere-clause-text : goal.returns-else-acts_somewhere-clause-text
returns-else-acts_somewhere-clause-text c =
    let own : c.deref.result.now ≡ string_bytes c.args.text = cc in
    let none = c.acts_somewhere.ensures c.if-acts_somewhere.false in
    lent_as (string_bytes c.args.text) c.deref.result.now own c.deref.utf8 (string_bytes c.args.text) (sym (unchanged c.deref.result.now c.deref.utf8 none ∙ own))

pub returns-else-acts_somewhere-clause-acts_on_nothing : goal.returns-else-acts_somewhere-clause-acts_on_nothing
returns-else-acts_somewhere-clause-acts_on_nothing c =
    let own : c.deref.result.now ≡ string_bytes c.args.text = cc in
    (chars c.deref.result.now, encodes-chars c.deref.result.now c.deref.utf8 ∙ own, c.acts_somewhere.ensures c.if-acts_somewhere.false)
