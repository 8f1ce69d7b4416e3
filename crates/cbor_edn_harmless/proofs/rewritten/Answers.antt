use Rattle.std.proofs.Common.{◌++◌, refl, ap, sym, ◌∙◌}
use Rattle.std.proofs.lemmas.List.{map-id}
use Rattle.std.proofs.lemmas.Iterator.{YieldsList-from_chars}
use Rattle.std.proofs.lemmas.Iterator.Consumers.{YieldsList-end}
use Rattle.cbor_edn_harmless.specs.declared.Place.TheVariants.{Outside}
use Rattle.cbor_edn_harmless.specs.internal.Rewriting.{after, written, rewritten, passed}
use Rattle.cbor_edn_harmless.proofs.Kept.{one_more}
use Rattle.cbor_edn_harmless.proofs.rewritten.Goals as goal

pub loop-character-init : goal.loop-character-init
unfolding rewritten passed
loop-character-init c = (c.new-out.ensures.bytes, refl)

pub loop-character-preserved : goal.loop-character-preserved
loop-character-preserved c =
    let ys = c.loop-character.yielded in
    let d = c.in-Some.character in
    let more = one_more Outside ys d in
    let inv = c.loop-character.invariant in (
      c.in_ok-push_at.ensures ∙ (ap (λ l. l ++ written c.loop-character.place d) inv.0 ∙ (ap (λ p. rewritten Outside ys ++ written p d) inv.1 ∙ sym more.1)),
      c.after-place.ensures ∙ (ap (λ p. after p d) inv.1 ∙ sym more.0),
    )

pub returns : goal.returns
returns c =
    let t = YieldsList-end (YieldsList-from_chars c.args.text.now c.utf8.text cc) c.loop-character.yielded _ c.loop-character.yielded_by _ _ c.in-None.is c.next.ensures.steps in
    c.loop-character.invariant.0 ∙ ap (rewritten Outside) (sym (map-id c.loop-character.yielded) ∙ t.0)
