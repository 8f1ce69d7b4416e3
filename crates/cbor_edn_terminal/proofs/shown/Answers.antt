use Rattle.std.proofs.Common.{◌≡◌, ◌∷◌, ◌++◌, [], ℕ, List, ap, sym, ◌∙◌}
use Rattle.std.proofs.lemmas.Grind.{flat_map-append}
use Rattle.std.proofs.lemmas.List.{append-nil, map-id}
use Rattle.std.proofs.lemmas.Iterator.{YieldsList-from_chars}
use Rattle.std.proofs.lemmas.Iterator.Consumers.{YieldsList-end}
use Rattle.cbor_edn_terminal.specs.Terminal.{shown_character, shown_text}
use Rattle.cbor_edn_terminal.proofs.shown.Goals as goal

one_more : (cs : List ℕ) (c : ℕ) → shown_text cs ++ shown_character c ≡ shown_text (cs ++ (c ∷ []))
unfolding shown_text
one_more cs c = sym (flat_map-append shown_character cs (c ∷ []) ∙ ap (λ l. shown_text cs ++ l) (append-nil (shown_character c)))

pub loop-character-init : goal.loop-character-init
unfolding shown_text
loop-character-init c = c.new-out.ensures.bytes

pub loop-character-preserved : goal.loop-character-preserved
loop-character-preserved c =
    c.in_ok-push_shown.ensures ∙ (ap (λ l. l ++ shown_character c.in-Some.character) c.loop-character.invariant ∙ one_more c.loop-character.yielded c.in-Some.character)

pub returns : goal.returns
returns c =
    let t = YieldsList-end (YieldsList-from_chars c.args.text.now c.utf8.text cc) c.loop-character.yielded _ c.loop-character.yielded_by _ _ c.in-None.is c.next.ensures.steps in
    c.loop-character.invariant ∙ ap shown_text (sym (map-id c.loop-character.yielded) ∙ t.0)
