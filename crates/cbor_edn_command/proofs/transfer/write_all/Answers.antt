-- What a turn wrote goes behind what was written before it.
use Rattle.std.proofs.Common.{◌≡◌, ℕ, List, ◌++◌, take, drop, sym, ap, ◌∙◌, append_assoc, rules}
use Rattle.std.proofs.lemmas.List.{take-append-drop}
use Rattle.std.proofs.KnownBytes.{Appends-trans}
use Rattle.cbor_edn_command.proofs.transfer.write_all.Goals as goal

cut_on : (n : ℕ) (bytes front rest new old : List ℕ) → bytes ≡ front ++ rest → new ≡ take n rest → old ≡ drop n rest → bytes ≡ (front ++ new) ++ old
cut_on n bytes front rest new old is is_new is_old =
    is ∙ ap (λ (l : List ℕ). front ++ l) (sym (take-append-drop n rest)) ∙ sym (append_assoc front (take n rest) (drop n rest))
    ∙ ap (λ (l : List ℕ). (front ++ l) ++ drop n rest) (sym is_new) ∙ ap (λ (l : List ℕ). (front ++ new) ++ l) (sym is_old)

pub turns-preserved : goal.turns-preserved
turns-preserved g c =
    let front = c.turns.invariant.bytes.0 in let n = c.in-Ok.n in let rest = c.turns.rest.now in
    record {
      bytes = (
        front ++ take n rest,
        cut_on n c.args.bytes.now front rest (take n rest) _ c.turns.invariant.bytes.1 (λ _. take n rest) c.split_at.ensures.back,
        Appends-trans _ _ _ front (take n rest) c.turns.invariant.bytes.2 c.in-Ok.ensures.bytes,
      );
      counted = search rules;
    }
