-- A reader's loop, turn by turn.
use Rattle.std.proofs.Common.{arith, ◌≡◌, ℕ, ◌+◌, ◌<◌, List, Some, None, refl, sym, ap, subst, ◌∙◌, length, take, get_or}
use Rattle.std.specs.Prelude.{count_by, option_map}
use Rattle.std.proofs.lemmas.List.{take_all}
use Rattle.cbor_edn_parts.specs.base.Location.{is_start}
use Rattle.cbor_edn_paths.specs.Steps.{Path}
use Rattle.cbor_edn_paths.specs.Spelling.{Spells}
use Rattle.cbor_edn_paths.specs.Answers.{IsFaultColumn}
use Rattle.cbor_edn_paths.specs.internal.Places.{Place, Outcome, with_outcome, begin, moved_on, next, end, run}
use Rattle.cbor_edn_paths.proofs.Runs.{at}
use Rattle.cbor_edn_paths.proofs.Faults.{whole_spells, stopped, ended_early, read_on}

pub begun : (text : List ℕ) (p : Path) (q : Place) → at p q ≡ begin → run (take 0 text) begin ≡ Some (at p q)
unfolding run
begun text p q e = ap (λ r. Some r) (sym e)

pub turned : (text : List ℕ) (k c : ℕ) (p r : Path) (q t : Place) (w : Outcome) → k < length text → get_or text k 0 ≡ c → run (take k text) begin ≡ Some (at p q) → next c q ≡ Some (w, t) → r ≡ with_outcome w p → run (take (k + 1) text) begin ≡ Some (at r t)
turned text k c p r q t w lt is h e f = read_on text k c (at p q) (at r t) lt is h (ap (moved_on p) e ∙ ap (λ s. Some (at s t)) (sym f))

pub refused : (text : List ℕ) (k c : ℕ) (p : Path) (q : Place) → k < length text → get_or text k 0 ≡ c → run (take k text) begin ≡ Some (at p q) → next c q ≡ None → IsFaultColumn text (1 + count_by is_start (take k text))
refused text k c p q lt is h e = (k, stopped text k c (at p q) lt is h (ap (moved_on p) e), refl)

whole : (text : List ℕ) (p : Path) (q : Place) → run (take (length text) text) begin ≡ Some (at p q) → run text begin ≡ Some (at p q)
whole text p q h = subst (λ t. run t begin ≡ Some (at p q)) (take_all (length text) text (omega arith)) h

pub spelled_whole : (text : List ℕ) (p r : Path) (q : Place) (w : Outcome) → run (take (length text) text) begin ≡ Some (at p q) → end q ≡ Some w → r ≡ with_outcome w p → Spells text r
spelled_whole text p r q w h e f = whole_spells text (at p q) r (whole text p q h) (ap (λ o. option_map (λ v. with_outcome v p) o) e ∙ ap (λ s. Some s) (sym f))

pub refused_early : (text : List ℕ) (p : Path) (q : Place) → run (take (length text) text) begin ≡ Some (at p q) → end q ≡ None → IsFaultColumn text (1 + count_by is_start (take (length text) text))
refused_early text p q h e = (length text, ended_early text (at p q) (whole text p q h) (ap (λ o. option_map (λ v. with_outcome v p) o) e), refl)
