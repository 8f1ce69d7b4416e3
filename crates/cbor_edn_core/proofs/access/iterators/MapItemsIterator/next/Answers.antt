use Rattle.std.proofs.Common.{ap, sym, ◌∙◌}
use Rattle.std.specs.Slice.Iter.{iter_rest}
use Rattle.cbor_edn_core.specs.access.Iterated.{row_left}
use Rattle.cbor_edn_core.proofs.lemmas.access.IteratedEntries.{no_more, last_pair}
use Rattle.cbor_edn_core.proofs.access.iterators.MapItemsIterator.next.Goals as goal
use Rattle.cbor_edn_core.proofs.access.iterators.MapItemsIterator.next.Goals.{in-Some+in_default-next, in_default}

pub returns-clause-steps : goal.returns-clause-steps
returns-clause-steps c =
    elim c.match-self.branch [
      | in-Some+in_default-next w ↦ (
          let ended = no_more (iter_rest w.in-Some.row) w.in_default-next.ensures.steps.0 in
          last_pair c.args.self.now c.match-self.self.row c.in_ok-last.last (ap row_left w.in-Some.is ∙ ended) (ap (λ s. s.last) (sym w.self-is) ∙ c.in_ok-last.was)
          (ap (λ s. row_left s.row) w.self-is ∙ ap iter_rest w.in_default-next.ensures.steps.1 ∙ ended))
      | in_default w ↦ (
          let ended = ap row_left w.in_default.is in
          last_pair c.args.self.now c.match-self.self.row c.in_ok-last.last ended (ap (λ s. s.last) (sym w.self-is) ∙ c.in_ok-last.was) (ap (λ s. row_left s.row) w.self-is ∙ ended))
    ]
