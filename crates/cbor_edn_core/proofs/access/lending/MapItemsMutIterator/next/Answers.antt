use Rattle.std.proofs.Common.{ap, sym, ◌∙◌}
use Rattle.std.specs.Slice.Iter.{iter_mut_rest}
use Rattle.cbor_edn_core.specs.access.IteratedMut.{row_to_lend}
use Rattle.cbor_edn_core.proofs.lemmas.access.IteratedEntries.{no_more, last_lent}
use Rattle.cbor_edn_core.proofs.access.lending.MapItemsMutIterator.next.Goals as goal
use Rattle.cbor_edn_core.proofs.access.lending.MapItemsMutIterator.next.Goals.{in-Some+in_default-next, in_default}

pub returns-clause-steps : goal.returns-clause-steps
returns-clause-steps c =
    elim c.match-self.branch [
      | in-Some+in_default-next w ↦ (
          let ended = w.in_default-next.ensures.steps in
          last_lent c.args.self.now c.match-self.self.row c.in_ok-last.last c.take.new.self
          (ap row_to_lend w.in-Some.is ∙ no_more (iter_mut_rest w.in-Some.row) ended.0)
          (ap (λ s. s.last) (sym w.self-is) ∙ sym c.take.ensures.value ∙ c.in_ok-last.was) c.take.ensures.after
          (ap (λ s. row_to_lend s.row) w.self-is ∙ no_more (iter_mut_rest w.next.new.self) ended.1))
      | in_default w ↦ (
          let ended = ap row_to_lend w.in_default.is in
          last_lent c.args.self.now c.match-self.self.row c.in_ok-last.last c.take.new.self ended
          (ap (λ s. s.last) (sym w.self-is) ∙ sym c.take.ensures.value ∙ c.in_ok-last.was) c.take.ensures.after
          (ap (λ s. row_to_lend s.row) w.self-is ∙ ended))
    ]
