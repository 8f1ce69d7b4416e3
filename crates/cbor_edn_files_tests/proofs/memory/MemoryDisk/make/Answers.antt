use Rattle.std.proofs.Common.{subst, sym, ◌∙◌, take, length, ◌/◌}
use Rattle.cbor_edn_files_tests.specs.Changes.{IsMaking, IsOneMore}
use Rattle.cbor_edn_files_tests.proofs.Moments.{made_after, made_holds, when_ok}
use Rattle.cbor_edn_files_tests.proofs.memory.MemoryDisk.make.Goals as goal

pub returns-in-Ok-clause-passes : goal.returns-in-Ok-clause-passes
returns-in-Ok-clause-passes c =
    made_after c.args.name.now c.args.bytes.now c.args.self.now.changes.items c.put.new.self.changes.items
    (subst (λ cs. IsOneMore (IsMaking c.args.name.now c.args.bytes.now) cs c.put.new.self.changes.items) c.fails.ensures c.in-Ok.ensures.made)

pub returns-in-Ok-clause-made : goal.returns-in-Ok-clause-made
returns-in-Ok-clause-made c = made_holds c.args.name.now c.args.bytes.now c.fails.new.self.changes.items c.put.new.self.changes.items c.in-Ok.ensures.made

pub returns-then-is_ok-clause-passes : goal.returns-then-is_ok-clause-passes
returns-then-is_ok-clause-passes c =
    let h = when_ok c.put-then-self.result (sym c.is_ok.ensures.value ∙ c.if-is_ok.true) c.put-then-self.ensures.made in
    made_after c.args.name.now (take (length c.args.bytes.now / 2) c.args.bytes.now) c.args.self.now.changes.items c.put-then-self.new.self.changes.items
    (subst (λ cs. IsOneMore (IsMaking c.args.name.now (take (length c.args.bytes.now / 2) c.args.bytes.now)) cs c.put-then-self.new.self.changes.items) c.fails.ensures h)
