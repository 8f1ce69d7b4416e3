use Rattle.std.proofs.Common.{◌∷◌, ◌++◌, [], ap, ◌∙◌}
use Rattle.cbor_edn_files_tests.proofs.Moments.{removed_after, removed_holds}
use Rattle.cbor_edn_files_tests.proofs.memory.MemoryDisk.remove.Goals as goal

pub returns-clause-passes : goal.returns-clause-passes
returns-clause-passes c =
    removed_after c.args.name.now c.args.self.now.changes.items c.push.new.self.items
    (c.in_ok-change.change, c.in_ok-change.ensures, c.in_ok-push.ensures.items ∙ ap (λ cs. cs ++ (c.in_ok-change.change ∷ [])) c.fails.ensures)

pub returns-clause-ok : goal.returns-clause-ok
returns-clause-ok c =
    removed_holds c.args.name.now c.args.self.now.changes.items c.push.new.self.items
    (c.in_ok-change.change, c.in_ok-change.ensures, c.in_ok-push.ensures.items ∙ ap (λ cs. cs ++ (c.in_ok-change.change ∷ [])) c.fails.ensures)
