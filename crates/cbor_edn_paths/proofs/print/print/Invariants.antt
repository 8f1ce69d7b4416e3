use Rattle.std.proofs.Common.{◌≡◌, ◌++◌, take, map, string_bytes}
use Rattle.cbor_edn_paths.specs.Spelling.{steps_text}
use Rattle.cbor_edn_paths.specs.Views.{step_of}
use Rattle.cbor_edn_paths.proofs.print.print.Given as goal

abbrev pub invariant-steps : goal.invariant-steps
invariant-steps l = string_bytes l.out ≡ string_bytes l.initial.out ++ steps_text (map step_of (take l.step-index l.path.steps.items))
