-- The paths that values of the program are.
use Rattle.std.specs.Prelude.{map}
use Rattle.cbor_edn_paths.specs.Steps as spec
use Rattle.cbor_edn_paths.specs.declared.step.Key.{Key}
use Rattle.cbor_edn_paths.specs.declared.step.Key.TheVariants as key
use Rattle.cbor_edn_paths.specs.declared.step.Step.{Step}
use Rattle.cbor_edn_paths.specs.declared.step.Step.TheVariants as step
use Rattle.cbor_edn_paths.specs.declared.step.Path.{Path}

abbrev pub key_of : Key → spec.Key
key_of (key.Name x) = spec.Name x.now
key_of (key.Quoted x) = spec.Quoted x.now
key_of (key.Braced x) = spec.Braced x.now

abbrev pub step_of : Step → spec.Step spec.Key
step_of (step.Value k o) = spec.Value (key_of k) o
step_of (step.Element n) = spec.Element n
step_of step.PastLast = spec.PastLast
step_of (step.Content o) = spec.Content o
step_of (step.Embedded n) = spec.Embedded n

abbrev pub path_of : Path → spec.Path
path_of p = record { start = p.start; steps = map step_of p.steps.items }
