use Rattle.std.proofs.Common.{◌≡◌}
use Rattle.std.specs.Prelude.{string_bytes}
use Rattle.cbor_edn_harmless.specs.declared.Place.TheVariants.{Outside}
use Rattle.cbor_edn_harmless.specs.internal.Rewriting.{rewritten, passed}
use Rattle.cbor_edn_harmless.proofs.rewritten.Given as goal

abbrev pub invariant-loop-character : goal.invariant-loop-character
invariant-loop-character l = (string_bytes l.out ≡ rewritten Outside l.yielded) × (l.place ≡ passed Outside l.yielded)
