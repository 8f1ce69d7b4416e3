use Rattle.std.proofs.Common.{map, drop}
use Rattle.cbor_edn_core.specs.tree.View.{seen_string, view_string}
use Rattle.cbor_edn_core.specs.declared.access.TypeMismatch.TheVariants.{Bytes}
use Rattle.cbor_edn_core.specs.declared.tree.StringsOf.{out-StringsOf}
use Rattle.cbor_edn_model.specs.access.Accessed.{pieces_bytes, chunk}
use Rattle.cbor_edn_model.specs.tree.TreeLeaves.{texts}
use Rattle.cbor_edn_model.proofs.lemmas.access.AddedBytes.{AddsLeft}
use Rattle.cbor_edn_core.proofs.access.bytes.add_strings.Given as goal

abbrev pub invariant-loop-string : goal.invariant-loop-string
invariant-loop-string l = AddsLeft Bytes (λ q. pieces_bytes (chunk q.0)) (pieces_bytes (view_string texts (out-StringsOf _ _ _ _ _ _ _ l.strings).last)) (map (seen_string texts) (drop l.string-index l.string-items)) (map (seen_string texts) l.string-items) l.out.items l.initial.out.items
