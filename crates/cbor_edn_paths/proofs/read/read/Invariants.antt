use Rattle.std.proofs.Common.{◌≡◌, Some, take}
use Rattle.cbor_edn_paths.specs.Views.{path_of}
use Rattle.cbor_edn_paths.specs.internal.Places.{run, begin}
use Rattle.cbor_edn_paths.specs.internal.Moves.{place_at, IsHere}
use Rattle.cbor_edn_paths.proofs.read.read.Given as goal

abbrev pub invariant-bytes : goal.invariant-bytes
invariant-bytes l = record {
  so_far : run (take l.at l.text) begin ≡ Some (record { so_far = path_of l.path; place = place_at l.text l.at l.place });
  here : IsHere l.text l.at l.place;
}
