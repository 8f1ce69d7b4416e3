use Rattle.std.proofs.Common.{◌≡◌, None, Some, ap}
use Rattle.cbor_edn_parts.specs.Leaves.{number_bytes}
use Rattle.cbor_edn_model.specs.tree.Trees.{items}
use Rattle.cbor_edn_model.specs.cbor.Value.{simple}
use Rattle.cbor_edn_model.specs.cbor.Meaning.{◌>>=◌, simple_of}
use Rattle.cbor_edn_model.specs.tree.TreeLeaves.{texts}
use Rattle.cbor_edn_core.proofs.lemmas.tree.Forms.{no_number}
use Rattle.cbor_edn_core.proofs.cbor.encode.encode_numeric.Goals as goal
use Rattle.cbor_edn_core.proofs.cbor.encode.encode_numeric.Goals.{in-Number, in_default}

pub returns-in_ok-encode_simple-in-Some : goal.returns-in_ok-encode_simple-in-Some
unfolding items
returns-in_ok-encode_simple-in-Some c =
    elim c.match-item.branch [
      | in-Number w ↦ (
          let found : simple_of (number_bytes w.in-Number.number) w.in-Number.indicator ≡ Some c.in-Some.number = cc in
          (simple c.in-Some.number, rw w.in-Number.is (ap (λ o. o >>= λ n. Some (simple n)) found), c.in_ok-encode_simple-in-Some.ensures))
      | in_default w ↦ absurd cc
    ]

pub returns-in-None : goal.returns-in-None
unfolding items
returns-in-None c =
    elim c.match-item.branch [
      | in-Number w ↦ (
          let missing : simple_of (number_bytes w.in-Number.number) w.in-Number.indicator ≡ None = cc in
          rw w.in-Number.is (ap (λ o. o >>= λ n. Some (simple n)) missing))
      | in_default w ↦ no_number texts c.args.item.now.inner (λ n. w.in_default.not-Number n.0 n.1 n.2)
    ]
