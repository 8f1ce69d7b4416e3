use Rattle.std.proofs.Common.{◌≡◌, true, false, arith}
use Rattle.std.proofs.lemmas.Grind.{common_steps}
use Rattle.cbor_edn_times_and_addresses.specs.internal.AddressReading.{is_zero_behind}
use Rattle.cbor_edn_times_and_addresses.proofs.BitsBehind.{zero_tells}
use Rattle.cbor_edn_times_and_addresses.proofs.address.is_zero_behind.Goals as goal

pub returns-then-from-min-ne0 : goal.returns-then-from-min-ne0
returns-then-from-min-ne0 c =
    let told : false ≡ is_zero_behind c.args.prefix_length c.args.bytes.now = grind (arith, common_steps) in
    zero_tells false c.args.prefix_length c.args.bytes.now told

pub returns : goal.returns
returns c =
    let told : true ≡ is_zero_behind c.args.prefix_length c.args.bytes.now = grind (arith, common_steps) in
    zero_tells true c.args.prefix_length c.args.bytes.now told
