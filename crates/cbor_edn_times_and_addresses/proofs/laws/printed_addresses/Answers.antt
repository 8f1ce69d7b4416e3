use Rattle.cbor_edn_times_and_addresses.proofs.PrintedAddresses.{printed_spells, longest_run}
use Rattle.cbor_edn_times_and_addresses.proofs.PrintedBytes.{printed_bytes}
use Rattle.cbor_edn_times_and_addresses.proofs.laws.printed_addresses.Goals as goal

pub returns : goal.returns
returns c = record {
  addresses = printed_spells;
  bytes = printed_bytes;
  runs = longest_run;
}
