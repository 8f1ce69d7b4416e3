use Rattle.cbor_edn_times_and_addresses.proofs.AddressBytes.{bytes_back, address_back}
use Rattle.cbor_edn_times_and_addresses.proofs.EndZeros.{end_zeros}
use Rattle.cbor_edn_times_and_addresses.proofs.laws.address_bytes.Goals as goal

pub returns : goal.returns
returns c = record {
  bytes = bytes_back;
  addresses = address_back;
  zeros = end_zeros;
}
