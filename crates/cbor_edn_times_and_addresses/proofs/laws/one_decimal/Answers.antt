use Rattle.cbor_edn_times_and_addresses.proofs.TimeGrammar.{decimal_is_number}
use Rattle.cbor_edn_times_and_addresses.proofs.TimeNumbers.{one_decimal}
use Rattle.cbor_edn_times_and_addresses.proofs.laws.one_decimal.Goals as goal

pub returns : goal.returns
returns c = record { one = one_decimal; number = decimal_is_number }
