use Rattle.cbor_edn_times_and_addresses.proofs.time.print.+push_digits.Given as goal

abbrev pub decreases-push_digits : goal.decreases-push_digits
decreases-push_digits l = l.places
