use Rattle.cbor_edn_places.proofs.guess.+guess.Given as goal

abbrev pub decreases-guess : goal.decreases-guess
decreases-guess l = l.levels
