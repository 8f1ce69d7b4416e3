use Rattle.cbor_edn_model.proofs.layout.width.+decimal_len.Given as goal

abbrev pub decreases-decimal_len : goal.decreases-decimal_len
decreases-decimal_len l = l.number
