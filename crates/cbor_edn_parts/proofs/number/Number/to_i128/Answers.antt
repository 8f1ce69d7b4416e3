use Rattle.std.proofs.Common.{refl}
use Rattle.cbor_edn_parts.specs.Leaves.{number_bytes}
use Rattle.cbor_edn_parts.proofs.lemmas.number.WrittenNumbers.{not_so_wide, one_integer}
use Rattle.cbor_edn_parts.proofs.number.Number.to_i128.Goals as goal

pub returns-in_err-integer-clause-none : goal.returns-in_err-integer-clause-none
returns-in_err-integer-clause-none c = λ _ z fits has. not_so_wide z fits.sfits (c.in_err-integer.ensures.none refl z has)

pub returns-clause-none : goal.returns-clause-none
returns-clause-none c = λ none z fits has. c.to_i128.ensures.none none z fits (one_integer (number_bytes c.args.self.now) _ z c.in_ok-integer.ensures.some has)
