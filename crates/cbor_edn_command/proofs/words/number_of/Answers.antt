use Rattle.std.proofs.Common.{◌∙◌, ap, arith, subst, sym}
use Rattle.std.specs.Str.Parse.{IsNumeral, digits_value}
use Rattle.std.proofs.lemmas.Bool.{false≢true}
use Rattle.clap.specs.Words.{found_of}
use Rattle.cbor_edn_command.proofs.ReadCommandLine.{no_number, no_plus, number_left_out, number_read}
use Rattle.cbor_edn_command.proofs.words.number_of.Goals.{in_default-parse-via-in-Ok+then-number-most+else-not-starts_with, in_default-parse-via-in-Ok+else-number-most, in_default-parse-via-in_default-parse}
use Rattle.cbor_edn_command.proofs.words.number_of.Goals as goal

pub returns-in_default-clause-ok : goal.returns-in_default-clause-ok
returns-in_default-clause-ok c = number_left_out (found_of c.args.found.now) c.args.flag.now c.args.default c.args.most c.in_default.ensures

pub returns-in-Ok-clause-ok : goal.returns-in-Ok-clause-ok
returns-in-Ok-clause-ok c =
    let reads = c.in-Ok.ensures.value.0 in
    let looked = c.starts_with.ensures.byte (omega arith) (omega arith) (λ w o h. h) in
    number_read (found_of c.args.found.now) c.args.flag.now c.in-Some.word.now c.args.default c.args.most c.in-Ok.number c.starts_with.result c.in-Some.ensures reads.0.0 reads.1 looked c.if-not-starts_with.true (omega arith)

pub returns-in_default-parse-clause-refused : goal.returns-in_default-parse-clause-refused
returns-in_default-parse-clause-refused c =
    no_number (found_of c.args.found.now) c.args.flag.now c.in-Some.word.now c.args.default c.args.most c.in-Some.ensures
    (λ n same numeral value within.
    let value_is = ap (digits_value 10) same in
    elim c.in_default-parse.branch [
      | in_default-parse-via-in-Ok+then-number-most+else-not-starts_with w ↦
          let looked = w.starts_with.ensures.byte (omega arith) (omega arith) (λ w o h. h) in
          false≢true (sym (no_plus c.in-Some.word.now numeral) ∙ (sym looked ∙ w.if-not-starts_with.false))
      | in_default-parse-via-in-Ok+else-number-most w ↦ omega (arith, value, within, value_is, w.in-Ok.ensures.value.0.1, w.if-number-most.false)
      | in_default-parse-via-in_default-parse w ↦ w.in_default-parse.ensures.value.0 (subst (IsNumeral 10) (sym same) numeral, omega (arith, value, within, value_is, c.ranges.most.fits))
    ])
