use Rattle.std.proofs.Common.{arith}
use Rattle.cbor_edn_model.proofs.lemmas.layout.Digits.{few_digits}
use Rattle.cbor_edn_stream.proofs.lemmas.Narrow.{indicator_short}
use Rattle.cbor_edn_stream.proofs.columns.most_columns.Goals.{in-0, in-1+in_ok-checked_add-in-1, in-2, in-3, in-4}
use Rattle.cbor_edn_stream.proofs.columns.most_columns.Goals as goal

pub overflow_add-columns : goal.overflow_add-columns
overflow_add-columns c = let h = few_digits c.in_ok-checked_add-in-1.field-0 (omega arith) in omega (arith, h, c.decimal_len.ensures)

pub overflow_add-result : goal.overflow_add-result
overflow_add-result c =
    let h = indicator_short c.indicator_of.result in
    elim c.match-major.branch [
      | in-0 w ↦ let g = few_digits c.in_ok-count.count (omega arith) in omega (arith, h, g, c.indicator_len.ensures, w.decimal_len-columns.ensures, w.columns-is)
      | in-1+in_ok-checked_add-in-1 w ↦ let g = few_digits w.in_ok-checked_add-in-1.field-0 (omega arith) in omega (arith, h, g, c.indicator_len.ensures, w.decimal_len.ensures, w.columns-is)
      | in-2 w ↦ omega (arith, h, c.indicator_len.ensures, w.columns-is, w.if-count-lt256.true)
      | in-3 w ↦ omega (arith, h, c.indicator_len.ensures, w.columns-is, w.if-count-lt256-2.true)
      | in-4 w ↦ omega (arith, h, c.indicator_len.ensures, w.columns-is)
    ]

pub overflow_add-result-2 : goal.overflow_add-result-2
overflow_add-result-2 c =
    let h = indicator_short c.indicator_of.result in
    elim c.match-major.branch [
      | in-0 w ↦ let g = few_digits c.in_ok-count.count (omega arith) in omega (arith, h, g, c.indicator_len.ensures, w.decimal_len-columns.ensures, w.columns-is)
      | in-1+in_ok-checked_add-in-1 w ↦ let g = few_digits w.in_ok-checked_add-in-1.field-0 (omega arith) in omega (arith, h, g, c.indicator_len.ensures, w.decimal_len.ensures, w.columns-is)
      | in-2 w ↦ omega (arith, h, c.indicator_len.ensures, w.columns-is, w.if-count-lt256.true)
      | in-3 w ↦ omega (arith, h, c.indicator_len.ensures, w.columns-is, w.if-count-lt256-2.true)
      | in-4 w ↦ omega (arith, h, c.indicator_len.ensures, w.columns-is)
    ]
