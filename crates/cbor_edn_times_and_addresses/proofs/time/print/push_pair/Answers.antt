use Rattle.std.proofs.Common.{◌≡◌, ◌+◌, ◌-◌, ◌*◌, ◌%◌, ◌∙◌, arith, rules}
use Rattle.cbor_edn_times_and_addresses.specs.internal.TimeWriting.{padded, pairs}
use Rattle.cbor_edn_times_and_addresses.proofs.TimePairs.{pairs_cut, pair_at, last_pair}
use Rattle.cbor_edn_times_and_addresses.proofs.time.print.push_pair.Goals as goal

pub range-requires-clause-start_boundary : goal.range-requires-clause-start_boundary
range-requires-clause-start_boundary c = rw c.pairs.ensures (λ _. pairs_cut (2 * (c.args.number % 100)) (omega arith))

pub range-requires-clause-end_boundary : goal.range-requires-clause-end_boundary
range-requires-clause-end_boundary c = rw c.pairs.ensures (pairs_cut (2 * (c.args.number % 100) + 2) (omega arith))

pub returns : goal.returns
returns c =
    let two : 2 * (c.args.number % 100) + 2 - 2 * (c.args.number % 100) ≡ 2 = omega arith in
    let pair : c.range.result.now ≡ padded 2 c.args.number = rw (c.range.ensures.value, c.pairs.ensures, two) (pair_at (c.args.number % 100) (omega arith) ∙ last_pair c.args.number) in
    rw (← pair) (search rules)
