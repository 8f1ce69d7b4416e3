use Rattle.std.proofs.Common.{[], ◌∷◌, ◌≡◌, ◌+◌, ◌%◌, ◌/◌, ◌-◌, ◌++◌, OnOk, string_bytes, subst, sym, ap, ◌∙◌, arith}
use Rattle.cbor_edn_times_and_addresses.specs.internal.TimeWriting.{padded}
use Rattle.cbor_edn_times_and_addresses.proofs.TimeDigits.{padded_none, padded_more, pushed}
use Rattle.cbor_edn_times_and_addresses.proofs.time.print.+push_digits.Goals as goal

pub returns-then-places-eq0 : goal.returns-then-places-eq0
returns-then-places-eq0 t c = padded_none _ c.args.places c.args.number (omega arith)

pub returns : goal.returns
returns t c =
    let old = string_bytes c.args.text.now in
    let digit : c.from.result ≡ 48 + c.args.number % 10 = omega arith in
    subst (λ ds. OnOk c.push.result (string_bytes c.push.new.self ≡ string_bytes c.args.text.now ++ ds)) (sym (padded_more c.args.places c.args.number (omega arith)))
    (pushed c.push.result (string_bytes c.args.text.now) (string_bytes c.push_digits.new.text) (string_bytes c.push.new.self) (padded (c.args.places - 1) (c.args.number / 10)) _ _
    c.push.ensures.bytes (c.push.ensures.ascii (omega arith) ∙ ap (λ d. d ∷ []) digit) c.in_ok-push_digits.ensures)
