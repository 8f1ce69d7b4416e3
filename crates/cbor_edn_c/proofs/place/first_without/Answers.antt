use Rattle.std.proofs.Common.{◌≡◌, rules, List, ℕ}
use Rattle.cbor_edn_c.proofs.TextPlaces.{told_place, none_told}
use Rattle.cbor_edn_c.proofs.place.first_without.Goals as goal

pub returns-in_default-2-clause-none : goal.returns-in_default-2-clause-none
returns-in_default-2-clause-none c =
    let same : c.in-Ok.text.now ≡ c.args.input.now = search (rules, c.in-Ok.ensures.cases) in
    none_told c.args.options.now c.in-Ok.text.now c.args.input.now same (search (rules, c.in_ok-offset.ensures.none, c.in_default-2.is))

pub returns-clause-some : goal.returns-clause-some
returns-clause-some c =
    let same : c.in-Ok.text.now ≡ c.args.input.now = search (rules, c.in-Ok.ensures.cases) in
    told_place c.args.options.now c.in-Ok.text.now c.args.input.now c.in-Some.offset c.place_at.result same (search (rules, c.in_ok-offset.ensures.some, c.in-Some.is)) c.place_at.ensures
