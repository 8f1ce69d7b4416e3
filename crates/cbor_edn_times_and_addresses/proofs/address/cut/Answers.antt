use Rattle.std.proofs.Common.{lit<, None, Some}
use Rattle.std.proofs.lemmas.Str.Pattern.{split_parts}
use Rattle.cbor_edn_times_and_addresses.proofs.SlashCuts.{cut_nowhere, cut_at}
use Rattle.cbor_edn_times_and_addresses.proofs.address.cut.Goals as goal

pub returns-in-None : goal.returns-in-None
returns-in-None c = cut_nowhere _ (split_parts 47 c.args.text.now None c.in-None.ensures.cases (lit< tt))

pub returns-in-Some : goal.returns-in-Some
returns-in-Some c =
    let parts = split_parts 47 c.args.text.now (Some (c.in-Some.front, c.in-Some.back)) c.in-Some.ensures.cases (lit< tt) in
    cut_at _ _ _ parts.0 parts.1
