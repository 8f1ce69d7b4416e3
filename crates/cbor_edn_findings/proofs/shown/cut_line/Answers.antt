use Rattle.std.proofs.Common.{◌≡◌, ◌++◌, rules}
use Rattle.std.specs.Prelude.{string_bytes}
use Rattle.cbor_edn_findings.proofs.ToldLines.{are_shown}
use Rattle.cbor_edn_findings.proofs.shown.cut_line.Goals as goal

pub returns : goal.returns
returns c =
    let pushed : string_bytes c.push_str.new.self ≡ string_bytes c.loop-character.out ++ string_bytes c.in_ok-cut_mark.field-0 = search (rules, c.in_ok-push_str.ensures.bytes, c.deref-3.ensures) in
    are_shown (string_bytes c.loop-character.out) (string_bytes c.in_ok-cut_mark.field-0) (string_bytes c.push_str.new.self) pushed c.loop-character.invariant c.in_ok-cut_mark.ensures
