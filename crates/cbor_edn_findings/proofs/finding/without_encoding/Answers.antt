use Rattle.std.proofs.Common.{rules, ◌≡◌, Some, inl, subst}
use Rattle.std.specs.Prelude.{IfSome, string_bytes}
use Rattle.cbor_edn_findings.specs.WithoutEncoding.{IsFirstWithout}
use Rattle.cbor_edn_findings.proofs.ToldPlaces.{at_first}
use Rattle.cbor_edn_findings.proofs.finding.without_encoding.Goals as goal

pub returns-in_ok-to_string-in-Some : goal.returns-in_ok-to_string-in-Some
returns-in_ok-to_string-in-Some c =
    let is : c.in_ok-offset.field-0 ≡ Some (c.in-Some.offset, c.in-Some.reason) = search (rules, c.in-Some.is) in
    let first : IsFirstWithout c.args.options.now c.args.text.now c.in-Some.offset = subst (λ o. IfSome o (λ p. IsFirstWithout c.args.options.now c.args.text.now p.0)) is c.in_ok-offset.ensures.some in
    inl (at_first c.args.options.now (string_bytes c.in_ok-to_string-in-Some.field-0) c.args.text.now c.in-Some.offset c.at_offset.result first c.at_offset.ensures)
