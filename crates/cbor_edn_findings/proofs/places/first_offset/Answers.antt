use Rattle.std.proofs.Common.{rules, ◌≡◌, Some, None, false}
use Rattle.cbor_edn_core.specs.tree.View.{sequence_tree}
use Rattle.cbor_edn_findings.proofs.FirstOffsets.{all_meant, never_empty}
use Rattle.cbor_edn_findings.proofs.places.first_offset.Goals as goal

pub returns-in_default-clause-none : goal.returns-in_default-clause-none
returns-in_default-clause-none c =
    let none : c.in_ok-path.field-0 ≡ None = search rules in
    all_meant c.args.options.now (sequence_tree c.args.sequence.now) c.in_ok-path.field-0 none c.in_ok-path.ensures

pub returns-then-not-cut_to_item-clause-none : goal.returns-then-not-cut_to_item-clause-none
returns-then-not-cut_to_item-clause-none c =
    let is : c.in_ok-path.field-0 ≡ Some (c.in-Some.path, c.in-Some.reason) = search (rules, c.in-Some.is) in
    let no : c.cut_to_item.result ≡ false = search (rules, c.if-not-cut_to_item.true) in
    absurd (never_empty c.args.options.now (sequence_tree c.args.sequence.now) c.in_ok-path.field-0 (c.in-Some.path, c.in-Some.reason) c.cut_to_item.new.path.items is c.in_ok-path.ensures c.cut_to_item.ensures.cut (c.cut_to_item.ensures.all no))
