use Rattle.std.proofs.Common.{◌≡◌, ◌-◌, ◌<◌, length, map, subst, arith}
use Rattle.std.specs.Str.{IsUtf8}
use Rattle.std.proofs.lemmas.List.{length-map}
use Rattle.std.proofs.lemmas.Result.{err_from_is_err_and}
use Rattle.cbor_edn_core.specs.tree.View.{item_tree}
use Rattle.cbor_edn.proofs.ElementTexts.{lines_read}
use Rattle.cbor_edn.proofs.EntriesRead.{array_refused, array_ends, none_read, no_items}
use Rattle.cbor_edn.proofs.LongArrays.{begun, more_begun, ended}
use Rattle.cbor_edn.proofs.long_arrays.array_text.Goals as goal

pub turns-init : goal.turns-init
turns-init c = record {
  front = subst IsUtf8 (c.in_ok-out.ensures.1) c.in_ok-out.ensures.0;
  begun = begun c.args.options.now c.args.width c.args.count (c.args.options.now.limit - 1) c.args.bytes.now c.in_ok-out.out.items c.in_ok-out.ensures.1;
  some = omega (arith, c.requires.long);
  behind = omega arith;
}

pub returns-in_err-elements-clause-refused : goal.returns-in_err-elements-clause-refused
returns-in_err-elements-clause-refused c =
    let p = err_from_is_err_and c.from_residual-in_err-elements.result c.from_residual-in_err-elements.ensures.1 in
    let b = c.turns.invariant.begun in
    rw (p.1, p.2) (array_refused (c.args.options.now.limit - 1) (Unit {0}) b.items c.args.count c.turns.left c.args.bytes.now c.turns.rest.now c.in_err-elements.field-0.0 b.read b.count c.in_err-elements.ensures.refused)

pub push_last-requires-clause-some : goal.push_last-requires-clause-some
push_last-requires-clause-some c =
    let count : c.len-read.result ≡ length c.in_ok-elements.elements.items = grind arith in
    let all : c.len-read.result ≡ c.turns.left = grind arith in
    omega (arith, count, all, c.turns.invariant.some)

pub push_last-requires-clause-lines : goal.push_last-requires-clause-lines
push_last-requires-clause-lines c = lines_read (c.args.options.now.limit - 1) c.turns.rest.now c.in_ok-elements.behind.now _ c.in_ok-elements.ensures.read

pub push_others-requires-clause-lines : goal.push_others-requires-clause-lines
push_others-requires-clause-lines c = lines_read (c.args.options.now.limit - 1) c.turns.rest.now c.in_ok-elements.behind.now _ c.in_ok-elements.ensures.read

pub returns-then-read-left-clause-text : goal.returns-then-read-left-clause-text
returns-then-read-left-clause-text c =
    let count : c.len-read.result ≡ length c.in_ok-elements.elements.items = grind arith in
    let all : c.len-read.result ≡ c.turns.left = grind arith in
    let mapped = length-map c.in_ok-elements.elements.items item_tree in
    ended c.args.options.now c.args.width c.args.count (c.args.options.now.limit - 1) c.args.bytes.now c.turns.rest.now c.in_ok-elements.behind.now c.turns.left c.turns.out.items c.push_last.new.out.items (map item_tree c.in_ok-elements.elements.items)
    c.requires.tags c.requires.long c.turns.invariant.front c.turns.invariant.begun c.in_ok-elements.ensures.read (omega (arith, count, all, mapped)) c.in_ok-push_last.ensures

pub returns-then-read-left-clause-shorter : goal.returns-then-read-left-clause-shorter
returns-then-read-left-clause-shorter c = let h = none_read (c.args.options.now.limit - 1) _ c.turns.rest.now c.in_ok-elements.behind.now c.in_ok-elements.ensures.read in omega (arith, h, c.turns.invariant.behind)

pub returns-then-read-eq0-clause-refused : goal.returns-then-read-eq0-clause-refused
returns-then-read-eq0-clause-refused c =
    let count : c.len-read.result ≡ length c.in_ok-elements.elements.items = grind arith in
    let none : c.len-read.result ≡ 0 = grind arith in
    let b = c.turns.invariant.begun in
    array_ends (c.args.options.now.limit - 1) b.items c.args.count c.turns.left c.args.bytes.now c.turns.rest.now b.read b.count c.turns.invariant.some
    (no_items (c.args.options.now.limit - 1) item_tree c.turns.left c.in_ok-elements.elements.items c.turns.rest.now c.in_ok-elements.behind.now c.in_ok-elements.ensures.read (omega (arith, count, none)) c.turns.invariant.some c.in_ok-elements.ensures.shorter)

pub turns-preserved : goal.turns-preserved
turns-preserved c =
    let count : c.len-read.result ≡ length c.in_ok-elements.elements.items = grind arith in
    let mapped = length-map c.in_ok-elements.elements.items item_tree in
    let less : c.len-read.result < c.turns.left = grind arith in
    let h = none_read (c.args.options.now.limit - 1) _ c.turns.rest.now c.in_ok-elements.behind.now c.in_ok-elements.ensures.read in
    record {
      front = c.turns.invariant.front;
      begun = more_begun c.args.options.now c.args.width c.args.count (c.args.options.now.limit - 1) c.args.bytes.now c.turns.rest.now c.in_ok-elements.behind.now c.turns.left (c.turns.left - c.len-read.result) c.turns.out.items c.push_others.new.out.items
          (map item_tree c.in_ok-elements.elements.items) c.turns.invariant.begun c.in_ok-elements.ensures.read (omega (arith, count, mapped, less)) c.in_ok-push_others.ensures;
      some = omega (arith, less);
      behind = omega (arith, h, c.turns.invariant.behind);
    }
