use Rattle.std.proofs.Common.{◌≡◌, ◌+◌, ◌-◌, refl, arith}
use Rattle.cbor_edn_stream.specs.Heads.{behind_content, parts_of}
use Rattle.cbor_edn_stream.proofs.lemmas.Narrow.{ended, before_on, item_narrow}
use Rattle.cbor_edn_stream.proofs.columns.is_narrower.Goals as goal

pub returns-then-due-eq0 : goal.returns-then-due-eq0
returns-then-due-eq0 c = λ _.
    let none : 0 ≡ c.heads.due - 1 + parts_of c.in-Ok.major c.in-Ok.argument = omega arith in
    item_narrow c.args.columns c.args.bytes.now (λ i. omega (arith, c.type_inv.bytes i))
    (before_on c.args.bytes.now c.heads.rest.now c.in-Ok.behind.now (behind_content c.in-Ok.major c.in-Ok.argument c.in-Ok.behind.now) c.heads.due c.args.columns c.heads.left 0 (c.heads.left - c.in-Some.most) c.in-Some.most
    c.in-Ok.major c.in-Ok.argument c.heads.invariant.going c.in-Ok.ensures.value c.in-Some.ensures refl (omega arith) none c.heads.invariant.before ended)

pub heads-preserved : goal.heads-preserved
heads-preserved c =
    let due : c.saturating_add-due.result ≡ c.heads.due - 1 + parts_of c.in-Ok.major c.in-Ok.argument = omega arith in
    record {
      before = before_on c.args.bytes.now c.heads.rest.now c.in-Ok.behind.now c.behind_content-rest.result.now c.heads.due c.args.columns c.heads.left c.saturating_add-due.result (c.heads.left - c.in-Some.most) c.in-Some.most
          c.in-Ok.major c.in-Ok.argument c.heads.invariant.going c.in-Ok.ensures.value c.in-Some.ensures c.behind_content-rest.ensures.value (omega arith) due c.heads.invariant.before;
      going = omega arith;
    }
