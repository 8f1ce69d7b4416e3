use Rattle.std.proofs.Common.{sym, ◌∙◌, arith}
use Rattle.cbor_edn_stream.proofs.lemmas.Walks.{opened_one, gone_out, gone_on, gone_wide, item_walked}
use Rattle.cbor_edn_stream.proofs.columns.is_wider.Goals.{then-is_break+else-depth-eq0, else-is_break+else-left-due, else-depth-eq0-2-via-then-depth-eq0-2+else-due-eq0, else-depth-eq0-2-via-else-depth-eq0-2}
use Rattle.cbor_edn_stream.proofs.columns.is_wider.Goals as goal

pub returns-then-left-due : goal.returns-then-left-due
returns-then-left-due c = λ _.
    item_walked c.args.columns c.args.bytes.now (λ i. omega (arith, c.type_inv.bytes i))
    (gone_wide c.args.bytes.now c.heads.rest.now c.in-Ok.behind.now c.heads.depth c.heads.due c.args.columns c.heads.left c.due_behind-due.result c.in-Ok.major c.in-Ok.argument c.heads.invariant.going c.in-Ok.ensures.value
    (sym c.is_break.ensures ∙ c.if-is_break.false) c.due_behind-due.ensures (omega arith) c.heads.invariant.gone)

pub heads-preserved : goal.heads-preserved
heads-preserved c =
    record {
      gone = elim c.if-is_break.branch [
        | then-is_break+else-depth-eq0 w ↦ gone_out c.args.bytes.now c.heads.rest.now c.in-Ok.behind.now c.behind_content-rest.result.now c.heads.depth c.heads.due c.args.columns c.heads.left c.if-is_break.depth c.if-is_break.due c.if-is_break.left c.in-Ok.major c.in-Ok.argument
            w.if-depth-eq0.false c.in-Ok.ensures.value (sym c.is_break.ensures ∙ w.if-is_break.true) c.behind_content-rest.ensures.value (omega arith) (omega arith) (omega arith) c.heads.invariant.gone
        | else-is_break+else-left-due w ↦ gone_on c.args.bytes.now c.heads.rest.now c.in-Ok.behind.now c.behind_content-rest.result.now c.heads.depth c.heads.due c.args.columns c.heads.left c.if-is_break.depth c.if-is_break.due c.if-is_break.left c.in-Ok.major c.in-Ok.argument
            c.heads.invariant.going c.in-Ok.ensures.value (sym c.is_break.ensures ∙ w.if-is_break.false) c.behind_content-rest.ensures.value (cc) (cc) (omega arith) (omega arith) (omega arith) c.heads.invariant.gone
      ];
      within = elim c.if-is_break.branch [
        | then-is_break+else-depth-eq0 w ↦ omega arith
        | else-is_break+else-left-due w ↦ omega (arith, opened_one c.in-Ok.argument c.heads.depth)
      ];
      going = elim c.else-depth-eq0-2.branch [
        | else-depth-eq0-2-via-then-depth-eq0-2+else-due-eq0 w ↦ omega arith
        | else-depth-eq0-2-via-else-depth-eq0-2 w ↦ omega arith
      ];
    }
