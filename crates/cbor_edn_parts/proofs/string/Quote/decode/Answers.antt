use Rattle.std.proofs.Common.{◌∙◌, arith}
use Rattle.std.proofs.lemmas.List.{nil_from_length}
use Rattle.std.proofs.lemmas.Slice.{first_rest}
use Rattle.cbor_edn_parts.proofs.lemmas.string.Quoted.{quoted_more, quoted_end, quoted_none, quoted_all}
use Rattle.cbor_edn_parts.proofs.string.Quote.decode.Goals as goal
use Rattle.cbor_edn_parts.proofs.string.Quote.decode.Goals.{in_default, in-len1-up+then-ends, in-len1-up+else-ends+in_default-step}

pub parts-preserved : goal.parts-preserved
parts-preserved c =
    rw c.in_ok-append_to.ensures
    (quoted_more _ _ _ _ _ (c.parts.invariant ∙ c.in_ok-rest.ensures.bytes) _ _ (first_rest _ 0 c.in-len1-up.len_at_least) _ _ c.if-ends.ensures (rw c.byte.ensures at c.in-Some.ensures))

pub returns : goal.returns
returns c =
    let so_far = c.parts.invariant ∙ c.in_ok-rest.ensures.bytes in
    elim c.if-rest-lt1.branch [
      | in_default w ↦ quoted_all _ _ _ _ _ so_far (nil_from_length _ (omega (arith, w.in_default.len_below)))
      | in-len1-up+then-ends w ↦ quoted_end _ _ _ _ _ so_far _ _ (first_rest _ 0 w.in-len1-up.len_at_least) w.if-ends.ensures
      | in-len1-up+else-ends+in_default-step w ↦ quoted_none _ _ _ _ _ so_far _ _ (first_rest _ 0 w.in-len1-up.len_at_least) w.if-ends.ensures (rw w.byte.ensures at w.in_default-step.ensures)
    ]
