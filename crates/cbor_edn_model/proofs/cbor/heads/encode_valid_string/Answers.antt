use Rattle.std.proofs.Common.{rules, ◌≡◌, ◌++◌, length, None, Some, sym, ap, ◌∙◌}
use Rattle.std.proofs.lemmas.Bool.{eqb-true, eq-eqb}
use Rattle.cbor_edn_parts.specs.declared.base.indicator.Indicator.TheVariants as indicator
use Rattle.cbor_edn_model.specs.internal.Encoding.{list_head}
use Rattle.cbor_edn_model.proofs.lemmas.cbor.StringEncodes.{indefinite_pushed, definite_pushed}
use Rattle.cbor_edn_model.proofs.cbor.heads.encode_valid_string.Goals as goal
use Rattle.cbor_edn_model.proofs.cbor.heads.encode_valid_string.Goals.{else-is_empty-via-then-is_empty+else-eq, else-is_empty-via-else-is_empty}

pub returns-then-eq : goal.returns-then-eq
returns-then-eq c =
    let indicated : c.args.indicator ≡ Some indicator.Indefinite = search rules in
    indefinite_pushed c.args.kind c.args.content.now c.args.indicator c.args.out.now.items c.encode_list_head.new.out.items c.encode_list_end.new.out.items (eqb-true (length c.args.content.now) 0 (sym c.if-is_empty.ensures)) indicated
    (c.in_ok-encode_list_head.ensures ∙ ap (λ m. c.args.out.now.items ++ list_head m None 0) c.string_major.ensures.major) c.in_ok-encode_list_end.ensures

pub returns : goal.returns
returns c =
    definite_pushed c.args.kind c.args.content.now c.args.indicator c.args.out.now.items c.encode_valid_chunk.new.out.items c.encode_valid_chunk.result
    (λ empty indicated. elim c.else-is_empty.branch [
      | else-is_empty-via-then-is_empty+else-eq w ↦ (let f = rw indicated at w.if-eq.ensures in cc)
      | else-is_empty-via-else-is_empty w ↦ absurd (let f = w.if-is_empty.ensures in let g = eq-eqb (length c.args.content.now) 0 empty in cc)
    ]) c.encode_valid_chunk.ensures
