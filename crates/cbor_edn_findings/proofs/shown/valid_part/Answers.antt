use Rattle.std.proofs.Common.{◌≡◌, ◌++◌, ap, arith, drop, length, rules, subst, sym, take, ◌∙◌}
use Rattle.std.specs.Str.{IsUtf8, IsValidUpTo}
use Rattle.std.proofs.lemmas.List.{length-take, take-append-drop}
use Rattle.cbor_edn_findings.proofs.shown.valid_part.Goals as goal

pub returns-in-Ok-from_utf8 : goal.returns-in-Ok-from_utf8
returns-in-Ok-from_utf8 c =
    let n = c.valid_up_to.result in
    let valid : IsValidUpTo c.args.input.now c.valid_up_to.result = subst (λ k. IsValidUpTo c.args.input.now k) (sym c.valid_up_to.ensures) c.in-Err.ensures.cases.1 in
    let e : c.in-Ok-from_utf8.text.now ≡ take c.valid_up_to.result c.args.input.now = search (rules, c.in-Ok-from_utf8.ensures.cases) in
    record {
      behind = drop n c.args.input.now;
      parts = sym (take-append-drop n c.args.input.now) ∙ ap (λ l. l ++ drop n c.args.input.now) (sym e);
      is_text = subst IsUtf8 (sym e) valid.front;
      longest = λ m lt le text. valid.longest m (omega (arith, lt, le, ap length e, length-take n c.args.input.now, valid.short)) text;
    }
