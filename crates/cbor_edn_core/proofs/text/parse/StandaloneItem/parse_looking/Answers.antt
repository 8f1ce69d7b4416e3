use Rattle.std.proofs.Common.{ap, sym, ◌∙◌, Err}
use Rattle.cbor_edn_model.proofs.lemmas.text.Whole.{standalone_accepted, standalone_invalid, standalone_too_deep}
use Rattle.cbor_edn_core.proofs.text.parse.StandaloneItem.parse_looking.Goals as goal

pub returns-in-Ok-clause-parsed : goal.returns-in-Ok-clause-parsed
returns-in-Ok-clause-parsed c =
    let all = standalone_accepted c.args.limit _ _ (rw c.new-text.ensures at c.in-Ok.ensures.value) in
    record { prints = all.0; accepted = all.3; merged = all.2; borrowed = c.in-Ok.ensures.borrowed }

pub returns-in-Err-Told-clause-refused : goal.returns-in-Err-Told-clause-refused
returns-in-Err-Told-clause-refused c =
    let read = rw (c.new-text.ensures) at (rw c.in-Err-Told.field-0-is at c.in-Err-Told.ensures.value) in
    record {
      invalid = λ k. standalone_invalid c.args.limit _ (read ∙ ap Err (sym c.with_location.ensures.kind ∙ k));
      too_deep = λ k. standalone_too_deep c.args.limit _ (read ∙ ap Err (sym c.with_location.ensures.kind ∙ k));
      place = rw c.new-text.ensures at c.with_location.ensures.place;
    }
