use Rattle.std.proofs.Common.{◌∙◌, sym, map}
use Rattle.std.proofs.lemmas.Result.{IfErr-weaker, IfOk-weaker, err_from_is_err_and}
use Rattle.clap.proofs.WalkLemmas.{both}
use Rattle.cbor_edn_command.specs.CommandLine.{IsMisread, IsReadOff}
use Rattle.cbor_edn_command.proofs.ReadCommandLine.{finds, free, misread, refused}
use Rattle.cbor_edn_command.proofs.words.conversion_of.Goals as goal

pub returns-in_err-matches-clause-refused : goal.returns-in_err-matches-clause-refused
returns-in_err-matches-clause-refused c =
    let words = map (λ w. w.now) c.args.words.now in
    let free = free words _ c.in_ok-program.ensures in
    let p = err_from_is_err_and c.from_residual-in_err-matches.result c.from_residual-in_err-matches.ensures.1 in
    rw (p.1, p.2) (refused words _ c.in_ok-program.ensures IsMisread c.in_err-matches.field-0.0 (c.in_err-matches.ensures.kinds free))

pub returns-clause-ok : goal.returns-clause-ok
returns-clause-ok c =
    let words = map (λ w. w.now) c.args.words.now in
    let free = free words _ c.in_ok-program.ensures in
    let same = (c.in_ok-matches.ensures.ok.2 (both _ _ free).0).1 in
    IfOk-weaker c.read_off.result _ _
    (λ r h. finds words _ c.in_ok-program.ensures (λ found. IsReadOff found r.options r.input.now r.output.now r.replaces) h.0 (c.in_ok-matches.ensures.kinds free) (sym same ∙ h.1) h.2)
    c.read_off.ensures.ok

pub returns-clause-refused : goal.returns-clause-refused
returns-clause-refused c =
    let words = map (λ w. w.now) c.args.words.now in
    let free = free words _ c.in_ok-program.ensures in
    let same = (c.in_ok-matches.ensures.ok.2 (both _ _ free).0).1 in
    IfErr-weaker c.read_off.result _ _
    (λ e h. misread words _ c.in_ok-program.ensures IsMisread e _ (c.in_ok-matches.ensures.kinds free) (sym same) h)
    c.read_off.ensures.refused
