use Rattle.cbor_edn_files.proofs.Replacing.{renamed_moments, renamed, given_up_moments, failed_moments, same_but_then, same_but_between, gone, at_gone, at_left, was_failed}
use Rattle.cbor_edn_files.proofs.replace.replace_by.Goals as goal

-- src/replace.rt:64:1
pub returns-in-Ok-rename-clause-moments : goal.returns-in-Ok-rename-clause-moments
returns-in-Ok-rename-clause-moments g c = renamed_moments c.args.name.now c.args.bytes.now c.args.draft.now c.requires _ _ _ c.in-Ok.ensures.ok c.make.ensures.passes c.in-Ok.ensures.made c.rename.ensures.passes

pub returns-in-Ok-rename-clause-ok : goal.returns-in-Ok-rename-clause-ok
returns-in-Ok-rename-clause-ok g c = renamed c.args.name.now c.args.bytes.now c.args.draft.now c.requires _ _ _ c.make.ensures.passes c.in-Ok.ensures.ok c.in-Ok.ensures.made c.in-Ok-rename.ensures.ok

pub returns-in-Err-clause-moments : goal.returns-in-Err-clause-moments
returns-in-Err-clause-moments g c = given_up_moments c.args.name.now c.args.bytes.now c.args.draft.now c.requires _ _ _ c.in-Ok.ensures.ok
    (renamed_moments c.args.name.now c.args.bytes.now c.args.draft.now c.requires _ _ _ c.in-Ok.ensures.ok c.make.ensures.passes c.in-Ok.ensures.made c.rename.ensures.passes)
    c.give_up.ensures.passes

pub returns-in-Err-clause-gone : goal.returns-in-Err-clause-gone
returns-in-Err-clause-gone g c = at_gone _ (λ h. gone c.args.draft.now _ _ h
    (same_but_between c.args.draft.now _ _ _ _ c.in-Ok.ensures.ok c.make.ensures.passes c.in-Err.ensures.err c.give_up.ensures.passes)) c.give_up.ensures.gone

pub returns-in-Err-clause-left : goal.returns-in-Err-clause-left
returns-in-Err-clause-left g c = at_left _ (same_but_between c.args.draft.now _ _ _ _ c.in-Ok.ensures.ok c.make.ensures.passes c.in-Err.ensures.err c.give_up.ensures.passes)

pub returns-in-Err-Failed-clause-moments : goal.returns-in-Err-Failed-clause-moments
returns-in-Err-Failed-clause-moments g c = failed_moments c.args.name.now c.args.bytes.now c.args.draft.now c.requires _ _ _
    (was_failed _ _ c.in-Err-Failed.field-0-is c.in-Err-Failed.ensures.failed) c.make.ensures.passes c.give_up-in-Err-Failed.ensures.passes

pub returns-in-Err-Failed-clause-gone : goal.returns-in-Err-Failed-clause-gone
returns-in-Err-Failed-clause-gone g c = at_gone _ (λ h. gone c.args.draft.now _ _ h
    (same_but_then c.args.draft.now _ _ _ (was_failed _ _ c.in-Err-Failed.field-0-is c.in-Err-Failed.ensures.failed) c.make.ensures.passes c.give_up-in-Err-Failed.ensures.passes))
    c.give_up-in-Err-Failed.ensures.gone

pub returns-in-Err-Failed-clause-left : goal.returns-in-Err-Failed-clause-left
returns-in-Err-Failed-clause-left g c = at_left _ (same_but_then c.args.draft.now _ _ _
    (was_failed _ _ c.in-Err-Failed.field-0-is c.in-Err-Failed.ensures.failed) c.make.ensures.passes c.give_up-in-Err-Failed.ensures.passes)
