use Rattle.std.proofs.Common.{arith}
use Rattle.std.specs.Prelude.{Some, None}
use Rattle.cbor_edn_files.proofs.Drafts.{split_at_slash, shorter_parts, made_is, made_apart, long_in_folder, short_in_folder, long_alone, short_alone, length_long, length_long_in, longer}
use Rattle.cbor_edn_files.proofs.replace.draft_name.Goals.{in_default-via-in-Some+else-last-gt-LONGEST, in_default-via-in-None+else-name-gt-LONGEST}
use Rattle.cbor_edn_files.proofs.replace.draft_name.Goals as goal

pub returns-in-Some-clause-is : goal.returns-in-Some-clause-is
returns-in-Some-clause-is c =
    made_is _ _ _ c.format.ensures.ok (long_in_folder c.args.name.now c.in-Some.folder.now c.in-Some.last.now c.args.number
    (split_at_slash c.args.name.now (Some (c.in-Some.folder, c.in-Some.last)) c.in-Some.ensures.cases) c.if-last-gt-LONGEST.true)

pub returns-in-Some-clause-apart : goal.returns-in-Some-clause-apart
returns-in-Some-clause-apart c =
    made_apart _ _ c.args.name.now c.format.ensures.ok
    (omega (arith, length_long_in c.in-Some.folder.now c.args.number c.ranges.number.fits, shorter_parts c.args.name.now (c.in-Some.folder, c.in-Some.last) c.in-Some.ensures.cases, c.if-last-gt-LONGEST.true))

pub returns-in-None-clause-is : goal.returns-in-None-clause-is
returns-in-None-clause-is c =
    made_is _ _ _ c.format-in-None.ensures.ok (long_alone c.args.name.now c.args.number
    (split_at_slash c.args.name.now None c.in-None.ensures.cases) c.if-name-gt-LONGEST.true)

pub returns-in-None-clause-apart : goal.returns-in-None-clause-apart
returns-in-None-clause-apart c =
    made_apart _ _ c.args.name.now c.format-in-None.ensures.ok
    (omega (arith, length_long c.args.number c.ranges.number.fits, c.if-name-gt-LONGEST.true))

pub returns-in_default-clause-is : goal.returns-in_default-clause-is
returns-in_default-clause-is c = made_is _ _ _ c.format-in_default.ensures.ok (elim c.in_default.branch [
  | in_default-via-in-Some+else-last-gt-LONGEST w ↦ short_in_folder c.args.name.now w.in-Some.folder.now w.in-Some.last.now c.args.number
      (split_at_slash c.args.name.now (Some (w.in-Some.folder, w.in-Some.last)) w.in-Some.ensures.cases) w.if-last-gt-LONGEST.false
  | in_default-via-in-None+else-name-gt-LONGEST w ↦ short_alone c.args.name.now c.args.number
      (split_at_slash c.args.name.now None w.in-None.ensures.cases) w.if-name-gt-LONGEST.false
])

pub returns-in_default-clause-apart : goal.returns-in_default-clause-apart
returns-in_default-clause-apart c =
    made_apart _ _ c.args.name.now c.format-in_default.ensures.ok (omega (arith, longer c.args.name.now c.args.number))
