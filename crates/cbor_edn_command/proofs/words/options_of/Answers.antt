use Rattle.std.proofs.Common.{codes, refl}
use Rattle.clap.specs.Words.{found_of, rows_of}
use Rattle.cbor_edn_command.proofs.ReadCommandLine.{no_flag_read}
use Rattle.cbor_edn_command.proofs.words.options_of.Goals as goal

pub returns-in-Diag2Cbor-clause-flags : goal.returns-in-Diag2Cbor-clause-flags
returns-in-Diag2Cbor-clause-flags c = rw c.in-Diag2Cbor.is (record {
  hex = c.is_value.ensures;
  annotate_tags = c.is_given.ensures;
  apply_999 = c.is_given-in-Diag2Cbor.ensures;
  aol_to_item = refl;
  bignum_from_tags = refl;
  annotate_ccs = refl;
  remove_comments = refl;
  preserve_space = refl;
})

pub returns-in-Cbor2Diag-clause-flags : goal.returns-in-Cbor2Diag-clause-flags
returns-in-Cbor2Diag-clause-flags c = rw c.in-Cbor2Diag.is (record {
  hex = c.is_value-in-Cbor2Diag.ensures;
  annotate_tags = no_flag_read (codes "no-annotate-tags") (rows_of (found_of c.args.found.now)) _ c.is_given-in-Cbor2Diag.ensures;
  apply_999 = refl;
  aol_to_item = c.is_given-in-Cbor2Diag-2.ensures;
  bignum_from_tags = no_flag_read (codes "no-bignum-from-tags") (rows_of (found_of c.args.found.now)) _ c.is_given-in-Cbor2Diag-3.ensures;
  annotate_ccs = c.is_value-in-Cbor2Diag-2.ensures;
  remove_comments = refl;
  preserve_space = refl;
})

pub returns-in-Diag2Diag-clause-flags : goal.returns-in-Diag2Diag-clause-flags
returns-in-Diag2Diag-clause-flags c = rw c.in-Diag2Diag.is (record {
  hex = refl;
  annotate_tags = c.is_given-in-Diag2Diag.ensures;
  apply_999 = c.is_given-in-Diag2Diag-2.ensures;
  aol_to_item = c.is_given-in-Diag2Diag-3.ensures;
  bignum_from_tags = no_flag_read (codes "no-bignum-from-tags") (rows_of (found_of c.args.found.now)) _ c.is_given-in-Diag2Diag-4.ensures;
  annotate_ccs = c.is_value-in-Diag2Diag.ensures;
  remove_comments = c.is_given-in-Diag2Diag-5.ensures;
  preserve_space = c.is_given-in-Diag2Diag-6.ensures;
})
