-- The runs that the commands for files make of one input.
use Rattle.std.specs.Prelude.{ℕ, Bool, true, false}
use Rattle.cbor_edn_command.specs.declared.options.Command.{Command}
use Rattle.cbor_edn_command.specs.declared.options.Command.TheVariants.{Diag2Cbor, Cbor2Diag, Diag2Diag}
use Rattle.cbor_edn_command.specs.declared.options.Options.{Options}
use Rattle.cbor_edn_command.specs.declared.file_options.ShowOptions.{ShowOptions}
use Rattle.cbor_edn_command.specs.declared.file_options.FormatOptions.{FormatOptions}
use Rattle.cbor_edn_command.specs.declared.file_options.CheckOptions.{CheckOptions}

-- a run that changes nothing
abbrev pub plain : Command → ℕ → Options
plain command limit = record {
  command = command;
  hex = false;
  annotate_tags = false;
  apply_999 = false;
  aol_to_item = false;
  bignum_from_tags = false;
  annotate_ccs = false;
  remove_comments = false;
  preserve_space = false;
  limit = limit;
}

-- the steps of `show` that follow once byte strings are shown: those that `cbor2diag` takes by default, and what is asked for
abbrev pub show_steps : ShowOptions → Options
show_steps s = record (plain Cbor2Diag s.limit) { hex = s.hex; annotate_tags = true; bignum_from_tags = s.bignum_from_tags; annotate_ccs = s.annotate_ccs }

-- `fmt` lays out as `diag2diag` does, and changes no item
abbrev pub format_steps : FormatOptions → Options
format_steps f = record (plain Diag2Diag f.limit) { remove_comments = f.remove_comments }

-- `check` looks whether `diag2cbor` has an output, or `cbor2diag` for a file that is CBOR
abbrev pub check_steps : CheckOptions → Bool → Options
check_steps c true = plain Cbor2Diag c.limit
check_steps c false = record (plain Diag2Cbor c.limit) { apply_999 = c.apply_999; aol_to_item = true }
