-- What only clauses of private functions cite: what `clap` has taken and is no command for files.
use Rattle.std.specs.Prelude.{◌≡◌, false, List, codes}
use Rattle.clap.specs.Words.{Row, Text, first_of}
use Rattle.clap.specs.declared.error.kind.ErrorKind.{ErrorKind}
use Rattle.clap.specs.declared.error.kind.ErrorKind.TheVariants.{InvalidSubcommand, ValueValidation}
use Rattle.cbor_edn_command.specs.CommandLine.{IsNoLimit}
use Rattle.cbor_edn_command.specs.FileCommandLine.{AreNoLevels, is_file_command}
use Rattle.cbor_edn_command.specs.declared.file_words.Misread.{Misread}
use Rattle.cbor_edn_command.specs.declared.file_words.Misread.TheVariants.{Name, Limit, Levels}

-- A number among the entries is none.
abbrev pub AreMisread : List Row → Misread → Type 0
AreMisread rows Name = ⊥
AreMisread rows (Limit word) = IsNoLimit (first_of (codes "max-nesting") rows)
AreMisread rows (Levels word) = AreNoLevels rows

abbrev pub IsMisreadAs : Text × List Row → Misread → Type 0
IsMisreadAs (name, rows) Name = is_file_command name ≡ false
IsMisreadAs (name, rows) misread = AreMisread rows misread

abbrev pub kind_of_misread : Misread → ErrorKind
kind_of_misread Name = InvalidSubcommand
kind_of_misread _ = ValueValidation
