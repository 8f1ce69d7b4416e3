-- What only clauses of private functions cite: arguments and commands as they are built.
use Rattle.std.specs.Prelude.{◌≡◌, false, List}
use Rattle.clap.specs.Words.{App, Rule, app_of, rule_of}
use Rattle.clap.specs.declared.builder.arg.Arg.{Arg}
use Rattle.clap.specs.declared.builder.command.Command.{Command}
use Rattle.clap.specs.declared.builder.command.Command.TheViews.{out-Command}
use Rattle.clap.specs.declared.builder.value_parser.ValueParser.{ValueParser}
use Rattle.cbor_edn_command.specs.CommandLine.{AreAnnotations, AreFormats}
use Rattle.cbor_edn_command.specs.ProgramWords.{program, with_rules}

-- an argument of a command line that is not for its subcommands too, and a command of such ones alone
abbrev pub IsArgOf : Rule → Arg → Type 0
IsArgOf r a = (rule_of a ≡ r) × (a.global ≡ false)

abbrev pub IsCommandOf : App → Command → Type 0
IsCommandOf a c = (app_of c ≡ a) × ((out-Command c).has_globals ≡ false)

-- A command takes more of them.
pub record GrowsBy (more : List Rule) (old new : Command) : Type 0 where
  pub app : app_of new ≡ with_rules (app_of old) more
  pub local : (out-Command new).has_globals ≡ (out-Command old).has_globals

abbrev pub IsProgram : Command → Type 0
IsProgram c = (formats annotations : ValueParser) × AreFormats formats × AreAnnotations annotations × IsCommandOf (program formats annotations) c
