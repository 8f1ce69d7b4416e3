-- The words that the program's command line may have, as `clap` sees them.
use Rattle.std.specs.Prelude.{ℕ, true, List, [], ◌∷◌, ◌++◌, codes, Some}
use Rattle.clap.specs.Words.{App, Rule, Text, new_app, new_rule, with_subcommand}
use Rattle.clap.specs.declared.builder.action.ArgAction.TheVariants.{Append, SetTrue}
use Rattle.clap.specs.declared.builder.value_parser.ValueParser.{ValueParser}
use Rattle.clap.specs.declared.builder.value_parser.ValueParser.TheVariants.{Unsigned}

-- a flag with two dashes that has no value
abbrev pub flag : Text → Rule
flag name = record (new_rule name) { long = Some name; action = Some SetTrue }

-- `--max-nesting N`
abbrev pub max_nesting : Rule
max_nesting = record (new_rule (codes "max-nesting")) { long = Some (codes "max-nesting"); value_names = 1; parser = Some (Unsigned 0 512) }

-- `-o`, `--output-format`, and `-i`, `--input-format`: one of some names
abbrev pub format : ℕ → Text → ValueParser → Rule
format short long names = record (new_rule (codes "format")) { short = Some short; long = Some long; value_names = 1; parser = Some names }

-- `--annotate`: one of some names
abbrev pub annotate : ValueParser → Rule
annotate names = record (new_rule (codes "annotate")) { long = Some (codes "annotate"); value_names = 1; parser = Some names }

-- `-O`, `--output`: a file that gets the output in place of what it has
abbrev pub replaced : Rule
replaced = record (new_rule (codes "replaced")) { long = Some (codes "output"); short = Some 79; value_names = 1 }

-- INPUT and OUTPUT
abbrev pub file : Text → Rule
file id = record (new_rule id) { value_names = 1 }

-- what the commands that read EDN take, those that write it, and all of them
abbrev pub edn_input : List Rule
edn_input = flag (codes "annotate-tags") ∷ flag (codes "apply-999") ∷ []

abbrev pub edn_output : ValueParser → List Rule
edn_output annotations = flag (codes "aol-to-item") ∷ flag (codes "no-bignum-from-tags") ∷ annotate annotations ∷ []

abbrev pub common : List Rule
common = max_nesting ∷ replaced ∷ file (codes "input") ∷ file (codes "output") ∷ []

-- a command that takes more
abbrev pub with_rules : App → List Rule → App
with_rules a more = record a { top = record a.top { rules = a.top.rules ++ more } }

abbrev pub diag2cbor : ValueParser → App
diag2cbor formats = with_rules (new_app (codes "diag2cbor")) (format 111 (codes "output-format") formats ∷ edn_input ++ common)

abbrev pub cbor2diag : ValueParser → ValueParser → App
cbor2diag formats annotations =
    with_rules (new_app (codes "cbor2diag"))
    (format 105 (codes "input-format") formats ∷ flag (codes "no-annotate-tags") ∷ edn_output annotations ++ common)

abbrev pub diag2diag : ValueParser → App
diag2diag annotations =
    with_rules (new_app (codes "diag2diag"))
    (edn_input ++ edn_output annotations ++ flag (codes "preserve-space") ∷ flag (codes "remove-comments") ∷ common)

-- `--levels N`
abbrev pub levels : Rule
levels = record (new_rule (codes "levels")) { long = Some (codes "levels"); value_names = 1; parser = Some (Unsigned 0 255) }

-- `--check`, which lists files
abbrev pub only_lists : Rule
only_lists = record (flag (codes "list")) { long = Some (codes "check") }

-- FILE, as often as there are files
abbrev pub files : Rule
files = record (new_rule (codes "files")) { action = Some Append; value_names = 1 }

-- flags of `show` that leave out a step which it takes by default
abbrev pub steps_left_out : List Rule
steps_left_out = flag (codes "no-embedded") ∷ flag (codes "no-names") ∷ flag (codes "no-bignum-from-tags") ∷ []

abbrev pub show : ValueParser → ValueParser → App
show formats annotations =
    with_rules (new_app (codes "show"))
    (format 105 (codes "input-format") formats ∷ levels ∷ (steps_left_out ++ (annotate annotations ∷ max_nesting ∷ files ∷ [])))

abbrev pub fmt : App
fmt = with_rules (new_app (codes "fmt")) (only_lists ∷ flag (codes "remove-comments") ∷ flag (codes "force") ∷ max_nesting ∷ files ∷ [])

abbrev pub check : App
check = with_rules (new_app (codes "check")) (flag (codes "apply-999") ∷ flag (codes "cbor") ∷ max_nesting ∷ files ∷ [])

-- a program with a version, of which a command is wanted
abbrev pub wants_command : App → App
wants_command a = record a { top = record a.top { has_version = true; subcommand_required = true } }

-- commands of a program, one behind the other
abbrev pub with_commands : App → List App → App
with_commands a [] = a
with_commands a (b ∷ more) = with_commands (with_subcommand a b.top) more

-- `cbor-edn` with its commands, and `help`, by the parsers of the names of formats and of annotations
abbrev pub program : ValueParser → ValueParser → App
program formats annotations =
    with_commands (wants_command (new_app (codes "cbor-edn")))
    (diag2cbor formats ∷ cbor2diag formats annotations ∷ diag2diag annotations ∷ show formats annotations ∷ fmt ∷ check ∷ [])
