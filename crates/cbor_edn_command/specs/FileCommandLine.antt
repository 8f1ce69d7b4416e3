-- What is read off the entries that `clap` finds for the words of a command for files, and which words are refused.
use Rattle.std.specs.Prelude.{◌≡◌, ◌||◌, ◌⊎◌, ℕ, Bool, true, false, Option, Some, None, if◌then◌else◌, List, [], ◌∷◌, codes, unwrap_or}
use Rattle.std.specs.Str.{bytes_eq}
use Rattle.clap.specs.Words.{Row, Text, all_of, first_of}
use Rattle.clap.specs.declared.error.Error.{Error}
use Rattle.clap.specs.declared.error.kind.ErrorKind.{ErrorKind}
use Rattle.clap.specs.declared.error.kind.ErrorKind.TheVariants.{InvalidSubcommand, MissingSubcommand, ValueValidation}
use Rattle.cbor_edn_command.specs.CommandLine.{Finds, IsFlag, IsLimit, IsNoFlag, IsNoLimit, IsNoNumber, IsNumber, IsValue, Refuses}
use Rattle.cbor_edn_command.specs.declared.file_options.FileCommand.{FileCommand}
use Rattle.cbor_edn_command.specs.declared.file_options.FileCommand.TheVariants.{Show, Format, Check}
use Rattle.cbor_edn_command.specs.declared.file_options.ShowOptions.{ShowOptions}
use Rattle.cbor_edn_command.specs.declared.file_options.FormatOptions.{FormatOptions}
use Rattle.cbor_edn_command.specs.declared.file_options.CheckOptions.{CheckOptions}
use Rattle.cbor_edn_command.specs.declared.file_options.TheConstants.{DEFAULT_LEVELS, MOST_LEVELS}

-- the words that name these commands
abbrev pub is_file_command : Text → Bool
is_file_command word = bytes_eq word (codes "show") || (bytes_eq word (codes "fmt") || bytes_eq word (codes "check"))

-- The levels of embedded CBOR: none behind `--no-embedded`, else the number of `--levels`, at most 255, or 8.
abbrev pub AreLevels : List Row → ℕ → Type 0
AreLevels rows n = (off : Bool) × IsFlag (codes "no-embedded") rows off
    × (shown : ℕ) × IsNumber DEFAULT_LEVELS MOST_LEVELS (first_of (codes "levels") rows) shown × (n ≡ (if off then 0 else shown))

-- The options of a command are those that its entries set.
pub record IsShow (rows : List Row) (o : ShowOptions) : Type 0 where
  pub hex : IsValue (codes "format") (codes "hex") rows o.hex
  pub levels : AreLevels rows o.levels
  pub names : IsNoFlag (codes "no-names") rows o.names
  pub bignum_from_tags : IsNoFlag (codes "no-bignum-from-tags") rows o.bignum_from_tags
  pub annotate_ccs : IsValue (codes "annotate") (codes "ccs") rows o.annotate_ccs
  pub limit : IsLimit (first_of (codes "max-nesting") rows) o.limit

pub record IsFormat (rows : List Row) (o : FormatOptions) : Type 0 where
  pub only_lists : IsFlag (codes "list") rows o.only_lists
  pub remove_comments : IsFlag (codes "remove-comments") rows o.remove_comments
  pub force : IsFlag (codes "force") rows o.force
  pub limit : IsLimit (first_of (codes "max-nesting") rows) o.limit

pub record IsCheck (rows : List Row) (o : CheckOptions) : Type 0 where
  pub apply_999 : IsFlag (codes "apply-999") rows o.apply_999
  pub cbor : IsFlag (codes "cbor") rows o.cbor
  pub limit : IsLimit (first_of (codes "max-nesting") rows) o.limit

-- A command, read off its name and its entries.
abbrev pub IsNamed : Text → Text → Type 0
IsNamed name word = bytes_eq name word ≡ true

abbrev pub IsCommand : Text × List Row → FileCommand → Type 0
IsCommand (name, rows) (Show o) = IsNamed name (codes "show") × IsShow rows o
IsCommand (name, rows) (Format o) = IsNamed name (codes "fmt") × IsFormat rows o
IsCommand (name, rows) (Check o) = IsNamed name (codes "check") × IsCheck rows o

-- the names of the files, or `-` where there are none
abbrev pub files_of : List Row → List Text
files_of rows = unwrap_or (all_of (codes "files") rows) (codes "-" ∷ [])

-- The command and the names, read off what is found.
abbrev pub IsFileCommandOf : List Text → FileCommand → List Text → Type 0
IsFileCommandOf words c names = Finds words (λ found. IsCommand found c × (names ≡ files_of found.1))

abbrev pub AreNoLevels : List Row → Type 0
AreNoLevels rows = IsNoNumber DEFAULT_LEVELS MOST_LEVELS (first_of (codes "levels") rows)

-- No command, none of this name, or no number of levels, of items or of embedded CBOR.
abbrev pub IsMisread : Option (Text × List Row) → ErrorKind → Type 0
IsMisread None kind = kind ≡ MissingSubcommand
IsMisread (Some (name, rows)) kind =
    ((kind ≡ InvalidSubcommand) × (is_file_command name ≡ false)) ⊎ ((kind ≡ ValueValidation) × (IsNoLimit (first_of (codes "max-nesting") rows) ⊎ AreNoLevels rows))

abbrev pub IsRefusedAs : List Text → Error → Type 0
IsRefusedAs words = Refuses words IsMisread
