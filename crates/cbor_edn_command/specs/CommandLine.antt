-- What is read off the entries that `clap` finds for the words of a conversion, and which words are refused.
use Rattle.std.specs.Prelude.{◌≡◌, ◌≤◌, ℕ, Bool, true, false, not, ◌⊎◌, List, [], ◌∷◌, map, codes, Option, Some, None, unwrap_or, if◌then◌else◌}
use Rattle.std.specs.Str.{bytes_eq}
use Rattle.std.specs.Str.Parse.{IsNumeral, digits_value}
use Rattle.std.specs.Option.{option_map_or}
use Rattle.clap.specs.Words.{IsAmong, Row, Text, fault_of, first_of, one_of, subcommand_of}
use Rattle.clap.specs.Values.{kind_of}
use Rattle.clap.specs.declared.builder.value_parser.ValueParser.{ValueParser}
use Rattle.clap.specs.declared.builder.value_parser.ValueParser.TheVariants.{Names}
use Rattle.clap.specs.declared.error.Error.{Error}
use Rattle.clap.specs.declared.error.kind.ErrorKind.{ErrorKind}
use Rattle.clap.specs.declared.error.kind.ErrorKind.TheVariants.{ArgumentConflict, InvalidSubcommand, MissingSubcommand, OutOfMemory, ValueValidation}
use Rattle.cbor_edn_parts.specs.declared.base.nesting.TheConstants.{NESTING_LIMIT}
use Rattle.cbor_edn_command.specs.ProgramWords.{program}
use Rattle.cbor_edn_command.specs.declared.options.Command.{Command}
use Rattle.cbor_edn_command.specs.declared.options.Command.TheVariants.{Diag2Cbor, Cbor2Diag, Diag2Diag}
use Rattle.cbor_edn_command.specs.declared.options.Options.{Options}

abbrev pub command_named : Text → Option Command
command_named name =
    if bytes_eq name (codes "diag2cbor") then Some Diag2Cbor
    else if bytes_eq name (codes "cbor2diag") then Some Cbor2Diag
    else if bytes_eq name (codes "diag2diag") then Some Diag2Diag
    else None

-- a flag has this value
abbrev pub is_value : Text → Text → List Row → Bool
is_value id value rows = option_map_or (λ t. bytes_eq t value) (first_of id rows) false

-- The number of a word that is digits alone, where that is none too high, or the default where there is no word. `+5` is none.
abbrev pub IsNumber : ℕ → ℕ → Option Text → ℕ → Type 0
IsNumber default most (Some word) n = IsNumeral 10 word × (n ≡ digits_value 10 word) × (n ≤ most)
IsNumber default most None n = n ≡ default

-- There is a word, and no number of it: not digits alone, or too high.
abbrev pub IsNoNumber : ℕ → ℕ → Option Text → Type 0
IsNoNumber default most word = (n : ℕ) → ¬ IsNumber default most word n

-- How deep items may nest, by the word of `--max-nesting`, at most 512.
abbrev pub IsLimit : Option Text → ℕ → Type 0
IsLimit = IsNumber NESTING_LIMIT NESTING_LIMIT

abbrev pub IsNoLimit : Option Text → Type 0
IsNoLimit = IsNoNumber NESTING_LIMIT NESTING_LIMIT

-- the name of a file, or `-`
abbrev pub file_of : Text → List Row → Text
file_of id rows = unwrap_or (first_of id rows) (codes "-")

-- The name of the output, and whether its file is replaced, by FILE of `-O` and by OUTPUT; none where there are both.
abbrev pub output_of : Option Text → Option Text → Option (Text × Bool)
output_of None None = Some (codes "-", false)
output_of None (Some name) = Some (name, false)
output_of (Some name) None = Some (name, true)
output_of (Some _) (Some _) = None

abbrev pub output_by : List Row → Option (Text × Bool)
output_by rows = output_of (first_of (codes "replaced") rows) (first_of (codes "output") rows)

-- An option by a command's entries: on where a flag is given. A flag that the command has is there, as `true` or `false`.
abbrev pub IsFlag : Text → List Row → Bool → Type 0
IsFlag id rows on = (one_of id rows ≡ None → on ≡ false) × (one_of id rows ≡ Some (codes "true") → on ≡ true) × (one_of id rows ≡ Some (codes "false") → on ≡ false)

-- on, unless a flag is given
abbrev pub IsNoFlag : Text → List Row → Bool → Type 0
IsNoFlag id rows on = IsFlag id rows (not on)

-- on where a flag has this value
abbrev pub IsValue : Text → Text → List Row → Bool → Type 0
IsValue id value rows on = on ≡ is_value id value rows

-- always so
abbrev pub IsAlways : Bool → List Row → Bool → Type 0
IsAlways default rows on = on ≡ default

-- ---- the options, by the flags of each command

abbrev pub IsHex : Command → List Row → Bool → Type 0
IsHex Diag2Cbor = IsValue (codes "format") (codes "hex")
IsHex Cbor2Diag = IsValue (codes "format") (codes "hex")
IsHex Diag2Diag = IsAlways false

abbrev pub AnnotatesTags : Command → List Row → Bool → Type 0
AnnotatesTags Diag2Cbor = IsFlag (codes "annotate-tags")
AnnotatesTags Cbor2Diag = IsNoFlag (codes "no-annotate-tags")
AnnotatesTags Diag2Diag = IsFlag (codes "annotate-tags")

abbrev pub Applies999 : Command → List Row → Bool → Type 0
Applies999 Diag2Cbor = IsFlag (codes "apply-999")
Applies999 Cbor2Diag = IsAlways false
Applies999 Diag2Diag = IsFlag (codes "apply-999")

-- literals of times and addresses have no encoding, and what they stand for has one
abbrev pub ResolvesLiterals : Command → List Row → Bool → Type 0
ResolvesLiterals Diag2Cbor = IsAlways true
ResolvesLiterals Cbor2Diag = IsFlag (codes "aol-to-item")
ResolvesLiterals Diag2Diag = IsFlag (codes "aol-to-item")

-- a bignum and the tag that stands for it have the same encoding
abbrev pub ReadsBignums : Command → List Row → Bool → Type 0
ReadsBignums Diag2Cbor = IsAlways false
ReadsBignums Cbor2Diag = IsNoFlag (codes "no-bignum-from-tags")
ReadsBignums Diag2Diag = IsNoFlag (codes "no-bignum-from-tags")

abbrev pub AnnotatesClaims : Command → List Row → Bool → Type 0
AnnotatesClaims Diag2Cbor = IsAlways false
AnnotatesClaims Cbor2Diag = IsValue (codes "annotate") (codes "ccs")
AnnotatesClaims Diag2Diag = IsValue (codes "annotate") (codes "ccs")

abbrev pub RemovesComments : Command → List Row → Bool → Type 0
RemovesComments Diag2Diag = IsFlag (codes "remove-comments")
RemovesComments _ = IsAlways false

abbrev pub PreservesSpace : Command → List Row → Bool → Type 0
PreservesSpace Diag2Diag = IsFlag (codes "preserve-space")
PreservesSpace _ = IsAlways false

-- The options of a command, but for its limit, are those that its entries set.
pub record AreSet (rows : List Row) (o : Options) : Type 0 where
  pub hex : IsHex o.command rows o.hex
  pub annotate_tags : AnnotatesTags o.command rows o.annotate_tags
  pub apply_999 : Applies999 o.command rows o.apply_999
  pub aol_to_item : ResolvesLiterals o.command rows o.aol_to_item
  pub bignum_from_tags : ReadsBignums o.command rows o.bignum_from_tags
  pub annotate_ccs : AnnotatesClaims o.command rows o.annotate_ccs
  pub remove_comments : RemovesComments o.command rows o.remove_comments
  pub preserve_space : PreservesSpace o.command rows o.preserve_space

-- The options, the two names and whether the output's file is replaced, read off a command's name and its entries.
pub record IsReadOff (found : Text × List Row) (o : Options) (source target : Text) (replaces : Bool) : Type 0 where
  pub command : command_named found.0 ≡ Some o.command
  pub flags : AreSet found.1 o
  pub limit : IsLimit (first_of (codes "max-nesting") found.1) o.limit
  pub input : source ≡ file_of (codes "input") found.1
  pub output : output_by found.1 ≡ Some (target, replaces)

-- a parser that takes these names alone
abbrev pub AreNames : List Text → ValueParser → Type 0
AreNames texts (Names names) = map (λ s. s.now) names.now ≡ texts
AreNames _ _ = ⊥

abbrev pub AreFormats : ValueParser → Type 0
AreFormats = AreNames (codes "hex" ∷ codes "binary" ∷ codes "auto" ∷ [])

abbrev pub AreAnnotations : ValueParser → Type 0
AreAnnotations = AreNames (codes "ccs" ∷ [])

-- `clap` finds no fault in the words, and a command's name and entries of which this holds. Each value is one that its flag takes: a format is
-- `hex`, `binary` or `auto`, and what is annotated is `ccs`.
abbrev pub Finds : List Text → (Text × List Row → Type 0) → Type 0
Finds words IsFound =
    (formats annotations : ValueParser) × (found : Text × List Row) × AreFormats formats × AreAnnotations annotations
    × (fault_of (program formats annotations) words ≡ []) × (subcommand_of (program formats annotations) words ≡ Some found) × IsFound found

-- The options, the two names and whether the output's file is replaced, read off what is found.
abbrev pub IsReadFrom : List Text → Options → Text → Text → Bool → Type 0
IsReadFrom words o source target replaces = Finds words (λ found. IsReadOff found o source target replaces)

-- Words are refused: memory ran out; or `clap` finds a fault of this kind, help and the version among them; or it finds none, and what it finds
-- is no command line.
abbrev pub Refuses : List Text → (Option (Text × List Row) → ErrorKind → Type 0) → Error → Type 0
Refuses words IsMisread e =
    (kind_of e ≡ OutOfMemory) ⊎ ((formats annotations : ValueParser) × AreFormats formats × AreAnnotations annotations
    × (IsAmong (kind_of e) (fault_of (program formats annotations) words)
    ⊎ ((fault_of (program formats annotations) words ≡ []) × IsMisread (subcommand_of (program formats annotations) words) (kind_of e))))

-- No command, none of this name, no number of levels, or two outputs.
abbrev pub IsMisread : Option (Text × List Row) → ErrorKind → Type 0
IsMisread None kind = kind ≡ MissingSubcommand
IsMisread (Some (name, rows)) kind =
    ((kind ≡ InvalidSubcommand) × (command_named name ≡ None))
    ⊎ (((kind ≡ ValueValidation) × IsNoLimit (first_of (codes "max-nesting") rows)) ⊎ ((kind ≡ ArgumentConflict) × (output_by rows ≡ None)))

abbrev pub IsRefusedAs : List Text → Error → Type 0
IsRefusedAs words = Refuses words IsMisread
