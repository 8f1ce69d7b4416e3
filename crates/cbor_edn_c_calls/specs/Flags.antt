-- What a caller that is not Rattle asks for, by numbers.
use Rattle.std.specs.Prelude.{◌≡◌, ◌≢◌, ◌||◌, ℕ, ◌<◌, ◌≤◌, ◌+◌, ◌*◌, ◌⊎◌, Bool, true, false, List, [], ◌∷◌}
use Rattle.cbor_edn_parts.specs.declared.base.nesting.TheConstants.{NESTING_LIMIT}
use Rattle.cbor_edn_command.specs.declared.options.Command.{Command}
use Rattle.cbor_edn_command.specs.declared.options.Command.TheVariants.{Diag2Cbor, Cbor2Diag, Diag2Diag}
use Rattle.cbor_edn_command.specs.declared.options.Options.{Options}
use Rattle.cbor_edn_command.specs.declared.file_options.ShowOptions.{ShowOptions}
use Rattle.cbor_edn_command.specs.declared.file_options.TheConstants.{MOST_LEVELS}
use Rattle.cbor_edn_c_calls.specs.declared.flags.Asked.{Asked}
use Rattle.cbor_edn_c_calls.specs.declared.flags.Asked.TheVariants.{Run, Show}

abbrev pub command_number : Command → ℕ
command_number Diag2Cbor = 0
command_number Cbor2Diag = 1
command_number Diag2Diag = 2

abbrev pub bit : Bool → ℕ
bit false = 0
bit true = 1

-- flags as one number, the first as its lowest bit
abbrev pub bits : List Bool → ℕ
bits [] = 0
bits (b ∷ bs) = bit b + 2 * bits bs

-- The flags of some options: 1, 2, 4, 8, 16, 32, 64 and 128, in the order in which a run takes its steps.
abbrev pub flag_bits : Options → ℕ
flag_bits o = bits (o.hex ∷ o.annotate_tags ∷ o.remove_comments ∷ o.aol_to_item ∷ o.annotate_ccs ∷ o.bignum_from_tags ∷ o.apply_999 ∷ o.preserve_space ∷ [])

-- the options that three numbers ask for
abbrev pub IsAsked : ℕ → ℕ → ℕ → Options → Type 0
IsAsked command flags limit o = (command ≡ command_number o.command) × (flags ≡ flag_bits o) × (limit ≡ o.limit) × (limit ≤ NESTING_LIMIT)

-- three numbers of which one is no command, no sum of flags or too high a limit
abbrev pub IsOutOfRange : ℕ → ℕ → ℕ → Type 0
IsOutOfRange command flags limit = (2 < command) ⊎ (255 < flags) ⊎ (NESTING_LIMIT < limit)

-- ---- what is shown

-- The flags of `show`: those of a run at their places, 256 for names, and 512 for each level.
abbrev pub show_bits : ShowOptions → ℕ
show_bits s = bits (s.hex ∷ false ∷ false ∷ false ∷ s.annotate_ccs ∷ s.bignum_from_tags ∷ false ∷ false ∷ s.names ∷ []) + 512 * s.levels

-- the options of `show` that two numbers ask for
abbrev pub IsShowAsked : ℕ → ℕ → ShowOptions → Type 0
IsShowAsked flags limit s = (flags ≡ show_bits s) × (s.levels ≤ MOST_LEVELS) × (limit ≡ s.limit) × (limit ≤ NESTING_LIMIT)

-- flags with one that `show` has not, or with more levels
abbrev pub HasOthers : ℕ → Type 0
HasOthers flags =
    (hex tags comments literals claims bignums others spaces names : Bool) × (levels : ℕ)
    × (flags ≡ bits (hex ∷ tags ∷ comments ∷ literals ∷ claims ∷ bignums ∷ others ∷ spaces ∷ names ∷ []) + 512 * levels)
    × (((tags || (comments || (literals || (others || spaces)))) ≡ true) ⊎ (MOST_LEVELS < levels))

abbrev pub IsNoShow : ℕ → ℕ → Type 0
IsNoShow flags limit = HasOthers flags ⊎ (NESTING_LIMIT < limit)

-- ---- what is asked for

-- `show` is command 3.
abbrev pub IsCallOf : ℕ → ℕ → ℕ → Asked → Type 0
IsCallOf command flags limit (Run o) = IsAsked command flags limit o
IsCallOf command flags limit (Show s) = (command ≡ 3) × IsShowAsked flags limit s

abbrev pub IsBadCall : ℕ → ℕ → ℕ → Type 0
IsBadCall command flags limit = ((command ≢ 3) × IsOutOfRange command flags limit) ⊎ ((command ≡ 3) × IsNoShow flags limit)
