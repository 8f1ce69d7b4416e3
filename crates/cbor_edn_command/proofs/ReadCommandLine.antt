-- From what the calls of `clap` answer to what is read off a command line.
use Rattle.std.proofs.Common.{◌≡◌, ◌≢◌, ◌≤◌, ◌<◌, ℕ, Bool, true, false, ◌⊎◌, inl, inr, List, [], ◌∷◌, ◌++◌, Option, Some, None, refl, sym, subst, ap, ap₂, ◌∙◌, append_assoc, arith, ne_eqb}
use mathlib.Core.Logic.{⊎_elim}
use Rattle.std.proofs.lemmas.Bool.Decides.{nat_tests}
use Rattle.std.specs.Char.{digit_value}
use Rattle.std.specs.Prelude.{◌||◌, ◌==◌, cond, drop, not, slice_index, Box, codes, unwrap_or, option_map}
use Rattle.std.specs.Box.{box_value}
use Rattle.std.specs.Option.{option_map_or}
use Rattle.std.specs.Str.{bytes_eq}
use Rattle.std.specs.Str.Parse.{IsNumeral, digits_value, without_leading_plus}
use Rattle.clap.specs.Matches.{first_value, one_text}
use Rattle.clap.specs.Values.{kind_of}
use Rattle.clap.specs.declared.error.Error.{Error}
use Rattle.clap.specs.declared.error.kind.ErrorKind.{ErrorKind}
use Rattle.clap.specs.declared.error.kind.ErrorKind.TheVariants.{OutOfMemory}
use Rattle.clap.specs.declared.parser.matches.Found.{Found}
use Rattle.clap.specs.Words.{AddsArg, AddsSubcommand, App, HasKind, IsAmong, Row, Rule, Text, app_of, fault_of, first_of, is_simple_and_free, new_app, rows_of, subcommand_of, subcommand_rows, with_rule, with_subcommand}
use Rattle.clap.specs.declared.builder.arg.Arg.{Arg}
use Rattle.clap.specs.declared.builder.command.Command.{Command}
use Rattle.clap.specs.declared.builder.command.Command.TheViews.{out-Command}
use Rattle.clap.specs.declared.builder.value_parser.ValueParser.{ValueParser}
use Rattle.clap.specs.declared.parser.matches.SubCommand.{SubCommand}
use Rattle.clap.specs.declared.parser.matches.ArgMatches.TheViews.{out-SubCommand}
use Rattle.clap.proofs.OnLiterals.{clap_on_literals}
use Rattle.clap.proofs.WalkLemmas.{first_value-rows, one_text-rows}
use Rattle.cbor_edn_command.specs.CommandLine as line
use Rattle.cbor_edn_command.specs.ProgramWords.{cbor2diag, check, diag2cbor, diag2diag, fmt, program, show, wants_command, with_rules}
use Rattle.cbor_edn_command.specs.CommandLineSteps.{GrowsBy, IsArgOf, IsCommandOf, IsProgram}

-- ---- entries

pub file_named : (f : Found) (id name : Text) → Some name ≡ first_value f id → name ≡ line.file_of id (rows_of f)
file_named f id name is = ap (λ o. unwrap_or o (codes "-")) (is ∙ first_value-rows f id)

pub file_left_out : (f : Found) (id : Text) → None ≡ first_value f id → codes "-" ≡ line.file_of id (rows_of f)
file_left_out f id is = ap (λ o. unwrap_or o (codes "-")) (is ∙ first_value-rows f id)

pub outputs : (f : Found) (a b : Option Text) → a ≡ first_value f (codes "replaced") → b ≡ first_value f (codes "output") → line.output_of a b ≡ line.output_by (rows_of f)
outputs f a b is too = ap₂ line.output_of (is ∙ first_value-rows f (codes "replaced")) (too ∙ first_value-rows f (codes "output"))

abbrev names : Text → Option Text → Bool
names value o = option_map_or (λ t. bytes_eq t value) o false

pub value_given : (f : Found) (id value name : Text) (b : Bool) → b ≡ bytes_eq name value → Some name ≡ first_value f id → b ≡ line.is_value id value (rows_of f)
value_given f id value name b same is = same ∙ ap (names value) (is ∙ first_value-rows f id)

pub value_left_out : (f : Found) (id value : Text) → None ≡ first_value f id → false ≡ line.is_value id value (rows_of f)
value_left_out f id value is = ap (names value) (is ∙ first_value-rows f id)

pub number_left_out : (f : Found) (flag : Text) (default most : ℕ) → None ≡ first_value f flag → line.IsNumber default most (first_of flag (rows_of f)) default
number_left_out f flag default most is = rw (sym (is ∙ first_value-rows f flag)) refl

-- a number that was read is that of digits alone, where no plus sign stands in front
pub number_read : (f : Found) (flag word : Text) (default most number : ℕ) (plus : Bool) → Some word ≡ first_value f flag
    → IsNumeral 10 (without_leading_plus word) → number ≡ digits_value 10 (without_leading_plus word) → plus ≡ (slice_index word 0 == 43) → plus ≡ false
    → number ≤ most → line.IsNumber default most (first_of flag (rows_of f)) number
number_read f flag word default most number plus is numeral value looked none within =
    let same : without_leading_plus word ≡ word = ap (λ b. drop (cond b 1 0) word) (sym looked ∙ none) in
    rw (sym (is ∙ first_value-rows f flag)) (subst (IsNumeral 10) same numeral, value ∙ ap (digits_value 10) same, within)

-- ---- words of which there is no number

no_sign : (c : ℕ) → digit_value c < 10 → c ≢ 43
no_sign c h = grind (arith, nat_tests)

pub no_plus : (w : Text) → IsNumeral 10 w → (slice_index w 0 == 43) ≡ false
no_plus [] h = absurd (omega arith)
no_plus (c ∷ w) h = ne_eqb c 43 (no_sign c h.1.0)

digits_alone : (w : Text) → IsNumeral 10 w → without_leading_plus w ≡ w
digits_alone w h = ap (λ b. drop (cond b 1 0) w) (no_plus w h)

pub no_number : (f : Found) (flag word : Text) (default most : ℕ) → Some word ≡ first_value f flag → ((n : ℕ) → without_leading_plus word ≡ word → IsNumeral 10 word → n ≡ digits_value 10 word → n ≤ most → ⊥)
    → line.IsNoNumber default most (first_of flag (rows_of f))
no_number f flag word default most is none n = rw (sym (is ∙ first_value-rows f flag)) (λ h. none n (digits_alone word h.0) h.0 h.1 h.2)

pub flag_read : (f : Found) (id : Text) (b : Bool) → (one_text f id ≡ None → b ≡ false) → (one_text f id ≡ Some (codes "true") → b ≡ true)
    → (one_text f id ≡ Some (codes "false") → b ≡ false) → line.IsFlag id (rows_of f) b
flag_read f id b none on off = (λ e. none (one_text-rows f id ∙ e), λ e. on (one_text-rows f id ∙ e), λ e. off (one_text-rows f id ∙ e))

-- a flag that turns an option off
pub no_flag_read : (id : Text) (rows : List Row) (b : Bool) → line.IsFlag id rows b → line.IsNoFlag id rows (not b)
no_flag_read id rows true is = is
no_flag_read id rows false is = is

-- the subcommand that was met, by its name and its entries
pub entered : {Z : Type 0} (s : Option (Box SubCommand Z)) (name : Text) (rows : List Row)
    → Some name ≡ option_map (λ b. (out-SubCommand (box_value b)).name.now) s → Some rows ≡ option_map (λ p. p.1) (subcommand_rows s)
    → subcommand_rows s ≡ Some (name, rows)
entered None name rows is has = let bad : ⊥ = cc in absurd bad
entered (Some b) name rows is has = cc

-- ---- commands

pub or_false : (a b : Bool) → b ≡ false → (a || b) ≡ a
or_false true b e = refl
or_false false b e = e

-- one more argument, and more behind more
pub one : {old new : Command} {arg : Arg} {r : Rule} → AddsArg old arg new → IsArgOf r arg → GrowsBy (r ∷ []) old new
one {old} {new} {arg} {r} adds (is, local) = record {
  app = adds.shape local ∙ ap (λ x. with_rule (app_of old) x) is;
  local = adds.globals ∙ or_false (out-Command old).has_globals arg.global local;
}

pub more : {old mid new : Command} {rs ss : List Rule} → GrowsBy rs old mid → GrowsBy ss mid new → GrowsBy (rs ++ ss) old new
more {old} {mid} {new} {rs} {ss} first then = record {
  app =
      then.app ∙ ap (λ a. with_rules a ss) first.app
      ∙ ap (λ (l : List Rule). record (app_of old) { top = record (app_of old).top { rules = l } }) (append_assoc (app_of old).top.rules rs ss);
  local = then.local ∙ first.local;
}

pub grown : {old new : Command} {a : App} {rs : List Rule} → IsCommandOf a old → GrowsBy rs old new → IsCommandOf (with_rules a rs) new
grown {old} {new} {a} {rs} (is, local) by = (by.app ∙ ap (λ x. with_rules x rs) is, by.local ∙ local)

pub with_sub : (old sub new : Command) (a b : App) → IsCommandOf a old → AddsSubcommand old sub new → IsCommandOf b sub → IsCommandOf (with_subcommand a b.top) new
with_sub old sub new a b (is, local) adds (same, leaf) = (
  adds.shape leaf ∙ ap₂ with_subcommand is (ap (λ (x : App). x.top) same),
  adds.globals ∙ or_false (out-Command old).has_globals (out-Command sub).has_globals leaf ∙ local,
)

pub whole : (f a : ValueParser) → line.AreFormats f → line.AreAnnotations a → (top first second third fourth fifth sixth one_more two_more three_more four_more five_more new : Command)
    → IsCommandOf (wants_command (new_app (codes "cbor-edn"))) top
    → AddsSubcommand top first one_more → IsCommandOf (diag2cbor f) first
    → AddsSubcommand one_more second two_more → IsCommandOf (cbor2diag f a) second
    → AddsSubcommand two_more third three_more → IsCommandOf (diag2diag a) third
    → AddsSubcommand three_more fourth four_more → IsCommandOf (show f a) fourth
    → AddsSubcommand four_more fifth five_more → IsCommandOf fmt fifth
    → AddsSubcommand five_more sixth new → IsCommandOf check sixth
    → IsProgram new
whole f a are too top first second third fourth fifth sixth one_more two_more three_more four_more five_more new is add1 is1 add2 is2 add3 is3 add4 is4 add5 is5 add6 is6 =
    let with1 = with_sub top first one_more _ _ is add1 is1 in
    let with2 = with_sub one_more second two_more _ _ with1 add2 is2 in
    let with3 = with_sub two_more third three_more _ _ with2 add3 is3 in
    let with4 = with_sub three_more fourth four_more _ _ with3 add4 is4 in
    let with5 = with_sub four_more fifth five_more _ _ with4 add5 is5 in
    (f, a, are, too, with_sub five_more sixth new _ _ with5 add6 is6)

program_simple : (formats annotations : ValueParser) → is_simple_and_free (program formats annotations) ≡ true
unfolding clap_on_literals
program_simple formats annotations = refl

-- ---- what is found of words, and what is refused

module _ (words : List Text) (c : Command) (is_program : IsProgram c) where
  pub free : is_simple_and_free (app_of c) ≡ true
  free = let (f, a, are, too, is) = is_program in ap is_simple_and_free is.0 ∙ program_simple f a

  pub finds : (IsFound : Text × List Row → Type 0) (found : Text × List Row) → fault_of (app_of c) words ≡ [] → subcommand_of (app_of c) words ≡ Some found → IsFound found → line.Finds words IsFound
  finds IsFound found none met h =
      let (f, a, are, too, is) = is_program in
      (f, a, found, are, too, subst (λ (x : App). fault_of x words ≡ []) is.0 none, subst (λ (x : App). subcommand_of x words ≡ Some found) is.0 met, h)

  module _ (IsMisread : Option (Text × List Row) → ErrorKind → Type 0) (e : Error) where
    pub refused : HasKind (fault_of (app_of c) words) e → line.Refuses words IsMisread e
    refused kinds =
        let (f, a, are, too, is) = is_program in
        ⊎_elim inl (λ among. inr (f, a, are, too, inl (subst (λ (x : App). IsAmong (kind_of e) (fault_of x words)) is.0 among))) kinds

    pub misread : (found : Option (Text × List Row)) → fault_of (app_of c) words ≡ [] → subcommand_of (app_of c) words ≡ found → (kind_of e ≡ OutOfMemory) ⊎ IsMisread found (kind_of e)
        → line.Refuses words IsMisread e
    misread found none met h =
        let (f, a, are, too, is) = is_program in
        ⊎_elim inl
        (λ no_command. inr (f, a, are, too, inr (subst (λ (x : App). fault_of x words ≡ []) is.0 none, subst (λ o. IsMisread o (kind_of e)) (sym met ∙ ap (λ (x : App). subcommand_of x words) is.0) no_command)))
        h
