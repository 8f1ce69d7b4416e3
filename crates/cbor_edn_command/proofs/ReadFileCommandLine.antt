-- From what the calls of `clap` answer to what is read off a command line of files.
use Rattle.std.proofs.Common.{◌≡◌, inl, inr, List, [], ◌∷◌, Some, None, ap, ◌∙◌}
use Rattle.std.specs.Prelude.{codes, map, unwrap_or, option_map}
use Rattle.std.specs.Borrow.{Bor}
use Rattle.clap.specs.Matches.{matched_of, raw_values}
use Rattle.clap.specs.declared.parser.matches.Found.{Found}
use Rattle.clap.specs.Words.{Row, Text, rows_of}
use Rattle.clap.specs.declared.error.kind.ErrorKind.{ErrorKind}
use Rattle.clap.proofs.WalkLemmas.{raw_values-rows}
use Rattle.cbor_edn_command.specs.FileCommandLine.{IsMisread, files_of}
use Rattle.cbor_edn_command.specs.FileCommandLineSteps.{IsMisreadAs, kind_of_misread}
use Rattle.cbor_edn_command.specs.declared.file_words.Misread.{Misread}
use Rattle.cbor_edn_command.specs.declared.file_words.Misread.TheVariants.{Name, Limit, Levels}

-- the names that are given, and `-` where none is
pub files_given : (f : Found) (given : Bor (List (Bor Text))) → Some (map (λ v. v.now) given.now) ≡ option_map raw_values (matched_of f (codes "files")) → map (λ v. v.now) given.now ≡ files_of (rows_of f)
files_given f given is = ap (λ o. unwrap_or o (codes "-" ∷ [])) (is ∙ raw_values-rows f (codes "files"))

pub files_left_out : (f : Found) → None ≡ option_map raw_values (matched_of f (codes "files")) → codes "-" ∷ [] ≡ files_of (rows_of f)
files_left_out f is = ap (λ o. unwrap_or o (codes "-" ∷ [])) (is ∙ raw_values-rows f (codes "files"))

-- the kind of a fault says what is misread
pub misread_kind : (found : Text × List Row) (misread : Misread) (k : ErrorKind) → k ≡ kind_of_misread misread → IsMisreadAs found misread → IsMisread (Some found) k
misread_kind found Name k is h = inl (is, h)
misread_kind found (Limit word) k is h = inr (is, inl h)
misread_kind found (Levels word) k is h = inr (is, inr h)
