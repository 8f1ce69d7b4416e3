use Rattle.std.proofs.Common.{List, ℕ, map, ap, ◌∙◌, ◌++◌, Bor}
use Rattle.clap.specs.Words.{found_of}
use Rattle.cbor_edn_command.proofs.ReadFileCommandLine.{files_given, files_left_out}
use Rattle.cbor_edn_command.proofs.file_words.files_of.Goals as goal

pub returns-in_default : goal.returns-in_default
returns-in_default c = rw c.in_ok-push.ensures.items (rw c.new-names.ensures.items (files_left_out (found_of c.args.found.now) c.in_default.ensures))

pub returns : goal.returns
returns c =
    ap (λ (l : List (Bor (List ℕ))). map (λ w. w.now) l) (c.in_ok-extend_from_slice.ensures.items ∙ ap (λ (l : List (Bor (List ℕ))). l ++ c.in-Some.given.now) c.new-names.ensures.items)
    ∙ files_given (found_of c.args.found.now) c.in-Some.given c.in-Some.ensures
