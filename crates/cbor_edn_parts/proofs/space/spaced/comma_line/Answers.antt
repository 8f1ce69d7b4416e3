use Rattle.std.proofs.Common.{ℕ, suc, ◌+◌, ◌-◌, ◌<◌, ◌≡◌, ◌≤◌, List, ◌∷◌, take, ap, ◌∙◌, arith}
use Rattle.std.specs.Prelude.{replicate}
use Rattle.std.specs.List.{slice_range}
use Rattle.std.specs.Str.{IsAscii}
use Rattle.std.proofs.lemmas.List.{take-replicate}
use Rattle.std.proofs.lemmas.List.Elements.{All-cons, All-replicate}
use Rattle.std.proofs.lemmas.Str.{IsCharBoundary-from_ascii}
use Rattle.std.proofs.lemmas.Str.Ascii.{IsAscii-from_all}
use Rattle.cbor_edn_parts.specs.space.Spacing.{line}
use Rattle.cbor_edn_parts.proofs.space.spaced.comma_line.Goals as goal

abbrev spaces : List ℕ
spaces = replicate 64 32

abbrev longest : List ℕ
longest = 44 ∷ 10 ∷ spaces

abbrev Small : ℕ → Type 0
Small b = b < 128

is_ascii : IsAscii longest
is_ascii = IsAscii-from_all longest (All-cons Small 44 (10 ∷ spaces) (omega arith) (All-cons Small 10 spaces (omega arith) (All-replicate Small 64 32 (omega arith))))

as_taken : (n : ℕ) → n ≤ 64 → slice_range longest 0 (n + 2) ≡ 44 ∷ 10 ∷ replicate n 32
as_taken n le =
    let two : (n + 2) - 0 ≡ suc (suc n) = omega arith in
    ap (λ k. take k longest) two ∙ ap (λ t. 44 ∷ 10 ∷ t) (take-replicate n 64 32 le)

pub range-requires-clause-end_boundary : goal.range-requires-clause-end_boundary
range-requires-clause-end_boundary c = IsCharBoundary-from_ascii longest (c.args.indent + 2) is_ascii (omega (arith, c.requires))

pub returns : goal.returns
unfolding line
returns c = c.range.ensures.value ∙ as_taken c.args.indent c.requires
