use Rattle.std.proofs.Common.{◌∷◌, ◌++◌, [], ap, ◌∙◌, append_assoc}
use Rattle.std.proofs.lemmas.List.{replicate_more}
use Rattle.cbor_edn_parts.specs.base.Buffer.{buffer_bytes}
use Rattle.cbor_edn_parts.specs.space.Spacing.{line}
use Rattle.cbor_edn_parts.proofs.space.spaced.print_long_line.Goals as goal

pub spaces-init : goal.spaces-init
unfolding line
spaces-init c = c.reserve.ensures ∙ c.in_ok-push_str.ensures.pushed

pub spaces-preserved : goal.spaces-preserved
unfolding line
spaces-preserved c =
    c.in_ok-push_str-2.ensures.pushed
    ∙ ap (λ t. t ++ (32 ∷ [])) c.spaces.invariant
    ∙ append_assoc (buffer_bytes c.args.out.now) (line c.spaces.counter) (32 ∷ [])
    ∙ ap (λ t. buffer_bytes c.args.out.now ++ (10 ∷ t)) (replicate_more c.spaces.counter 32)
