use Rattle.std.proofs.Common.{inl, inr, sym, ◌∙◌}
use Rattle.cbor_edn_c_calls.proofs.FlagSums.{summed}
use Rattle.cbor_edn_c_calls.proofs.flags.show_options_of.Goals as goal
use Rattle.cbor_edn_c_calls.proofs.flags.show_options_of.Goals.{then-other-via-then-other, then-other-via-else-other+then-levels-gt-MOST_LEVELS}

pub returns-then-other-clause-none : goal.returns-then-other-clause-none
returns-then-other-clause-none c = λ none.
    inl (
      c.split-hex.result.0,
      c.split-annotate_tags.result.0,
      c.split-remove_comments.result.0,
      c.split-aol_to_item.result.0,
      c.split-annotate_ccs.result.0,
      c.split-bignum_from_tags.result.0,
      c.split-apply_999.result.0,
      c.split-preserve_space.result.0,
      c.split-names.result.0,
      c.split-names.result.1,
      summed _ _ _ _ _ _ _ _ _ _ _ _ _ _ _ _ _ _ _ c.split-hex.ensures c.split-annotate_tags.ensures c.split-remove_comments.ensures c.split-aol_to_item.ensures c.split-annotate_ccs.ensures
          c.split-bignum_from_tags.ensures c.split-apply_999.ensures c.split-preserve_space.ensures c.split-names.ensures,
      elim c.then-other.branch [
        | then-other-via-then-other w ↦ inl (sym c.any-other.ensures ∙ w.if-other.true)
        | then-other-via-else-other+then-levels-gt-MOST_LEVELS w ↦ inr w.if-levels-gt-MOST_LEVELS.true
      ],
    )
