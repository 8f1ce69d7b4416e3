-- What is formatted has the same items.
use Rattle.std.proofs.Common.{◌≡◌, ◌≤◌, sym, ap, subst, ◌∙◌}
use Rattle.std.specs.Str.{IsUtf8}
use Rattle.cbor_edn_parts.specs.space.Spacing.{indented}
use Rattle.cbor_edn_parts.specs.declared.space.policy.DelimiterPolicy.TheVariants.{DiscardAll}
use Rattle.cbor_edn_model.specs.text.Spelling.{SpellsSequence}
use Rattle.cbor_edn_model.specs.tree.Items.{Items, nesting}
use Rattle.cbor_edn_model.specs.tree.Trees.{Tree, Seq, items}
use Rattle.cbor_edn_model.proofs.lemmas.text.GrammarLaws.{spelled_by_trees}
use Rattle.cbor_edn_command.specs.FileOptions.{format_steps}
use Rattle.cbor_edn_command.specs.declared.file_options.FormatOptions.{FormatOptions}
use Rattle.cbor_edn.specs.Format.{FormattedOnce, FormatsSameItems, is_ended, ended}
use Rattle.cbor_edn.specs.RunSteps.{StepsGive}
use Rattle.cbor_edn.proofs.LineFeeds.{spelled_ended, utf8_ended}
use Rattle.cbor_edn.proofs.RunsOnce.{one_output}
use Rattle.cbor_edn.proofs.StepsKept.{where_items, laid_items}

steps_items : (f : FormatOptions) (w v : Tree Seq) → StepsGive (format_steps f) w v → items v ≡ items w
steps_items f w v h =
    let first : items h.uncommented ≡ items w = where_items f.remove_comments DiscardAll h.annotated h.uncommented h.comments ∙ ap (λ (t : Tree Seq). items t) h.tags in
    let stays : h.tagged ≡ h.uncommented = h.others ∙ (h.bignums ∙ (h.claims ∙ h.literals)) in
    laid_items indented h.tagged v h.spaces ∙ (ap (λ (t : Tree Seq). items t) stays ∙ first)

pub formatted_once : FormattedOnce
formatted_once f input a b (t, output, is) (u, other, also) = is ∙ (ap ended (one_output (format_steps f) input t u output other) ∙ sym also)

pub formats_same_items : FormatsSameItems
formats_same_items f input out (t, (w, v, read, steps, printed), is) =
    let same : items v ≡ items w = steps_items f w v steps in
    let spelled : SpellsSequence (items v) t = subst (SpellsSequence (items v)) (sym printed.2) (spelled_by_trees.2 v printed.0) in
    let whole : SpellsSequence (items v) out = subst (SpellsSequence (items v)) (sym is) (spelled_ended (is_ended t) (items v) t spelled) in
    let (again, valid, merged, items_same, prints) = spelled_by_trees.0 (items v) out whole in (
      w,
      again,
      read,
      record {
        utf8 = subst IsUtf8 (sym is) (utf8_ended (is_ended t) t printed.1);
        prints = prints;
        valid = valid;
        merged = merged;
        within = subst (λ (x : Items). nesting x ≤ f.limit) (sym (items_same ∙ same)) read.within;
      },
      items_same ∙ same,
    )
