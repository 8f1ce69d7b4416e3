-- What is decoded and shown is read and encoded as the same bytes.
use Rattle.std.proofs.Common.{◌≡◌, ◌≤◌, ℕ, List, sym, ap, subst, ◌∙◌, arith}
use Rattle.std.specs.Prelude.{if◌then◌else◌}
use Rattle.std.specs.Str.{IsUtf8}
use Rattle.cbor_edn_model.specs.tree.Items.{Items, nesting}
use Rattle.cbor_edn_model.specs.text.Spelling.{SpellsSequence}
use Rattle.cbor_edn_model.specs.tree.Trees.{Tree, Seq, items}
use Rattle.cbor_edn_model.proofs.lemmas.text.GrammarLaws.{spelled_by_trees}
use Rattle.cbor_edn_model.specs.cbor.Value.{Values, EncAll}
use Rattle.cbor_edn_conversions.specs.Resolvers.{literal_resolver}
use Rattle.cbor_edn_conversions.specs.Resolving.{means_by}
use Rattle.cbor_edn_conversions.proofs.conversions.Literals.{all_no_content}
use Rattle.cbor_edn_conversions.proofs.resolving.Resolved.{more_means}
use Rattle.cbor_edn_command.specs.Hexadecimal.{input_bytes, hex_lines}
use Rattle.cbor_edn_command.specs.declared.options.Command.{Command}
use Rattle.cbor_edn_command.specs.declared.options.Options.{Options}
use Rattle.cbor_edn.specs.RunLaws.{Shows, Encodes, ReadsBack}
use Rattle.cbor_edn.specs.RunSteps.{StepsGive}
use Rattle.cbor_edn.specs.Runs.{IsDecodedAs, IsPrintedAs, IsWrittenAs, Loads, IsOutput}
use Rattle.cbor_edn.proofs.RunsOnce.{ok_same, one_output}
use Rattle.cbor_edn.proofs.ShownNesting.{shown_within}
use Rattle.cbor_edn.proofs.StepsKept.{Means, steps_keep, resolved_means, steps_give}

-- what is shown of some bytes
record IsShown (o : Options) (bytes out : List ℕ) : Type 0 where
  pub decoded : Tree Seq
  pub shown : Tree Seq
  pub is_decoded : IsDecodedAs o.limit bytes decoded
  pub steps : StepsGive o decoded shown
  pub is_printed : IsPrintedAs shown out

shown_of : (o : Options) (bytes out : List ℕ) → Shows o → IsOutput o bytes out → IsShown o bytes out
shown_of o bytes out shows (w, v, loads, steps, written) =
    let loaded = subst (λ (c : Command). Loads c o bytes w) shows.command loads in
    let same = ok_same loaded.0 bytes (sym loaded.1 ∙ ap (λ h. input_bytes h bytes) shows.binary) in
    record {
      decoded = w;
      shown = v;
      is_decoded = subst (λ x. IsDecodedAs o.limit x w) same loaded.2;
      steps = steps;
      is_printed = subst (λ (c : Command). IsWrittenAs c o v out) shows.command written;
    }

-- Items that mean values, and nest within the limit, are read where a text spells them, and encoded as these values.
pub spelled_again : (back : Options) (bytes out : List ℕ) (shown : Items) (values : Values) (limit : ℕ) → Encodes back → back.limit ≡ limit → Means values shown → nesting shown ≤ limit
    → EncAll bytes values → SpellsSequence shown out → IsUtf8 out → IsOutput back out bytes
spelled_again back bytes out shown values limit encodes same_limit meant within encoded spelled utf8 =
    let (read, valid, merged, same, prints) = spelled_by_trees.0 shown out spelled in
    let made = steps_give back encodes read in
    let means_values = resolved_means values back encodes read made.0 made.1 (ap (λ x. means_by literal_resolver x) same ∙ meant) in (
      read,
      made.0,
      subst (λ (c : Command). Loads c back out read) (sym encodes.command) (record {
        utf8 = utf8;
        prints = prints;
        valid = valid;
        merged = merged;
        within = omega (arith, ap nesting same, within, same_limit);
      }),
      made.1,
      subst (λ (c : Command). IsWrittenAs c back made.0 bytes) (sym encodes.command) (values, bytes, means_values, encoded, sym (ap (λ b. if b then hex_lines bytes else bytes) encodes.binary)),
    )

pub printed_spells : (shown : Tree Seq) (out : List ℕ) → IsPrintedAs shown out → SpellsSequence (items shown) out
printed_spells shown out printed = subst (SpellsSequence (items shown)) (sym printed.2) (spelled_by_trees.2 shown printed.0)

encoded_again : (there back : Options) (bytes out : List ℕ) → Shows there → Encodes back → back.limit ≡ there.limit → IsShown there bytes out → IsOutput back out bytes
encoded_again there back bytes out shows encodes same_limit h =
    let values = h.is_decoded.0.values in
    let meant : Means values (items h.shown) = steps_keep values there shows.literals_stay h.decoded h.shown h.steps (more_means literal_resolver all_no_content (items h.decoded) values h.is_decoded.0.meant) in
    let within = shown_within there h.decoded h.shown shows there.limit bytes h.is_decoded h.steps in
    spelled_again back bytes out (items h.shown) values there.limit encodes same_limit meant within h.is_decoded.0.encoded (printed_spells h.shown out h.is_printed) h.is_printed.1

pub reads_back : ReadsBack
reads_back there back bytes out shows encodes same_limit output =
    let again = encoded_again there back bytes out shows encodes same_limit (shown_of there bytes out shows output) in
    (again, λ b other. one_output back out b bytes other again)
