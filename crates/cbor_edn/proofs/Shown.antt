-- What is shown, as the calls answer it, and its laws.
use Rattle.std.proofs.Common.{◌≡◌, ◌≤◌, ℕ, Bool, true, false, List, [], ◌∷◌, ◌++◌, sym, ap, subst, ◌∙◌, arith}
use Rattle.std.specs.Prelude.{◌-◌, if◌then◌else◌, not, Result, Ok, Err, IfOk, OnOk}
use Rattle.std.specs.Str.{IsUtf8}
use Rattle.std.specs.declared.alloc.AllocError.{AllocError}
use Rattle.std.specs.declared.alloc.Global.{Global}
use Rattle.std.specs.declared.vec.Vec.{Vec}
use Rattle.cbor_edn_core.specs.tree.View.{Sequence, sequence_tree}
use Rattle.cbor_edn_core.specs.visit.Callbacks.{ending}
use Rattle.cbor_edn_core.proofs.lemmas.text.Printable.{sequence_valid}
use Rattle.cbor_edn_parts.specs.space.Spacing.{indented}
use Rattle.cbor_edn_model.specs.cbor.Value.{Values}
use Rattle.cbor_edn_model.specs.tree.Items.{nesting}
use Rattle.cbor_edn_model.specs.text.Spelling.{SpellsSequence}
use Rattle.cbor_edn_model.specs.tree.Trees.{Tree, Seq, Valid, items, text}
use Rattle.cbor_edn_model.specs.visit.Seeking.{IsTag, IsApplication}
use Rattle.cbor_edn_model.specs.visit.Visits.{whole}
use Rattle.cbor_edn_model.proofs.lemmas.layout.Layouts.{stays_valid}
use Rattle.cbor_edn_model.proofs.lemmas.text.Tested.{valid}
use Rattle.cbor_edn_conversions.specs.EmbeddedItems.{show_embedded}
use Rattle.cbor_edn_conversions.specs.MessageClaims.{message_claims}
use Rattle.cbor_edn_conversions.specs.Resolvers.{literal_resolver}
use Rattle.cbor_edn_conversions.proofs.conversions.Literals.{all_applications, all_no_content}
use Rattle.cbor_edn_conversions.proofs.conversions.MessagesKept.{message_claims_keep}
use Rattle.cbor_edn_conversions.proofs.embedded.ShownMeanings.{shown_means}
use Rattle.cbor_edn_conversions.proofs.embedded.ShownVisits.{shown_at_once}
use Rattle.cbor_edn_conversions.proofs.resolving.Resolved.{more_means}
use Rattle.std.specs.Str.{chars}
use Rattle.cbor_edn_parts.specs.space.Notes.{noted}
use Rattle.cbor_edn_terminal.specs.Terminal.{shown_text, acts_in_lines, IsHarmlessInLines}
use Rattle.cbor_edn_terminal.proofs.Harmless.{line_feed, shown_is_harmless}
use Rattle.cbor_edn_harmless.specs.Harmless.{harmless}
use Rattle.cbor_edn_harmless.specs.HarmlessLaws.{IsHarmlessText}
use Rattle.cbor_edn_harmless.proofs.Kept.{harmless_keeps}
use Rattle.cbor_edn_harmless.proofs.Notes.{note_acts_on_nothing}
use Rattle.std.proofs.lemmas.Str.{NoCharPasses-append}
use Rattle.cbor_edn_application.specs.Acts.{IsVisited}
use Rattle.cbor_edn_application.proofs.VisitsTurn.{visit_keeps}
use Rattle.cbor_edn_command.specs.FileOptions.{show_steps}
use Rattle.cbor_edn_command.specs.Hexadecimal.{input_bytes}
use Rattle.cbor_edn_command.specs.declared.options.Options.{Options}
use Rattle.cbor_edn_command.specs.declared.file_options.ShowOptions.{ShowOptions}
use Rattle.cbor_edn.specs.Format.{ended, is_ended}
use Rattle.cbor_edn.specs.RunLaws.{Encodes, Fault, NoText, NoItems, NoEncodings, NoDigits, NoMeaning}
use Rattle.cbor_edn.specs.RunSteps.{Where, IsLaidOut, TagsVisited}
use Rattle.cbor_edn.specs.Runs.{IsDecodedAs, IsOutput, IsPrintedAs}
use Rattle.cbor_edn.specs.Show.{AreShown, EmbeddedShown, IsHarmlessOf, IsShown, IsWritten, ShowGives}
use Rattle.cbor_edn.specs.ShowLaws.{ShownOnce, ShownOrFault, ShownActsOnNothing, ShownReadsBack}
use Rattle.cbor_edn.proofs.Faults.{Faulty, faulty, digits_or_none}
use Rattle.cbor_edn.proofs.LineFeeds.{spelled_ended, utf8_ended}
use Rattle.cbor_edn.proofs.Returns.{printed_spells, spelled_again}
use Rattle.cbor_edn.proofs.RunsOnce.{decoded_once, ok_same, one_output}
use Rattle.cbor_edn.proofs.ShowNesting.{shown_within}
use Rattle.cbor_edn.proofs.ShowSteps.{KeptByShow, gives_kept, gives_once}
use Rattle.cbor_edn.proofs.StepsKept.{Keeps, Means, means_kept, tags_kept}

-- ---- what the calls answer

-- A whole visit shows all.
pub visited_shown : (levels limit : ℕ) (w v : Tree Seq) (r : Result (Unit {0}) AllocError) → IsVisited IsApplication (show_embedded levels (limit - nesting (items w))) w (ending r) v → OnOk r (EmbeddedShown levels limit w v)
visited_shown levels limit w v (Ok u) h = (shown_at_once levels (limit - nesting (items w)) h.0 h.1).1 w v h.2
visited_shown levels limit w v (Err e) h = tt

-- what is printed behind it
abbrev pub IsPrintedOf : ShowOptions → Tree Seq → List ℕ → Type 0
IsPrintedOf s w out = (v : Tree Seq) × ShowGives s w v × IsPrintedAs v out

abbrev pub IsShownOf : ShowOptions → Tree Seq → List ℕ → Type 0
IsShownOf s w out = (v : Tree Seq) × ShowGives s w v × IsWritten v out

pub ended_text : (s : ShowOptions) (w : Tree Seq) (text shown out : List ℕ) → IsPrintedOf s w text → ((v : Tree Seq) → IsPrintedAs v text → IsHarmlessOf v shown) → out ≡ ended shown → IsShownOf s w out
ended_text s w text shown out (v, gives, printed) made is = (v, gives, (shown, made v printed, is))

-- what a call makes of a text
pub made_harmless : (written : List ℕ) (out : List ℕ) → IsHarmlessText written out → (v : Tree Seq) → IsPrintedAs v written → IsHarmlessOf v out
made_harmless written out made v printed = (printed.0, subst IsUtf8 printed.2 printed.1, made v printed.0 (sym printed.2))

pub printed_text : (s : ShowOptions) (o : Options) (w : Tree Seq) (between : Sequence) (r : Result (Vec ℕ Global) AllocError) → o ≡ show_steps s
    → ((v : Tree Seq) → IsLaidOut indented (sequence_tree between) v → ShowGives s w v)
    → IfOk r (λ out. (v : Tree Seq) × Where (not o.preserve_space) (IsLaidOut indented) (sequence_tree between) v × (out.items ≡ text v)) → IfOk r (λ out. IsUtf8 out.items) → IfOk r (λ out. IsPrintedOf s w out.items)
printed_text s o w between (Ok out) is give (v, spaced, prints) utf8 =
    let laid : IsLaidOut indented (sequence_tree between) v = subst (λ (o : Options). Where (not o.preserve_space) (IsLaidOut indented) (sequence_tree between) v) is spaced in
    (v, give v laid, (subst Valid (sym laid) (stays_valid Seq indented (sequence_tree between) (valid (sequence_tree between) (sequence_valid between))), utf8, prints))
printed_text s o w between (Err e) is give printed utf8 = tt

-- a tree that is shown where it is lent
pub shown_as : (s : ShowOptions) (out : List ℕ) (lent x : Sequence) → lent ≡ x → IsShownOf s (sequence_tree lent) out → IsShownOf s (sequence_tree x) out
shown_as s out lent x same is = subst (λ (t : Sequence). IsShownOf s (sequence_tree t) out) same is

-- ---- one result

pub shown_once : ShownOnce
shown_once s input a b (x, is, (w, v, decoded, gives, printed)) (y, also, (t, u, read, give, print)) =
    let bytes : x ≡ y = ok_same x y (sym is ∙ also) in
    let loaded : w ≡ t = decoded_once s.limit y w t (subst (λ z. IsDecodedAs s.limit z w) bytes decoded) read in
    let made : v ≡ u = gives_once s t v u (subst (λ z. ShowGives s z v) loaded gives) give in
    let (shown, texts, is_out) = subst (λ z. IsWritten z a) made printed in
    let (other, others, is_other) = print in
    is_out ∙ (ap ended (texts.2 ∙ sym others.2) ∙ sym is_other)

no_shown : (s : ShowOptions) (input out : List ℕ) (f : Fault) → IsShown s input out → Faulty (show_steps s) input f → ⊥
no_shown s input out NoText shown h = h.0
no_shown s input out NoItems shown h = h.0
no_shown s input out NoEncodings (x, is, (w, v, decoded, gives, printed)) h = h.3 w (subst (λ z. IsDecodedAs s.limit z w) (ok_same x h.1 (sym is ∙ h.2)) decoded)
no_shown s input out NoDigits (x, is, (w, v, decoded, gives, printed)) h = digits_or_none (input_bytes s.hex input) x h.1 is
no_shown s input out NoMeaning shown h = let other = h.0 in cc

pub shown_or_fault : ShownOrFault
shown_or_fault s input out e f shown refused is = no_shown s input out f shown (faulty (show_steps s) input e f refused is)

-- ---- back again

-- claims in messages mean what they meant
messages_keep : (xs : Values) → Keeps (Means xs) (TagsVisited message_claims)
messages_keep xs w v h = visit_keeps IsTag message_claims literal_resolver (λ a w s. message_claims_keep a w) w v whole h xs

shown_kept : (xs : Values) (s : ShowOptions) → KeptByShow (Means xs) s
shown_kept xs s = record {
  embedded = λ w v shown e. subst (λ (t : Tree Seq). Means xs (items t)) (sym shown) ((shown_means literal_resolver (all_applications, all_no_content) s.levels (s.limit - nesting (items w))).1 w ∙ e);
  tags = tags_kept (Means xs) (means_kept xs);
  claims = (means_kept xs).claims;
  messages = messages_keep xs;
  bignums = (means_kept xs).bignums;
}

gives_mean : (s : ShowOptions) (bytes : List ℕ) (w v : Tree Seq) (d : IsDecodedAs s.limit bytes w) → ShowGives s w v → Means d.0.values (items v)
gives_mean s bytes w v d gives =
    let values = d.0.values in
    gives_kept (Means values) s (shown_kept values s) w v gives (more_means literal_resolver all_no_content (items w) values d.0.meant)

again : (s : ShowOptions) (back : Options) (bytes out : List ℕ) → Encodes back → back.limit ≡ s.limit → AreShown s bytes out → IsOutput back out bytes
again s back bytes out encodes same_limit (w, v, decoded, gives, (shown, made, is)) =
    let u = harmless v in
    let h = harmless_keeps v made.0 made.1 in
    let printed : IsPrintedAs u shown = (h.valid, subst IsUtf8 (sym made.2) h.utf8, made.2) in
    let spelled : SpellsSequence (items u) out = subst (SpellsSequence (items u)) (sym is) (spelled_ended (is_ended shown) (items u) shown (printed_spells u shown printed)) in
    let utf8 : IsUtf8 out = subst IsUtf8 (sym is) (utf8_ended (is_ended shown) shown printed.1) in
    let meant : Means decoded.0.values (items u) = h.meaning ∙ gives_mean s bytes w v decoded gives in
    let within : nesting (items u) ≤ s.limit = omega (arith, h.nested, shown_within s bytes w v decoded gives) in
    spelled_again back bytes out (items u) decoded.0.values s.limit encodes same_limit meant within decoded.0.encoded spelled utf8

pub shown_reads_back : ShownReadsBack
shown_reads_back s back input bytes out is encodes same_limit (x, read, shown) =
    let same : x ≡ bytes = ok_same x bytes (sym read ∙ is) in
    let output = again s back bytes out encodes same_limit (subst (λ z. AreShown s z out) same shown) in
    (output, λ b other. one_output back out b bytes other output)

-- ---- on a terminal

ended_in_lines : (b : Bool) (text : List ℕ) → IsHarmlessInLines text → IsHarmlessInLines (if b then text else text ++ (10 ∷ []))
ended_in_lines true text h = h
ended_in_lines false text h = NoCharPasses-append acts_in_lines text (10 ∷ []) h line_feed

pub shown_acts_on_nothing : ShownActsOnNothing
shown_acts_on_nothing s input out (x, read, (w, v, decoded, gives, (shown, made, is))) =
    let quiet : IsHarmlessInLines shown = subst IsHarmlessInLines (sym made.2) (harmless_keeps v made.0 made.1).acts_on_nothing in
    subst IsHarmlessInLines (sym is) (ended_in_lines (is_ended shown) shown quiet)

-- one file among several, behind its name
pub named_acts_on_nothing : (name text : List ℕ) → IsHarmlessInLines text → IsHarmlessInLines (ended (ended (noted (shown_text (chars name))) ++ text))
named_acts_on_nothing name text h =
    let note = noted (shown_text (chars name)) in
    let told = ended_in_lines (is_ended note) note (note_acts_on_nothing (shown_text (chars name)) (shown_is_harmless (chars name))) in
    ended_in_lines (is_ended (ended note ++ text)) (ended note ++ text) (NoCharPasses-append acts_in_lines (ended note) text told h)
