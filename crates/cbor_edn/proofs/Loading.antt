-- From what a call of the tree answers to what a run says.
use Rattle.std.proofs.Common.{◌≡◌, ℕ, List, Some, Bool, true, false, not, refl, ap, sym, subst, ◌∙◌}
use Rattle.std.specs.Str.{IsUtf8}
use Rattle.cbor_edn_core.specs.text.Parsing.{ParsedSequence}
use Rattle.cbor_edn_model.specs.cbor.Decoded.{IsDecodedSequence}
use Rattle.cbor_edn_model.specs.layout.Layout.{laid_out}
use Rattle.cbor_edn_model.specs.cbor.Meaning.{means}
use Rattle.cbor_edn_model.specs.tree.Trees.{Tree, Seq, Valid, items, text}
use Rattle.cbor_edn_model.specs.cbor.Value.{Values, EncAll}
use Rattle.cbor_edn_core.specs.tree.View.{Sequence, sequence_tree}
use Rattle.cbor_edn_core.proofs.lemmas.text.Printable.{sequence_valid}
use Rattle.cbor_edn_model.proofs.lemmas.layout.Layouts.{keeps_items, stays_valid}
use Rattle.cbor_edn_parts.specs.space.Spacing.{indented}
use Rattle.cbor_edn_model.proofs.lemmas.text.Tested.{valid}
use Rattle.std.specs.Prelude.{Result, Ok, Err, IfOk, ◌||◌}
use Rattle.std.specs.declared.alloc.AllocError.{AllocError}
use Rattle.std.specs.declared.alloc.Global.{Global}
use Rattle.std.specs.declared.vec.Vec.{Vec}
use Rattle.cbor_edn_stream.specs.Tags.{values_have_tag}
use Rattle.cbor_edn.specs.ChangedTags.{tags_changed}
use Rattle.cbor_edn_stream.proofs.lemmas.Tested.{decoded_tree, decoded_valid}
use Rattle.cbor_edn_parts.specs.base.Refusals.{IfTold}
use Rattle.cbor_edn_parts.specs.declared.base.error.Fault.{Fault}
use Rattle.cbor_edn_parts.specs.declared.base.error.Fault.TheVariants.{Memory, Told}
use Rattle.cbor_edn_parts.specs.declared.base.error.InconsistentEdn.{InconsistentEdn}
use Rattle.cbor_edn_model.specs.cbor.Meaning.{NoEncoding}
use Rattle.cbor_edn_command.specs.Hexadecimal.{input_bytes}
use Rattle.cbor_edn.specs.Runs.{IsReadAs, IsDecodedAs, IsPrintedAs, IsRefused, told_as}
use Rattle.cbor_edn.specs.RunSteps.{Where, IsLaidOut, StepsGive}
use Rattle.cbor_edn.specs.OptionSteps.{IsEncoded, IsUnencoded, IsDiagnosed, IsUndiagnosed}
use Rattle.cbor_edn.proofs.UntaggedSteps.{kept_steps_give}
use Rattle.cbor_edn_command.specs.declared.options.Command.TheVariants.{Cbor2Diag}
use Rattle.cbor_edn.specs.declared.engine.RunError.{RunError}
use Rattle.cbor_edn.specs.declared.engine.RunError.TheVariants.{Read, NotUtf8, Parse, Cbor, Hex, Inconsistent, Write}
use Rattle.cbor_edn.specs.declared.engine.RunError.TheVariants as run
use Rattle.cbor_edn_command.specs.declared.options.Options.{Options}

-- what holds of an answer's value holds of it in its box
pub of_boxed : {T E : Type 0} (P : T → Type 0) (answer : Result T E) (x : T) → answer ≡ Ok x → IfOk answer P → P x
of_boxed P answer x is holds = subst (λ r. IfOk r P) is holds

pub read_as : (limit : ℕ) (input t : List ℕ) (x : Sequence) → t ≡ input → IsUtf8 input → ParsedSequence limit t x → IsReadAs limit input (sequence_tree x)
read_as limit input t x same utf8 parsed = record {
  utf8 = utf8;
  prints = parsed.prints ∙ same;
  valid = valid (sequence_tree x) (sequence_valid x);
  merged = parsed.merged;
  within = parsed.accepted.within;
}

pub decoded_as : (limit : ℕ) (bytes : List ℕ) (x : Sequence) → IsDecodedSequence limit bytes (sequence_tree x) → IsDecodedAs limit bytes (sequence_tree x)
decoded_as limit bytes x d = (d, valid (sequence_tree x) (sequence_valid x))

-- the last step, which sets spaces alone
abbrev pub Last : Options → Tree Seq → Tree Seq → Type 0
Last o = Where (not o.preserve_space) (IsLaidOut indented)

-- what it gives, where nothing has need of it
abbrev pub spaced : Bool → Tree Seq → Tree Seq
spaced true w = laid_out indented w
spaced false w = w

is_spaced : (asked : Bool) (w : Tree Seq) → Where asked (IsLaidOut indented) w (spaced asked w)
is_spaced true w = refl
is_spaced false w = refl

same_items : (asked : Bool) (w : Tree Seq) → items (spaced asked w) ≡ items w
same_items true w = keeps_items Seq indented w
same_items false w = refl

abbrev pub IsShownAs : Options → Tree Seq → List ℕ → Type 0
IsShownAs o w out = (v : Tree Seq) × StepsGive o w v × IsPrintedAs v out

shown_valid : (asked : Bool) (w v : Tree Seq) → Where asked (IsLaidOut indented) w v → Valid w → Valid v
shown_valid true w v laid is = subst Valid (sym laid) (stays_valid Seq indented w is)
shown_valid false w v same is = subst Valid (sym same) is

pub printed_text : (o : Options) (w : Tree Seq) (between : Sequence) (r : Result (Vec ℕ Global) AllocError) → ((v : Tree Seq) → Last o (sequence_tree between) v → StepsGive o w v)
    → IfOk r (λ out. (v : Tree Seq) × Last o (sequence_tree between) v × (out.items ≡ text v)) → IfOk r (λ out. IsUtf8 out.items) → IfOk r (λ out. IsShownAs o w out.items)
printed_text o w between (Ok out) give (v, laid, is) utf8 = (v, give v laid, (shown_valid (not o.preserve_space) (sequence_tree between) v laid (valid (sequence_tree between) (sequence_valid between)), utf8, is))
printed_text o w between (Err e) give is utf8 = tt

-- a text that was printed without the tree
pub streamed_as : (o : Options) (bytes out : List ℕ) (w : Tree Seq) (has : Bool) → IsDecodedSequence o.limit bytes w → ((vs : Values) → EncAll bytes vs → has ≡ values_have_tag (tags_changed o.annotate_tags o.bignum_from_tags) vs) → has ≡ false
    → (o.remove_comments || (o.aol_to_item || (o.annotate_ccs || (o.apply_999 || o.preserve_space)))) ≡ false
    → IsUtf8 out → out ≡ text (laid_out indented w) → IsDiagnosed o bytes out
streamed_as o bytes out w has d tells none off utf8 is =
    let good = decoded_valid o.limit bytes w d in
    let tree = decoded_tree o.limit bytes w d in
    let given = kept_steps_give o d.values (laid_out indented w) (sym (tells d.values d.encoded) ∙ none) off (ap (λ (t : Tree Seq). laid_out indented t) tree) in
    (w, laid_out indented w, (d, good), subst (λ (t : Tree Seq). StepsGive o t (laid_out indented w)) (sym tree) given, (stays_valid Seq indented w good, utf8, is))

-- a tree that is printed where it is lent
pub printed_as : (o : Options) (out : List ℕ) (lent x : Sequence) → lent ≡ x → IsShownAs o (sequence_tree lent) out → IsShownAs o (sequence_tree x) out
printed_as o out lent x same is = subst (λ (s : Sequence). IsShownAs o (sequence_tree s) out) same is

-- what the steps but the last give, where the tree moves in and out of its box
pub taken : (o : Options) (lent x after now : Sequence) → lent ≡ x → now ≡ after → ((v : Tree Seq) → Last o (sequence_tree after) v → StepsGive o (sequence_tree lent) v)
    → (v : Tree Seq) → Last o (sequence_tree now) v → StepsGive o (sequence_tree x) v
taken o lent x after now same left give =
    subst (λ (s : Sequence). (v : Tree Seq) → Last o (sequence_tree now) v → StepsGive o (sequence_tree s) v) same
    (subst (λ (s : Sequence). (v : Tree Seq) → Last o (sequence_tree s) v → StepsGive o (sequence_tree lent) v) (sym left) give)

pub encoded_as : (o : Options) (input bytes : List ℕ) (w t : Tree Seq) → IsReadAs o.limit input w → ((v : Tree Seq) → Last o t v → StepsGive o w v)
    → (vs : Values) × (means (items t) ≡ Some vs) × EncAll bytes vs → IsEncoded o input bytes
encoded_as o input bytes w t read give (vs, meant, enc) =
    (w, spaced (not o.preserve_space) t, vs, read, give _ (is_spaced (not o.preserve_space) t), ap means (same_items (not o.preserve_space) t) ∙ meant, enc)

refused_with : (o : Options) (input : List ℕ) (w t : Tree Seq) (f : Fault InconsistentEdn) → IsReadAs o.limit input w → ((v : Tree Seq) → Last o t v → StepsGive o w v)
    → IfTold {X = Unit {0}} (Err f) (NoEncoding (means (items t))) → IsUnencoded o input (told_as Inconsistent f)
refused_with o input w t (Memory e) read give none = tt
refused_with o input w t (Told e) read give none = (w, spaced (not o.preserve_space) t, read, give _ (is_spaced (not o.preserve_space) t), ap means (same_items (not o.preserve_space) t) ∙ none)

pub unencoded_as : (o : Options) (input : List ℕ) (w t : Tree Seq) (f : Fault InconsistentEdn) (e : RunError) → IsReadAs o.limit input w → ((v : Tree Seq) → Last o t v → StepsGive o w v)
    → e ≡ told_as Inconsistent f → IfTold {X = Unit {0}} (Err f) (NoEncoding (means (items t))) → IsUnencoded o input e
unencoded_as o input w t f e read give is none = subst (IsUnencoded o input) (sym is) (refused_with o input w t f read give none)

-- where the input itself is what is decoded
pub refused_bytes : (o : Options) (input : List ℕ) (e : RunError) → o.command ≡ Cbor2Diag → o.hex ≡ false → IsUndiagnosed o input e → IsRefused o input e
refused_bytes o input Read is binary refused = refused
refused_bytes o input NotUtf8 is binary refused = absurd refused
refused_bytes o input (Parse e) is binary refused = absurd refused
refused_bytes o input (Cbor e) is binary refused = (is, (input, ap (λ b. input_bytes b input) binary, refused))
refused_bytes o input Hex is binary refused = absurd refused
refused_bytes o input (Inconsistent e) is binary refused = absurd refused
refused_bytes o input Write is binary refused = refused
refused_bytes o input (run.Memory e) is binary refused = tt
