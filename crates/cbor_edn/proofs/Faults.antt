-- An input with a fault has no output, and it has one fault.
use Rattle.std.proofs.Common.{◌≡◌, ℕ, ◌≤◌, List, Some, refl, sym, ap, subst, ◌∙◌, arith}
use Rattle.std.specs.Prelude.{Option, None, Result, Ok, Err, IsErr}
use Rattle.std.specs.Str.{IsUtf8}
use Rattle.cbor_edn_parts.specs.declared.base.error.ParseError.{ParseError}
use Rattle.cbor_edn_parts.specs.declared.base.error.ParseErrorKind.{ParseErrorKind}
use Rattle.cbor_edn_parts.specs.declared.base.error.ParseErrorKind.TheVariants as parse
use Rattle.cbor_edn_parts.specs.base.Errors.{error_kind}
use Rattle.cbor_edn_model.specs.declared.cbor.decode.CborError.{CborError}
use Rattle.cbor_edn_model.specs.declared.cbor.decode.CborError.TheVariants as cbor
use Rattle.cbor_edn_model.specs.tree.Items.{nesting}
use Rattle.cbor_edn_model.specs.cbor.Meaning.{means}
use Rattle.cbor_edn_model.specs.text.Spelling.{SpellsSequence}
use Rattle.cbor_edn_model.specs.tree.Trees.{Tree, Seq, items}
use Rattle.cbor_edn_model.specs.cbor.Value.{Values}
use Rattle.cbor_edn_model.proofs.lemmas.cbor.MeaningSteps.{some_is}
use Rattle.cbor_edn_model.specs.text.Parsing.{Unparsed}
use Rattle.cbor_edn_model.proofs.lemmas.text.GrammarLaws.{spelled_by_trees}
use Rattle.cbor_edn_command.specs.Hexadecimal.{input_bytes}
use Rattle.cbor_edn_command.specs.declared.options.Command.{Command}
use Rattle.cbor_edn_command.specs.declared.options.Command.TheVariants.{Diag2Cbor, Cbor2Diag, Diag2Diag}
use Rattle.cbor_edn_command.specs.declared.options.Options.{Options}
use Rattle.cbor_edn.specs.declared.engine.RunError.{RunError}
use Rattle.cbor_edn.specs.declared.engine.RunError.TheVariants.{Read, NotUtf8, Parse, Cbor, Hex, Inconsistent, Write, Memory}
use Rattle.cbor_edn.specs.RunLaws.{Fault, NoText, NoItems, NoEncodings, NoDigits, NoMeaning, fault_of, OutputOrFault, OneFault}
use Rattle.cbor_edn.specs.RunSteps.{StepsGive}
use Rattle.cbor_edn.specs.Runs.{IsReadAs, IsDecodedAs, Loads, IsWrittenAs, IsOutput, IsUndecoded, ReadsText, IsRefused}
use Rattle.cbor_edn.proofs.RunsOnce.{read_once, ok_same, steps_give_once}

-- ---- what contradicts what

text_and_bytes : (c : Command) → ReadsText c → c ≡ Cbor2Diag → ⊥
text_and_bytes c text is = subst (λ (c : Command). ReadsText c) is text

text_loads : (c : Command) (o : Options) (input : List ℕ) (w : Tree Seq) → ReadsText c → Loads c o input w → IsReadAs o.limit input w
text_loads Diag2Cbor o input w text loads = loads
text_loads Cbor2Diag o input w text loads = absurd text
text_loads Diag2Diag o input w text loads = loads

unparsed_by : (limit : ℕ) (input : List ℕ) (e : ParseError) (w : Tree Seq) (k : ParseErrorKind) → error_kind e ≡ k → Unparsed SpellsSequence limit input e → SpellsSequence (items w) input → nesting (items w) ≤ limit → ⊥
unparsed_by limit input e w parse.Invalid is u spelled within = u.invalid is (items w) spelled
unparsed_by limit input e w parse.TooDeep is u spelled within = let deep = (u.too_deep is).deeper (items w) spelled in omega (arith, deep, within)

pub read_or_unparsed : (limit : ℕ) (input : List ℕ) (e : ParseError) (w : Tree Seq) → Unparsed SpellsSequence limit input e → IsReadAs limit input w → ⊥
read_or_unparsed limit input e w u read = unparsed_by limit input e w (error_kind e) refl u (subst (SpellsSequence (items w)) read.prints (spelled_by_trees.2 w read.valid)) read.within

decoded_or_not : (limit : ℕ) (bytes : List ℕ) (e : CborError) (w : Tree Seq) → IsUndecoded limit bytes e → IsDecodedAs limit bytes w → ⊥
decoded_or_not limit bytes cbor.TooDeep w u d = let deep = (u.1 refl).1 d.0.values d.0.encoded in let within = d.0.within in omega (arith, deep, within)
decoded_or_not limit bytes e w u d = u.0 (λ is. cc) d.0.values d.0.encoded

pub digits_or_none : {E : Type 0} (r : Result (List ℕ) E) (bytes : List ℕ) → IsErr r → r ≡ Ok bytes → ⊥
digits_or_none (Ok b) bytes none is = cc
digits_or_none (Err e) bytes none is = cc

means_or_none : (vs : Values) (o : Option Values) → o ≡ Some vs → o ≡ None → ⊥
means_or_none vs o is none = let both : Some vs ≡ None = sym is ∙ none in cc

-- ---- what each fault says of an input

module _ (o : Options) (input : List ℕ) where
  abbrev pub Faulty : Fault → Type 0
  Faulty NoText = ReadsText o.command × ¬ IsUtf8 input
  Faulty NoItems = ReadsText o.command × IsUtf8 input × ((w : Tree Seq) → IsReadAs o.limit input w → ⊥)
  Faulty NoEncodings = (o.command ≡ Cbor2Diag) × (bytes : List ℕ) × (input_bytes o.hex input ≡ Ok bytes) × ((w : Tree Seq) → IsDecodedAs o.limit bytes w → ⊥)
  Faulty NoDigits = (o.command ≡ Cbor2Diag) × IsErr (input_bytes o.hex input)
  Faulty NoMeaning = (o.command ≡ Diag2Cbor) × (w v : Tree Seq) × IsReadAs o.limit input w × StepsGive o w v × (means (items v) ≡ None)

  pub faulty : (e : RunError) (f : Fault) → IsRefused o input e → fault_of e ≡ Some f → Faulty f
  faulty Read f r is = absurd r
  faulty NotUtf8 f r is = subst Faulty (some_is NoText f is) r
  faulty (Parse e) f r is = subst Faulty (some_is NoItems f is) (r.0, r.1.0, λ w. read_or_unparsed o.limit input e w r.1.1)
  faulty (Cbor e) f r is = subst Faulty (some_is NoEncodings f is) (r.0, r.1.0, r.1.1, λ w. decoded_or_not o.limit r.1.0 e w r.1.2)
  faulty Hex f r is = subst Faulty (some_is NoDigits f is) r
  faulty (Inconsistent e) f r is = subst Faulty (some_is NoMeaning f is) (r.0, r.1.0, r.1.1, r.1.2, r.1.3, r.1.4)
  faulty Write f r is = absurd r
  faulty (Memory e) f r is = absurd cc

  -- ---- an output or a fault

  bytes_loaded : (w : Tree Seq) → o.command ≡ Cbor2Diag → Loads o.command o input w → (bytes : List ℕ) × (input_bytes o.hex input ≡ Ok bytes) × IsDecodedAs o.limit bytes w
  bytes_loaded w is loads = subst (λ (c : Command). Loads c o input w) is loads

  no_output : (out : List ℕ) (f : Fault) → IsOutput o input out → Faulty f → ⊥
  no_output out NoText (w, v, loads, steps, written) h = h.1 (text_loads o.command o input w h.0 loads).utf8
  no_output out NoItems (w, v, loads, steps, written) h = h.2 w (text_loads o.command o input w h.0 loads)
  no_output out NoEncodings (w, v, loads, steps, written) h =
      let l = bytes_loaded w h.0 loads in
      h.3 w (subst (λ z. IsDecodedAs o.limit z w) (ok_same l.0 h.1 (sym l.1 ∙ h.2)) l.2)
  no_output out NoDigits (w, v, loads, steps, written) h = let l = bytes_loaded w h.0 loads in digits_or_none (input_bytes o.hex input) l.0 h.1 l.1
  no_output out NoMeaning (w, v, loads, steps, written) h =
      let read : IsReadAs o.limit input w = subst (λ (c : Command). Loads c o input w) h.0 loads in
      let encoded = subst (λ (c : Command). IsWrittenAs c o v out) h.0 written in
      let same : w ≡ h.1 = read_once o.limit input w h.1 read h.3 in
      let made : v ≡ h.2 = steps_give_once o h.1 v h.2 (subst (λ t. StepsGive o t v) same steps) h.4 in
      means_or_none encoded.0 (means (items v)) encoded.2 (ap (λ (t : Tree Seq). means (items t)) made ∙ h.5)

  -- ---- one fault

  texts_only : {P : Type 0} → ReadsText o.command → o.command ≡ Cbor2Diag → P
  texts_only text is = absurd (text_and_bytes o.command text is)

  items_only : {P : Type 0} → o.command ≡ Diag2Cbor → o.command ≡ Cbor2Diag → P
  items_only is also = let both : Diag2Cbor ≡ Cbor2Diag = sym is ∙ also in absurd cc

  fault_once : (f g : Fault) → Faulty f → Faulty g → f ≡ g
  fault_once NoText NoText a b = refl
  fault_once NoText NoItems a b = absurd (a.1 b.1)
  fault_once NoText NoEncodings a b = texts_only a.0 b.0
  fault_once NoText NoDigits a b = texts_only a.0 b.0
  fault_once NoText NoMeaning a b = absurd (a.1 b.3.utf8)
  fault_once NoItems NoText a b = absurd (b.1 a.1)
  fault_once NoItems NoItems a b = refl
  fault_once NoItems NoEncodings a b = texts_only a.0 b.0
  fault_once NoItems NoDigits a b = texts_only a.0 b.0
  fault_once NoItems NoMeaning a b = absurd (a.2 b.1 b.3)
  fault_once NoEncodings NoText a b = texts_only b.0 a.0
  fault_once NoEncodings NoItems a b = texts_only b.0 a.0
  fault_once NoEncodings NoEncodings a b = refl
  fault_once NoEncodings NoDigits a b = absurd (digits_or_none (input_bytes o.hex input) a.1 b.1 a.2)
  fault_once NoEncodings NoMeaning a b = items_only b.0 a.0
  fault_once NoDigits NoText a b = texts_only b.0 a.0
  fault_once NoDigits NoItems a b = texts_only b.0 a.0
  fault_once NoDigits NoEncodings a b = absurd (digits_or_none (input_bytes o.hex input) b.1 a.1 b.2)
  fault_once NoDigits NoDigits a b = refl
  fault_once NoDigits NoMeaning a b = items_only b.0 a.0
  fault_once NoMeaning NoText a b = absurd (b.1 a.3.utf8)
  fault_once NoMeaning NoItems a b = absurd (b.2 a.1 a.3)
  fault_once NoMeaning NoEncodings a b = items_only a.0 b.0
  fault_once NoMeaning NoDigits a b = items_only a.0 b.0
  fault_once NoMeaning NoMeaning a b = refl

pub output_or_fault : OutputOrFault
output_or_fault o input out e f output refused is = no_output o input out f output (faulty o input e f refused is)

pub one_fault : OneFault
one_fault o input d e f g a b is also = fault_once o input f g (faulty o input d f a is) (faulty o input e g b also)
