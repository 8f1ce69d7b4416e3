-- From what the calls of `first_in_text` answer to what it says.
use Rattle.std.proofs.Common.{◌≡◌, ◌≢◌, ℕ, List, [], Bool, true, false, Option, Some, None, refl, sym, ap, ◌∙◌, subst}
use Rattle.std.specs.Prelude.{not, Vec, Result, Ok, Err, IfOk, IfSome, IfNone}
use Rattle.cbor_edn_parts.specs.declared.base.error.InconsistentEdn.{InconsistentEdn}
use Rattle.cbor_edn_parts.specs.declared.base.error.ParseError.{ParseError}
use Rattle.cbor_edn_parts.specs.declared.base.error.Fault.{Fault}
use Rattle.cbor_edn_parts.specs.declared.base.error.Fault.TheVariants.{Told}
use Rattle.cbor_edn_parts.specs.base.Refusals.{IfTold}
use Rattle.cbor_edn_parts.specs.space.Spacing.{indented}
use Rattle.cbor_edn_model.specs.cbor.Meaning.{means}
use Rattle.cbor_edn_model.specs.layout.Layout.{laid_out}
use Rattle.cbor_edn_model.specs.text.Parsing.{Unparsed}
use Rattle.cbor_edn_model.specs.text.Spelling.{SpellsSequence}
use Rattle.cbor_edn_model.specs.tree.Trees.{Tree, Seq, items}
use Rattle.cbor_edn_model.proofs.lemmas.layout.Layouts.{keeps_items}
use Rattle.cbor_edn_core.specs.tree.View.{Sequence, sequence_tree}
use Rattle.cbor_edn_command.specs.declared.options.Options.{Options}
use Rattle.cbor_edn.specs.RunSteps.{Where, IsLaidOut, StepsGive}
use Rattle.cbor_edn.specs.Runs.{IsReadAs}
use Rattle.cbor_edn.proofs.Faults.{read_or_unparsed}
use Rattle.cbor_edn.proofs.RunsOnce.{read_once, steps_give_once}
use Rattle.cbor_edn_places.specs.Places.{IsCut, IsFound}
use Rattle.cbor_edn_places.proofs.Cuts.{leads_to_item}
use Rattle.cbor_edn_places.proofs.MeantItems.{all_mean}
use Rattle.cbor_edn_places.proofs.PathsOnItems.{same_first_path}
use Rattle.cbor_edn_findings.specs.WithoutEncoding.{IsFirstOffset, IsFirstWithout, NoneWithout}
use Rattle.cbor_edn_findings.specs.internal.Left.{HasMeaning, IsFoundLeft, IsLeft}
use Rattle.cbor_edn.proofs.CountedItems.{steps_count}

-- ---- the last step

spaced : (asked : Bool) (u : Tree Seq) → (v : Tree Seq) × Where asked (IsLaidOut indented) u v × (items u ≡ items v)
spaced true u = (laid_out indented u, refl, sym (keeps_items Seq indented u))
spaced false u = (u, refl, refl)

same_found : {A : Type 0} (u v : Tree Seq) (r : Option (Vec ℕ A × InconsistentEdn)) → items u ≡ items v → IsFound u r → IsFound v r
same_found u v None same all = same_first_path u v [] same all
same_found u v (Some p) same (some, first) = (some, same_first_path u v p.0.items same first)

found_left : {A : Type 0} (o : Options) (w u : Tree Seq) (r : Option (Vec ℕ A × InconsistentEdn)) → IsLeft o w u → IsFound u r → IsFoundLeft o w r
found_left o w u r left found = let v = spaced (not o.preserve_space) u in (v.0, left v.0 v.1, same_found u v.0 r v.2 found)

-- where the tree moves out of its box
pub lent_left : {A E : Type 0} (o : Options) (w : Tree Seq) (lent x : Sequence) (r : Result (Option (Vec ℕ A × InconsistentEdn)) E) → lent ≡ x → IsLeft o w (sequence_tree x) → IfOk r (IsFound (sequence_tree lent)) → IfOk r (IsFoundLeft o w)
lent_left o w lent x (Ok r) same left found = found_left o w (sequence_tree x) r left (subst (λ (s : Sequence). IsFound (sequence_tree s) r) same found)
lent_left o w lent x (Err e) same left found = tt

-- a path that is found has a front that leads to an item
pub never_empty : {A : Type 0} (o : Options) (w : Tree Seq) (r : Option (Vec ℕ A × InconsistentEdn)) (p : Vec ℕ A × InconsistentEdn) (cut : List ℕ) → r ≡ Some p → IsFoundLeft o w r → IsCut w p.0.items cut → cut ≢ []
never_empty o w r p cut is found is_cut = by (subst (λ r. IsFoundLeft o w r) is found)
  where
    by : IsFoundLeft o w (Some p) → cut ≢ []
    by (v, steps, (some, first)) = leads_to_item v w p.0.items cut (steps_count o w v steps) some first is_cut

pub all_meant : {A : Type 0} (o : Options) (w : Tree Seq) (r : Option (Vec ℕ A × InconsistentEdn)) → r ≡ None → IsFoundLeft o w r → HasMeaning o w
all_meant o w None is (v, steps, all) = (v, steps, all_mean v all)
all_meant o w (Some p) is found = absurd cc

-- ---- what is read

none_without : (o : Options) (text : List ℕ) (w : Tree Seq) → IsReadAs o.limit text w → HasMeaning o w → NoneWithout o text
none_without o text w is_read (v, steps, meant) = λ x y read give none.
    let same : x ≡ w = read_once o.limit text x w read is_read in
    let left : y ≡ v = steps_give_once o w y v (subst (λ (t : Tree Seq). StepsGive o t y) same give) steps in
    meant (ap (λ (t : Tree Seq). means (items t)) (sym left) ∙ none)

module _ {E : Type 0} (o : Options) (text : List ℕ) (w : Tree Seq) (read : IsReadAs o.limit text w) where
  pub first_read : (r : Result (Option (ℕ × InconsistentEdn)) E) → IfOk r (λ found. IfSome found (λ p. IsFirstOffset o w p.0)) → IfOk r (λ found. IfSome found (λ p. IsFirstWithout o text p.0))
  first_read (Ok (Some p)) first = (w, read, first)
  first_read (Ok None) first = tt
  first_read (Err e) first = tt

  pub none_of_read : (r : Result (Option (ℕ × InconsistentEdn)) E) → IfOk r (λ found. IfNone found (HasMeaning o w)) → IfOk r (λ found. IfNone found (NoneWithout o text))
  none_of_read (Ok (Some p)) meant = tt
  none_of_read (Ok None) meant = none_without o text w read meant
  none_of_read (Err e) meant = tt

pub none_read : (o : Options) (text : List ℕ) (f : Fault ParseError) (e : ParseError) → f ≡ Told e → IfTold {X = Unit {0}} (Err f) (Unparsed SpellsSequence o.limit text) → NoneWithout o text
none_read o text f e is unparsed = λ w v read steps none.
    read_or_unparsed o.limit text e w (subst (λ f. IfTold {X = Unit {0}} (Err f) (Unparsed SpellsSequence o.limit text)) is unparsed) read
