-- One change more, and the moments that it makes.
use Rattle.std.proofs.Common.{◌≡◌, ◌≢◌, ℕ, List, [], ◌∷◌, ◌++◌, Option, Some, None, Bool, true, false, refl, sym, ap, ◌∙◌, subst, inl, inr}
use Rattle.std.specs.Prelude.{Decides, if◌then◌else◌, string_bytes, Result, Ok, Err, OnOk}
use Rattle.std.specs.Result.{is_ok}
use Rattle.std.specs.Str.{bytes_eq}
use Rattle.std.proofs.lemmas.Slice.Eq.{bytes_eq-Decides}
use Rattle.cbor_edn_files.specs.Moments.{State, newest, After, Ends, Holds, IsSame, IsSameBut, IsRenamed, IsMoved, EndsMoved, EndsSame}
use Rattle.cbor_edn_files_tests.specs.declared.memory.Change.{Change}
use Rattle.cbor_edn_files_tests.specs.declared.memory.Change.TheVariants.{Made, Renamed, Removed}
use Rattle.cbor_edn_files_tests.specs.Changes.{with_file, changed, moments_on, moments_of, IsMaking, IsRenaming, IsRemoval, IsOneMore}

-- ---- one change more

one_more_on : (ss : List State) (cs : List Change) (c : Change) → moments_on ss (cs ++ (c ∷ [])) ≡ changed c (newest (moments_on ss cs)) ∷ moments_on ss cs
one_more_on ss [] c = refl
one_more_on ss (d ∷ cs) c = one_more_on (changed d (newest ss) ∷ ss) cs c

pub one_more : (cs : List Change) (c : Change) → moments_of (cs ++ (c ∷ [])) ≡ changed c (newest (moments_of cs)) ∷ moments_of cs
one_more cs c = one_more_on ((λ _. None) ∷ []) cs c

pub newest_is : (cs : List Change) (c : Change) (name : List ℕ) → newest (moments_of (cs ++ (c ∷ []))) name ≡ changed c (newest (moments_of cs)) name
newest_is cs c name = ap (λ ss. newest ss name) (one_more cs c)

-- ---- one name

same_by : {A : Type 0} (b : Bool) (xs ys : List ℕ) (u v : A) → Decides b (xs ≡ ys) → xs ≡ ys → (if b then u else v) ≡ u
same_by true xs ys u v d e = refl
same_by false xs ys u v d e = let bad : false ≡ true = d.1 e in cc

other_by : {A : Type 0} (b : Bool) (xs ys : List ℕ) (u v : A) → Decides b (xs ≡ ys) → xs ≢ ys → (if b then u else v) ≡ v
other_by true xs ys u v d e = absurd (e (d.0 refl))
other_by false xs ys u v d e = refl

pub has_file : (name : List ℕ) (bytes : Option (List ℕ)) (s : State) → with_file name bytes s name ≡ bytes
has_file name bytes s = same_by (bytes_eq name name) name name bytes (s name) (bytes_eq-Decides name name) refl

pub keeps_others : (name : List ℕ) (bytes : Option (List ℕ)) (s : State) → IsSameBut name s (with_file name bytes s)
keeps_others name bytes s = λ other apart. other_by (bytes_eq other name) other name bytes (s other) (bytes_eq-Decides other name) apart

renames : (from to : List ℕ) (s : State) → IsRenamed from to s (with_file to (s from) (with_file from None s))
renames from to s = record {
  there = has_file to (s from) (with_file from None s);
  gone = λ apart. keeps_others to (s from) (with_file from None s) from apart ∙ has_file from None s;
  same = λ other a b. keeps_others to (s from) (with_file from None s) other b ∙ keeps_others from None s other a;
}

-- ---- what a call leaves

pub stays : (P : State → State → Type 0) (cs ds : List Change) → ds ≡ cs → After P (Some (moments_of cs)) (Some (moments_of ds))
stays P cs ds is = ([], ap (λ cs. Some (moments_of cs)) is, tt)

pub ends_same : (cs ds : List Change) → ds ≡ cs → EndsSame (Some (moments_of cs)) (Some (moments_of ds))
ends_same cs ds is = (moments_of ds, refl, λ name. ap (λ cs. newest (moments_of cs) name) is)

after_one : (P : State → State → Type 0) (cs ds : List Change) (c : Change) → ds ≡ cs ++ (c ∷ []) → P (newest (moments_of cs)) (changed c (newest (moments_of cs))) → After P (Some (moments_of cs)) (Some (moments_of ds))
after_one P cs ds c is h = (changed c (newest (moments_of cs)) ∷ [], ap (λ cs. Some (moments_of cs)) is ∙ ap Some (one_more cs c), (h, tt))

making : (name bytes : List ℕ) (c : Change) (s : State) → IsMaking name bytes c → IsSameBut name s (changed c s) × (changed c s name ≡ Some bytes)
making name bytes (Made n b) s h = (
  subst (λ m. IsSameBut m s (changed (Made n b) s)) h.0 (keeps_others (string_bytes n) (Some b.items) s),
  subst (λ m. changed (Made n b) s m ≡ Some bytes) h.0 (has_file (string_bytes n) (Some b.items) s ∙ ap Some h.1),
)
making name bytes (Renamed f t) s h = absurd h
making name bytes (Removed n) s h = absurd h

pub made_after : (name bytes : List ℕ) (cs ds : List Change) → IsOneMore (IsMaking name bytes) cs ds → After (IsSameBut name) (Some (moments_of cs)) (Some (moments_of ds))
made_after name bytes cs ds h = after_one (IsSameBut name) cs ds h.0 h.2 (making name bytes h.0 (newest (moments_of cs)) h.1).0

pub made_holds : (name bytes : List ℕ) (cs ds : List Change) → IsOneMore (IsMaking name bytes) cs ds → Holds (Some (moments_of ds)) name (Some bytes)
made_holds name bytes cs ds h = ap (λ cs. newest (moments_of cs) name) h.2 ∙ newest_is cs h.0 name ∙ (making name bytes h.0 (newest (moments_of cs)) h.1).1

renaming : (from to : List ℕ) (c : Change) (s : State) → IsRenaming from to c → IsRenamed from to s (changed c s)
renaming from to (Renamed f t) s h = subst (λ from. IsRenamed from to s (changed (Renamed f t) s)) h.0 (subst (λ to. IsRenamed (string_bytes f) to s (changed (Renamed f t) s)) h.1 (renames (string_bytes f) (string_bytes t) s))
renaming from to (Made n b) s h = absurd h
renaming from to (Removed n) s h = absurd h

pub renamed_after : (from to : List ℕ) (cs ds : List Change) → IsOneMore (IsRenaming from to) cs ds → After (IsMoved from to) (Some (moments_of cs)) (Some (moments_of ds))
renamed_after from to cs ds h = after_one (IsMoved from to) cs ds h.0 h.2 (inr (renaming from to h.0 (newest (moments_of cs)) h.1))

pub renamed_ends : (from to : List ℕ) (cs ds : List Change) → IsOneMore (IsRenaming from to) cs ds → EndsMoved from to (Some (moments_of cs)) (Some (moments_of ds))
renamed_ends from to cs ds h =
    (moments_of ds, refl, subst (λ t. IsRenamed from to (newest (moments_of cs)) t) (sym (ap (λ cs. newest (moments_of cs)) h.2 ∙ ap newest (one_more cs h.0))) (renaming from to h.0 (newest (moments_of cs)) h.1))

removing : (name : List ℕ) (c : Change) (s : State) → IsRemoval name c → IsSameBut name s (changed c s) × (changed c s name ≡ None)
removing name (Removed n) s h =
    (subst (λ m. IsSameBut m s (changed (Removed n) s)) h (keeps_others (string_bytes n) None s), subst (λ m. changed (Removed n) s m ≡ None) h (has_file (string_bytes n) None s))
removing name (Made n b) s h = absurd h
removing name (Renamed f t) s h = absurd h

pub removed_after : (name : List ℕ) (cs ds : List Change) → IsOneMore (IsRemoval name) cs ds → After (IsSameBut name) (Some (moments_of cs)) (Some (moments_of ds))
removed_after name cs ds h = after_one (IsSameBut name) cs ds h.0 h.2 (removing name h.0 (newest (moments_of cs)) h.1).0

pub removed_holds : (name : List ℕ) (cs ds : List Change) → IsOneMore (IsRemoval name) cs ds → Holds (Some (moments_of ds)) name None
removed_holds name cs ds h = ap (λ cs. newest (moments_of cs) name) h.2 ∙ newest_is cs h.0 name ∙ (removing name h.0 (newest (moments_of cs)) h.1).1

-- ---- what a name has behind the last change

pub behind : (changes earlier : List Change) (last c : Change) (name : List ℕ) → changes ≡ earlier ++ (last ∷ []) → last ≡ c → newest (moments_of changes) name ≡ changed c (newest (moments_of earlier)) name
behind changes earlier last c name e is = ap (λ cs. newest (moments_of cs) name) e ∙ (newest_is earlier last name ∙ ap (λ c. changed c (newest (moments_of earlier)) name) is)

pub in_place : (own name : List ℕ) (bytes : Option (List ℕ)) (s : State) → own ≡ name → with_file own bytes s name ≡ bytes
in_place own name bytes s e = subst (λ name. with_file own bytes s name ≡ bytes) e (has_file own bytes s)

pub beside : (own name : List ℕ) (bytes : Option (List ℕ)) (s : State) → own ≢ name → with_file own bytes s name ≡ s name
beside own name bytes s apart = keeps_others own bytes s name (λ e. apart (sym e))

pub when_ok : {A E P : Type 0} (r : Result A E) → is_ok r ≡ true → OnOk r P → P
when_ok (Ok x) e h = h
when_ok (Err x) e h = let bad : ⊥ = cc in absurd bad
