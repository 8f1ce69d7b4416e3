-- Moments one after the other, and those of a replacement.
use Rattle.std.proofs.Common.{◌≡◌, ◌≢◌, ℕ, List, [], ◌∷◌, ◌++◌, None, Some, Bool, true, false, refl, ap, sym, subst, ◌∙◌, append_assoc, arith, inl, inr}
use Rattle.std.specs.Prelude.{◌⊎◌, Option, IfSome, Decides}
use Rattle.std.specs.List.{AllByRecursion}
use Rattle.std.proofs.lemmas.Slice.Eq.{bytes_eq-Decides}
use Rattle.std.proofs.lemmas.Bool.Decides.{not_from_Decides}
use Rattle.cbor_edn_files.specs.Moments.{State, newest, After, Ends, Holds, IsSame, IsSameBut, IsRenamed, IsMoved, IsOldOrNew, IsReplaced, EndsMoved, EndsSame, EndsSameButNew, EndsReplaced, draft_of, IsDraftOf, IfGone, IfLeft, IfFailed}
use Rattle.cbor_edn_files.specs.declared.disk.MakeError.TheVariants.{Failed}
use Rattle.std.specs.Prelude.{Err}
use Rattle.cbor_edn_files.specs.declared.replace.DraftError.{DraftError}
use Rattle.cbor_edn_files.specs.declared.replace.DraftError.TheVariants as drafts

-- ---- any relations

abbrev Reflexive : (State → State → Type 0) → Type 0
Reflexive P = (s : State) → P s s

all_joined : (P : State → Type 0) (xs ys : List State) → AllByRecursion P xs → AllByRecursion P ys → AllByRecursion P (xs ++ ys)
all_joined P [] ys h k = k
all_joined P (x ∷ xs) ys h k = (h.0, all_joined P xs ys h.1 k)

all_by : (P Q : State → Type 0) (each : (t : State) → P t → Q t) (xs : List State) → AllByRecursion P xs → AllByRecursion Q xs
all_by P Q each [] h = tt
all_by P Q each (x ∷ xs) h = (each x h.0, all_by P Q each xs h.1)

reached : (P : State → State → Type 0) (same : Reflexive P) (xs ps : List State) → AllByRecursion (P (newest xs)) ps → P (newest xs) (newest (ps ++ xs))
reached P same xs [] h = same (newest xs)
reached P same xs (p ∷ ps) h = h.0

-- moments after others, the last of which has G, where that before them all has F
then_known : (P Q R : State → State → Type 0) (F G : State → Type 0) (same : Reflexive P) (weaker : (s t : State) → F s → P s t → R s t) (both : (s t u : State) → F s → P s t → G t → Q t u → R s u)
    (xs ps : List State) (o : Option (List State)) → F (newest xs) → AllByRecursion (P (newest xs)) ps → G (newest (ps ++ xs)) → After Q (Some (ps ++ xs)) o → After R (Some xs) o
then_known P Q R F G same weaker both xs ps o f h g k = (
  k.0 ++ ps,
  k.1 ∙ ap Some (sym (append_assoc k.0 ps xs)),
  all_joined (R (newest xs)) k.0 ps
      (all_by (Q (newest (ps ++ xs))) (R (newest xs)) (λ u q. both (newest xs) (newest (ps ++ xs)) u f (reached P same xs ps h) g q) k.0 k.2)
      (all_by (P (newest xs)) (R (newest xs)) (λ t p. weaker (newest xs) t f p) ps h),
)

pub after_then : (P Q R : State → State → Type 0) (F G : State → Type 0) (same : Reflexive P) (weaker : (s t : State) → F s → P s t → R s t) (both : (s t u : State) → F s → P s t → G t → Q t u → R s u)
    (m n o : Option (List State)) → IfSome m (λ ss. F (newest ss)) → After P m n → IfSome n (λ ts. G (newest ts)) → After Q n o → After R m o
after_then P Q R F G same weaker both None n o f h g k = subst (λ n. After Q n o) h k
after_then P Q R F G same weaker both (Some xs) n o f h g k =
    then_known P Q R F G same weaker both xs h.0 o f h.2 (subst (λ n. IfSome n (λ ts. G (newest ts))) h.1 g) (subst (λ n. After Q n o) h.1 k)

pub ends_after : (P : State → State → Type 0) (same : Reflexive P) (m n : Option (List State)) → After P m n → Ends P m n
ends_after P same None n h = h
ends_after P same (Some xs) n h = (h.0 ++ xs, h.1, reached P same xs h.0 h.2)

pub ends_then : (P Q R : State → State → Type 0) (both : (s t u : State) → P s t → Q t u → R s u) (m n o : Option (List State)) → Ends P m n → Ends Q n o → Ends R m o
ends_then P Q R both None n o h k = subst (λ n. Ends Q n o) h k
ends_then P Q R both (Some xs) n o h k =
    let j = subst (λ n. Ends Q n o) h.1 k in
    (j.0, j.1, both (newest xs) (newest h.0) (newest j.0) h.2 j.2)

pub ends_from : (P : State → State → Type 0) (F : State → Type 0) (m n : Option (List State)) → IfSome m (λ ss. F (newest ss)) → Ends P m n → Ends (λ s t. F s × P s t) m n
ends_from P F None n f h = h
ends_from P F (Some xs) n f h = (h.0, h.1, (f, h.2))

pub ends_to : (P : State → State → Type 0) (G : State → Type 0) (m n : Option (List State)) → IfSome n (λ ts. G (newest ts)) → Ends P m n → Ends (λ s t. P s t × G t) m n
ends_to P G None n g h = h
ends_to P G (Some xs) n g h = (h.0, h.1, (h.2, subst (λ n. IfSome n (λ ts. G (newest ts))) h.1 g))

-- nothing is asked of the last moment
abbrev Any : State → Type 0
Any s = Unit {0}

any : (m : Option (List State)) → IfSome m (λ ss. Any (newest ss))
any None = tt
any (Some xs) = tt

-- ---- names

decided : {P : Type 0} (b : Bool) → Decides b P → P ⊎ (P → ⊥)
decided true d = inl (d.0 refl)
decided false d = inr (not_from_Decides false d refl)

one_name : (xs ys : List ℕ) → (xs ≡ ys) ⊎ (xs ≢ ys)
one_name xs ys = decided _ (bytes_eq-Decides xs ys)

same_itself : (draft : List ℕ) → Reflexive (IsSameBut draft)
same_itself draft s = λ _ _. refl

-- what two moments have where they agree but at a draft that is at neither
without_draft : (draft : List ℕ) (s t : State) → s draft ≡ None → t draft ≡ None → IsSameBut draft s t → IsSame s t
without_draft draft s t f g h = λ other. elim (one_name other draft) [
  | inl e ↦ ap t e ∙ g ∙ sym f ∙ ap s (sym e)
  | inr apart ↦ h other apart
]

-- ---- a replacement, by its calls

module _ (name bytes draft : List ℕ) (apart : draft ≢ name) where
  other_way : name ≢ draft
  other_way = λ e. apart (sym e)

  -- where the draft is not there before
  abbrev Free : State → Type 0
  Free s = s draft ≡ None

  old_itself : Reflexive (IsOldOrNew name bytes draft)
  old_itself s = record { file = inl refl; draft_was_free = inl refl; others = λ _ _ _. refl }

  begun : (s t : State) → Free s → IsSameBut draft s t → IsOldOrNew name bytes draft s t
  begun s t f h = record { file = inl (h name other_way); draft_was_free = inr f; others = λ other _ b. h other b }

  moved : (s t u : State) → Free s → IsSameBut draft s t → t draft ≡ Some bytes → IsMoved draft name t u → IsOldOrNew name bytes draft s u
  moved s t u f h g k = elim k [
    | inl same ↦ record { file = inl (same name ∙ h name other_way); draft_was_free = inr f; others = λ other _ b. same other ∙ h other b }
    | inr r ↦ record { file = inr (r.there ∙ g); draft_was_free = inr f; others = λ other a b. r.same other b a ∙ h other b }
  ]

  left_off : (s t u : State) → Free s → IsOldOrNew name bytes draft s t → Any t → IsSameBut draft t u → IsOldOrNew name bytes draft s u
  left_off s t u f h _ k = record {
    file = elim h.file [ inl e ↦ inl (k name other_way ∙ e) | inr e ↦ inr (k name other_way ∙ e) ];
    draft_was_free = inr f;
    others = λ other a b. k other b ∙ h.others other a b;
  }

  -- a draft is made, and gets the file's name or not
  pub renamed_moments : (m n o : Option (List State)) → Holds m draft None → After (IsSameBut draft) m n → Holds n draft (Some bytes) → After (IsMoved draft name) n o → After (IsOldOrNew name bytes draft) m o
  renamed_moments m n o f h g k = after_then (IsSameBut draft) (IsMoved draft name) (IsOldOrNew name bytes draft) Free (λ t. t draft ≡ Some bytes) (same_itself draft) begun moved m n o f h g k

  pub renamed : (m n o : Option (List State)) → After (IsSameBut draft) m n → Holds m draft None → Holds n draft (Some bytes) → EndsMoved draft name n o → EndsReplaced name bytes m o
  renamed m n o h f g k = ends_then (λ s t. (s draft ≡ None) × (IsSameBut draft s t × (t draft ≡ Some bytes))) (IsRenamed draft name) (IsReplaced name bytes)
      (λ s t u p q. record {
        there = q.there ∙ p.1.1;
        same = λ other a. elim (one_name other draft) [
          | inl e ↦ ap u e ∙ q.gone apart ∙ sym p.0 ∙ ap s (sym e)
          | inr b ↦ q.same other b a ∙ p.1.0 other b
        ];
      })
      m n o (ends_from (λ s t. IsSameBut draft s t × (t draft ≡ Some bytes)) (λ s. s draft ≡ None) m n f (ends_to (IsSameBut draft) (λ t. t draft ≡ Some bytes) m n g (ends_after (IsSameBut draft) (same_itself draft) m n h))) k

  -- the draft is removed, or not
  pub given_up_moments : (m n o : Option (List State)) → Holds m draft None → After (IsOldOrNew name bytes draft) m n → After (IsSameBut draft) n o → After (IsOldOrNew name bytes draft) m o
  given_up_moments m n o f h k = after_then (IsOldOrNew name bytes draft) (IsSameBut draft) (IsOldOrNew name bytes draft) Free Any old_itself (λ _ _ _ p. p) left_off m n o f h (any n) k

  pub failed_moments : (m n o : Option (List State)) → Holds m draft None → After (IsSameBut draft) m n → After (IsSameBut draft) n o → After (IsOldOrNew name bytes draft) m o
  failed_moments m n o f h k = after_then (IsSameBut draft) (IsSameBut draft) (IsOldOrNew name bytes draft) Free Any (same_itself draft) begun (λ s t u f p _ q. left_off s t u f (begun s t f p) tt q) m n o f h (any n) k

-- a draft that was not there before may be there
left : (draft : List ℕ) (m n : Option (List State)) → Holds m draft None → Ends (IsSameBut draft) m n → EndsSameButNew draft m n
left draft m n f h = ends_from (IsSameBut draft) (λ s. s draft ≡ None) m n f h

pub same_but_then : (draft : List ℕ) (m n o : Option (List State)) → Holds m draft None → After (IsSameBut draft) m n → After (IsSameBut draft) n o → EndsSameButNew draft m o
same_but_then draft m n o f h k = left draft m o f (ends_then (IsSameBut draft) (IsSameBut draft) (IsSameBut draft) (λ s t u p q. λ other b. q other b ∙ p other b) m n o
    (ends_after (IsSameBut draft) (same_itself draft) m n h) (ends_after (IsSameBut draft) (same_itself draft) n o k))

pub same_but_between : (draft : List ℕ) (m n o p : Option (List State)) → Holds m draft None → After (IsSameBut draft) m n → EndsSame n o → After (IsSameBut draft) o p → EndsSameButNew draft m p
same_but_between draft m n o p f h k l = left draft m p f (ends_then (IsSameBut draft) (IsSameBut draft) (IsSameBut draft) (λ s t u a b. λ other c. b other c ∙ a other c) m o p
    (ends_then (IsSameBut draft) IsSame (IsSameBut draft) (λ s t u a b. λ other c. b other ∙ a other c) m n o (ends_after (IsSameBut draft) (same_itself draft) m n h) k)
    (ends_after (IsSameBut draft) (same_itself draft) o p l))

pub gone : (draft : List ℕ) (m n : Option (List State)) → Holds n draft None → EndsSameButNew draft m n → EndsSame m n
gone draft None n g h = h
gone draft (Some xs) n g h = (h.0, h.1, without_draft draft (newest xs) (newest h.0) h.2.0 (subst (λ n. IfSome n (λ ts. newest ts draft ≡ None)) h.1 g) h.2.1)

pub itself : (m : Option (List State)) → EndsSame m m
itself None = refl
itself (Some xs) = (xs, refl, λ _. refl)

-- ---- reasons

pub at_gone : {P Q : Type 0} (e : DraftError) → (P → Q) → IfGone e P → IfGone e Q
at_gone (drafts.Taken) f h = tt
at_gone (drafts.Gone error) f h = f h
at_gone (drafts.Left error) f h = tt

pub at_left : {Q : Type 0} (e : DraftError) → Q → IfLeft e Q
at_left (drafts.Taken) q = tt
at_left (drafts.Gone error) q = tt
at_left (drafts.Left error) q = q

pub was_failed : {P : Type 0} (e : _) (error : _) → e ≡ Failed error → IfFailed {A = Unit {0}} (Err e) P → P
was_failed {P = P} e error is h = subst (λ e. IfFailed {A = Unit {0}} (Err e) P) is h

-- ---- none of these

stays : (name bytes draft : List ℕ) (m n : Option (List State)) → n ≡ m → After (IsOldOrNew name bytes draft) m n
stays name bytes draft None n is = is
stays name bytes draft (Some xs) n is = ([], is, tt)

pub nothing_yet : (name bytes : List ℕ) (m n : Option (List State)) → n ≡ m → (x : List ℕ) × IsDraftOf name x × After (IsOldOrNew name bytes x) m n
nothing_yet name bytes m n is = (draft_of name 0, (0, omega arith, refl), stays name bytes (draft_of name 0) m n is)
