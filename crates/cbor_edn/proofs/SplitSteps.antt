-- The steps of a run over a sequence are the steps over the elements in front, and over those behind them.
use Rattle.std.proofs.Common.{◌≡◌, ℕ, Bool, true, false, List, [], ◌∷◌, ◌++◌, map, None, refl, sym, ap, subst, ◌∙◌}
use Rattle.std.specs.Prelude.{All, not}
use Rattle.std.proofs.lemmas.List.Elements.{All-append}
use Rattle.cbor_edn_parts.specs.declared.space.policy.DelimiterPolicy.{DelimiterPolicy}
use Rattle.cbor_edn_parts.specs.declared.space.policy.DelimiterPolicy.TheVariants.{DiscardAll}
use Rattle.cbor_edn_parts.specs.space.Spacing.{Optional, Separating, indented, line}
use Rattle.cbor_edn_parts.specs.internal.CommentReading.{from_first, to_last, up_to_comma, past_comma}
use Rattle.cbor_edn_model.specs.layout.Layout.{Layout, Between, Elsewhere, layout, respaced, laid, laid_out}
use Rattle.cbor_edn_model.specs.tree.Items.{Elements}
use Rattle.cbor_edn_model.specs.tree.Rows.{entries_onto}
use Rattle.cbor_edn_model.specs.tree.Trees.{Tree, OneItem, OneEntry, Rest, Seq, ElementTree, LastTree, MoreTree, NothingTree, SequenceTree, text}
use Rattle.cbor_edn_model.specs.visit.Seeking.{CallArguments, number, prefix_and_text, IsTag, IsApplication, SoughtCall, VisitItem, passed, entered, stayed, refused, not_called, VisitParts, of_number, of_last, of_more, of_more_cut, of_sequence, VisitEntry, of_element}
use Rattle.cbor_edn_model.specs.visit.Visits.{Ending, whole}
use Rattle.cbor_edn_model.proofs.lemmas.text.Texts.{text_number, text_element, text_last, text_sequence}
use Rattle.cbor_edn_conversions.specs.Addresses.{resolve_address, pretty_address}
use Rattle.cbor_edn_conversions.specs.Annotations.{comment_lang}
use Rattle.cbor_edn_conversions.specs.Bignums.{pretty_bignum}
use Rattle.cbor_edn_conversions.specs.Claims.{with_claims}
use Rattle.cbor_edn_conversions.specs.Resolving.{AnswersBy}
use Rattle.cbor_edn_conversions.specs.Tag999.{to_tag999}
use Rattle.cbor_edn_conversions.specs.Times.{resolve_time, pretty_time}
use Rattle.cbor_edn_conversions.proofs.resolving.Keeping.{all_split}
use Rattle.cbor_edn_application.specs.Acts.{Act, IsVisited}
use Rattle.cbor_edn_application.specs.Sequences.{each_item}
use Rattle.cbor_edn_command.specs.declared.options.Options.{Options}
use Rattle.cbor_edn.specs.Elements.{Fronts, elements, Changes, InFront, zero_item, zero_text}
use Rattle.cbor_edn.specs.RunSteps.{Step, Where, InTurn, IsLaidOut, TagsVisited, LiteralsVisited, AnnotatesTags, ResolvesLiterals, HasClaims, StepsGive}

abbrev pub Split : Step → Fronts → Tree (Rest Elements) → Tree Seq → Type 0
Split P es m v = (fs : Fronts) × (n : Tree (Rest Elements)) × (v ≡ elements (entries_onto fs n)) × P (elements m) (elements n) × InFront P es fs

-- What the step makes of a sequence is what it makes of the elements in front, and of those behind them by themselves.
abbrev pub Splits : Step → Type 0
Splits P = (es : Fronts) (m : Tree (Rest Elements)) (v : Tree Seq) → P (elements (entries_onto es m)) v → Split P es m v

-- elements in front of those of a sequence
abbrev onto : Fronts → Tree Seq → Tree Seq
onto es (NothingTree s) = NothingTree s
onto es (SequenceTree s m) = SequenceTree s (entries_onto es m)

split_turn : (P Q : Step) → Splits P → Splits Q → Splits (InTurn P Q)
split_turn P Q p q es m v (u, first, second) =
    let a = p es m u first in
    let b = q a.0 a.1 v (subst (λ (t : Tree Seq). Q t v) a.2 second) in (
      b.0,
      b.1,
      b.2,
      (elements a.1, a.3, b.3),
      λ x y h.
          let c = p [] x h.0 h.1 in
          let d = entries_onto c.0 c.1 in
          (elements (entries_onto a.0 d), a.4 x d (subst (λ (t : Tree Seq). P (elements x) t) c.2 h.1), b.4 d y (subst (λ (t : Tree Seq). Q t (elements y)) c.2 h.2)),
    )

split_where : (asked : Bool) (P : Step) → Splits P → Splits (Where asked P)
split_where true P p = p
split_where false P p = λ es m v is. (es, m, is, refl, λ x y h. ap (onto es) h)

-- ---- visits

module _ (IsSought : Tree OneItem → CallArguments → Type 0) (act : Act) where
  abbrev RowVisited : Tree (Rest Elements) → Tree (Rest Elements) → Type 0
  RowVisited m n = (cs : List SoughtCall) × All (AnswersBy act) cs × VisitParts IsSought _ m cs n whole

  abbrev WentOn : Tree (OneEntry Elements) → List ℕ → Tree (Rest Elements) → List SoughtCall → Tree (Rest Elements) → Ending → Type 0
  WentOn e s m cs v r = (f : Tree (OneEntry Elements)) × (t : List ℕ) × (n : Tree (Rest Elements)) × (here behind : List SoughtCall) × VisitEntry IsSought Elements e s here f t whole × VisitParts IsSought _ m behind n r × (cs ≡ here ++ behind) × (v ≡ MoreTree f t n)

  went_on : {e : Tree (OneEntry Elements)} {s : List ℕ} {m v : Tree (Rest Elements)} {cs : List SoughtCall} {r : Ending} → VisitParts IsSought (Rest Elements) (MoreTree e s m) cs v r → r ≡ whole → WentOn e s m cs v r
  went_on (of_more {f = f} {t = t} {n = n} {cs = cs} {ds = ds} a b is) ends = (f, t, n, cs, ds, a, b, is, refl)
  went_on (of_more_cut a) ends = absurd cc

  split_row : (es : Fronts) (m v : Tree (Rest Elements)) → RowVisited (entries_onto es m) v
      → (fs : Fronts) × (n : Tree (Rest Elements)) × (v ≡ entries_onto fs n) × RowVisited m n × ((x y : Tree (Rest Elements)) → RowVisited x y → RowVisited (entries_onto es x) (entries_onto fs y))
  split_row [] m v h = ([], v, refl, h, λ x y k. k)
  split_row (e ∷ es) m v (cs, answers, visit) =
      let a = went_on visit refl in
      let both = all_split (AnswersBy act) a.3 a.4 (subst (λ (l : List SoughtCall). All (AnswersBy act) l) a.7 answers) in
      let b = split_row es m a.2 (a.4, both.1, a.6) in (
        (a.0, a.1) ∷ b.0,
        b.1,
        a.8 ∙ ap (MoreTree a.0 a.1) b.2,
        b.3,
        λ x y k. let c = b.4 x y k in (a.3 ++ c.0, All-append (AnswersBy act) a.3 c.0 both.0 c.1, of_more a.5 c.2 refl),
      )

  sequence_visited : {s : List ℕ} {m : Tree (Rest Elements)} {v : Tree Seq} {cs : List SoughtCall} {r : Ending} → VisitParts IsSought Seq (SequenceTree s m) cs v r
      → (n : Tree (Rest Elements)) × VisitParts IsSought _ m cs n r × (v ≡ SequenceTree s n)
  sequence_visited (of_sequence {n = n} a) = (n, a, refl)

  row_visited : {s t : List ℕ} {m n : Tree (Rest Elements)} {cs : List SoughtCall} {r : Ending} → VisitParts IsSought Seq (SequenceTree s m) cs (SequenceTree t n) r → VisitParts IsSought _ m cs n r
  row_visited (of_sequence a) = a

  pub split_visit : Splits (λ w v. IsVisited IsSought act w whole v)
  split_visit es m v (cs, answers, visit) =
      let a = sequence_visited visit in
      let b = split_row es m a.0 (cs, answers, a.1) in (
        b.0,
        b.1,
        a.2 ∙ ap elements b.2,
        (b.3.0, b.3.1, of_sequence b.3.2),
        λ x y k. let c = b.4 x y (k.0, k.1, row_visited k.2) in (c.0, c.1, of_sequence c.2),
      )

-- ---- policies

laid_front : Layout → Tree (OneEntry Elements) × List ℕ → Tree (OneEntry Elements) × List ℕ
laid_front l e = (laid l e.0, respaced Separating Between l e.1)

laid_onto : (l : Layout) (es : Fronts) (m : Tree (Rest Elements)) → laid l (entries_onto es m) ≡ entries_onto (map (laid_front l) es) (laid l m)
unfolding laid laid_front
laid_onto l [] m = refl
laid_onto l (e ∷ es) m = ap (MoreTree (laid l e.0) (respaced Separating Between l e.1)) (laid_onto l es m)

laid_elements : (policy : DelimiterPolicy) → respaced Optional Elsewhere (layout policy) [] ≡ [] → (m : Tree (Rest Elements)) → laid_out policy (elements m) ≡ elements (laid (layout policy) m)
unfolding laid
laid_elements policy bare m = ap (λ (s : List ℕ). SequenceTree s (laid (layout policy) m)) bare

split_laid : (policy : DelimiterPolicy) → respaced Optional Elsewhere (layout policy) [] ≡ [] → Splits (IsLaidOut policy)
split_laid policy bare es m v is =
    let l = layout policy in
    let fs = map (laid_front l) es in (
      fs,
      laid l m,
      is ∙ laid_elements policy bare (entries_onto es m) ∙ ap elements (laid_onto l es m),
      sym (laid_elements policy bare m),
      λ x y h. ap (onto fs) (h ∙ laid_elements policy bare x) ∙ ap elements (sym (laid_onto l es x)) ∙ sym (laid_elements policy bare (entries_onto es x)),
    )

-- nothing stands in front of a sequence
bare_discarded : respaced Optional Elsewhere (layout DiscardAll) [] ≡ []
bare_discarded = refl

bare_indented : respaced Optional Elsewhere (layout indented) [] ≡ []
unfolding from_first to_last
bare_indented = refl

-- ---- claims sets

module _ (f : Tree OneItem → Tree OneItem) where
  entry_changed : Tree (OneEntry Elements) × List ℕ → Tree (OneEntry Elements) × List ℕ
  entry_changed (ElementTree w, s) = (ElementTree (f w), s)

  one_changed : (e : Tree (OneEntry Elements)) (s : List ℕ) (m : Tree (Rest Elements)) → each_item f (MoreTree e s m) ≡ entries_onto (entry_changed (e, s) ∷ []) (each_item f m)
  unfolding entry_changed
  one_changed (ElementTree w) s m = refl

  each_onto : (es : Fronts) (m : Tree (Rest Elements)) → each_item f (entries_onto es m) ≡ entries_onto (map entry_changed es) (each_item f m)
  each_onto [] m = refl
  each_onto (e ∷ es) m = one_changed e.0 e.1 (entries_onto es m) ∙ ap (entries_onto (entry_changed e ∷ [])) (each_onto es m)

split_claims : Splits HasClaims
split_claims es m v is =
    let f : Tree OneItem → Tree OneItem = λ w. (with_claims w).1 in
    let fs = map (entry_changed f) es in
    (fs, each_item f m, is ∙ ap elements (each_onto f es m), refl, λ x y h. ap (onto fs) h ∙ ap elements (sym (each_onto f es x)))

-- ---- all steps

-- the last step, and all of them
abbrev pub Last : Options → Step
Last o = Where (not o.preserve_space) (IsLaidOut indented)

pub in_turn : (o : Options) (w v : Tree Seq) → StepsGive o w v → InTurn (Changes o) (Last o) w v
in_turn o w v h = (h.tagged, (h.annotated, h.tags, (h.uncommented, h.comments, (h.resolved, h.literals, (h.claimed, h.claims, (h.counted, h.bignums, h.others))))), h.spaces)

pub give : (o : Options) (w v : Tree Seq) → InTurn (Changes o) (Last o) w v → StepsGive o w v
give o w v (tagged, (annotated, tags, (uncommented, comments, (resolved, literals, (claimed, claims, (counted, bignums, others))))), spaces) = record {
  annotated = annotated;
  uncommented = uncommented;
  resolved = resolved;
  claimed = claimed;
  counted = counted;
  tagged = tagged;
  tags = tags;
  comments = comments;
  literals = literals;
  claims = claims;
  bignums = bignums;
  others = others;
  spaces = spaces;
}

split_tags : (act : Act) → Splits (TagsVisited act)
split_tags act = split_visit IsTag act

split_literals : (act : Act) → Splits (LiteralsVisited act)
split_literals act = split_visit IsApplication act

split_annotates : Splits AnnotatesTags
split_annotates = split_turn (TagsVisited pretty_address) (InTurn (TagsVisited pretty_time) (TagsVisited comment_lang)) (split_tags pretty_address) (split_turn (TagsVisited pretty_time) (TagsVisited comment_lang) (split_tags pretty_time) (split_tags comment_lang))

split_resolves : Splits ResolvesLiterals
split_resolves = split_turn (LiteralsVisited resolve_address) (LiteralsVisited resolve_time) (split_literals resolve_address) (split_literals resolve_time)

pub split_changes : (o : Options) → Splits (Changes o)
split_changes o =
    split_turn (Where o.annotate_tags AnnotatesTags) _ (split_where o.annotate_tags AnnotatesTags split_annotates)
    (split_turn (Where o.remove_comments (IsLaidOut DiscardAll)) _ (split_where o.remove_comments (IsLaidOut DiscardAll) (split_laid DiscardAll bare_discarded))
    (split_turn (Where o.aol_to_item ResolvesLiterals) _ (split_where o.aol_to_item ResolvesLiterals split_resolves)
    (split_turn (Where o.annotate_ccs HasClaims) _ (split_where o.annotate_ccs HasClaims split_claims)
    (split_turn (Where o.bignum_from_tags (TagsVisited pretty_bignum)) (Where o.apply_999 (LiteralsVisited to_tag999)) (split_where o.bignum_from_tags (TagsVisited pretty_bignum) (split_tags pretty_bignum))
    (split_where o.apply_999 (LiteralsVisited to_tag999) (split_literals to_tag999))))))

split_last : (o : Options) → Splits (Last o)
split_last o = split_where (not o.preserve_space) (IsLaidOut indented) (split_laid indented bare_indented)

pub split_steps : (o : Options) → Splits (StepsGive o)
split_steps o es m v h =
    let a = split_turn (Changes o) (Last o) (split_changes o) (split_last o) es m v (in_turn o (elements (entries_onto es m)) v h) in
    (a.0, a.1, a.2, give o (elements m) (elements a.1) a.3, λ x y k. give o (elements (entries_onto es x)) (elements (entries_onto a.0 y)) (a.4 x y (in_turn o (elements x) (elements y) k)))

-- ---- an integer, which no step changes

abbrev pub zero_alone : Tree (Rest Elements)
zero_alone = LastTree (ElementTree zero_item) []

abbrev Leaves : Step → Type 0
Leaves P = (v : Tree Seq) → P (elements zero_alone) v → v ≡ elements zero_alone

leave_turn : (P Q : Step) → Leaves P → Leaves Q → Leaves (InTurn P Q)
leave_turn P Q p q v (u, first, second) = q v (subst (λ (t : Tree Seq). Q t v) (p u first) second)

leave_where : (asked : Bool) (P : Step) → Leaves P → Leaves (Where asked P)
leave_where true P p = p
leave_where false P p = λ v is. is

module _ (IsSought : Tree OneItem → CallArguments → Type 0) (act : Act) (none : (a : CallArguments) → IsSought zero_item a → ⊥) where
  number_left : {v : Tree OneItem} {cs : List SoughtCall} {r : Ending} → VisitParts IsSought OneItem zero_item cs v r → v ≡ zero_item
  number_left of_number = refl

  item_left : {w v : Tree OneItem} {s t : List ℕ} {cs : List SoughtCall} {r : Ending} → VisitItem IsSought w s cs v t r → w ≡ zero_item → (v ≡ zero_item) × (t ≡ s)
  item_left (passed {v = v} {cs = cs} {r = r} n a) is = (number_left (subst (λ (w : Tree OneItem). VisitParts IsSought OneItem w cs v r) is a), refl)
  item_left (entered {c = c} sought fine shallow a) is = absurd (none c.arguments (subst (λ (w : Tree OneItem). IsSought w c.arguments) is sought))
  item_left (stayed {c = c} sought fine deep) is = absurd (none c.arguments (subst (λ (w : Tree OneItem). IsSought w c.arguments) is sought))
  item_left (refused {c = c} sought told) is = absurd (none c.arguments (subst (λ (w : Tree OneItem). IsSought w c.arguments) is sought))
  item_left (not_called {a = a} sought) is = absurd (none a (subst (λ (w : Tree OneItem). IsSought w a) is sought))

  entry_left : {f : Tree (OneEntry Elements)} {s t : List ℕ} {cs : List SoughtCall} {r : Ending} → VisitEntry IsSought Elements (ElementTree zero_item) s cs f t r → (f ≡ ElementTree zero_item) × (t ≡ s)
  entry_left (of_element a) = let b = item_left a refl in (ap ElementTree b.0, b.1)

  row_left : {n : Tree (Rest Elements)} {cs : List SoughtCall} {r : Ending} → VisitParts IsSought (Rest Elements) zero_alone cs n r → n ≡ zero_alone
  row_left (of_last {t = t} a) = let b = entry_left a in ap (λ (f : Tree (OneEntry Elements)). LastTree f t) b.0 ∙ ap (LastTree (ElementTree zero_item)) b.1

  leave_visit : Leaves (λ w v. IsVisited IsSought act w whole v)
  leave_visit v (cs, answers, visit) = let a = sequence_visited IsSought act visit in a.2 ∙ ap elements (row_left a.1)

leave_discarded : Leaves (IsLaidOut DiscardAll)
unfolding laid
leave_discarded v is = is

leave_claims : Leaves HasClaims
unfolding with_claims
leave_claims v is = is

pub no_tag : (a : CallArguments) → IsTag zero_item a → ⊥
no_tag (number n) is = cc
no_tag (prefix_and_text p t) is = is

no_literal : (a : CallArguments) → IsApplication zero_item a → ⊥
no_literal (number n) is = is
no_literal (prefix_and_text p t) (l, is, piece) = cc

leave_tags : (act : Act) → Leaves (TagsVisited act)
leave_tags act = leave_visit IsTag act no_tag

leave_literals : (act : Act) → Leaves (LiteralsVisited act)
leave_literals act = leave_visit IsApplication act no_literal

pub leave_changes : (o : Options) → Leaves (Changes o)
leave_changes o =
    leave_turn (Where o.annotate_tags AnnotatesTags) _ (leave_where o.annotate_tags AnnotatesTags (leave_turn (TagsVisited pretty_address) _ (leave_tags pretty_address) (leave_turn (TagsVisited pretty_time) (TagsVisited comment_lang) (leave_tags pretty_time) (leave_tags comment_lang))))
    (leave_turn (Where o.remove_comments (IsLaidOut DiscardAll)) _ (leave_where o.remove_comments (IsLaidOut DiscardAll) leave_discarded)
    (leave_turn (Where o.aol_to_item ResolvesLiterals) _ (leave_where o.aol_to_item ResolvesLiterals (leave_turn (LiteralsVisited resolve_address) (LiteralsVisited resolve_time) (leave_literals resolve_address) (leave_literals resolve_time)))
    (leave_turn (Where o.annotate_ccs HasClaims) _ (leave_where o.annotate_ccs HasClaims leave_claims)
    (leave_turn (Where o.bignum_from_tags (TagsVisited pretty_bignum)) (Where o.apply_999 (LiteralsVisited to_tag999)) (leave_where o.bignum_from_tags (TagsVisited pretty_bignum) (leave_tags pretty_bignum))
    (leave_where o.apply_999 (LiteralsVisited to_tag999) (leave_literals to_tag999))))))

ended : (s : List ℕ) → text (SequenceTree [] (LastTree (ElementTree zero_item) s)) ≡ 48 ∷ s
ended s = text_sequence [] (LastTree (ElementTree zero_item) s) ∙ text_last (ElementTree zero_item) s ∙ ap (λ (t : List ℕ). t ++ s) (text_element zero_item ∙ text_number (48 ∷ []) None)

laid_zero : laid_out indented (elements zero_alone) ≡ SequenceTree [] (LastTree (ElementTree zero_item) (10 ∷ []))
unfolding laid from_first to_last up_to_comma past_comma line
laid_zero = refl

last_text : (preserve : Bool) (v : Tree Seq) → Where (not preserve) (IsLaidOut indented) (elements zero_alone) v → text v ≡ zero_text preserve
last_text true v is = ap (λ (t : Tree Seq). text t) is ∙ ended []
last_text false v is = ap (λ (t : Tree Seq). text t) (is ∙ laid_zero) ∙ ended (10 ∷ [])

pub zero_printed : (o : Options) (n : Tree (Rest Elements)) → StepsGive o (elements zero_alone) (elements n) → text n ≡ zero_text o.preserve_space
zero_printed o n h =
    let a = in_turn o (elements zero_alone) (elements n) h in
    sym (text_sequence [] n) ∙ last_text o.preserve_space (elements n) (subst (λ (t : Tree Seq). Last o t (elements n)) (leave_changes o a.0 a.1) a.2)
