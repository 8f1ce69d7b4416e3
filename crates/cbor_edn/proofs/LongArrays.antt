-- Arrays that don't fit on a line, whose elements are read, changed and printed before those behind them.
use Rattle.std.proofs.Common.{ne_eqb, ◌≡◌, ℕ, ◌+◌, ◌≤◌, ◌<◌, List, [], ◌∷◌, ◌++◌, map, length, length-append, Some, Ok, refl, sym, ap, subst, ◌∙◌, append_assoc, arith}
use Rattle.std.specs.Prelude.{Bool, false, nat_eq, Result, Err, All, IfOk, replicate}
use Rattle.std.specs.declared.alloc.AllocError.{AllocError}
use Rattle.std.specs.declared.alloc.Global.{Global}
use Rattle.std.specs.declared.vec.Vec.{Vec}
use Rattle.std.specs.Str.{IsUtf8}
use Rattle.std.proofs.lemmas.List.{append-nil, map-append, length-map}
use Rattle.std.proofs.lemmas.Str.{IsUtf8-append, IsUtf8-nil, IsUtf8-from_ascii}
use Rattle.cbor_edn_parts.specs.space.Spacing.{Optional, indented}
use Rattle.cbor_edn_parts.specs.declared.space.policy.DelimiterPolicy.TheVariants.{SingleLineRegularSpacing}
use Rattle.cbor_edn_model.specs.declared.cbor.heads.Width.{Width}
use Rattle.cbor_edn_model.specs.cbor.Decoded.{indicator_of}
use Rattle.cbor_edn_model.specs.layout.Layout.{First, layout, respaced, laid, laid_out, laid_list_head}
use Rattle.cbor_edn_model.specs.tree.Constructed.{comma_inside}
use Rattle.cbor_edn_model.specs.tree.Items.{Elements, Array}
use Rattle.cbor_edn_model.specs.tree.Rows.{entries_onto, entries_text}
use Rattle.cbor_edn_model.specs.tree.Trees.{Tree, OneItem, OneEntry, Rest, Seq, NoIndicator, ListTree, ElementTree, LastTree, MoreTree, NothingTree, SequenceTree, Valid, text, list_head_text}
use Rattle.cbor_edn_model.specs.internal.CborReading.{item_at, trees, element_row}
use Rattle.cbor_edn_model.specs.internal.Regular.{in_front}
use Rattle.cbor_edn_model.specs.internal.LayoutRows.{laid_entry}
use Rattle.cbor_edn_model.proofs.lemmas.layout.LaidRows.{laid_entries}
use Rattle.cbor_edn_model.proofs.lemmas.text.Texts.{text_element}
use Rattle.cbor_edn_command.specs.declared.options.Options.{Options}
use Rattle.cbor_edn.specs.Elements.{IsLine, AreRead, Fronts, elements, Changes, InFront, separated, zero_item, IsTextInFront, IsTextOf}
use Rattle.cbor_edn.specs.LongArrays.{ChangesTags, IsLongArray, AreElementsOf, array_of, alone, in_lines, head_of_width, front_text, zeros, zeros_text, cut, IsTextBehindZeros, IsTextWithin, IsTextAtEnd, Puts, IsArrayText, IsArrayRead, behind_array, IsFrontText}
use Rattle.cbor_edn.specs.Runs.{IsPrintedAs}
use Rattle.cbor_edn.specs.RunSteps.{StepsGive}
use Rattle.cbor_edn.proofs.ElementTexts.{read_on, row_onto, front_valid, front_on, entries_on, texts_on}
use Rattle.cbor_edn.proofs.EntriesRead.{array_read, row_counted}
use Rattle.cbor_edn.proofs.LongArrayTexts.{array_text, entries_laid, behind_zeros, zero_end, front_length, cut_out, utf8_behind, utf8_before, front_utf8, row_valid, elements_valid, array_valid, alone_printed, alone_valid_again, before_laid, elements_laid, separator_valid, zeros_array}
use Rattle.cbor_edn.proofs.NestedSteps.{before, row_length, some_same, nests_changes, changes_given, given_changes}
use Rattle.cbor_edn.proofs.SplitSteps.{split_changes, leave_changes, zero_alone}

-- the items of a sequence
rest_of : Tree (Rest Elements) → Tree Seq → Tree (Rest Elements)
rest_of m (NothingTree s) = m
rest_of m (SequenceTree s n) = n

rest_same : {m n : Tree (Rest Elements)} → elements m ≡ elements n → m ≡ n
unfolding rest_of
rest_same {m = m} is = ap (rest_of m) is

-- ---- elements in an array of their own

pub text_behind_zeros : (o : Options) (ws : List (Tree OneItem)) (m : Tree (Rest Elements)) (v : Tree Seq) (out : List ℕ) → ChangesTags o → element_row ws ≡ Some m → StepsGive o (alone NoIndicator (entries_onto (zeros 80) m)) v → IsPrintedAs v out → IsTextBehindZeros o ws out
text_behind_zeros o ws m v out tags row give printed =
    let c = changes_given o (alone NoIndicator (entries_onto (zeros 80) m)) v tags give in
    let g = behind_zeros (Changes o) (nests_changes o tags) 80 m c.0 v out (omega arith) c.1 c.2 printed.2 in
    let t = text (laid in_lines g.0) in
    record {
      before = m;
      after = g.0;
      row = row;
      changed = g.1;
      valid = elements_valid 80 g.0 (omega arith) (subst (λ (t : Tree Seq). Valid t) g.3 printed.0);
      utf8 = utf8_before t (93 ∷ 10 ∷ []) (IsUtf8-from_ascii _ (search arith)) (utf8_behind zeros_text (t ++ (93 ∷ 10 ∷ [])) front_utf8 (subst IsUtf8 g.2 printed.1));
      is = g.2;
    }

-- what the calls answer
elements_of : {X : Type 0} (f : X → Tree OneItem) (xs : List X) → map (λ x. ElementTree (f x)) xs ≡ map ElementTree (map f xs)
elements_of f [] = refl
elements_of f (x ∷ xs) = ap (λ (l : List (Tree (OneEntry Elements))). ElementTree (f x) ∷ l) (elements_of f xs)

some_row : (ws : List (Tree OneItem)) → 0 < length ws → (m : Tree (Rest Elements)) × (element_row ws ≡ Some m)
some_row [] some = absurd (omega (arith, some))
some_row (w ∷ ws) some = (in_front (ElementTree w) (element_row ws), refl)

pub printed_behind_zeros : {X S : Type 0} (item : X → Tree OneItem) (tree : S → Tree Seq) (o : Options) (xs zs all : List X) (made boxed lent after again : S) (r : Result (Vec ℕ Global) AllocError)
    → ChangesTags o → 0 < length xs → All IsLine (map item xs) → map item zs ≡ replicate 80 zero_item → all ≡ zs ++ xs
    → tree made ≡ elements (LastTree (ElementTree (ListTree Array (comma_inside (map (λ x. ElementTree (item x)) all)))) []) → boxed ≡ made → lent ≡ boxed → tree after ≡ laid_out SingleLineRegularSpacing (tree lent) → again ≡ after
    → IfOk r (λ out. (v : Tree Seq) × StepsGive o (tree again) v × IsPrintedAs v out.items) → IfOk r (λ out. IsTextBehindZeros o (map item xs) out.items)
printed_behind_zeros item tree o xs zs all made boxed lent after again (Err e) tags some lines zeros_are joins is same lends lays left shown = tt
printed_behind_zeros item tree o xs zs all made boxed lent after again (Ok out) tags some lines zeros_are joins is same lends lays left (v, give, printed) =
    let ws = map item xs in
    let row = some_row ws (let l = length-map xs item in omega (arith, l, some)) in
    let listed : map (λ x. ElementTree (item x)) all ≡ map ElementTree (replicate 80 zero_item ++ ws) =
    elements_of item all ∙ ap (map ElementTree) (ap (map item) joins ∙ map-append item zs xs ∙ ap (λ (l : List (Tree OneItem)). l ++ ws) zeros_are) in
    let tree_is : tree again ≡ alone NoIndicator (entries_onto (zeros 80) row.0) =
    ap tree left ∙ lays ∙ ap (λ (t : Tree Seq). laid_out SingleLineRegularSpacing t) (ap tree (lends ∙ same) ∙ is ∙ ap (λ (l : List (Tree (OneEntry Elements))). elements (LastTree (ElementTree (ListTree Array (comma_inside l))) [])) listed)
    ∙ zeros_array ws row.0 lines row.1 in
    text_behind_zeros o ws row.0 v out.items tags row.1 (subst (λ (t : Tree Seq). StepsGive o t v) tree_is give) printed

-- of elements with an integer behind them, which is cut off with the end of the array
record OfOthers (o : Options) (ws : List (Tree OneItem)) (out : List ℕ) : Type 0 where
  fronts : Fronts
  changed : InFront (Changes o) (separated ws) fronts
  valid : Valid (laid in_lines (entries_onto fronts zero_alone))
  utf8 : IsUtf8 (entries_text (map (laid_entry in_lines) fronts))
  is : out ≡ zeros_text ++ (entries_text (map (laid_entry in_lines) fronts) ++ (48 ∷ 10 ∷ 93 ∷ 10 ∷ []))

of_others : (o : Options) (ws : List (Tree OneItem)) (out : List ℕ) → IsTextBehindZeros o (ws ++ zero_item ∷ []) out → OfOthers o ws out
of_others o ws out t =
    let whole : t.before ≡ entries_onto (separated ws) zero_alone = some_same (sym t.row ∙ row_onto ws (zero_item ∷ []) zero_alone refl) in
    let s = split_changes o (separated ws) zero_alone (elements t.after) (subst (λ (m : Tree (Rest Elements)). Changes o (elements m) (elements t.after)) whole t.changed) in
    let fs = s.0 in
    let after : t.after ≡ entries_onto fs zero_alone = rest_same s.2 ∙ ap (entries_onto fs) (rest_same (leave_changes o (elements s.1) s.3)) in
    let front = entries_text (map (laid_entry in_lines) fs) in
    let text_is : text (laid in_lines t.after) ≡ front ++ (48 ∷ 10 ∷ []) = ap (λ (m : Tree (Rest Elements)). text (laid in_lines m)) after ∙ entries_laid in_lines fs zero_alone ∙ ap (λ (l : List ℕ). front ++ l) zero_end in
    record {
      fronts = fs;
      changed = s.4;
      valid = subst (λ (m : Tree (Rest Elements)). Valid (laid in_lines m)) after t.valid;
      utf8 = utf8_before front (48 ∷ 10 ∷ []) (IsUtf8-from_ascii _ (search arith)) (subst IsUtf8 text_is t.utf8);
      is = t.is ∙ ap (λ (l : List ℕ). zeros_text ++ (l ++ (93 ∷ 10 ∷ []))) text_is ∙ ap (λ (l : List ℕ). zeros_text ++ l) (regroup front);
    } where
      regroup : (a : List ℕ) → (a ++ (48 ∷ 10 ∷ [])) ++ (93 ∷ 10 ∷ []) ≡ a ++ (48 ∷ 10 ∷ 93 ∷ 10 ∷ [])
      regroup a = simp append_assoc refl

pub text_within : (o : Options) (ws : List (Tree OneItem)) (out : List ℕ) → IsTextBehindZeros o (ws ++ zero_item ∷ []) out → IsTextWithin o ws (cut 4 out)
text_within o ws out t =
    let g = of_others o ws out t in
    let left : cut 4 out ≡ entries_text (map (laid_entry in_lines) g.fronts) = cut_out (entries_text (map (laid_entry in_lines) g.fronts)) (48 ∷ 10 ∷ 93 ∷ 10 ∷ []) out g.is in
    (g.fronts, g.changed, front_valid (map (laid_entry in_lines) g.fronts) (laid in_lines zero_alone) (row_valid in_lines g.fronts zero_alone g.valid), subst IsUtf8 (sym left) g.utf8, left)

-- there is so much to cut off
pub long_enough : (o : Options) (ws : List (Tree OneItem)) (out : List ℕ) → IsTextBehindZeros o ws out → 567 ≤ length out
long_enough o ws out t = let f = front_length 80 in let l : length out ≡ length (zeros_text ++ (text (laid in_lines t.after) ++ (93 ∷ 10 ∷ []))) = ap length t.is in let a = length-append zeros_text (text (laid in_lines t.after) ++ (93 ∷ 10 ∷ [])) in let b = length-append (text (laid in_lines t.after)) (93 ∷ 10 ∷ []) in omega (arith, f, l, a, b)

pub long_for_others : (o : Options) (ws : List (Tree OneItem)) (out : List ℕ) → IsTextBehindZeros o (ws ++ zero_item ∷ []) out → 570 ≤ length out
long_for_others o ws out t =
    let g = of_others o ws out t in
    let front = entries_text (map (laid_entry in_lines) g.fronts) in
    let f = front_length 80 in
    let l : length out ≡ length (zeros_text ++ (front ++ (48 ∷ 10 ∷ 93 ∷ 10 ∷ []))) = ap length g.is in
    let a = length-append zeros_text (front ++ (48 ∷ 10 ∷ 93 ∷ 10 ∷ [])) in
    let b = length-append front (48 ∷ 10 ∷ 93 ∷ 10 ∷ []) in
    omega (arith, f, l, a, b)

pub text_at_end : (o : Options) (ws : List (Tree OneItem)) (out : List ℕ) → IsTextBehindZeros o ws out → IsTextAtEnd o ws (cut 1 out)
text_at_end o ws out t =
    let end = text (laid in_lines t.after) ++ (93 ∷ []) in
    let out_is : out ≡ zeros_text ++ (end ++ (10 ∷ [])) = t.is ∙ ap (λ (l : List ℕ). zeros_text ++ l) (regroup (text (laid in_lines t.after))) in
    let left : cut 1 out ≡ end = cut_out end (10 ∷ []) out out_is in
    record {
      before = t.before;
      after = t.after;
      row = t.row;
      changed = t.changed;
      valid = t.valid;
      utf8 = subst IsUtf8 (sym left) (IsUtf8-append (text (laid in_lines t.after)) (93 ∷ []) t.utf8 (IsUtf8-from_ascii _ (search arith)));
      is = left;
    } where
      regroup : (a : List ℕ) → a ++ (93 ∷ 10 ∷ []) ≡ (a ++ (93 ∷ [])) ++ (10 ∷ [])
      regroup a = simp append_assoc refl

-- ---- turns

within_none : (o : Options) → IsTextWithin o [] []
within_none o = ([], λ m n h. h, λ m h. h, IsUtf8-nil, refl)

more_within : (o : Options) (ws xs : List (Tree OneItem)) (a b : List ℕ) → IsTextWithin o ws a → IsTextWithin o xs b → IsTextWithin o (ws ++ xs) (a ++ b)
more_within o ws xs a b (es, first, valid, utf8, is) (fs, second, sound, good, same) =
    let both : map (laid_entry in_lines) (es ++ fs) ≡ map (laid_entry in_lines) es ++ map (laid_entry in_lines) fs = map-append (laid_entry in_lines) es fs in (
      es ++ fs,
      front_on (Changes o) ws xs es fs first second,
      λ m h. subst (λ (t : Tree (Rest Elements)). Valid t) (sym (ap (λ (l : Fronts). entries_onto l m) both ∙ entries_on (map (laid_entry in_lines) es) (map (laid_entry in_lines) fs) m)) (valid (entries_onto (map (laid_entry in_lines) fs) m) (sound m h)),
      IsUtf8-append a b utf8 good,
      ap (λ (t : List ℕ). t ++ b) is ∙ ap (λ (t : List ℕ). entries_text (map (laid_entry in_lines) es) ++ t) same ∙ sym (ap entries_text both ∙ texts_on (map (laid_entry in_lines) es) (map (laid_entry in_lines) fs)),
    )

-- Some elements of the array are read, and their text is behind that of its head.
pub record IsBegun (o : Options) (w : Width) (n limit : ℕ) (bytes rest : List ℕ) (left : ℕ) (out : List ℕ) : Type 0 where
  pub items : List (Tree OneItem)
  pub read : AreRead limit bytes items rest
  pub count : length items + left ≡ n
  pub texts : List ℕ
  pub within : IsTextWithin o items texts
  pub is : out ≡ front_text w n ++ texts

pub begun : (o : Options) (w : Width) (n limit : ℕ) (bytes out : List ℕ) → out ≡ front_text w n → IsBegun o w n limit bytes bytes n out
begun o w n limit bytes out is = record { items = []; read = refl; count = omega arith; texts = []; within = within_none o; is = is ∙ sym (append-nil (front_text w n)) }

pub more_begun : (o : Options) (w : Width) (n limit : ℕ) (bytes rest behind : List ℕ) (left less : ℕ) (out more : List ℕ) (xs : List (Tree OneItem)) → IsBegun o w n limit bytes rest left out
    → AreRead limit rest xs behind → length xs + less ≡ left → Puts (IsTextWithin o xs) out more → IsBegun o w n limit bytes behind less more
more_begun o w n limit bytes rest behind left less out more xs b read count (texts, within, puts) = record {
  items = b.items ++ xs;
  read = read_on limit bytes rest behind b.items xs b.read read;
  count = let s = length-append b.items xs in let c = b.count in omega (arith, s, c, count);
  texts = b.texts ++ texts;
  within = more_within o b.items xs b.texts texts b.within within;
  is = puts ∙ ap (λ (t : List ℕ). t ++ texts) b.is ∙ append_assoc (front_text w n) b.texts texts;
}

-- All are.
pub ended : (o : Options) (w : Width) (n limit : ℕ) (bytes rest behind : List ℕ) (left : ℕ) (out more : List ℕ) (xs : List (Tree OneItem)) → ChangesTags o → 80 ≤ n → IsUtf8 (front_text w n) → IsBegun o w n limit bytes rest left out
    → AreRead limit rest xs behind → length xs ≡ left → Puts (IsTextAtEnd o xs) out more → (ws : List (Tree OneItem)) × AreElementsOf limit n bytes ws behind × IsArrayText o w n ws more
ended o w n limit bytes rest behind left out more xs tags long front8 b read count (texts, t, puts) =
    let ws = b.items ++ xs in
    let fs = b.within.0 in
    let first = entries_onto (separated b.items) t.before in
    let after = entries_onto fs t.after in
    let changed : Changes o (elements first) (elements after) = b.within.1 t.before t.after t.changed in
    let row : element_row ws ≡ Some first = row_onto b.items xs t.before t.row in
    let all : length ws ≡ n = let s = length-append b.items xs in let c = b.count in omega (arith, s, c, count) in
    let wide : 80 ≤ row_length after = let k = (nests_changes o tags).keeps_length first after changed in let r = row_counted ws first row in omega (arith, k, r, all, long) in
    let front = entries_text (map (laid_entry in_lines) fs) in
    let head = list_head_text (laid_list_head in_lines (head_of_width w n)) in
    let is : more ≡ text (laid (layout indented) (array_of (head_of_width w n) after)) =
    puts
    ∙ ap (λ (l : List ℕ). l ++ texts) (b.is ∙ ap (λ (l : List ℕ). front_text w n ++ l) b.within.4)
    ∙ ap (λ (l : List ℕ). (front_text w n ++ front) ++ l) t.is
    ∙ regroup head (respaced Optional First in_lines []) front (text (laid in_lines t.after))
    ∙ ap (λ (l : List ℕ). 91 ∷ ((head ++ (respaced Optional First in_lines [] ++ l)) ++ (93 ∷ []))) (sym (entries_laid in_lines fs t.after))
    ∙ sym (array_text (head_of_width w n) after wide) in (
      ws,
      (read_on limit bytes rest behind b.items xs b.read read, all),
      record {
        before = first;
        after = after;
        row = row;
        changed = changed;
        valid = array_valid (indicator_of w n) after wide (subst (λ (m : Tree (Rest Elements)). Valid m) (sym (laid_entries in_lines fs t.after)) (b.within.2 (laid in_lines t.after) t.valid));
        utf8 = subst IsUtf8 (sym (puts ∙ ap (λ (l : List ℕ). l ++ texts) b.is)) (IsUtf8-append (front_text w n ++ b.texts) texts (IsUtf8-append (front_text w n) b.texts front8 b.within.3) t.utf8);
        is = is;
      },
    ) where
      regroup : (a b c d : List ℕ) → ((91 ∷ (a ++ (b ++ []))) ++ c) ++ (d ++ (93 ∷ [])) ≡ 91 ∷ ((a ++ (b ++ (c ++ d))) ++ (93 ∷ []))
      regroup a b c d = simp (append_assoc, append-nil) refl

-- ---- an array in a sequence

module _ (o : Options) (w : Width) (n : ℕ) (ws : List (Tree OneItem)) (out : List ℕ) (tags : ChangesTags o) (t : IsArrayText o w n ws out) where
  pub array_alone : (x : Tree OneItem) (whole : List ℕ) → x ≡ array_of (head_of_width w n) t.before → whole ≡ out ++ (10 ∷ []) → IsTextOf o (x ∷ []) whole
  array_alone x whole same is =
      let h = head_of_width w n in
      let v = laid_out indented (alone h t.after) in
      subst (λ (x : Tree OneItem). IsTextOf o (x ∷ []) whole) (sym same) (
        v,
        given_changes o (alone h t.before) (alone h t.after) tags ((nests_changes o tags).nests h t.before t.after t.changed),
        (alone_valid_again h t.after t.valid, subst IsUtf8 (sym is) (IsUtf8-append out (10 ∷ []) t.utf8 (IsUtf8-from_ascii _ (search arith))), is ∙ ap (λ (l : List ℕ). l ++ (10 ∷ [])) t.is ∙ sym (alone_printed h t.after)),
      )

  pub array_in_front : (x : Tree OneItem) (whole : List ℕ) → x ≡ array_of (head_of_width w n) t.before → whole ≡ out ++ (44 ∷ 10 ∷ []) → IsTextInFront o (x ∷ []) whole
  unfolding Valid
  array_in_front x whole same is =
      let h = head_of_width w n in
      let e = ElementTree (laid (layout indented) (array_of h t.after)) in
      let steps : InFront (StepsGive o) (separated (array_of h t.before ∷ [])) ((e, 44 ∷ 10 ∷ []) ∷ []) = λ x y k.
      let c = changes_given o (elements x) (elements y) tags k in
      let u = (nests_changes o tags).closes x c.0 c.1 in
      let d = (nests_changes o tags).goes_before h t.before t.after (44 ∷ 32 ∷ []) t.changed x u.0 (subst (λ (s : Tree Seq). Changes o (elements x) s) u.1 c.1) in
      let last : elements y ≡ elements (laid (layout indented) u.0) = c.2 ∙ ap (λ (s : Tree Seq). laid_out indented s) u.1 ∙ elements_laid u.0 in
      let whole : laid_out indented (before h t.after (44 ∷ 32 ∷ []) u.0) ≡ elements (MoreTree e (44 ∷ 10 ∷ []) y) = before_laid h t.after u.0 ∙ ap (λ (m : Tree (Rest Elements)). elements (MoreTree e (44 ∷ 10 ∷ []) m)) (sym (rest_same last)) in
      subst (λ (s : Tree Seq). StepsGive o (before h t.before (44 ∷ 32 ∷ []) x) s) whole (given_changes o (before h t.before (44 ∷ 32 ∷ []) x) (before h t.after (44 ∷ 32 ∷ []) u.0) tags d) in
      subst (λ (x : Tree OneItem). IsTextInFront o (x ∷ []) whole) (sym same) (
        (e, 44 ∷ 10 ∷ []) ∷ [],
        steps,
        λ m k. (t.valid, separator_valid, k),
        subst IsUtf8 (sym is) (IsUtf8-append out (44 ∷ 10 ∷ []) t.utf8 (IsUtf8-from_ascii _ (search arith))),
        is ∙ ap (λ (l : List ℕ). l ++ (44 ∷ 10 ∷ [])) t.is ∙ ap (λ (l : List ℕ). l ++ (44 ∷ 10 ∷ [])) (sym (text_element (laid (layout indented) (array_of h t.after)))),
      )

-- ---- what is in front of a sequence

pub array_front : (o : Options) (w : Width) (n : ℕ) (bytes behind text out rest : List ℕ) (ends : Bool) → IsLongArray o bytes w n behind → IsArrayRead o w n behind text rest → length rest < length bytes → ends ≡ nat_eq (length rest) 0 → out ≡ text ++ behind_array ends → IsFrontText o bytes out rest
array_front o w n bytes behind text out rest ends long (ws, read, t) shorter is whole =
    let one : item_at trees o.limit bytes ≡ Ok (array_of (head_of_width w n) t.before, rest) = array_read o.limit w n bytes behind rest ws t.before long.1 long.2 read t.row in
    record {
      items = array_of (head_of_width w n) t.before ∷ [];
      read = (rest, one, shorter, refl);
      all = λ none. array_alone o w n ws text long.0 t (array_of (head_of_width w n) t.before) out refl (whole ∙ ap (λ b. text ++ behind_array b) (is ∙ ap (λ k. nat_eq k 0) none));
      some = λ more. array_in_front o w n ws text long.0 t (array_of (head_of_width w n) t.before) out refl (whole ∙ ap (λ b. text ++ behind_array b) (is ∙ not_zero (length rest) more));
    } where
      not_zero : (k : ℕ) → 0 < k → nat_eq k 0 ≡ false
      not_zero k some = ne_eqb k 0 (λ h. omega (arith, h, some))

-- all that is left
pub last_items : (o : Options) (bytes out rest : List ℕ) (ws : List (Tree OneItem)) → AreRead o.limit bytes ws rest → rest ≡ [] → IsTextOf o ws out → IsFrontText o bytes out rest
last_items o bytes out rest ws read none t = record { items = ws; read = read; all = λ _. t; some = λ more. let is : length rest ≡ 0 = ap length none in absurd (omega (arith, is, more)) }

-- items in front of others
pub more_items : (o : Options) (bytes out rest : List ℕ) (ws : List (Tree OneItem)) → AreRead o.limit bytes ws rest → 0 < length rest → IsTextInFront o ws out → IsFrontText o bytes out rest
more_items o bytes out rest ws read some t = record { items = ws; read = read; all = λ none. absurd (omega (arith, none, some)); some = λ _. t }
