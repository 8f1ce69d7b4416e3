-- The text of arrays that don't fit on a line, and of elements in an array of their own.
use Rattle.std.proofs.Common.{◌≡◌, ℕ, zero, suc, ◌+◌, ◌*◌, ◌-◌, ◌≤◌, List, [], ◌∷◌, ◌++◌, map, length, length-append, take, drop, Option, Some, None, refl, sym, ap, subst, ◌∙◌, append_assoc, arith}
use Rattle.std.specs.Prelude.{replicate, All}
use Rattle.std.specs.Str.{IsUtf8}
use Rattle.std.proofs.lemmas.Bool.{le-ltb}
use Rattle.std.proofs.lemmas.List.Elements.{All-cons, All-head, All-tail}
use Rattle.std.proofs.lemmas.Str.{IsUtf8-append, IsUtf8-nil, IsUtf8-take, IsUtf8-drop, IsUtf8-from_ascii, IsCharBoundary-at_seam, IsCharBoundary-from_take}
use Rattle.cbor_edn_parts.specs.base.Bytes.{kind}
use Rattle.cbor_edn_parts.specs.internal.Lex.{munch, push}
use Rattle.cbor_edn_parts.specs.space.Spacing.{Optional, Mandatory, Separating, AtEnd, indented, line}
use Rattle.cbor_edn_parts.specs.space.LayoutColumns.{of_parts, saturating_add}
use Rattle.cbor_edn_parts.specs.declared.base.indicator.Indicator.{Indicator}
use Rattle.cbor_edn_parts.specs.space.Space.{IsSpace, IsMandatorySpace, IsSeparator, IsListEnd}
use Rattle.cbor_edn_parts.specs.declared.space.policy.DelimiterPolicy.TheVariants.{SingleLineRegularSpacing}
use Rattle.cbor_edn_parts.specs.declared.space.policy.Spacing.TheVariants.{OneLine}
use Rattle.cbor_edn_parts.specs.internal.CommentReading.{from_first, to_last, up_to_comma, past_comma}
use Rattle.cbor_edn_model.specs.declared.layout.width.Spaces.TheVariants.{By}
use Rattle.cbor_edn_model.specs.layout.Layout.{Layout, First, Between, Last, Elsewhere, layout, respaced, laid, laid_out, laid_list_head}
use Rattle.cbor_edn_model.specs.tree.Constructed.{comma_inside}
use Rattle.cbor_edn_model.specs.tree.Items.{Elements, Array}
use Rattle.cbor_edn_model.specs.tree.Rows.{entries_onto, entries_text}
use Rattle.cbor_edn_model.specs.tree.Trees.{Tree, Seq, OneItem, Rest, ListHead, NoIndicator, ListTree, FullTree, ElementTree, LastTree, MoreTree, NothingTree, SequenceTree, Valid, IsListHead, text, list_head_text}
use Rattle.cbor_edn_parts.proofs.lemmas.space.SpaceTexts.{optional_texts, mandatory_texts, at_end_texts, separating_texts}
use Rattle.cbor_edn_model.specs.internal.CborReading.{element_row}
use Rattle.cbor_edn_model.specs.internal.LayoutRows.{laid_entry}
use Rattle.cbor_edn_model.specs.internal.Regular.{in_front, spaced_list_head}
use Rattle.cbor_edn_model.specs.internal.Widths.{width, measured}
use Rattle.cbor_edn_model.proofs.lemmas.layout.LaidRows.{laid_entries}
use Rattle.cbor_edn_model.proofs.lemmas.layout.LaidTrees.{laid_list}
use Rattle.cbor_edn_model.proofs.lemmas.layout.LaidTexts.{text_laid_list, text_laid_full, text_laid_sequence, text_laid_rest, text_laid_element}
use Rattle.cbor_edn_model.proofs.lemmas.text.Texts.{text_element, text_number, text_last, text_entries}
use Rattle.cbor_edn.specs.Elements.{IsLine, Fronts, elements, zero_item}
use Rattle.cbor_edn.specs.LongArrays.{array_of, alone, in_lines, zeros, zeros_text, cut}
use Rattle.cbor_edn.specs.RunSteps.{Step}
use Rattle.cbor_edn.proofs.ElementTexts.{comma_laid, row_onto, taken_front, zero_line}
use Rattle.cbor_edn.proofs.NestedSteps.{before, row_length, some_same, Nests}
use Rattle.cbor_edn.proofs.SplitSteps.{zero_alone}

row_wide : (m : Tree (Rest Elements)) → row_length m ≤ width (By OneLine) m + 1
unfolding width
row_wide (LastTree e s) = omega arith
row_wide (MoreTree e s m) = let h = row_wide m in simp length-append (omega (arith, h))

array_wide : (h : ListHead) (m : Tree (Rest Elements)) → 80 ≤ row_length m → 80 ≤ measured (array_of h m)
unfolding width
array_wide h m long = let w = row_wide m in omega (arith, w, long)

pub parts_on_lines : (h : ListHead) (m : Tree (Rest Elements)) → 80 ≤ row_length m → of_parts (layout indented) (measured (array_of h m)) ≡ in_lines
parts_on_lines h m long =
    let w = array_wide h m long in
    rw (le-ltb (saturating_add (measured (array_of h m)) 0) 80 (omega (arith, w))) refl

pub array_text : (h : ListHead) (m : Tree (Rest Elements)) → 80 ≤ row_length m → text (laid (layout indented) (array_of h m)) ≡ 91 ∷ ((list_head_text (laid_list_head in_lines h) ++ (respaced Optional First in_lines [] ++ text (laid in_lines m))) ++ (93 ∷ []))
array_text h m long =
    text_laid_list (layout indented) Array (FullTree h [] m)
    ∙ ap (λ (l : Layout). 91 ∷ (text (laid l (FullTree {k = Array} h [] m)) ++ (93 ∷ []))) (parts_on_lines h m long)
    ∙ ap (λ (t : List ℕ). 91 ∷ (t ++ (93 ∷ []))) (text_laid_full in_lines Array h [] m)

pub entries_laid : (l : Layout) (fs : Fronts) (m : Tree (Rest Elements)) → text (laid l (entries_onto fs m)) ≡ entries_text (map (laid_entry l) fs) ++ text (laid l m)
entries_laid l fs m = ap text (laid_entries l fs m) ∙ text_entries (map (laid_entry l) fs) (laid l m)

-- ---- integers in front

zeros_long : (n : ℕ) (m : Tree (Rest Elements)) → n ≤ row_length (entries_onto (zeros n) m)
zeros_long zero m = omega arith
zeros_long (suc n) m = let h = zeros_long n m in omega (arith, h)

zero_separated : respaced Separating Between in_lines (44 ∷ 32 ∷ []) ≡ 44 ∷ 10 ∷ 32 ∷ 32 ∷ 32 ∷ 32 ∷ []
unfolding from_first to_last up_to_comma past_comma line
zero_separated = refl

one_zero : text (laid in_lines (ElementTree zero_item)) ≡ 48 ∷ []
unfolding laid
one_zero = text_element zero_item ∙ text_number (48 ∷ []) None

zeros_length : (n : ℕ) → length (entries_text (map (laid_entry in_lines) (zeros n))) ≡ n * 7
zeros_length zero = refl
zeros_length (suc n) = rw (one_zero, zero_separated) (let h = zeros_length n in omega (arith, h))

skip_zeros : (P : Step) → Nests P → (n : ℕ) (m : Tree (Rest Elements)) (v : Tree Seq) → P (elements (entries_onto (zeros n) m)) v → (k : Tree (Rest Elements)) × (v ≡ elements (entries_onto (zeros n) k)) × P (elements m) (elements k)
skip_zeros P p zero m v h = let a = p.closes m v h in (a.0, a.1, subst (λ (t : Tree Seq). P (elements m) t) a.1 h)
skip_zeros P p (suc n) m v h =
    let a = p.skips (44 ∷ 32 ∷ []) (entries_onto (zeros n) m) v h in
    let b = skip_zeros P p n m (elements a.0) a.2 in
    (b.0, a.1 ∙ ap more b.1, b.2) where
      more : Tree Seq → Tree Seq
      more (NothingTree s) = NothingTree s
      more (SequenceTree s x) = elements (MoreTree (ElementTree zero_item) (44 ∷ 32 ∷ []) x)

-- what stands in front of the elements
abbrev pub front_of : ℕ → List ℕ
front_of n = 91 ∷ (respaced Optional First in_lines [] ++ entries_text (map (laid_entry in_lines) (zeros n)))

line_first : respaced Optional First in_lines [] ≡ 10 ∷ 32 ∷ 32 ∷ 32 ∷ 32 ∷ []
unfolding from_first to_last line
line_first = refl

pub front_length : (n : ℕ) → length (front_of n) ≡ 6 + n * 7
front_length n = let h = zeros_length n in rw line_first (omega (arith, h))

bare : respaced Optional Elsewhere (layout indented) [] ≡ []
unfolding from_first to_last
bare = refl

line_behind : respaced AtEnd Last (layout indented) [] ≡ 10 ∷ []
unfolding from_first to_last up_to_comma past_comma line
line_behind = refl

-- a sequence of an array on lines, with what stands behind it
alone_text : (n : ℕ) (k : Tree (Rest Elements)) → 80 ≤ n → text (laid_out indented (alone NoIndicator (entries_onto (zeros n) k))) ≡ front_of n ++ (text (laid in_lines k) ++ (93 ∷ 10 ∷ []))
alone_text n k long =
    let m = entries_onto (zeros n) k in
    let w = zeros_long n k in
    text_laid_sequence (layout indented) [] (LastTree (ElementTree (array_of NoIndicator m)) [])
    ∙ ap (λ (t : List ℕ). t ++ text (laid (layout indented) (LastTree (ElementTree (array_of NoIndicator m)) []))) bare
    ∙ text_laid_rest (layout indented) [] (ElementTree (array_of NoIndicator m)) []
    ∙ ap (λ (t : List ℕ). t ++ respaced AtEnd Last (layout indented) []) (text_laid_element (layout indented) (array_of NoIndicator m) ∙ array_text NoIndicator m (omega (arith, w, long)))
    ∙ ap (λ (t : List ℕ). (91 ∷ (([] ++ (respaced Optional First in_lines [] ++ text (laid in_lines m))) ++ (93 ∷ []))) ++ t) line_behind
    ∙ ap (λ (t : List ℕ). (91 ∷ (([] ++ (respaced Optional First in_lines [] ++ t)) ++ (93 ∷ []))) ++ (10 ∷ [])) (entries_laid in_lines (zeros n) k)
    ∙ regroup (respaced Optional First in_lines []) (entries_text (map (laid_entry in_lines) (zeros n))) (text (laid in_lines k)) where
      regroup : (a b c : List ℕ) → (91 ∷ ((a ++ (b ++ c)) ++ (93 ∷ []))) ++ (10 ∷ []) ≡ (91 ∷ (a ++ b)) ++ (c ++ (93 ∷ 10 ∷ []))
      regroup a b c = simp append_assoc refl

pub zero_end : text (laid in_lines zero_alone) ≡ 48 ∷ 10 ∷ []
unfolding laid from_first to_last up_to_comma past_comma line
zero_end = text_last (ElementTree zero_item) _ ∙ ap (λ (t : List ℕ). t ++ (10 ∷ [])) (text_element zero_item ∙ text_number (48 ∷ []) None)

-- The elements of an array of their own, behind integers, and their text.
pub behind_zeros : (P : Step) → Nests P → (n : ℕ) (m : Tree (Rest Elements)) (u v : Tree Seq) (out : List ℕ) → 80 ≤ n → P (alone NoIndicator (entries_onto (zeros n) m)) u → v ≡ laid_out indented u → out ≡ text v
    → (k : Tree (Rest Elements)) × P (elements m) (elements k) × (out ≡ front_of n ++ (text (laid in_lines k) ++ (93 ∷ 10 ∷ []))) × (v ≡ laid_out indented (alone NoIndicator (entries_onto (zeros n) k)))
behind_zeros P p n m u v out long h lays is =
    let a = p.enters NoIndicator (entries_onto (zeros n) m) u h in
    let b = skip_zeros P p n m (elements a.0) a.2 in
    let same : u ≡ alone NoIndicator (entries_onto (zeros n) b.0) = a.1 ∙ ap around b.1 in
    (b.0, b.2, is ∙ ap (λ (t : Tree Seq). text t) (lays ∙ ap (λ (t : Tree Seq). laid_out indented t) same) ∙ alone_text n b.0 long, lays ∙ ap (λ (t : Tree Seq). laid_out indented t) same) where
      around : Tree Seq → Tree Seq
      around (NothingTree s) = NothingTree s
      around (SequenceTree s x) = alone NoIndicator x

-- ---- what is cut out

drop_front : (a b : List ℕ) → drop (length a) (a ++ b) ≡ b
drop_front [] b = refl
drop_front (x ∷ a) b = drop_front a b

pub cut_out : (x t out : List ℕ) → out ≡ zeros_text ++ (x ++ t) → cut (length t) out ≡ x
cut_out x t out is =
    let front : drop 566 out ≡ x ++ t = ap (drop 566) is ∙ ap (λ n. drop n (zeros_text ++ (x ++ t))) (sym (front_length 80)) ∙ drop_front zeros_text (x ++ t) in
    let len : length out - length t - 566 ≡ length x =
    let l : length out ≡ length (zeros_text ++ (x ++ t)) = ap length is in
    let s = length-append zeros_text (x ++ t) in
    let r = length-append x t in
    let f = front_length 80 in
    omega (arith, l, s, r, f) in
    ap (λ n. take n (drop 566 out)) len ∙ ap (take (length x)) front ∙ taken_front x t

-- ---- characters

pub utf8_behind : (a b : List ℕ) → IsUtf8 a → IsUtf8 (a ++ b) → IsUtf8 b
utf8_behind a b front all =
    let s = length-append a b in
    subst IsUtf8 (drop_front a b) (IsUtf8-drop (a ++ b) (length a) all (IsCharBoundary-from_take (a ++ b) (length a) all (omega (arith, s)) (subst IsUtf8 (sym (taken_front a b)) front)))

pub utf8_before : (a b : List ℕ) → IsUtf8 b → IsUtf8 (a ++ b) → IsUtf8 a
utf8_before a b behind all = subst IsUtf8 (taken_front a b) (IsUtf8-take (a ++ b) (length a) all (IsCharBoundary-at_seam (a ++ b) a b refl behind))

zeros_utf8 : (n : ℕ) → IsUtf8 (entries_text (map (laid_entry in_lines) (zeros n)))
zeros_utf8 zero = IsUtf8-nil
zeros_utf8 (suc n) = rw (one_zero, zero_separated) (IsUtf8-append (48 ∷ 44 ∷ 10 ∷ 32 ∷ 32 ∷ 32 ∷ 32 ∷ []) (entries_text (map (laid_entry in_lines) (zeros n))) (IsUtf8-from_ascii _ (search arith)) (zeros_utf8 n))

pub front_utf8 : IsUtf8 zeros_text
front_utf8 = rw line_first (IsUtf8-append (91 ∷ 10 ∷ 32 ∷ 32 ∷ 32 ∷ 32 ∷ []) (entries_text (map (laid_entry in_lines) (zeros 80))) (IsUtf8-from_ascii _ (search arith)) (zeros_utf8 80))

-- ---- texts in their sets

pub row_valid : (l : Layout) (fs : Fronts) (m : Tree (Rest Elements)) → Valid (laid l (entries_onto fs m)) → Valid (entries_onto (map (laid_entry l) fs) (laid l m))
row_valid l fs m is = subst (λ (t : Tree (Rest Elements)). Valid t) (laid_entries l fs m) is

valid_behind : (fs : Fronts) (m : Tree (Rest Elements)) → Valid (entries_onto fs m) → Valid m
unfolding Valid
valid_behind [] m is = is
valid_behind (f ∷ fs) m is = valid_behind fs m is.2

array_laid : (h : ListHead) (m : Tree (Rest Elements)) → 80 ≤ row_length m → laid (layout indented) (array_of h m) ≡ ListTree Array (laid in_lines (FullTree h [] m))
array_laid h m long = laid_list (layout indented) Array (FullTree h [] m) ∙ ap (λ (l : Layout). ListTree Array (laid l (FullTree {k = Array} h [] m))) (parts_on_lines h m long)

-- of a laid sequence of an array, that array
alone_valid : (h : ListHead) (m : Tree (Rest Elements)) → Valid (laid_out indented (alone h m)) → Valid (laid (layout indented) (array_of h m))
unfolding Valid laid
alone_valid h m is = is.1.0

full_valid : (h : ListHead) (m : Tree (Rest Elements)) → Valid (ListTree Array (laid in_lines (FullTree h [] m))) → Valid (laid in_lines m)
unfolding Valid laid
full_valid h m is = is.2

pub elements_valid : (n : ℕ) (k : Tree (Rest Elements)) → 80 ≤ n → Valid (laid_out indented (alone NoIndicator (entries_onto (zeros n) k))) → Valid (laid in_lines k)
elements_valid n k long is =
    let m = entries_onto (zeros n) k in
    let w = zeros_long n k in
    let array = subst (λ (t : Tree OneItem). Valid t) (array_laid NoIndicator m (omega (arith, w, long))) (alone_valid NoIndicator m is) in
    valid_behind (map (laid_entry in_lines) (zeros n)) (laid in_lines k) (row_valid in_lines (zeros n) k (full_valid NoIndicator m array))

mandatory_left : respaced Mandatory Elsewhere in_lines (32 ∷ []) ≡ 32 ∷ []
unfolding from_first to_last
mandatory_left = refl

head_valid : (i : Option Indicator) → IsListHead (laid_list_head in_lines (spaced_list_head i))
unfolding munch kind push
head_valid None = tt
head_valid (Some i) = subst IsMandatorySpace (sym mandatory_left) ((mandatory_texts (32 ∷ [])).1 refl)

first_valid : IsSpace (respaced Optional First in_lines [])
unfolding munch kind push
first_valid = subst IsSpace (sym line_first) ((optional_texts (10 ∷ 32 ∷ 32 ∷ 32 ∷ 32 ∷ [])).1 refl)

full_from : (h : ListHead) (m : Tree (Rest Elements)) → IsListHead (laid_list_head in_lines h) → IsSpace (respaced Optional First in_lines []) → Valid (laid in_lines m) → Valid (ListTree Array (laid in_lines (FullTree h [] m)))
unfolding Valid laid
full_from h m head space rest = (head, space, rest)

pub array_valid : (i : Option Indicator) (m : Tree (Rest Elements)) → 80 ≤ row_length m → Valid (laid in_lines m) → Valid (laid (layout indented) (array_of (spaced_list_head i) m))
array_valid i m long is = subst (λ (t : Tree OneItem). Valid t) (sym (array_laid (spaced_list_head i) m long)) (full_from (spaced_list_head i) m (head_valid i) first_valid is)

-- ---- an array in a sequence

-- its text, as the only item and in front of others
pub alone_printed : (h : ListHead) (m : Tree (Rest Elements)) → text (laid_out indented (alone h m)) ≡ text (laid (layout indented) (array_of h m)) ++ (10 ∷ [])
alone_printed h m =
    text_laid_sequence (layout indented) [] (LastTree (ElementTree (array_of h m)) [])
    ∙ ap (λ (t : List ℕ). t ++ text (laid (layout indented) (LastTree (ElementTree (array_of h m)) []))) bare
    ∙ text_laid_rest (layout indented) [] (ElementTree (array_of h m)) []
    ∙ ap (λ (t : List ℕ). t ++ respaced AtEnd Last (layout indented) []) (text_laid_element (layout indented) (array_of h m))
    ∙ ap (λ (t : List ℕ). text (laid (layout indented) (array_of h m)) ++ t) line_behind

alone_from : (h : ListHead) (m : Tree (Rest Elements)) → IsSpace (respaced Optional Elsewhere (layout indented) []) → IsListEnd (respaced AtEnd Last (layout indented) []) → Valid (laid (layout indented) (array_of h m)) → Valid (laid_out indented (alone h m))
unfolding Valid laid
alone_from h m space end is = (space, (is, end))

pub alone_valid_again : (h : ListHead) (m : Tree (Rest Elements)) → Valid (laid (layout indented) (array_of h m)) → Valid (laid_out indented (alone h m))
unfolding munch kind push
alone_valid_again h m is = alone_from h m (subst IsSpace (sym bare) ((optional_texts []).1 refl)) (subst IsListEnd (sym line_behind) ((at_end_texts (10 ∷ [])).1 refl)) is

line_between : respaced Separating Between (layout indented) (44 ∷ 32 ∷ []) ≡ 44 ∷ 10 ∷ []
unfolding from_first to_last up_to_comma past_comma line
line_between = refl

before_parts : (h : ListHead) (m x : Tree (Rest Elements)) → laid_out indented (before h m (44 ∷ 32 ∷ []) x) ≡ SequenceTree (respaced Optional Elsewhere (layout indented) []) (MoreTree (ElementTree (laid (layout indented) (array_of h m))) (respaced Separating Between (layout indented) (44 ∷ 32 ∷ [])) (laid (layout indented) x))
unfolding laid
before_parts h m x = refl

pub before_laid : (h : ListHead) (m x : Tree (Rest Elements)) → laid_out indented (before h m (44 ∷ 32 ∷ []) x) ≡ elements (MoreTree (ElementTree (laid (layout indented) (array_of h m))) (44 ∷ 10 ∷ []) (laid (layout indented) x))
before_laid h m x =
    before_parts h m x
    ∙ ap (λ (s : List ℕ). SequenceTree s (MoreTree (ElementTree (laid (layout indented) (array_of h m))) (respaced Separating Between (layout indented) (44 ∷ 32 ∷ [])) (laid (layout indented) x))) bare
    ∙ ap (λ (s : List ℕ). elements (MoreTree (ElementTree (laid (layout indented) (array_of h m))) s (laid (layout indented) x))) line_between

elements_parts : (m : Tree (Rest Elements)) → laid_out indented (elements m) ≡ SequenceTree (respaced Optional Elsewhere (layout indented) []) (laid (layout indented) m)
unfolding laid
elements_parts m = refl

pub elements_laid : (m : Tree (Rest Elements)) → laid_out indented (elements m) ≡ elements (laid (layout indented) m)
elements_laid m = elements_parts m ∙ ap (λ (s : List ℕ). SequenceTree s (laid (layout indented) m)) bare

pub separator_valid : IsSeparator (44 ∷ 10 ∷ [])
unfolding munch kind push
separator_valid = (separating_texts (44 ∷ 10 ∷ [])).1 refl

-- ---- elements behind integers, before they are laid out

comma_array : (x : Tree OneItem) (xs : List (Tree OneItem)) → All IsLine (x ∷ xs) → laid_out SingleLineRegularSpacing (elements (LastTree (ElementTree (ListTree Array (comma_inside (map ElementTree (x ∷ xs))))) [])) ≡ alone NoIndicator (in_front (ElementTree x) (element_row xs))
unfolding laid from_first to_last up_to_comma past_comma
comma_array x xs lines = ap (alone NoIndicator) (comma_laid x xs (All-head IsLine x xs lines) (All-tail IsLine x xs lines))

zeros_line : (n : ℕ) (ws : List (Tree OneItem)) → All IsLine ws → All IsLine (replicate n zero_item ++ ws)
zeros_line zero ws lines = lines
zeros_line (suc n) ws lines = All-cons IsLine zero_item (replicate n zero_item ++ ws) zero_line (zeros_line n ws lines)

pub zeros_array : (ws : List (Tree OneItem)) (m : Tree (Rest Elements)) → All IsLine ws → element_row ws ≡ Some m
    → laid_out SingleLineRegularSpacing (elements (LastTree (ElementTree (ListTree Array (comma_inside (map ElementTree (replicate 80 zero_item ++ ws))))) [])) ≡ alone NoIndicator (entries_onto (zeros 80) m)
zeros_array ws m lines row =
    let all = replicate 79 zero_item ++ ws in
    comma_array zero_item all (zeros_line 80 ws lines) ∙ ap (alone NoIndicator) (some_same (row_onto (replicate 80 zero_item) ws m row))
