-- Elements of a sequence that are read, changed and printed before those behind them.
use Rattle.std.proofs.Common.{◌≡◌, ℕ, zero, suc, ◌-◌, ◌<◌, Bool, true, false, List, [], ◌∷◌, ◌++◌, map, length, take, Option, Some, None, Ok, Err, refl, sym, ap, subst, ◌∙◌, append_assoc, arith}
use Rattle.std.specs.Prelude.{All, Result, IfOk, pos, nat_lt}
use Rattle.std.specs.Fmt.{signed_decimal}
use Rattle.std.proofs.lemmas.Fmt.{decimal_digit}
use Rattle.std.specs.declared.alloc.AllocError.{AllocError}
use Rattle.std.specs.declared.alloc.Global.{Global}
use Rattle.std.specs.declared.vec.Vec.{Vec}
use Rattle.std.specs.Str.{IsUtf8}
use Rattle.std.proofs.lemmas.Str.{IsUtf8-append, IsUtf8-take, IsUtf8-from_ascii, IsCharBoundary-at_seam}
use Rattle.std.proofs.lemmas.List.{length-append, length-map}
use Rattle.std.proofs.lemmas.List.Elements.{All-nil, All-cons, All-head, All-tail, All-push}
use Rattle.cbor_edn_parts.specs.declared.base.error.Fault.{Fault}
use Rattle.cbor_edn_parts.specs.declared.base.error.Fault.TheVariants.{Memory, Told}
use Rattle.cbor_edn_parts.specs.declared.space.policy.DelimiterPolicy.TheVariants.{SingleLineRegularSpacing}
use Rattle.cbor_edn_parts.specs.internal.CommentReading.{from_first, to_last, up_to_comma, past_comma}
use Rattle.cbor_edn_model.specs.declared.cbor.decode.CborError.{CborError}
use Rattle.cbor_edn_model.specs.declared.cbor.decode.head.Stop.TheVariants.{EndOfData}
use Rattle.cbor_edn_model.specs.cbor.Decoded.{item_of}
use Rattle.cbor_edn_model.specs.layout.Layout.{laid, laid_out}
use Rattle.cbor_edn_model.specs.tree.Constructed.{comma_rest, comma_sequence}
use Rattle.cbor_edn_model.specs.tree.Items.{Elements}
use Rattle.cbor_edn_model.specs.tree.Rows.{entries_onto, entries_text}
use Rattle.cbor_edn_model.specs.tree.Trees.{Tree, OneItem, OneEntry, Rest, Seq, NumberTree, ElementTree, LastTree, MoreTree, Valid, text}
use Rattle.cbor_edn_model.specs.internal.CborReading.{DecoderFails, item_at, until, past_stop, trees, row_of, element_row, sequence_at}
use Rattle.cbor_edn_model.specs.internal.Regular.{in_front, sequence_tree_of, regular}
use Rattle.cbor_edn_model.proofs.lemmas.cbor.CborHeads.{IsBytes}
use Rattle.cbor_edn_model.proofs.lemmas.cbor.CborTrees.{tree_of, tree_of_item, tree_read}
use Rattle.cbor_edn_model.proofs.lemmas.cbor.CborTurns.{shown_ok}
use Rattle.cbor_edn_model.proofs.lemmas.cbor.CborValues.{value_at}
use Rattle.cbor_edn_model.proofs.lemmas.layout.RegularLayout.{item_fixed}
use Rattle.cbor_edn_model.proofs.lemmas.text.Texts.{text_sequence, text_entries}
use Rattle.cbor_edn.specs.Elements.{IsLine, AreRead, IsFault, Fronts, elements, InFront, separated, AreValid, zero_item, zero_text, IsTextInFront, IsTextOf}
use Rattle.cbor_edn_command.specs.declared.options.Options.{Options}
use Rattle.cbor_edn.specs.Runs.{IsPrintedAs}
use Rattle.cbor_edn.specs.RunSteps.{Step, Where, IsLaidOut, StepsGive}
use Rattle.cbor_edn.specs.OptionSteps.{IsDiagnosed}
use Rattle.cbor_edn_core.proofs.lemmas.cbor.Decodes.{sequence_decoded}
use Rattle.cbor_edn_stream.proofs.lemmas.Tested.{decoded_valid}
use Rattle.cbor_edn.proofs.SplitSteps.{split_steps, zero_alone, zero_printed}

-- ---- what is read

module _ (limit : ℕ) where
  pub read_on : (bytes mid rest : List ℕ) (ws xs : List (Tree OneItem)) → AreRead limit bytes ws mid → AreRead limit mid xs rest → AreRead limit bytes (ws ++ xs) rest
  read_on bytes mid rest [] xs first more = subst (λ (l : List ℕ). AreRead limit l xs rest) (sym first) more
  read_on bytes mid rest (w ∷ ws) xs (behind, one, shorter, first) more = (behind, one, shorter, read_on behind mid rest ws xs first more)

  pub one_read : (bytes mid rest : List ℕ) (ws : List (Tree OneItem)) (w : Tree OneItem) → AreRead limit bytes ws mid → item_at trees limit mid ≡ Ok (w, rest) → length rest < length mid → AreRead limit bytes (ws ++ w ∷ []) rest
  one_read bytes mid rest ws w first one shorter = read_on bytes mid rest ws (w ∷ []) first (rest, one, shorter, refl)

  pub fault_on : (bytes mid : List ℕ) (ws : List (Tree OneItem)) (e : Fault CborError) → AreRead limit bytes ws mid → IsFault limit mid e → IsFault limit bytes e
  fault_on bytes mid ws e first (xs, rest, more, some, fails) = (ws ++ xs, rest, read_on bytes mid rest ws xs first more, some, fails)

  -- bytes of which some are left do not end
  going : (bytes : List ℕ) (n : ℕ) → n < length bytes → past_stop EndOfData bytes ≡ None
  going [] n some = absurd (omega arith)
  going (b ∷ bytes) n some = refl

  reads_all : (ws : List (Tree OneItem)) (n : ℕ) (bytes : List ℕ) → length bytes < n → AreRead limit bytes ws [] → until EndOfData (item_at trees limit) n bytes ≡ Ok (ws, [])
  unfolding until
  reads_all ws zero bytes less read = absurd (omega (arith, less))
  reads_all [] (suc n) bytes less read = rw read refl
  reads_all (w ∷ ws) (suc n) bytes less (behind, one, shorter, more) =
      let again = reads_all ws n behind (omega (arith, less, shorter)) more in
      rw (going bytes (length behind) shorter, one, again) refl

  pub sequence_read : (bytes : List ℕ) (ws : List (Tree OneItem)) → AreRead limit bytes ws [] → sequence_at trees limit bytes ≡ Ok (ws, [])
  sequence_read bytes ws read = reads_all ws (suc (length bytes)) bytes (omega arith) read

  fails_behind : (ws : List (Tree OneItem)) (n : ℕ) (bytes rest : List ℕ) (f : CborError) → length bytes < n → AreRead limit bytes ws rest → 0 < length rest → item_at trees limit rest ≡ Err f → until EndOfData (item_at trees limit) n bytes ≡ Err f
  unfolding until
  fails_behind ws zero bytes rest f less read some fails = absurd (omega (arith, less))
  fails_behind [] (suc n) bytes rest f less read some fails = rw (read, going rest 0 some, fails) refl
  fails_behind (w ∷ ws) (suc n) bytes rest f less (behind, one, shorter, more) some fails =
      let again = fails_behind ws n behind rest f (omega (arith, less, shorter)) more some fails in
      rw (going bytes (length behind) shorter, one, again) refl

  pub sequence_fails : (bytes : List ℕ) (e : Fault CborError) → IsFault limit bytes e → DecoderFails e (sequence_at trees limit bytes)
  sequence_fails bytes (Memory m) fault = tt
  sequence_fails bytes (Told f) (ws, rest, read, some, fails) = fails_behind ws (suc (length bytes)) bytes rest f (omega arith) read some fails

  -- what is read has the spaces of a single line
  item_line : (bytes rest : List ℕ) (w : Tree OneItem) → item_at trees limit bytes ≡ Ok (w, rest) → IsLine w
  item_line bytes rest w read =
      let s = shown_ok tree_of (value_at limit bytes) (w, rest) (sym (tree_read limit bytes) ∙ read) in
      let tree : w ≡ regular (item_of s.0.0) = ap (λ (p : Tree OneItem × List ℕ). p.0) (sym s.2) ∙ tree_of_item s.0.0 in
      subst IsLine (sym tree) (item_fixed s.0.0)

  pub lines_read : (bytes rest : List ℕ) (ws : List (Tree OneItem)) → AreRead limit bytes ws rest → All IsLine ws
  lines_read bytes rest [] read = All-nil IsLine
  lines_read bytes rest (w ∷ ws) (behind, one, shorter, more) = All-cons IsLine w ws (item_line bytes behind w one) (lines_read behind rest ws more)

-- ---- sequences of items

pub zero_line : IsLine zero_item
unfolding laid
zero_line = refl

-- items with a comma between two, laid out on a single line
pub comma_laid : (w : Tree OneItem) (ws : List (Tree OneItem)) → IsLine w → All IsLine ws → laid_out SingleLineRegularSpacing (comma_rest (ElementTree w) (map ElementTree ws)) ≡ in_front (ElementTree w) (row_of (map ElementTree ws))
unfolding laid from_first to_last up_to_comma past_comma
comma_laid w [] one more = ap (λ (v : Tree OneItem). LastTree (ElementTree v) []) one
comma_laid w (x ∷ xs) one more =
    ap (λ (v : Tree OneItem). MoreTree (ElementTree v) (44 ∷ 32 ∷ []) (laid_out SingleLineRegularSpacing (comma_rest (ElementTree x) (map ElementTree xs)))) one
    ∙ ap (MoreTree (ElementTree w) (44 ∷ 32 ∷ [])) (comma_laid x xs (All-head IsLine x xs more) (All-tail IsLine x xs more))

pub commas_laid : (ws : List (Tree OneItem)) → All IsLine ws → laid_out SingleLineRegularSpacing (comma_sequence (map ElementTree ws)) ≡ sequence_tree_of (element_row ws)
unfolding laid from_first to_last up_to_comma past_comma
commas_laid [] lines = refl
commas_laid (w ∷ ws) lines = ap elements (comma_laid w ws (All-head IsLine w ws lines) (All-tail IsLine w ws lines))

pub row_onto : (ws xs : List (Tree OneItem)) (m : Tree (Rest Elements)) → element_row xs ≡ Some m → element_row (ws ++ xs) ≡ Some (entries_onto (separated ws) m)
row_onto [] xs m is = is
row_onto (w ∷ ws) xs m is = ap (λ (o : Option (Tree (Rest Elements))). Some (in_front (ElementTree w) o)) (row_onto ws xs m is)

-- ---- texts in front of others

pub front_valid : (fs : Fronts) (n : Tree (Rest Elements)) → Valid (entries_onto fs n) → AreValid fs
unfolding Valid
front_valid [] n is m h = h
front_valid (f ∷ fs) n is m h = (is.0, is.1, front_valid fs n is.2 m h)

sequence_row_valid : (m : Tree (Rest Elements)) → Valid (elements m) → Valid m
unfolding Valid
sequence_row_valid m is = is.1

valid_in_front : (fs : Fronts) (n : Tree (Rest Elements)) → AreValid fs → Valid (elements n) → Valid (elements (entries_onto fs n))
unfolding Valid
valid_in_front fs n front is = (is.0, front n is.1)

text_of_elements : (fs : Fronts) (n : Tree (Rest Elements)) → text (elements (entries_onto fs n)) ≡ entries_text fs ++ text n
text_of_elements fs n = text_sequence [] (entries_onto fs n) ∙ text_entries fs n

pub taken_front : (a b : List ℕ) → take (length a) (a ++ b) ≡ a
taken_front [] b = refl
taken_front (x ∷ a) b = ap (λ (l : List ℕ). x ∷ l) (taken_front a b)

zero_ascii : (preserve : Bool) → IsUtf8 (zero_text preserve)
zero_ascii true = IsUtf8-from_ascii _ (search arith)
zero_ascii false = IsUtf8-from_ascii _ (search arith)

-- The text in front of an integer, which no step changes.
pub text_in_front : (o : Options) (ws : List (Tree OneItem)) (out left : List ℕ) → IsTextOf o (ws ++ zero_item ∷ []) out → left ≡ take (length out - length (zero_text o.preserve_space)) out → IsTextInFront o ws left
text_in_front o ws out left (v, give, (valid, utf8, is)) cut =
    let row : element_row (ws ++ zero_item ∷ []) ≡ Some (entries_onto (separated ws) zero_alone) = row_onto ws (zero_item ∷ []) zero_alone refl in
    let a = split_steps o (separated ws) zero_alone v (subst (λ (r : Option (Tree (Rest Elements))). StepsGive o (sequence_tree_of r) v) row give) in
    let fs = a.0 in
    let n = a.1 in
    let text_is : out ≡ entries_text fs ++ zero_text o.preserve_space = is ∙ ap (λ (t : Tree Seq). text t) a.2 ∙ text_of_elements fs n ∙ ap (λ (t : List ℕ). entries_text fs ++ t) (zero_printed o n a.3) in
    let len : length out - length (zero_text o.preserve_space) ≡ length (entries_text fs) =
    let both : length out ≡ length (entries_text fs ++ zero_text o.preserve_space) = ap length text_is in
    let sum = length-append (entries_text fs) (zero_text o.preserve_space) in omega (arith, both, sum) in
    let left_is : left ≡ entries_text fs = cut ∙ ap (λ n. take n out) len ∙ ap (take (length (entries_text fs))) text_is ∙ taken_front (entries_text fs) (zero_text o.preserve_space) in
    let seam = IsCharBoundary-at_seam out (entries_text fs) (zero_text o.preserve_space) text_is (zero_ascii o.preserve_space) in
    let good : IsUtf8 left = subst IsUtf8 (sym (cut ∙ ap (λ n. take n out) len)) (IsUtf8-take out (length (entries_text fs)) utf8 seam) in
    (fs, a.4, front_valid fs n (sequence_row_valid (entries_onto fs n) (subst (λ (t : Tree Seq). Valid t) a.2 valid)), good, left_is)

pub entries_on : (es fs : Fronts) (m : Tree (Rest Elements)) → entries_onto (es ++ fs) m ≡ entries_onto es (entries_onto fs m)
entries_on [] fs m = refl
entries_on (e ∷ es) fs m = ap (MoreTree e.0 e.1) (entries_on es fs m)

pub texts_on : (es fs : Fronts) → entries_text (es ++ fs) ≡ entries_text es ++ entries_text fs
texts_on [] fs = refl
texts_on (e ∷ es) fs = ap (λ (t : List ℕ). text e.0 ++ (e.1 ++ t)) (texts_on es fs) ∙ regroup (text e.0) e.1 (entries_text es) (entries_text fs) where
  regroup : (a b c d : List ℕ) → a ++ (b ++ (c ++ d)) ≡ (a ++ (b ++ c)) ++ d
  regroup a b c d = simp append_assoc refl

pub separated_on : (ws xs : List (Tree OneItem)) → separated (ws ++ xs) ≡ separated ws ++ separated xs
separated_on [] xs = refl
separated_on (w ∷ ws) xs = ap (λ (l : Fronts). (ElementTree w, 44 ∷ 32 ∷ []) ∷ l) (separated_on ws xs)

-- elements in front of others in front
pub front_on : (P : Step) (ws xs : List (Tree OneItem)) (es fs : Fronts) → InFront P (separated ws) es → InFront P (separated xs) fs → InFront P (separated (ws ++ xs)) (es ++ fs)
front_on P ws xs es fs first second m n h =
    let c = first (entries_onto (separated xs) m) (entries_onto fs n) (second m n h) in
    let before : entries_onto (separated (ws ++ xs)) m ≡ entries_onto (separated ws) (entries_onto (separated xs) m) = ap (λ (l : Fronts). entries_onto l m) (separated_on ws xs) ∙ entries_on (separated ws) (separated xs) m in
    subst (λ (t : Tree (Rest Elements)). P (elements t) (elements (entries_onto (es ++ fs) n))) (sym before) (subst (λ (t : Tree (Rest Elements)). P (elements (entries_onto (separated ws) (entries_onto (separated xs) m))) (elements t)) (sym (entries_on es fs n)) c)

pub more_in_front : (o : Options) (ws xs : List (Tree OneItem)) (a b : List ℕ) → IsTextInFront o ws a → IsTextInFront o xs b → IsTextInFront o (ws ++ xs) (a ++ b)
more_in_front o ws xs a b (es, first, valid, utf8, is) (fs, second, sound, good, same) = (
  es ++ fs,
  front_on (StepsGive o) ws xs es fs first second,
  λ m h. subst (λ (t : Tree (Rest Elements)). Valid t) (sym (entries_on es fs m)) (valid (entries_onto fs m) (sound m h)),
  IsUtf8-append a b utf8 good,
  ap (λ (t : List ℕ). t ++ b) is ∙ ap (λ (t : List ℕ). entries_text es ++ t) same ∙ sym (texts_on es fs),
)

-- ---- all of a sequence

some_read : (limit : ℕ) (bytes : List ℕ) (xs : List (Tree OneItem)) → AreRead limit bytes xs [] → 0 < length bytes → (m : Tree (Rest Elements)) × (element_row xs ≡ Some m)
some_read limit bytes [] read some = let empty : length bytes ≡ 0 = ap length read in absurd (omega (arith, some, empty))
some_read limit bytes (x ∷ xs) read some = (in_front (ElementTree x) (element_row xs), refl)

pub whole_text : (o : Options) (limit : ℕ) (bytes : List ℕ) (ws xs : List (Tree OneItem)) (a b : List ℕ) → IsTextInFront o ws a → AreRead limit bytes xs [] → 0 < length bytes → IsTextOf o xs b → IsTextOf o (ws ++ xs) (a ++ b)
whole_text o limit bytes ws xs a b (fs, front, valid, utf8, is) read some (v, give, (sound, good, same)) =
    let r = some_read limit bytes xs read some in
    let c = split_steps o [] r.0 v (subst (λ (q : Option (Tree (Rest Elements))). StepsGive o (sequence_tree_of q) v) r.1 give) in
    let n = entries_onto c.0 c.1 in
    let all : element_row (ws ++ xs) ≡ Some (entries_onto (separated ws) r.0) = row_onto ws xs r.0 r.1 in
    let given : StepsGive o (elements r.0) (elements n) = subst (λ (t : Tree Seq). StepsGive o (elements r.0) t) c.2 (subst (λ (q : Option (Tree (Rest Elements))). StepsGive o (sequence_tree_of q) v) r.1 give) in
    let text_is : b ≡ text n = same ∙ ap (λ (t : Tree Seq). text t) c.2 ∙ text_sequence [] n in (
      elements (entries_onto fs n),
      subst (λ (q : Option (Tree (Rest Elements))). StepsGive o (sequence_tree_of q) (elements (entries_onto fs n))) (sym all) (front r.0 n given),
      (valid_in_front fs n valid (subst (λ (t : Tree Seq). Valid t) c.2 sound), IsUtf8-append a b utf8 good, ap (λ (t : List ℕ). t ++ b) is ∙ ap (λ (t : List ℕ). entries_text fs ++ t) text_is ∙ sym (text_of_elements fs n)),
    )

-- ---- what calls answer

pub mapped_push : {X Y : Type 0} (f : X → Y) (xs : List X) (x : X) → map f (xs ++ x ∷ []) ≡ map f xs ++ f x ∷ []
mapped_push f [] x = refl
mapped_push f (y ∷ xs) x = ap (λ l. f y ∷ l) (mapped_push f xs x)

elements_mapped : {X : Type 0} (f : X → Tree OneItem) (xs : List X) → map (λ x. ElementTree (f x)) xs ≡ map ElementTree (map f xs)
elements_mapped f [] = refl
elements_mapped f (x ∷ xs) = ap (λ (l : List (Tree (OneEntry Elements))). ElementTree (f x) ∷ l) (elements_mapped f xs)

zero_spelled : signed_decimal (pos 0) ≡ 48 ∷ []
zero_spelled = decimal_digit 0 (omega arith)

pub items_pushed : {X : Type 0} (f : X → Tree OneItem) (xs ys : List X) (x : X) → ys ≡ xs ++ x ∷ [] → f x ≡ NumberTree (signed_decimal (pos 0)) None → map f ys ≡ map f xs ++ zero_item ∷ []
items_pushed f xs ys x is made = ap (map f) is ∙ mapped_push f xs x ∙ ap (λ (w : Tree OneItem). map f xs ++ w ∷ []) (made ∙ ap (λ (t : List ℕ). NumberTree t None) zero_spelled)

-- one item more is read
pub read_pushed : {X : Type 0} (f : X → Tree OneItem) (limit : ℕ) (bytes mid rest : List ℕ) (xs ys : List X) (x : X) → ys ≡ xs ++ x ∷ [] → AreRead limit bytes (map f xs) mid → item_at trees limit mid ≡ Ok (f x, rest) → length rest < length mid → AreRead limit bytes (map f ys) rest
read_pushed f limit bytes mid rest xs ys x is before one shorter =
    subst (λ (l : List (Tree OneItem)). AreRead limit bytes l rest) (sym (ap (map f) is ∙ mapped_push f xs x)) (one_read limit bytes mid rest (map f xs) (f x) before one shorter)

pub lines_pushed : (ws xs : List (Tree OneItem)) → All IsLine ws → xs ≡ ws ++ zero_item ∷ [] → All IsLine xs
lines_pushed ws xs lines is = subst (λ (l : List (Tree OneItem)). All IsLine l) (sym is) (All-push IsLine ws zero_item lines zero_line)

-- such a sequence needs no more where there is no comma
made_line : (several : Bool) (w v : Tree Seq) (ws : List (Tree OneItem)) → All IsLine ws → several ≡ nat_lt 1 (length ws) → w ≡ comma_sequence (map ElementTree ws) → Where several (IsLaidOut SingleLineRegularSpacing) w v → v ≡ sequence_tree_of (element_row ws)
made_line true w v ws lines asked is lays = lays ∙ ap (λ (t : Tree Seq). laid_out SingleLineRegularSpacing t) is ∙ commas_laid ws lines
made_line false w v [] lines asked is same = same ∙ is
made_line false w v (x ∷ []) lines asked is same = same ∙ is
made_line false w v (x ∷ (y ∷ ws)) lines asked is same = absurd (grind (arith, asked))

-- the text of a sequence that is made of items
pub text_given : {X S : Type 0} (item : X → Tree OneItem) (tree : S → Tree Seq) (o : Options) (items : List X) (several : Bool) (made boxed lent after again : S) (r : Result (Vec ℕ Global) AllocError)
    → All IsLine (map item items) → several ≡ nat_lt 1 (length items) → tree made ≡ comma_sequence (map (λ x. ElementTree (item x)) items) → boxed ≡ made → lent ≡ boxed
    → Where several (IsLaidOut SingleLineRegularSpacing) (tree lent) (tree after) → again ≡ after
    → IfOk r (λ out. (v : Tree Seq) × StepsGive o (tree again) v × IsPrintedAs v out.items) → IfOk r (λ out. IsTextOf o (map item items) out.items)
text_given {S = S} item tree o items several made boxed lent after again r lines asked is same lends lays left shown =
    let ws = map item items in
    let commas : tree lent ≡ comma_sequence (map ElementTree ws) = ap tree (lends ∙ same) ∙ is ∙ ap (λ (l : List (Tree (OneEntry Elements))). comma_sequence l) (elements_mapped item items) in
    let count : several ≡ nat_lt 1 (length ws) = asked ∙ ap (nat_lt 1) (sym (length-map items item)) in
    let all : tree again ≡ sequence_tree_of (element_row ws) = ap tree left ∙ made_line several (tree lent) (tree after) ws lines count commas lays in
    subst (λ (t : Tree Seq). IfOk r (λ out. (v : Tree Seq) × StepsGive o t v × IsPrintedAs v out.items)) all shown

-- ---- turns

-- so many items are read, and their text is written
abbrev pub IsDone : Options → List ℕ → List ℕ → List ℕ → Type 0
IsDone o bytes rest out = (ws : List (Tree OneItem)) × AreRead o.limit bytes ws rest × IsTextInFront o ws out

pub more_done : (o : Options) (bytes rest behind a b out : List ℕ) (xs : List (Tree OneItem)) → IsDone o bytes rest a → AreRead o.limit rest xs behind → IsTextInFront o xs b → out ≡ a ++ b → IsDone o bytes behind out
more_done o bytes rest behind a b out xs (ws, read, front) more next is =
    (ws ++ xs, read_on o.limit bytes rest behind ws xs read more, subst (λ (t : List ℕ). IsTextInFront o (ws ++ xs) t) (sym is) (more_in_front o ws xs a b front next))

pub fault_behind : (o : Options) (bytes rest out : List ℕ) (e : Fault CborError) → IsDone o bytes rest out → IsFault o.limit rest e → DecoderFails e (sequence_at trees o.limit bytes)
fault_behind o bytes rest out e (ws, read, front) fault = sequence_fails o.limit bytes e (fault_on o.limit bytes rest ws e read fault)

-- all items of the sequence
pub diagnosed : (o : Options) (bytes rest out : List ℕ) (ws : List (Tree OneItem)) → IsBytes bytes → AreRead o.limit bytes ws rest → rest ≡ [] → IsTextOf o ws out → IsDiagnosed o bytes out
diagnosed o bytes rest out ws fits read ends (v, give, shown) =
    let w = sequence_tree_of (element_row ws) in
    let all = subst (λ (l : List ℕ). AreRead o.limit bytes ws l) ends read in
    let d = sequence_decoded o.limit bytes w (element_row ws) ws [] fits (sequence_read o.limit bytes ws all) refl refl in
    (w, v, (d, decoded_valid o.limit bytes w d), give, shown)

pub all_diagnosed : (o : Options) (bytes rest behind a b out : List ℕ) (xs : List (Tree OneItem)) → IsBytes bytes → IsDone o bytes rest a → 0 < length rest → AreRead o.limit rest xs behind → behind ≡ [] → IsTextOf o xs b → out ≡ a ++ b → IsDiagnosed o bytes out
all_diagnosed o bytes rest behind a b out xs fits (ws, read, front) some more ends last is =
    let left = subst (λ (l : List ℕ). AreRead o.limit rest xs l) ends more in
    diagnosed o bytes [] out (ws ++ xs) fits (read_on o.limit bytes rest [] ws xs read left) refl
    (subst (λ (t : List ℕ). IsTextOf o (ws ++ xs) t) (sym is) (whole_text o o.limit rest ws xs a b front left some last))
