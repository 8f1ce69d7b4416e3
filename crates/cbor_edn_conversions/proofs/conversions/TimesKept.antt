-- The literal of a time stands for what the number in tag 1 means.
use Rattle.std.proofs.Common.{ℕ, zero, suc, ℤ, pos, negsuc, ◌^◌, ◌<◌, ◌/◌, ◌%◌, ◌≡◌, ◌==◌, Bool, true, false, cond, not, List, [], ◌∷◌, ◌++◌, codes, All, Option, Some, None, Ok, Err, refl, sym, ap, ◌∙◌, subst, arith, rules}
use Rattle.std.proofs.lemmas.Bool.{le-leb, leb-true, eqb-true}
use Rattle.std.proofs.lemmas.Int.{ints}
use Rattle.std.proofs.lemmas.List.Elements.{All-nil, All-cons, All-append, All-from_recursion}
use Rattle.cbor_edn_parts.specs.declared.base.indicator.Indicator.{Indicator}
use Rattle.cbor_edn_parts.specs.internal.NumberReading.{integer_of}
use Rattle.cbor_edn_parts.proofs.lemmas.number.Decimals.{IsDecimal, integer_of_decimal}
use Rattle.cbor_edn_model.specs.tree.Items.{Tagged, Number}
use Rattle.cbor_edn_model.specs.cbor.Meaning.{◌>>=◌, means, means_integer, width_of}
use Rattle.cbor_edn_model.specs.visit.Seeking.{CallArguments}
use Rattle.cbor_edn_model.specs.tree.Trees.{Tree, OneItem, NumberTree, FloatTree, NamedTree, EnclosedTree, ListTree, StringTree, StreamTree, items}
use Rattle.cbor_edn_model.specs.cbor.Value.{Value, tag}
use Rattle.cbor_edn_model.proofs.lemmas.cbor.MeaningSteps.{some_is}
use Rattle.cbor_edn_times_and_addresses.specs.Time.{IsTimeStamp}
use Rattle.cbor_edn_times_and_addresses.specs.internal.TimeWriting.{padded, date_text, hour_minute_text, clock_text, fraction_text}
use Rattle.cbor_edn_times_and_addresses.specs.internal.TimeComputing.{time_text, time_text_from, march_date_text, instant_number}
use Rattle.cbor_edn_times_and_addresses.proofs.TimeComputed.{instant_computed}
use Rattle.cbor_edn_times_and_addresses.proofs.TimeComputedText.{time_text_is}
use Rattle.cbor_edn_times_and_addresses.proofs.TimeComputedNumbers.{decimal_computed}
use Rattle.cbor_edn_conversions.specs.ConversionLaws.{StampsTested, TimesReadBack}
use Rattle.cbor_edn_conversions.specs.Resolving.{Resolver, means_by}
use Rattle.cbor_edn_conversions.specs.Conversions.{Conversion, called_tag, is_shortest, argument, changed_encoding, without_tag, literal_tree, tag_tree, in_tag}
use Rattle.cbor_edn_conversions.specs.Resolvers.{TurnsTo}
use Rattle.cbor_edn_conversions.specs.Times.{time_prefix, time_item, instant_item, instant_by, is_plain, is_time_stamp, instant_literal, time_literal, time_of_tag, pretty_time}
use Rattle.cbor_edn_conversions.proofs.conversions.SameValues.{plain_integer}
use Rattle.cbor_edn_conversions.proofs.conversions.Calls.{reply_turns, called_tag_is, tag_means, shortest_means, without_tag_is}
use Rattle.cbor_edn_conversions.proofs.conversions.Literals.{GivesTimes, time_prefix_is, tree_means}

-- ---- the text of a time is of bytes

abbrev IsByte : ℕ → Type 0
IsByte b = b < 256

padded_bytes : (k n : ℕ) → All IsByte (padded k n)
unfolding padded
padded_bytes zero n = All-nil IsByte
padded_bytes (suc k) n = All-append IsByte (padded k (n / 10)) _ (padded_bytes k (n / 10)) (All-cons IsByte _ [] (omega arith) (All-nil IsByte))

behind : (c : ℕ) (a b : List ℕ) → c < 256 → All IsByte a → All IsByte b → All IsByte (a ++ (c ∷ b))
behind c a b h x y = All-append IsByte a (c ∷ b) x (All-cons IsByte c b h y)

date_bytes : (y m d : ℕ) → All IsByte (date_text y m d)
date_bytes y m d = behind 45 _ _ (omega arith) (padded_bytes 4 y) (behind 45 _ _ (omega arith) (padded_bytes 2 m) (padded_bytes 2 d))

hour_minute_bytes : (n : ℕ) → All IsByte (hour_minute_text n)
hour_minute_bytes n = behind 58 _ _ (omega arith) (padded_bytes 2 (n / 60)) (padded_bytes 2 (n % 60))

clock_bytes : (n : ℕ) → All IsByte (clock_text n)
clock_bytes n = behind 58 _ _ (omega arith) (hour_minute_bytes (n / 60)) (padded_bytes 2 (n % 60))

if_bytes : (b : Bool) (x y : List ℕ) → All IsByte x → All IsByte y → All IsByte (cond b x y)
if_bytes true x y h k = h
if_bytes false x y h k = k

fraction_bytes : (n : ℕ) → All IsByte (fraction_text n)
fraction_bytes n = if_bytes (n == 0) _ _ (All-nil IsByte) (if_bytes (n % 1_000_000 == 0) _ _ (behind 46 [] _ (omega arith) (All-nil IsByte) (padded_bytes 3 _)) (if_bytes (n % 1_000 == 0) _ _ (behind 46 [] _ (omega arith) (All-nil IsByte) (padded_bytes 6 _)) (behind 46 [] _ (omega arith) (All-nil IsByte) (padded_bytes 9 n))))

offset_bytes : All IsByte (codes "+00:00")
offset_bytes = All-from_recursion IsByte (codes "+00:00") (omega arith)

march_date_bytes : (y r : ℕ) → All IsByte (march_date_text y r)
march_date_bytes y r = if_bytes _ _ _ (date_bytes _ _ _) (date_bytes _ _ _)

time_bytes : (k n : ℕ) → All IsByte (time_text_from k n)
unfolding time_text_from
time_bytes k n = behind 84 _ _ (omega arith) (march_date_bytes _ _) (All-append IsByte _ _ (clock_bytes (k % 86_400)) (All-append IsByte _ _ (fraction_bytes n) offset_bytes))

-- ---- the range

pub stamp_true : (z : ℤ) → is_time_stamp z ≡ true → IsTimeStamp z
stamp_true (pos n) e = let h = leb-true n 253_402_300_799 e in (search rules, omega (arith, ints, h))
stamp_true (negsuc n) e = let h = leb-true n 62_167_219_199 e in (omega (arith, ints, h), omega (arith, ints, h))

stamp_back : (z : ℤ) → IsTimeStamp z → is_time_stamp z ≡ true
stamp_back (pos n) h = le-leb n 253_402_300_799 (omega (arith, ints, h))
stamp_back (negsuc n) h = le-leb n 62_167_219_199 (omega (arith, ints, h))

pub stamps_tested : StampsTested
stamps_tested z = (stamp_true z, stamp_back z)

small_argument : (z : ℤ) → is_time_stamp z ≡ true → argument z < 2 ^ 64
small_argument (pos n) e = let h = leb-true n 253_402_300_799 e in omega (arith, h)
small_argument (negsuc n) e = let h = leb-true n 62_167_219_199 e in omega (arith, h)

small_decimal : (z : ℤ) → is_time_stamp z ≡ true → IsDecimal z
small_decimal (pos n) e = let h = leb-true n 253_402_300_799 e in omega (arith, h)
small_decimal (negsuc n) e = let h = leb-true n 62_167_219_199 e in omega (arith, h)

-- ---- what an instant's literal stands for

-- What is printed of an instant is read as its number.
read_again : (wrap : Bool) (z : ℤ) (n : ℕ) → is_time_stamp z ≡ true → n < 1_000_000_000 → time_item wrap (time_text z n) ≡ instant_item wrap (Some (z, n))
read_again wrap z n stamp small = ap (instant_item wrap) ((instant_computed (time_text z n) z n).0 (time_text_is z n (stamp_true z stamp) small).time)

number_means : (z : ℤ) → is_time_stamp z ≡ true → means (items (NumberTree (instant_number z 0) None)) ≡ means_integer None z
unfolding means items instant_number
number_means z stamp = ap (λ o. o >>= means_integer None) (integer_of_decimal z (small_decimal z stamp))

-- ---- the literal of a number

small_instant : (o : Option ℤ) (i : Option Indicator) (x : List ℕ) (s : ℤ) (n : ℕ) → instant_by o i x ≡ Some (s, n) → n < 1_000_000_000
small_instant (Some z) i x s n e = let none : 0 ≡ n = ap (λ (p : ℤ × ℕ). p.1) (some_is (z, 0) (s, n) e) in omega (arith, none)
small_instant None (Some i) x s n e = absurd cc
small_instant None None x s n e = ((decimal_computed x s n).1 e).nanoseconds_in

pub record InstantLiteral (wrap plain : Bool) (o : Option (ℤ × ℕ)) (v : Tree OneItem) : Type 0 where
  pub seconds : ℤ
  pub nanoseconds : ℕ
  pub instant : o ≡ Some (seconds, nanoseconds)
  pub stamp : is_time_stamp seconds ≡ true
  pub is_plain : plain ≡ true
  pub is : literal_tree (time_prefix wrap) (time_text seconds nanoseconds) ≡ v

abbrev ok : Tree OneItem → Conversion
ok x = Ok x

ok_is : (x y : Tree OneItem) → ok x ≡ ok y → x ≡ y
ok_is x y e = cc

literal_by : (wrap plain : Bool) (s : ℤ) (n : ℕ) (v : Tree OneItem) (b : Bool) → is_time_stamp s ≡ b
    → cond (not b) (Err (codes "Value out of range for time stamps")) (cond (not plain) (Err changed_encoding) (Ok (literal_tree (time_prefix wrap) (time_text s n)))) ≡ Ok v → InstantLiteral wrap plain (Some (s, n)) v
literal_by wrap plain s n v false p e = absurd cc
literal_by wrap false s n v true p e = absurd cc
literal_by wrap true s n v true p e = record { seconds = s; nanoseconds = n; instant = refl; stamp = p; is_plain = refl; is = ok_is _ _ e }

pub literal_is : (wrap plain : Bool) (o : Option (ℤ × ℕ)) (v : Tree OneItem) → instant_literal wrap plain o ≡ Ok v → InstantLiteral wrap plain o v
literal_is wrap plain None v e = absurd cc
literal_is wrap plain (Some p) v e = literal_by wrap plain p.0 p.1 v _ refl e

-- the number that a literal is of
pub times_read_back : TimesReadBack
unfolding time_literal
times_read_back (NumberTree x i) wrap v e =
    let h = literal_is wrap (is_plain (integer_of x) i) (instant_by (integer_of x) i x) v e in
    record { number = x; indicator = i; seconds = h.seconds; nanoseconds = h.nanoseconds; text = time_text h.seconds h.nanoseconds; before = refl; instant = h.instant; after = sym h.is; read = (time_text_is h.seconds h.nanoseconds (stamp_true h.seconds h.stamp) (small_instant (integer_of x) i x h.seconds h.nanoseconds h.instant)).time }
times_read_back (FloatTree f j) wrap v e = absurd cc
times_read_back (NamedTree b) wrap v e = absurd cc
times_read_back (EnclosedTree l w) wrap v e = absurd cc
times_read_back (ListTree k w) wrap v e = absurd cc
times_read_back (StringTree w) wrap v e = absurd cc
times_read_back (StreamTree ms m) wrap v e = absurd cc

-- ---- calls, by a resolver

module _ (R : Resolver) (gives : GivesTimes R) where
  -- The literal means, where literals stand for values, what the number in tag 1 does.
  tagged_means : (z : ℤ) (m : Value) (x : Value) → is_time_stamp z ≡ true → means_integer None z ≡ Some m → (width_of None 1 >>= λ d. Some (tag d 1 m)) ≡ Some x → means_by R (items (literal_tree (time_prefix true) (time_text z 0))) ≡ Some x
  unfolding means items
  tagged_means z m x stamp is e =
      tree_means R time_prefix time_item time_prefix_is gives true (time_text z 0) (tag_tree 1 (NumberTree (instant_number z 0) None)) x (time_bytes _ 0) (read_again true z 0 stamp (omega arith))
      (ap (λ o. width_of None 1 >>= λ d. o >>= λ v. Some (tag d 1 v)) (number_means z stamp ∙ is) ∙ e)

  -- The same of a number without tag.
  untagged_means : (z : ℤ) (x : Value) → is_time_stamp z ≡ true → means_integer None z ≡ Some x → means_by R (items (literal_tree (time_prefix false) (time_text z 0))) ≡ Some x
  untagged_means z x stamp is =
      tree_means R time_prefix time_item time_prefix_is gives false (time_text z 0) (NumberTree (instant_number z 0) None) x (time_bytes _ 0) (read_again false z 0 stamp (omega arith)) (number_means z stamp ∙ is)

  -- ---- the call

  module _ (i : Option Indicator) (v : Tree OneItem) (narrow : is_shortest i 1 ≡ true) where
    -- an integer, or a number without a meaning
    number_turns : (x : List ℕ) (j : Option Indicator) (o : Option ℤ) → integer_of x ≡ o → InstantLiteral true (is_plain o j) (instant_by o j x) v → (u : Value) → means_by R (Tagged 1 i (Number x j)) ≡ Some u → means_by R (items v) ≡ Some u
    unfolding means_by
    number_turns x j None read h u e =
        let t = tag_means R 1 i (Number x j) u e in
        let nothing : None ≡ Some t.content = sym (ap (λ o. o >>= means_integer j) read) ∙ t.content_is in
        absurd cc
    number_turns x j (Some z) read h u e =
        let t = tag_means R 1 None (Number x j) u (sym (shortest_means R 1 i (Number x j) narrow) ∙ e) in
        let seconds : z ≡ h.seconds = ap (λ (p : ℤ × ℕ). p.0) (some_is (z, 0) (h.seconds, h.nanoseconds) h.instant) in
        let none : 0 ≡ h.nanoseconds = ap (λ (p : ℤ × ℕ). p.1) (some_is (z, 0) (h.seconds, h.nanoseconds) h.instant) in
        let stamp : is_time_stamp z ≡ true = ap is_time_stamp seconds ∙ h.stamp in
        let value : means_integer None z ≡ Some t.content = sym (plain_integer j z (small_argument z stamp) h.is_plain) ∙ (sym (ap (λ o. o >>= means_integer j) read) ∙ t.content_is) in
        let tagged : (width_of None 1 >>= λ d. Some (tag d 1 t.content)) ≡ Some u = ap (λ o. o >>= λ d. Some (tag d 1 t.content)) t.width_is ∙ ap (λ (x : Value). Some x) t.value_is in
        let is : v ≡ literal_tree (time_prefix true) (time_text z 0) = sym (ap (λ s. literal_tree (time_prefix true) (time_text s 0)) seconds ∙ (ap (λ n. literal_tree (time_prefix true) (time_text h.seconds n)) none ∙ h.is)) in
        ap (λ w. means_by R (items w)) is ∙ tagged_means z t.content u stamp value tagged

    content_turns : (w : Tree OneItem) → time_literal w true ≡ Ok v → (u : Value) → means_by R (Tagged 1 i (items w)) ≡ Some u → means_by R (items v) ≡ Some u
    unfolding time_literal items
    content_turns (NumberTree x j) e u is = number_turns x j (integer_of x) refl (literal_is true _ _ v e) u is
    content_turns (FloatTree f j) e u is = absurd cc
    content_turns (NamedTree b) e u is = absurd cc
    content_turns (EnclosedTree l w) e u is = absurd cc
    content_turns (ListTree k w) e u is = absurd cc
    content_turns (StringTree w) e u is = absurd cc
    content_turns (StreamTree ms m) e u is = absurd cc

  -- ---- an item

  -- an integer without tag, or a number without a meaning
  untagged_turns : (v : Tree OneItem) (x : List ℕ) (j : Option Indicator) (o : Option ℤ) → integer_of x ≡ o → InstantLiteral false (is_plain o j) (instant_by o j x) v → (u : Value) → (integer_of x >>= means_integer j) ≡ Some u → means_by R (items v) ≡ Some u
  untagged_turns v x j None read h u e = let nothing : None ≡ Some u = sym (ap (λ o. o >>= means_integer j) read) ∙ e in absurd cc
  untagged_turns v x j (Some z) read h u e =
      let seconds : z ≡ h.seconds = ap (λ (p : ℤ × ℕ). p.0) (some_is (z, 0) (h.seconds, h.nanoseconds) h.instant) in
      let none : 0 ≡ h.nanoseconds = ap (λ (p : ℤ × ℕ). p.1) (some_is (z, 0) (h.seconds, h.nanoseconds) h.instant) in
      let stamp : is_time_stamp z ≡ true = ap is_time_stamp seconds ∙ h.stamp in
      let value : means_integer None z ≡ Some u = sym (plain_integer j z (small_argument z stamp) h.is_plain) ∙ (sym (ap (λ o. o >>= means_integer j) read) ∙ e) in
      let is : v ≡ literal_tree (time_prefix false) (time_text z 0) = sym (ap (λ s. literal_tree (time_prefix false) (time_text s 0)) seconds ∙ (ap (λ n. literal_tree (time_prefix false) (time_text h.seconds n)) none ∙ h.is)) in
      ap (λ w. means_by R (items w)) is ∙ untagged_means z u stamp value

  number_item_turns : (w v : Tree OneItem) → time_literal w false ≡ Ok v → TurnsTo R R w v
  unfolding time_literal items means_by
  number_item_turns (NumberTree x j) v e u is = untagged_turns v x j (integer_of x) refl (literal_is false _ _ v e) u is
  number_item_turns (FloatTree f j) v e u is = absurd cc
  number_item_turns (NamedTree b) v e u is = absurd cc
  number_item_turns (EnclosedTree l w) v e u is = absurd cc
  number_item_turns (ListTree k w) v e u is = absurd cc
  number_item_turns (StringTree w) v e u is = absurd cc
  number_item_turns (StreamTree ms m) v e u is = absurd cc

  pub time_item_turns : (wrap : Bool) (w v : Tree OneItem) → time_literal w wrap ≡ Ok v → TurnsTo R R (in_tag wrap 1 w) v
  unfolding items
  time_item_turns true w v e u is = content_turns None v refl w e u is
  time_item_turns false w v e u is = number_item_turns w v e u is

  -- ---- the tag

  tag_by : (n : ℕ) (i : Option Indicator) (c v : Tree OneItem) (b : Bool) → (n == 1) ≡ b → cond b (Some (without_tag i n (time_literal c true))) None ≡ Some (Ok v)
      → (u : Value) → means_by R (Tagged n i (items c)) ≡ Some u → means_by R (items v) ≡ Some u
  tag_by n i c v false p e u is = absurd cc
  tag_by n i c v true p e u is =
      let one = eqb-true n 1 p in
      let h = without_tag_is i n (time_literal c true) v (some_is _ _ e) in
      content_turns i v (subst (λ n. is_shortest i n ≡ true) one h.narrow) c h.is_ok u (ap (λ n. means_by R (Tagged n i (items c))) (sym one) ∙ is)

  by_tag : (w : Tree OneItem) (o : Option (ℕ × Option Indicator × Tree OneItem)) → ((n : ℕ) (i : Option Indicator) (c : Tree OneItem) → o ≡ Some (n, i, c) → items w ≡ Tagged n i (items c)) → (v : Tree OneItem) → time_of_tag o ≡ Some (Ok v) → TurnsTo R R w v
  by_tag w None is v e u h = absurd cc
  by_tag w (Some (n, i, c)) is v e u h = tag_by n i c v _ refl e u (sym (ap (λ x. means_by R x) (is n i c refl)) ∙ h)

  pub time_turns : (a : CallArguments) (w : Tree OneItem) → TurnsTo R R w (pretty_time a w).1
  unfolding pretty_time
  time_turns a w = reply_turns R R w (time_of_tag (called_tag a w)) (λ x e. e) (λ v e. by_tag w (called_tag a w) (called_tag_is a w) v e)
