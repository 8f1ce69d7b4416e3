-- The bytes of quoted strings, and which integers mean the same bytes as a bignum.
use Rattle.std.proofs.Common.{ℕ, ℤ, pos, negsuc, zero, suc, ◌+◌, ◌-◌, ◌^◌, ◌<◌, ◌≤◌, ◌≡◌, ◌≢◌, ◌==◌, Bool, true, false, cond, nat_lt, List, [], ◌∷◌, length, Option, Some, None, Ok, refl, sym, ap, ◌∙◌, append-nil, arith}
use Rattle.std.specs.Prelude.{option_map, option_and_then, is_some}
use Rattle.std.proofs.lemmas.Bool.{eqb-true}
use Rattle.std.specs.Fmt.{signed_decimal}
use Rattle.std.specs.Int.{bytes_high_first}
use Rattle.std.specs.List.{list_all}
use Rattle.cbor_edn_parts.specs.declared.base.indicator.Indicator.{Indicator}
use Rattle.cbor_edn_parts.specs.declared.string.StringKind.{StringKind}
use Rattle.cbor_edn_parts.specs.declared.string.StringKind.TheVariants.{Bytes}
use Rattle.cbor_edn_parts.specs.internal.ContentReading.{literal_content}
use Rattle.cbor_edn_parts.specs.internal.NumberReading.{integer_of}
use Rattle.cbor_edn_parts.proofs.lemmas.number.Decimals.{integer_of_decimal}
use Rattle.cbor_edn_model.specs.declared.cbor.heads.Width.{Width}
use Rattle.cbor_edn_model.specs.declared.text.opener.OpenerKind.TheVariants as opener
use Rattle.cbor_edn_model.specs.access.Accessed.{inner_item, only_bytes, both_joined, pieces, pieces_bytes, item_bytes, is_plain_piece, is_plain_string}
use Rattle.cbor_edn_model.specs.cbor.Meaning.{◌>>=◌, means, width_of, without_zeros, magnitude_bytes, tagged_bytes, bignum, means_integer, pieces_indicator, chunk_of, string_of}
use Rattle.cbor_edn_model.specs.visit.Seeking.{CallArguments, number}
use Rattle.cbor_edn_model.specs.tree.Trees.{Tree, OneItem, OneString, NumberTree, FloatTree, NamedTree, EnclosedTree, ListTree, StringTree, StreamTree, LiteralTree, EllipsisTree, EmbeddedTree, LastPieceTree, PlusTree, items}
use Rattle.cbor_edn_model.specs.cbor.Value.{Value, Chunk, unsigned, negative, string, tag}
use Rattle.cbor_edn_model.specs.visit.Visits.{fine}
use Rattle.cbor_edn_model.proofs.lemmas.cbor.MeaningSteps.{given, some_is, some_if, both_steps, bind}
use Rattle.cbor_edn_conversions.specs.Conversions.{reply, called_tag, encoded, are_same, item_encoding, mean_the_same, integer_tree, tag_tree}
use Rattle.cbor_edn_conversions.specs.Bignums.{quoted_string_bytes, quoted_item_bytes, magnitude, bignum_integer, if_same_integer, integer_of_tag, bignum_of_tag, pretty_bignum}
use Rattle.cbor_edn_conversions.proofs.conversions.Calls.{called_tag_is}
use Rattle.cbor_edn_conversions.proofs.conversions.ItemBytes.{string_content}
use Rattle.cbor_edn_conversions.proofs.conversions.SameValues.{mean_one}

-- ---- quoted strings

joined_nil : (o : Option (List ℕ)) → both_joined o (Some []) ≡ o
joined_nil None = refl
joined_nil (Some x) = ap (λ (y : List ℕ). Some y) (append-nil x)

joined_if : (o p : Option (List ℕ)) (b : Bool) → both_joined o (cond b p None) ≡ cond b (both_joined o p) None
joined_if o p true = refl
joined_if None p false = refl
joined_if (Some x) p false = refl

string_quoted : (w : Tree OneString) → quoted_string_bytes w ≡ cond (list_all is_plain_piece (pieces w)) (pieces_bytes w) None
unfolding means items
string_quoted (LastPieceTree (LiteralTree x None)) = sym (joined_nil (only_bytes (literal_content x)))
string_quoted (LastPieceTree (LiteralTree x (Some i))) = refl
string_quoted (LastPieceTree (EllipsisTree x)) = refl
string_quoted (LastPieceTree (EmbeddedTree w i)) = refl
string_quoted (PlusTree (LiteralTree x None) s t w) = ap (λ o. both_joined (only_bytes (literal_content x)) o) (string_quoted w) ∙ joined_if (only_bytes (literal_content x)) (pieces_bytes w) (list_all is_plain_piece (pieces w))
string_quoted (PlusTree (LiteralTree x (Some i)) s t w) = refl
string_quoted (PlusTree (EllipsisTree x) s t w) = refl
string_quoted (PlusTree (EmbeddedTree v i) s t w) = refl

-- The bytes of a string whose pieces are all quoted and have no indicator are those of the string.
pub item_quoted : (w : Tree OneItem) → quoted_item_bytes w ≡ cond (is_plain_string w) (item_bytes w) None
item_quoted (StringTree w) = string_quoted w
item_quoted (NumberTree x i) = refl
item_quoted (FloatTree f i) = refl
item_quoted (NamedTree b) = refl
item_quoted (EnclosedTree l w) = refl
item_quoted (ListTree k w) = refl
item_quoted (StreamTree s m) = refl

-- ---- what a string means

-- the same, by what is known of the string
pub quoted_is : (w : Tree OneItem) (b : Bool) (o : Option (List ℕ)) → b ≡ is_plain_string w → item_bytes w ≡ o → quoted_item_bytes w ≡ cond b o None
quoted_is w b o plain is = item_quoted w ∙ (ap (λ c. cond c (item_bytes w) None) (sym plain) ∙ ap (λ p. cond b p None) is)

if_is : (b : Bool) (o : Option (List ℕ)) (bs : List ℕ) → cond b o None ≡ Some bs → o ≡ Some bs
if_is true o bs e = e
if_is false o bs e = absurd cc

record MeansString (bs : List ℕ) (v : Value) : Type 0 where
  pub width : Width
  pub value_is : string Bytes width bs ≡ v

string_value : (bs : List ℕ) → 0 < length bs → (i : Option Indicator) (v : Value) → string_of (Bytes, bs) i ≡ Some v → MeansString bs v
string_value [] some i v e = absurd (omega arith)
string_value (b ∷ bs) some i v e =
    let (p, chunk, is) = both_steps (chunk_of (Bytes, b ∷ bs) i) (λ p. Some (string p.0 p.1.0 p.1.1)) v e in
    let (w, width, same) = both_steps (width_of i (length (b ∷ bs))) (λ w. Some (Bytes, (w, b ∷ bs))) p chunk in
    record { width = w; value_is = ap (λ (q : StringKind × Chunk). string q.0 q.1.0 q.1.1) (some_is (Bytes, (w, b ∷ bs)) p same) ∙ some_is (string p.0 p.1.0 p.1.1) v is }

-- a quoted string with bytes means a string of them
quoted_value : (w : Tree OneItem) (bs : List ℕ) (v : Value) → quoted_item_bytes w ≡ Some bs → 0 < length bs → means (items w) ≡ Some v → MeansString bs v
unfolding means items
quoted_value (StringTree w) bs v e some is =
    let content = string_content w bs (if_is (list_all is_plain_piece (pieces w)) (pieces_bytes w) bs (sym (string_quoted w) ∙ e)) in
    let indicated : bind (pieces_indicator (items w)) (string_of (Bytes, bs)) ≡ Some v = sym (ap (λ o. bind o (λ c. bind (pieces_indicator (items w)) (string_of c))) content) ∙ is in
    let (i, indicator_is, of) = both_steps (pieces_indicator (items w)) (string_of (Bytes, bs)) v indicated in
    string_value bs some i v of
quoted_value (NumberTree x i) bs v e some is = absurd cc
quoted_value (FloatTree f i) bs v e some is = absurd cc
quoted_value (NamedTree b) bs v e some is = absurd cc
quoted_value (EnclosedTree l w) bs v e some is = absurd cc
quoted_value (ListTree k w) bs v e some is = absurd cc
quoted_value (StreamTree s m) bs v e some is = absurd cc

-- a tag over it
abbrev over : Width → ℕ → Width → List ℕ → Value
over d n u bs = tag d n (string Bytes u bs)

record MeansTag (n : ℕ) (bs : List ℕ) (v : Value) : Type 0 where
  pub head : Width
  pub width : Width
  pub value_is : over head n width bs ≡ v

tag_value : (n : ℕ) (w : Tree OneItem) (bs : List ℕ) (v : Value) → quoted_item_bytes w ≡ Some bs → 0 < length bs → means (items (tag_tree n w)) ≡ Some v → MeansTag n bs v
unfolding means items
tag_value n w bs v e some is =
    let (d, width, rest) = both_steps (width_of None n) (λ d. bind (means (items w)) (λ x. Some (tag d n x))) v is in
    let (x, content, same) = both_steps (means (items w)) (λ x. Some (tag d n x)) v rest in
    let h = quoted_value w bs x e some content in
    record { head = d; width = h.width; value_is = ap (λ (y : Value). tag d n y) h.value_is ∙ some_is (tag d n x) v same }

-- ---- what an integer means

stripped : (bs : List ℕ) → length (without_zeros bs) ≤ length bs
stripped [] = omega arith
stripped (zero ∷ bs) = omega (arith, stripped bs)
stripped (suc b ∷ bs) = omega arith

high_first : (k n : ℕ) → length (bytes_high_first k n) ≡ k
high_first zero n = refl
high_first (suc k) n = ap suc (high_first k n)

short_magnitude : (n : ℕ) → length (magnitude_bytes n) ≤ 16
unfolding magnitude_bytes
short_magnitude n = omega (arith, stripped (bytes_high_first 16 n), high_first 16 n)

same_bytes : (k n : ℕ) (d u : Width) (m : ℕ) (bs : List ℕ) → tagged_bytes k (magnitude_bytes n) ≡ over d m u bs → magnitude_bytes n ≡ bs
same_bytes k n d u m bs e = cc

bignum_short : (k n high : ℕ) (d u : Width) (m : ℕ) (bs : List ℕ) → bignum k n high None ≡ given (over d m u bs) → length bs ≤ 16
bignum_short k n high d u m bs e =
    let h = some_if (nat_lt high (2 ^ 128)) (tagged_bytes k (magnitude_bytes n)) (over d m u bs) e in
    omega (arith, short_magnitude n, ap length (same_bytes k n d u m bs h.1))

unsigned_no_tag : (w : Width) (n : ℕ) (d u : Width) (m : ℕ) (bs : List ℕ) → unsigned w n ≡ over d m u bs → length bs ≤ 16
unsigned_no_tag w n d u m bs e = absurd cc

negative_no_tag : (w : Width) (n : ℕ) (d u : Width) (m : ℕ) (bs : List ℕ) → negative w n ≡ over d m u bs → length bs ≤ 16
negative_no_tag w n d u m bs e = absurd cc

short_by : (b : Bool) (o : Option Width) (make : Width → Value) (big : Option Value) (v : Value) (P : Type 0) → ((w : Width) → make w ≡ v → P) → (big ≡ given v → P) → cond b (o >>= λ w. given (make w)) big ≡ given v → P
short_by true o make big v P small large e = let (w, width, is) = both_steps o (λ w. given (make w)) v e in small w (some_is (make w) v is)
short_by false o make big v P small large e = large e

-- An integer that means a tag over a string means one of 16 bytes at most.
integer_short : (z : ℤ) (d u : Width) (m : ℕ) (bs : List ℕ) → means_integer None z ≡ given (over d m u bs) → length bs ≤ 16
integer_short (pos n) d u m bs e = short_by (nat_lt n (2 ^ 64)) (width_of None n) (λ w. unsigned w n) (bignum 2 n n None) (over d m u bs) _ (λ w. unsigned_no_tag w n d u m bs) (bignum_short 2 n n d u m bs) e
integer_short (negsuc n) d u m bs e = short_by (nat_lt n (2 ^ 64)) (width_of None n) (λ w. negative w n) (bignum 3 n (n + 1) None) (over d m u bs) _ (λ w. negative_no_tag w n d u m bs) (bignum_short 3 n (n + 1) d u m bs) e

literal_short : (z : ℤ) (d u : Width) (m : ℕ) (bs : List ℕ) → means (items (integer_tree z)) ≡ given (over d m u bs) → length bs ≤ 16
unfolding means items
literal_short z d u m bs e = let (y, read, is) = both_steps (integer_of (signed_decimal z)) (means_integer None) (over d m u bs) e in integer_short y d u m bs is

-- ---- where there is no integer

long_differs : (n : ℕ) (w : Tree OneItem) (bs : List ℕ) (z : ℤ) (b : Bool) → quoted_item_bytes w ≡ Some bs → 16 < length bs → mean_the_same (tag_tree n w) (integer_tree z) ≡ b → b ≡ false
long_differs n w bs z false e long is = refl
long_differs n w bs z true e long is =
    let h = mean_one (tag_tree n w) (integer_tree z) is in
    let t = tag_value n w bs h.value e (omega arith) h.left in
    let short = literal_short z t.head t.width n bs (h.right ∙ ap (λ (v : Value). given v) (sym t.value_is)) in
    absurd (omega arith)

no_conversion : (w : Tree OneItem) (z : ℤ) → mean_the_same w (integer_tree z) ≡ false → if_same_integer w (Some z) ≡ None
no_conversion w z e = rw e refl

long_integer : (n : ℕ) (w : Tree OneItem) (bs : List ℕ) (o : Option ℤ) → quoted_item_bytes w ≡ Some bs → 16 < length bs → if_same_integer (tag_tree n w) o ≡ None
long_integer n w bs None e long = refl
long_integer n w bs (Some z) e long = no_conversion (tag_tree n w) z (long_differs n w bs z _ e long refl)

-- More than 16 bytes are no integer.
pub long_none : (w : Tree OneItem) (bs : List ℕ) → quoted_item_bytes w ≡ Some bs → 16 < length bs → (n : ℕ) → integer_of_tag n w (quoted_item_bytes w) ≡ None
long_none w bs e long n = ap (integer_of_tag n w) e ∙ long_integer n w bs (bignum_integer n (magnitude bs)) e long

-- Nor are no bytes.
pub no_bytes_none : (w : Tree OneItem) → quoted_item_bytes w ≡ None → (n : ℕ) → integer_of_tag n w (quoted_item_bytes w) ≡ None
no_bytes_none w e n = ap (integer_of_tag n w) e

none_same : (o : Option (List ℕ)) → are_same o None ≡ false
none_same None = refl
none_same (Some bs) = refl

-- -2^128 means nothing
abbrev least : ℤ
least = negsuc (2 ^ 128 - 1)

least_means : means (items (integer_tree least)) ≡ None
unfolding means items
least_means = ap (λ o. bind o (means_integer None)) (integer_of_decimal least (omega arith))

pub least_none : (w : Tree OneItem) → if_same_integer w (bignum_integer 3 (2 ^ 128 - 1)) ≡ None
least_none w = no_conversion w least (ap (λ o. are_same (item_encoding w) (option_and_then encoded o)) least_means ∙ none_same (item_encoding w))

-- ---- the tag

by_content : (k n : ℕ) (c : Tree OneItem) (o : Option (List ℕ)) → option_map magnitude o ≡ Some n → integer_of_tag k c o ≡ if_same_integer (tag_tree k c) (bignum_integer k n)
by_content k n c None e = absurd cc
by_content k n c (Some bs) e = ap (λ m. if_same_integer (tag_tree k c) (bignum_integer k m)) (some_is (magnitude bs) n e)

-- The item is the tag k without indicator over c.
pub record IsPlainTag (w : Tree OneItem) (k : ℕ) (c : Tree OneItem) : Type 0 where
  pub told : called_tag (number k) w ≡ Some (k, None, c)

pub at_content : (w c : Tree OneItem) (k : ℕ) → IsPlainTag w k c → bignum_of_tag (called_tag (number k) w) ≡ integer_of_tag k c (quoted_item_bytes c)
at_content w c k h = ap bignum_of_tag h.told

pub at_number : (w c : Tree OneItem) (k n : ℕ) → IsPlainTag w k c → option_map magnitude (quoted_item_bytes c) ≡ Some n
    → bignum_of_tag (called_tag (number k) w) ≡ if_same_integer (tag_tree k c) (bignum_integer k n)
at_number w c k n h e = at_content w c k h ∙ by_content k n c (quoted_item_bytes c) e

same_items : (w c : Tree OneItem) (k : ℕ) → IsPlainTag w k c → items w ≡ items (tag_tree k c)
unfolding items
same_items w c k h = called_tag_is (number k) w k None c h.told

-- spaces in the tag mean nothing
same_tests : (w c v : Tree OneItem) (k : ℕ) → IsPlainTag w k c → mean_the_same w v ≡ mean_the_same (tag_tree k c) v
same_tests w c v k h = ap (λ x. are_same (option_and_then encoded (means x)) (item_encoding v)) (same_items w c k h)

by_test : (w c t : Tree OneItem) (k : ℕ) (o : Option ℤ) (b : Bool) → IsPlainTag w k c → option_map integer_tree o ≡ Some t → b ≡ mean_the_same w t → if_same_integer (tag_tree k c) o ≡ cond b (Some (Ok t)) None
by_test w c t k None b h e is = absurd cc
by_test w c t k (Some z) b h e is =
    let same = some_is (integer_tree z) t e in
    let test : mean_the_same (tag_tree k c) (integer_tree z) ≡ b = sym (same_tests w c (integer_tree z) k h) ∙ (ap (mean_the_same w) same ∙ sym is) in
    ap (λ d. cond d (Some (Ok (integer_tree z))) None) test ∙ ap (λ (v : Tree OneItem). cond b (Some (Ok v)) None) same

pub at_test : (w c t : Tree OneItem) (k n : ℕ) (b : Bool) → IsPlainTag w k c → option_map magnitude (quoted_item_bytes c) ≡ Some n → option_map integer_tree (bignum_integer k n) ≡ Some t
    → b ≡ mean_the_same w t → bignum_of_tag (called_tag (number k) w) ≡ cond b (Some (Ok t)) None
at_test w c t k n b h e f is = at_number w c k n h e ∙ by_test w c t k (bignum_integer k n) b h f is

-- ---- what is answered and left

pub none_acts : (a : CallArguments) (w : Tree OneItem) → bignum_of_tag (called_tag a w) ≡ None → (fine ≡ (pretty_bignum a w).0) × (w ≡ (pretty_bignum a w).1)
unfolding pretty_bignum
none_acts a w e = (ap (λ o. (reply w o).0) (sym e), ap (λ o. (reply w o).1) (sym e))

pub some_acts : (a : CallArguments) (w v : Tree OneItem) → bignum_of_tag (called_tag a w) ≡ Some (Ok v) → (fine ≡ (pretty_bignum a w).0) × (v ≡ (pretty_bignum a w).1)
unfolding pretty_bignum
some_acts a w v e = (ap (λ o. (reply w o).0) (sym e), ap (λ o. (reply w o).1) (sym e))

-- ---- the tag's head

pub other_false : (m n : ℕ) (b : Bool) → (m == n) ≡ b → m ≢ n → b ≡ false
other_false m n true e other = absurd (other (eqb-true m n e))
other_false m n false e other = refl

pub no_indicator_is : (i : Option Indicator) → false ≡ is_some i → i ≡ None
no_indicator_is None e = refl
no_indicator_is (Some i) e = absurd cc

abbrev parts : ℕ → Option Indicator → Tree OneItem → Option (ℕ × Option Indicator × Tree OneItem)
parts m i c = Some (m, i, c)

-- a tag with an indicator
pub indicated : (m : ℕ) (i : Option Indicator) (c : Tree OneItem) → true ≡ is_some i → bignum_of_tag (parts m i c) ≡ None
indicated m None c e = absurd cc
indicated m (Some i) c e = refl

no_integer : (m : ℕ) (c : Tree OneItem) (o : Option (List ℕ)) → m ≢ 2 → m ≢ 3 → integer_of_tag m c o ≡ None
no_integer m c None a b = refl
no_integer m c (Some bs) a b = rw (other_false m 2 _ refl a, other_false m 3 _ refl b) refl

number_by : (t : Bool) (k m : ℕ) (i : Option Indicator) (c : Tree OneItem) → (k == m) ≡ t → k ≢ 2 → k ≢ 3 → bignum_of_tag (cond t (parts m i c) None) ≡ None
number_by false k m i c e a b = refl
number_by true k m (Some i) c e a b = refl
number_by true k m None c e a b = let same = eqb-true k m e in no_integer m c (quoted_item_bytes c) (λ f. a (same ∙ f)) (λ f. b (same ∙ f))

-- any other number
pub other_number : (w : Tree OneItem) (k : ℕ) → k ≢ 2 → k ≢ 3 → bignum_of_tag (called_tag (number k) w) ≡ None
other_number (EnclosedTree (opener.Tag i m) v) k a b = number_by (k == m) k m i (inner_item v) refl a b
other_number (EnclosedTree opener.Simple v) k a b = refl
other_number (NumberTree x i) k a b = refl
other_number (FloatTree f i) k a b = refl
other_number (NamedTree c) k a b = refl
other_number (ListTree l v) k a b = refl
other_number (StringTree v) k a b = refl
other_number (StreamTree s m) k a b = refl
