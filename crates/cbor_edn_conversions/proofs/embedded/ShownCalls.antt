-- What a call makes of a literal, by its bytes, as functions over trees compute it.
use Rattle.std.proofs.Common.{ℕ, zero, suc, ◌-◌, ◌≡◌, ◌≢◌, ◌⊎◌, inl, inr, List, [], Option, Some, None, refl, sym, ap, ◌∙◌, subst, append-nil, arith}
use Rattle.cbor_edn_parts.specs.declared.base.indicator.Indicator.{Indicator}
use Rattle.cbor_edn_parts.specs.string.Literal.{Prefixed, IsLiteral}
use Rattle.cbor_edn_parts.specs.internal.ContentReading.{literal_content, prefixed_bytes, of_bytes}
use Rattle.cbor_edn_parts.proofs.lemmas.string.LiteralContents.{content_is}
use Rattle.cbor_edn_model.specs.access.Accessed.{only_bytes, both_joined, item_bytes, IsApplicationPiece}
use Rattle.cbor_edn_model.specs.cbor.Meaning.{means}
use Rattle.cbor_edn_model.specs.tree.Items.{nesting}
use Rattle.cbor_edn_model.specs.tree.Trees.{Tree, OneItem, OnePiece, OneString, LiteralTree, LastPieceTree, items}
use Rattle.cbor_edn_model.specs.visit.Seeking.{CallArguments, number, prefix_and_text, IsApplication}
use Rattle.cbor_edn_conversions.specs.EmbeddedItems.{literal_item, with_literals, of_lone_literal, bytes_behind_prefix, structure_of, embedded_item, shown_or, shown, show_embedded}
use Rattle.cbor_edn_conversions.proofs.embedded.LiteralBytes.{has_bytes, bytes_found}
use Rattle.cbor_edn_conversions.proofs.embedded.ShownVisits.{lone_of, show_leaves}

-- ---- the bytes of the item

joined_is : (o : Option (List ℕ)) → both_joined o (Some []) ≡ o
joined_is None = refl
joined_is (Some bs) = ap (λ (l : List ℕ). Some l) (append-nil bs)

only_is : (o : Option (List ℕ)) → only_bytes (of_bytes o) ≡ o
only_is None = refl
only_is (Some bs) = refl

-- those of a literal with a prefix
behind : (x p t : List ℕ) → IsLiteral (Prefixed p) t x → (o : Option (List ℕ)) → prefixed_bytes p t ≡ o → (q : Option (List ℕ)) → bytes_behind_prefix x ≡ q → o ≡ q
behind x p t is (Some bs) e q f = sym (bytes_found x p t bs is (content_is (Prefixed p) t x is ∙ ap of_bytes e)) ∙ f
behind x p t is None e None f = refl
behind x p t is None e (Some bs) f =
    let h = has_bytes x bs f in
    let none : literal_content x ≡ None = content_is (Prefixed p) t x is ∙ ap of_bytes e in
    let content = h.content in
    absurd cc

literal_bytes : (x p t : List ℕ) (i : Option Indicator) → IsLiteral (Prefixed p) t x → item_bytes (literal_item x i) ≡ bytes_behind_prefix x
unfolding items means
literal_bytes x p t i is =
    joined_is (only_bytes (literal_content x))
    ∙ (ap only_bytes (content_is (Prefixed p) t x is) ∙ (only_is (prefixed_bytes p t) ∙ behind x p t is (prefixed_bytes p t) refl (bytes_behind_prefix x) refl))

piece_is : (l : Tree OnePiece) (x : List ℕ) (i : Option Indicator) (p t : List ℕ) → LiteralTree x i ≡ l → IsApplicationPiece l p t → IsLiteral (Prefixed p) t x
piece_is l x i p t e is = subst (λ l. IsApplicationPiece l p t) (sym e) is

abbrev given_string : Tree OneString → Option (Tree OneString)
given_string w = Some w

last_is : (l m : Tree OnePiece) → given_string (LastPieceTree l) ≡ given_string (LastPieceTree m) → l ≡ m
last_is l m e = cc

lone_bytes : (a : CallArguments) (x : List ℕ) (i : Option Indicator) → IsApplication (literal_item x i) a → item_bytes (literal_item x i) ≡ bytes_behind_prefix x
lone_bytes (number n) x i h = absurd h
lone_bytes (prefix_and_text p t) x i h = literal_bytes x p t i (piece_is h.0 x i p t (last_is (LiteralTree x i) h.0 h.1) h.2)

pub bytes_are : (w : Tree OneItem) (a : CallArguments) (is : IsApplication w a) → item_bytes w ≡ bytes_behind_prefix (lone_of w a is).text
bytes_are w a is =
    let h = lone_of w a is in
    ap item_bytes h.is ∙ lone_bytes a h.text h.indicator (subst (λ v. IsApplication v a) h.is is)

-- ---- what is left

nothing_at : (levels limit : ℕ) (x : List ℕ) (i : Option Indicator) → (levels ≡ 0) ⊎ (limit ≡ 0) → shown levels limit x i ≡ literal_item x i
unfolding shown
nothing_at zero limit x i none = refl
nothing_at (suc levels) zero x i none = refl
nothing_at (suc levels) (suc limit) x i (inl e) = absurd (omega (arith, e))
nothing_at (suc levels) (suc limit) x i (inr e) = absurd (omega (arith, e))

at_literal : (levels limit : ℕ) (x : List ℕ) (i : Option Indicator) → of_lone_literal (shown levels limit) (literal_item x i) ≡ shown levels limit x i
at_literal levels limit x i = refl

called : (levels limit : ℕ) (w : Tree OneItem) (a : CallArguments) (is : IsApplication w a) → (show_embedded levels limit a w).1 ≡ shown levels limit (lone_of w a is).text (lone_of w a is).indicator
called levels limit w a is = let h = lone_of w a is in show_leaves levels limit a w ∙ (ap (of_lone_literal (shown levels limit)) h.is ∙ at_literal levels limit h.text h.indicator)

-- without levels, or without room, the item stays,
pub nothing_shown : (levels limit : ℕ) (w : Tree OneItem) (a : CallArguments) → IsApplication w a → (levels ≡ 0) ⊎ (limit ≡ 0) → (show_embedded levels limit a w).1 ≡ w
nothing_shown levels limit w a is none = let h = lone_of w a is in called levels limit w a is ∙ (nothing_at levels limit h.text h.indicator none ∙ sym h.is)

by_structure : (levels limit : ℕ) (x : List ℕ) (i : Option Indicator) (o : Option (Tree OneItem)) → levels ≢ 0 → limit ≢ 0 → structure_of (limit - 1) (bytes_behind_prefix x) ≡ o
    → shown levels limit x i ≡ shown_or x i (λ w. with_literals (shown (levels - 1) (limit - 1 - nesting (items w))) w) o
unfolding shown
by_structure zero limit x i o some room e = absurd (some refl)
by_structure (suc levels) zero x i o some room e = absurd (room refl)
by_structure (suc levels) (suc limit) x i o some room e =
    let l : suc levels - 1 ≡ levels = omega arith in
    let m : suc limit - 1 ≡ limit = omega arith in
    sym (ap (λ n. shown_or x i (λ w. with_literals (shown n (suc limit - 1 - nesting (items w))) w) o) l
    ∙ (ap (λ n. shown_or x i (λ w. with_literals (shown levels (n - nesting (items w))) w) o) m
    ∙ ap (shown_or x i (λ w. with_literals (shown levels (limit - nesting (items w))) w)) (sym e ∙ ap (λ n. structure_of n (bytes_behind_prefix x)) m)))

-- without a structure too,
pub not_shown : (levels limit : ℕ) (w : Tree OneItem) (a : CallArguments) → IsApplication w a → levels ≢ 0 → limit ≢ 0 → structure_of (limit - 1) (item_bytes w) ≡ None → (show_embedded levels limit a w).1 ≡ w
not_shown levels limit w a is some room e =
    let h = lone_of w a is in
    called levels limit w a is ∙ (by_structure levels limit h.text h.indicator None some room (ap (structure_of (limit - 1)) (sym (bytes_are w a is)) ∙ e) ∙ sym h.is)

-- and else it becomes the structure, embedded, with its literals shown.
pub is_shown : (levels limit : ℕ) (w c : Tree OneItem) (a : CallArguments) (is : IsApplication w a) → levels ≢ 0 → limit ≢ 0 → structure_of (limit - 1) (item_bytes w) ≡ Some c
    → (show_embedded levels limit a w).1 ≡ embedded_item (with_literals (shown (levels - 1) (limit - 1 - nesting (items c))) c) (lone_of w a is).indicator
is_shown levels limit w c a is some room e =
    let h = lone_of w a is in
    called levels limit w a is ∙ by_structure levels limit h.text h.indicator (Some c) some room (ap (structure_of (limit - 1)) (sym (bytes_are w a is)) ∙ e)
