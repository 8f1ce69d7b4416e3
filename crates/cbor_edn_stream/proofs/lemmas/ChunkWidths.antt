-- From string to string: how wide a string of indefinite length is on a single line.
use Rattle.std.proofs.Common.{◌≡◌, ℕ, zero, suc, ◌+◌, ◌-◌, ◌≤◌, ◌<◌, ltb, eqb, List, [], ◌∷◌, length, map, take, drop, Option, Some, None, Ok, Err, refl, sym, ap, subst, ◌∙◌, length-append, arith, inl, inr}
use Rattle.std.specs.Prelude.{min}
use Rattle.std.proofs.lemmas.Bool.{ltb-false}
use Rattle.std.proofs.lemmas.List.{length-take}
use Rattle.std.proofs.lemmas.List.Sums.{sum_by-cons}
use Rattle.std.specs.List.{sum_by}
use Rattle.cbor_edn_parts.specs.declared.string.StringKind.{StringKind}
use Rattle.cbor_edn_parts.specs.internal.CommentReading.{from_first, to_last, up_to_comma, past_comma}
use Rattle.cbor_edn_parts.specs.string.Contents.{escaped, all_escaped, kind_literal}
use Rattle.cbor_edn_parts.specs.base.Indicator.{indicator_text}
use Rattle.cbor_edn_parts.specs.declared.base.indicator.Indicator.{Indicator}
use Rattle.cbor_edn_model.specs.declared.cbor.heads.Width.{Width}
use Rattle.cbor_edn_model.specs.declared.cbor.decode.CborError.{CborError}
use Rattle.cbor_edn_model.specs.declared.cbor.decode.head.Stop.TheVariants.{Break}
use Rattle.cbor_edn_model.specs.cbor.Value.{Chunk, string_major, is_content}
use Rattle.cbor_edn_model.specs.cbor.Decoded.{indicator_of}
use Rattle.cbor_edn_model.specs.tree.Trees.{Tree, OneItem}
use Rattle.cbor_edn_model.specs.internal.Results.{◌>>=◌}
use Rattle.cbor_edn_model.specs.internal.CborReading.{DecoderResult, Argument, argument_indicator, head_at, until, turn, past_stop, string_at, chunk_at, chunk_by, string_by, definite_tree, chunks_tree, string_row, trees}
use Rattle.cbor_edn_model.specs.internal.Widths.{width}
use Rattle.cbor_edn_model.proofs.lemmas.cbor.CborHeads.{bind_ok, ok_is, chosen}
use Rattle.cbor_edn_stream.specs.Heads.{chunk_columns}
use Rattle.cbor_edn_stream.specs.Wide.{IsNarrowStream, IsWideStream, greatest}
use Rattle.cbor_edn_stream.proofs.lemmas.Lengths.{line_width, row_width, literal_long}

-- ---- the width of all

-- strings, each with the separator behind it
abbrev pub chunks_columns : StringKind → List Chunk → ℕ
chunks_columns k [] = 0
chunks_columns k (c ∷ cs) = chunk_columns k c + chunks_columns k cs

row_columns : (k : StringKind) (c : Chunk) (cs : List Chunk) → row_width (string_row (map (definite_tree k) (c ∷ cs))) + 2 ≡ chunks_columns k (c ∷ cs)
unfolding width from_first to_last up_to_comma past_comma
row_columns k c [] = omega arith
row_columns k c (d ∷ cs) = let h = row_columns k d cs in omega (arith, h)

stream_columns : (k : StringKind) (c : Chunk) (cs : List Chunk) → line_width (chunks_tree k (c ∷ cs)) ≡ chunks_columns k (c ∷ cs) + 2
unfolding width from_first to_last up_to_comma past_comma
stream_columns k c cs = let h = row_columns k c cs in omega (arith, h)

-- ---- the string in front

-- a string, and those behind it
abbrev IsTurn : StringKind → List ℕ → List ℕ → List Chunk → Type 0
IsTurn k bytes end cs = (c : Chunk) × (after : List ℕ) × (n : ℕ) × (ds : List Chunk) × (chunk_at k bytes ≡ Ok (c, after)) × (until Break (chunk_at k) n after ≡ Ok (ds, end)) × (cs ≡ c ∷ ds)

by_turn : (k : StringKind) (n : ℕ) (bytes end : List ℕ) (cs : List Chunk) → turn (chunk_at k) (until Break (chunk_at k) n) bytes None ≡ Ok (cs, end) → IsTurn k bytes end cs
by_turn k n bytes end cs e =
    let a = bind_ok (chunk_at k bytes) (λ y. until Break (chunk_at k) n y.1 >>= λ ys. Ok (y.0 ∷ ys.0, ys.1)) (cs, end) e in
    let b = bind_ok (until Break (chunk_at k) n a.0.1) (λ ys. Ok (a.0.0 ∷ ys.0, ys.1)) (cs, end) a.2 in
    let same = ok_is (a.0.0 ∷ b.0.0, b.0.1) (cs, end) b.2 in
    let back : b.0.1 ≡ end = ap (λ (y : List Chunk × List ℕ). y.1) same in
    let all : cs ≡ a.0.0 ∷ b.0.0 = ap (λ (y : List Chunk × List ℕ). y.0) (sym same) in
    (a.0.0, a.0.1, n, b.0.0, a.1, subst (λ (l : List ℕ). until Break (chunk_at k) n a.0.1 ≡ Ok (b.0.0, l)) back b.1, all)

one_turn : (k : StringKind) (n : ℕ) (bytes end : List ℕ) (cs : List Chunk) → past_stop Break bytes ≡ None → until Break (chunk_at k) n bytes ≡ Ok (cs, end) → IsTurn k bytes end cs
unfolding until
one_turn k zero bytes end cs going e = absurd cc
one_turn k (suc n) bytes end cs going e = by_turn k n bytes end cs (ap (λ o. turn (chunk_at k) (until Break (chunk_at k) n) bytes o) (sym going) ∙ e)

by_stop : (k : StringKind) (n : ℕ) (bytes end : List ℕ) (cs : List Chunk) (o : Option (List ℕ)) → (o ≡ None → ⊥) → turn (chunk_at k) (until Break (chunk_at k) n) bytes o ≡ Ok (cs, end) → cs ≡ []
by_stop k n bytes end cs None some e = absurd (some refl)
by_stop k n bytes end cs (Some after) some e = ap (λ (y : List Chunk × List ℕ). y.0) (ok_is (cs, end) ([], after) (sym e))

no_turn : (k : StringKind) (n : ℕ) (bytes end : List ℕ) (cs : List Chunk) → (past_stop Break bytes ≡ None → ⊥) → until Break (chunk_at k) n bytes ≡ Ok (cs, end) → cs ≡ []
unfolding until
no_turn k zero bytes end cs ends e = absurd cc
no_turn k (suc n) bytes end cs ends e = by_stop k n bytes end cs (past_stop Break bytes) ends e

-- a string of definite length by its head
abbrev IsBehind : Argument → List ℕ → Chunk → List ℕ → Type 0
IsBehind argument behind c after = (w : Width) × (n : ℕ) × (argument ≡ Some (w, n)) × (n ≤ length behind) × (c ≡ (w, take n behind)) × (after ≡ drop n behind)

by_argument : (k : StringKind) (major : ℕ) (argument : Argument) (behind after : List ℕ) (c : Chunk) → chunk_by k (major, argument) behind ≡ Ok (c, after) → IsBehind argument behind c after
unfolding string_at
by_argument k major None behind after c e = elim (chosen (eqb major (string_major k)) _ _ _ e) [ inl a ↦ absurd (let g = a.1 in cc) | inr a ↦ absurd (let g = a.1 in cc) ]
by_argument k major (Some (w, n)) behind after c e =
    elim (chosen (eqb major (string_major k)) _ _ _ e) [
      | inl a ↦ (let b = bind_ok (string_at k n behind) (λ s. Ok ((w, s.0), s.1)) (c, after) a.1 in
          elim (chosen (ltb (length behind) n) _ _ _ b.1) [
            | inl d ↦ absurd (let g = d.1 in cc)
            | inr d ↦ elim (chosen (is_content k (take n behind)) _ _ _ d.1) [
              | inl f ↦ (let content = ok_is (take n behind, drop n behind) b.0 f.1 in
                  let front : take n behind ≡ b.0.0 = ap (λ (y : List ℕ × List ℕ). y.0) content in
                  let back : drop n behind ≡ b.0.1 = ap (λ (y : List ℕ × List ℕ). y.1) content in
                  let whole = ok_is ((w, b.0.0), b.0.1) (c, after) b.2 in
                  let read : (w, b.0.0) ≡ c = ap (λ (y : Chunk × List ℕ). y.0) whole in
                  let rest : b.0.1 ≡ after = ap (λ (y : Chunk × List ℕ). y.1) whole in
                  (w, n, refl, ltb-false _ _ d.0, sym (ap (λ (s : List ℕ). (w, s)) front ∙ read), sym (back ∙ rest)))
              | inr f ↦ absurd (let g = f.1 in cc)
            ]
          ])
      | inr a ↦ absurd (let g = a.1 in cc)
    ]

chunk_behind : (k : StringKind) (major : ℕ) (argument : Argument) (bytes behind after : List ℕ) (c : Chunk) → head_at bytes ≡ Ok ((major, argument), behind) → chunk_at k bytes ≡ Ok (c, after) → IsBehind argument behind c after
unfolding chunk_at
chunk_behind k major argument bytes behind after c is e = by_argument k major argument behind after c (ap (λ (r : DecoderResult (ℕ × Argument)). r >>= λ h. chunk_by k h.0 h.1) (sym is) ∙ e)

-- ---- turns

abbrev given : Width × ℕ → Argument
given x = Some x

some_is : (x y : Width × ℕ) → given x ≡ given y → x ≡ y
some_is x y e = cc

-- What is left of the strings, and of columns that hold all.
abbrev pub Left : StringKind → List ℕ → List ℕ → ℕ → ℕ → Type 0
Left k bytes rest columns left = (cs : List Chunk) (end : List ℕ) → until Break (chunk_at k) (suc (length bytes)) bytes ≡ Ok (cs, end)
    → (n : ℕ) × (ds : List Chunk) × (until Break (chunk_at k) n rest ≡ Ok (ds, end)) × (chunks_columns k cs + left ≡ chunks_columns k ds + columns)

pub all_left : (k : StringKind) (bytes : List ℕ) (columns : ℕ) → Left k bytes bytes columns columns
all_left k bytes columns cs end e = (suc (length bytes), cs, e, refl)

pub left_behind : (k : StringKind) (bytes rest behind after : List ℕ) (columns left spare major : ℕ) (argument : Argument) (w : Width) (n : ℕ) → past_stop Break rest ≡ None → head_at rest ≡ Ok ((major, argument), behind) → argument ≡ Some (w, n)
    → after ≡ drop n behind → chunk_columns k (w, take n behind) ≤ left → spare ≡ left - chunk_columns k (w, take n behind) → Left k bytes rest columns left → Left k bytes after columns spare
left_behind k bytes rest behind after columns left spare major argument w n going is some back fits less so_far cs end e =
    let s = so_far cs end e in
    let t = one_turn k s.0 rest end s.1 going s.2 in
    let b = chunk_behind k major argument rest behind t.1 t.0 is t.4 in
    let head = some_is (b.0, b.1) (w, n) (sym b.2 ∙ some) in
    let width_is : b.0 ≡ w = ap (λ (y : Width × ℕ). y.0) head in
    let count_is : b.1 ≡ n = ap (λ (y : Width × ℕ). y.1) head in
    let chunk : t.0 ≡ (w, take n behind) = b.4 ∙ ap (λ (v : Width). (v, take b.1 behind)) width_is ∙ ap (λ (m : ℕ). (w, take m behind)) count_is in
    let here : t.1 ≡ after = b.5 ∙ ap (λ (m : ℕ). drop m behind) count_is ∙ sym back in
    let shown : chunk_columns k t.0 ≡ chunk_columns k (w, take n behind) = ap (λ (c : Chunk). chunk_columns k c) chunk in
    let sum : chunks_columns k s.1 ≡ chunk_columns k t.0 + chunks_columns k t.3 = ap (λ (l : List Chunk). chunks_columns k l) t.6 in
    (t.2, t.3, subst (λ (l : List ℕ). until Break (chunk_at k) t.2 l ≡ Ok (t.3, end)) here t.5, omega (arith, s.3, sum, shown, fits, less))

-- ---- what is known of all

-- the width, by the strings
abbrev OfWidth : StringKind → List ℕ → Tree OneItem → List ℕ → Type 0
OfWidth k bytes t rest = (cs : List Chunk) × (until Break (chunk_at k) (suc (length bytes)) bytes ≡ Ok (cs, rest)) × (line_width t ≡ chunks_columns k cs + 2)

of_width : (k : StringKind) (bytes rest : List ℕ) (t : Tree OneItem) → past_stop Break bytes ≡ None → string_by trees k None bytes ≡ Ok (t, rest) → OfWidth k bytes t rest
of_width k bytes rest t going e =
    let a = bind_ok (until Break (chunk_at k) (suc (length bytes)) bytes) (λ cs. Ok (chunks_tree k cs.0, cs.1)) (t, rest) e in
    let made = ok_is (chunks_tree k a.0.0, a.0.1) (t, rest) a.2 in
    let back : a.0.1 ≡ rest = ap (λ (y : Tree OneItem × List ℕ). y.1) made in
    let tree : chunks_tree k a.0.0 ≡ t = ap (λ (y : Tree OneItem × List ℕ). y.0) made in
    let s = one_turn k (suc (length bytes)) bytes a.0.1 a.0.0 going a.1 in
    let wide = stream_columns k s.0 s.3 in
    let same : chunks_tree k a.0.0 ≡ chunks_tree k (s.0 ∷ s.3) = ap (λ (l : List Chunk). chunks_tree k l) s.6 in
    let all : chunks_columns k a.0.0 ≡ chunks_columns k (s.0 ∷ s.3) = ap (λ (l : List Chunk). chunks_columns k l) s.6 in
    let measured : line_width t ≡ line_width (chunks_tree k (s.0 ∷ s.3)) = ap (λ (w : Tree OneItem). line_width w) (sym tree ∙ same) in
    (a.0.0, subst (λ (l : List ℕ). until Break (chunk_at k) (suc (length bytes)) bytes ≡ Ok (a.0.0, l)) back a.1, omega (arith, wide, all, measured))

pub ends_narrow : (k : StringKind) (bytes rest : List ℕ) (columns left : ℕ) → past_stop Break bytes ≡ None → (past_stop Break rest ≡ None → ⊥) → 0 < left → Left k bytes rest (columns - 2) left → IsNarrowStream columns k bytes
ends_narrow k bytes rest columns left going ends some so_far t end e =
    let a = of_width k bytes end t going e in
    let s = so_far a.0 end a.1 in
    let none : chunks_columns k s.1 ≡ 0 = ap (λ (l : List Chunk). chunks_columns k l) (no_turn k s.0 rest end s.1 ends s.2) in
    omega (arith, a.2, s.3, none, some)

pub ends_wide : (k : StringKind) (bytes rest : List ℕ) (columns left : ℕ) → past_stop Break bytes ≡ None → (past_stop Break rest ≡ None → ⊥) → left ≡ 0 → Left k bytes rest (columns - 2) left → IsWideStream columns k bytes
ends_wide k bytes rest columns left going ends none_left so_far t end e =
    let a = of_width k bytes end t going e in
    let s = so_far a.0 end a.1 in
    let none : chunks_columns k s.1 ≡ 0 = ap (λ (l : List Chunk). chunks_columns k l) (no_turn k s.0 rest end s.1 ends s.2) in
    omega (arith, a.2, s.3, none, none_left)

-- What is in front has no place in the columns that are left.
front_wide : (k : StringKind) (bytes rest : List ℕ) (columns left : ℕ) → past_stop Break bytes ≡ None → past_stop Break rest ≡ None → ((c : Chunk) (after : List ℕ) → chunk_at k rest ≡ Ok (c, after) → left < chunk_columns k c) → Left k bytes rest (columns - 2) left → IsWideStream columns k bytes
front_wide k bytes rest columns left going more wide so_far t end e =
    let a = of_width k bytes end t going e in
    let s = so_far a.0 end a.1 in
    let b = one_turn k s.0 rest end s.1 more s.2 in
    let sum : chunks_columns k s.1 ≡ chunk_columns k b.0 + chunks_columns k b.3 = ap (λ (l : List Chunk). chunks_columns k l) b.6 in
    omega (arith, a.2, s.3, sum, wide b.0 b.1 b.4)

-- a string that shows more, or of which bytes are missing
pub chunk_wide : (k : StringKind) (bytes rest behind : List ℕ) (columns left major : ℕ) (argument : Argument) (w : Width) (n : ℕ) → past_stop Break bytes ≡ None → past_stop Break rest ≡ None → head_at rest ≡ Ok ((major, argument), behind) → argument ≡ Some (w, n)
    → (n ≤ length behind → left < chunk_columns k (w, take n behind)) → Left k bytes rest (columns - 2) left → IsWideStream columns k bytes
chunk_wide k bytes rest behind columns left major argument w n going more is some wide so_far =
    front_wide k bytes rest columns left going more shown so_far
  where
    shown : (c : Chunk) (after : List ℕ) → chunk_at k rest ≡ Ok (c, after) → left < chunk_columns k c
    shown c after e =
        let b = chunk_behind k major argument rest behind after c is e in
        let head = some_is (b.0, b.1) (w, n) (sym b.2 ∙ some) in
        let width_is : b.0 ≡ w = ap (λ (y : Width × ℕ). y.0) head in
        let count_is : b.1 ≡ n = ap (λ (y : Width × ℕ). y.1) head in
        let chunk : c ≡ (w, take n behind) = b.4 ∙ ap (λ (v : Width). (v, take b.1 behind)) width_is ∙ ap (λ (m : ℕ). (w, take m behind)) count_is in
        let same : chunk_columns k c ≡ chunk_columns k (w, take n behind) = ap (λ (d : Chunk). chunk_columns k d) chunk in
        omega (arith, same, wide (omega (arith, b.3, count_is)))

pub open_wide : (k : StringKind) (bytes rest behind : List ℕ) (columns left major : ℕ) (argument : Argument) → past_stop Break bytes ≡ None → past_stop Break rest ≡ None → head_at rest ≡ Ok ((major, argument), behind) → argument ≡ None
    → Left k bytes rest (columns - 2) left → IsWideStream columns k bytes
open_wide k bytes rest behind columns left major argument going more is none so_far =
    front_wide k bytes rest columns left going more (λ c after e. absurd (let b = chunk_behind k major argument rest behind after c is e in let g = b.2 in cc)) so_far

pub refused_wide : (k : StringKind) (bytes rest : List ℕ) (columns left : ℕ) (f : CborError) → past_stop Break bytes ≡ None → past_stop Break rest ≡ None → head_at rest ≡ Err f → Left k bytes rest (columns - 2) left → IsWideStream columns k bytes
unfolding chunk_at
refused_wide k bytes rest columns left f going more refused so_far =
    front_wide k bytes rest columns left going more (λ c after e. absurd (let g = ap (λ (r : DecoderResult (ℕ × Argument)). r >>= λ h. chunk_by k h.0 h.1) refused in cc)) so_far

-- a string shows more columns than it has bytes
pub chunk_long : (k : StringKind) (w : Width) (n : ℕ) (behind : List ℕ) → n ≤ length behind → n < chunk_columns k (w, take n behind)
chunk_long k w n behind le = let h = literal_long k (take n behind) in let g = length-take n behind in omega (arith, h, g, le)

-- what is counted of a string
pub shown_is : (k : StringKind) (w : Width) (n : ℕ) (argument : Argument) (i : Option Indicator) (content behind : List ℕ) (literal separated shown : ℕ) → argument ≡ Some (w, n) → i ≡ argument_indicator argument → content ≡ take n behind → n ≤ length behind
    → literal ≡ min (length (kind_literal k content)) greatest → separated ≡ length (indicator_text i) + 2 → shown ≡ min (literal + separated) greatest → shown ≡ min (chunk_columns k (w, take n behind)) greatest
shown_is k w n argument i content behind literal separated shown some indicated front le len gap all =
    let count : length (take n behind) ≡ n = omega (arith, length-take n behind, le) in
    let text : length (kind_literal k content) ≡ length (kind_literal k (take n behind)) = ap (λ (bs : List ℕ). length (kind_literal k bs)) front in
    let same : length (indicator_text i) ≡ length (indicator_text (indicator_of w (length (take n behind)))) = ap (λ (j : Option Indicator). length (indicator_text j)) (indicated ∙ ap argument_indicator some ∙ ap (indicator_of w) (sym count)) in
    omega (arith, text, same, len, gap, all)

-- ---- escapes

abbrev pub escape_columns : ℕ → ℕ
escape_columns c = length (escaped c)

pub escapes_sum : (bs : List ℕ) → length (all_escaped bs) ≡ sum_by escape_columns bs
escapes_sum [] = refl
escapes_sum (b ∷ bs) = let h = escapes_sum bs in let g = sum_by-cons escape_columns b bs in let both = length-append (escaped b) (all_escaped bs) in omega (arith, h, g, both)
