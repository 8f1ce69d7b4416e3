-- Rows that are printed entry by entry.
use Rattle.std.proofs.Common.{◌≡◌, ℕ, List, [], ◌∷◌, ◌++◌, Some, refl, ap, ◌∙◌, append_assoc}
use Rattle.std.proofs.lemmas.List.{append-nil}
use Rattle.cbor_edn_model.specs.tree.Items.{Row}
use Rattle.cbor_edn_model.specs.tree.Trees.{Tree, OneEntry, Rest, LastTree, MoreTree, text}
use Rattle.cbor_edn_model.specs.layout.Layout.{Layout, laid}
use Rattle.cbor_edn_model.specs.internal.Regular.{in_front}
use Rattle.cbor_edn_model.specs.internal.CborReading.{row_of}
use Rattle.cbor_edn_stream.specs.Printed.{separator, finish}
use Rattle.cbor_edn_model.proofs.lemmas.text.Texts.{text_last, text_more}

-- entries, each with the separator behind it
abbrev pub fronts : {k : Row} → Layout → List (Tree (OneEntry k)) → List ℕ
fronts l [] = []
fronts l (e ∷ es) = text (laid l e) ++ (separator l ++ fronts l es)

regroup : (a b c d : List ℕ) → a ++ (b ++ (c ++ d)) ≡ (a ++ (b ++ c)) ++ d
regroup a b c d = simp append_assoc refl

pub fronts_push : {k : Row} (l : Layout) (es : List (Tree (OneEntry k))) (e : Tree (OneEntry k)) → fronts l (es ++ e ∷ []) ≡ fronts l es ++ (text (laid l e) ++ separator l)
fronts_push l [] e = ap (λ (t : List ℕ). text (laid l e) ++ t) (append-nil (separator l))
fronts_push l (x ∷ es) e = ap (λ (t : List ℕ). text (laid l x) ++ (separator l ++ t)) (fronts_push l es e) ∙ regroup (text (laid l x)) (separator l) (fronts l es) (text (laid l e) ++ separator l)

-- the row with its last entry
pub row_last : {k : Row} (l : Layout) (es : List (Tree (OneEntry k))) (e : Tree (OneEntry k))
    → (m : Tree (Rest k)) × (row_of (es ++ e ∷ []) ≡ Some m) × (text (laid l m) ≡ fronts l es ++ (text (laid l e) ++ finish l))
unfolding laid
row_last l [] e = (LastTree e [], refl, text_last (laid l e) (finish l))
row_last l (x ∷ es) e =
    let r = row_last l es e in (
      MoreTree x (44 ∷ 32 ∷ []) r.0,
      ap (λ o. Some (in_front x o)) r.1,
      text_more (laid l x) (separator l) (laid l r.0) ∙ ap (λ (t : List ℕ). text (laid l x) ++ (separator l ++ t)) r.2 ∙ regroup (text (laid l x)) (separator l) (fronts l es) (text (laid l e) ++ finish l),
    )
