-- A text spells one list of items and is the text of one tree, and what is spelled are the items of trees.
use Rattle.std.proofs.Common.{ℕ, List, [], ◌≡◌, ◌≤◌, ap, sym, arith, ◌∙◌}
use Rattle.std.specs.Prelude.{Result, Ok, max}
use Rattle.std.proofs.lemmas.Bool.{le-leb}
use Rattle.cbor_edn_parts.specs.declared.base.error.ParseErrorKind.{ParseErrorKind}
use Rattle.cbor_edn_model.specs.tree.Trees.{Rule, Seq, Standalone, Tree, Merged, FollowOf, Of, onto, text, items, tree_nesting}
use Rattle.cbor_edn_model.proofs.lemmas.text.Tested.{Tested, tested, valid}
use Rattle.cbor_edn_model.specs.internal.Reading.{reads}
use Rattle.cbor_edn_model.specs.text.TextLaws.{UniqueItems, UniqueSpaces, SpelledByTrees}
use Rattle.cbor_edn_model.proofs.lemmas.text.Outcomes.{within}
use Rattle.cbor_edn_model.proofs.lemmas.text.StepCounts.{reads-again}
use Rattle.cbor_edn_model.proofs.lemmas.text.Spelled.{HasTree, tells, spelled_sequence, spelled_one}
use Rattle.cbor_edn_model.proofs.lemmas.text.Whole.{sequence_made, standalone_made}

-- Read with a limit that is deep enough.
read_back : {s : Rule} (limit : ℕ) (w : Tree s) (r : List ℕ) → Tested w → Merged w → FollowOf s r → tree_nesting w ≤ limit → reads limit s (onto w r) ≡ Ok (w, r)
read_back limit w r v j h n = reads-again limit w r v j h ∙ within (tree_nesting w) limit (w, r) (le-leb (tree_nesting w) limit n)

-- No tree's text begins another's, where both are followed by what may follow.
pub one_front : {s : Rule} (w v : Tree s) (q r : List ℕ) → Tested w → Merged w → Tested v → Merged v → FollowOf s q → FollowOf s r → onto w q ≡ onto v r → ◌≡◌ {A = Tree s × List ℕ} (w, q) (v, r)
one_front {s} w v q r vw jw vv jv fq fr e = same_Ok (sym (read_back limit w q vw jw fq (omega arith)) ∙ ap (reads limit s) e ∙ read_back limit v r vv jv fr (omega arith))
  where
    limit : ℕ
    limit = max (tree_nesting w) (tree_nesting v)

    same_Ok : {x y : Tree s × List ℕ} → ◌≡◌ {A = Result (Tree s × List ℕ) ParseErrorKind} (Ok x) (Ok y) → x ≡ y
    same_Ok e = cc

-- One text, one tree.
pub one_tree : {s : Rule} (w v : Tree s) → Tested w → Merged w → Tested v → Merged v → FollowOf s [] → text w ≡ text v → w ≡ v
one_tree {s} w v vw jw vv jv f e = ap (λ (p : Tree s × List ℕ). p.0) (one_front w v [] [] vw jw vv jv f f e)

same_items : {s : Rule} (x y : Of s) (t : List ℕ) → FollowOf s [] → HasTree s x t → HasTree s y t → x ≡ y
same_items x y t f a b = sym a.same ∙ ap items (one_tree a.tree b.tree a.valid a.merged b.valid b.merged f (a.text_is [] ∙ sym (b.text_is []))) ∙ b.same

pub unique_items : UniqueItems
unique_items = (λ x y t hx hy. same_items {s = Seq} x y t tt (spelled_sequence x t hx) (spelled_sequence y t hy), λ x y t hx hy. same_items {s = Standalone} x y t tt (spelled_one x t hx) (spelled_one y t hy))

pub unique_spaces : UniqueSpaces
unique_spaces = (
  λ w v vw vv jw jv e. one_tree w v (tested w vw) jw (tested v vv) jv tt e,
  λ w v vw vv jw jv e. one_tree w v (tested w vw) jw (tested v vv) jv tt e,
)

pub spelled_by_trees : SpelledByTrees
spelled_by_trees = (
  λ x t h. let m = sequence_made x t h in (m.0, valid m.0 m.1, m.2, m.3, m.4),
  λ x t h. let m = standalone_made x t h in (m.0, valid m.0 m.1, m.2, m.3, m.4),
  λ w v. tells w (tested w v),
  λ w v. tells w (tested w v),
)
