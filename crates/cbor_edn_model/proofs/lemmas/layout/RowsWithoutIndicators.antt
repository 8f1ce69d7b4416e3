-- A row whose entries lose their indicators one by one.
use Rattle.std.proofs.Common.{ℕ, zero, suc, ◌<◌, ◌≡◌, List, [], ◌∷◌, length, map, get_or, arith, sym, subst}
use Rattle.std.proofs.Math.ListN.{set}
use Rattle.cbor_edn_model.specs.tree.Items.{Row}
use Rattle.cbor_edn_model.specs.tree.Trees.{OneEntry, Tree, items}
use Rattle.cbor_edn_model.specs.layout.Fewer.{Fewer, then}
use Rattle.cbor_edn_model.specs.internal.LayoutRows.{entry_without_indicators}
use Rattle.cbor_edn_model.specs.internal.IndicatorRemoval.{FewerEntries}
use Rattle.cbor_edn_model.proofs.lemmas.layout.Begun.{begun}
use Rattle.cbor_edn_model.proofs.lemmas.layout.FewestIndicators.{same_fewer, bare_fewer}
use Rattle.cbor_edn_model.proofs.lemmas.layout.WithoutIndicators.{entry_is_bare}

module _ {k : Row} where
  pub entry_fewer : (p : Tree (OneEntry k) × List ℕ) → Fewer (items p.0) (items (entry_without_indicators p).0)
  entry_fewer p = subst (λ e. Fewer (items p.0) e) (sym (entry_is_bare p.0)) (bare_fewer (items p.0))

  -- nothing has changed yet
  pub same_entries : (ps : List (Tree (OneEntry k) × List ℕ)) → FewerEntries ps ps
  unfolding items
  same_entries [] m n h = h
  same_entries (p ∷ ps) m n h = then (same_fewer (items p.0)) (same_entries ps m n h)

  pub all_fewer : (ps : List (Tree (OneEntry k) × List ℕ)) → FewerEntries ps (map entry_without_indicators ps)
  unfolding items
  all_fewer [] m n h = h
  all_fewer (p ∷ ps) m n h = then (entry_fewer p) (all_fewer ps m n h)

  module _ {A : Type 0} (seen : A → Tree (OneEntry k) × List ℕ) where
    -- an entry on which it stops
    pub stopped : (xs : List A) (n : ℕ) (x y : A) (zs : List (Tree (OneEntry k) × List ℕ)) → map seen xs ≡ begun entry_without_indicators n zs → n < length xs → x ≡ get_or xs n x → Fewer (items (seen x).0) (items (seen y).0) → FewerEntries zs (map seen (set xs n y))
    unfolding items
    stopped [] n x y zs e h g r = absurd (omega arith)
    stopped (w ∷ xs) zero x y zs e h g r =
        subst (λ qs. FewerEntries qs (seen y ∷ map seen xs)) e (λ m n t. then (subst (λ a. Fewer (items (seen a).0) (items (seen y).0)) g r) (same_entries (map seen xs) m n t))
    stopped (w ∷ xs) (suc n) x y [] e h g r = absurd cc
    stopped (w ∷ xs) (suc n) x y (z ∷ zs) e h g r =
        let first : seen w ≡ entry_without_indicators z = cc in
        let others : map seen xs ≡ begun entry_without_indicators n zs = cc in
        λ m q t. then (subst (λ p. Fewer (items z.0) (items p.0)) (sym first) (entry_fewer z)) (stopped xs n x y zs others (omega arith) g r m q t)
