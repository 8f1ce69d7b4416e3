-- Lists and rows with fewer indicators.
use Rattle.std.specs.Prelude.{ℕ, List, None}
use Rattle.cbor_edn_model.specs.tree.Items.{Bracketed, Row}
use Rattle.cbor_edn_model.specs.tree.Trees.{OneItem, OneEntry, Inside, Rest, Tree, NoIndicator, EnclosedTree, EmptyTree, FullTree, items}
use Rattle.cbor_edn_model.specs.layout.Bare.{bare_opener, first_space}
use Rattle.cbor_edn_model.specs.tree.Rows.{entries_onto}
use Rattle.cbor_edn_model.specs.layout.Fewer.{StaysOrGoes, Fewer}

-- what stands between brackets, with the list's own indicator
abbrev pub FewerInside : {k : Bracketed} → Tree (Inside k) → Tree (Inside k) → Type 0
FewerInside w v = StaysOrGoes (items w).0 (items v).0 × Fewer (items w).1 (items v).1

-- entries, each with the separator behind it, whatever follows them
abbrev pub FewerEntries : {k : Row} → List (Tree (OneEntry k) × List ℕ) → List (Tree (OneEntry k) × List ℕ) → Type 0
FewerEntries {k} ps qs = (m n : Tree (Rest k)) → Fewer (items m) (items n) → Fewer (items (entries_onto ps m)) (items (entries_onto qs n))

-- an item between parentheses whose label has lost its indicator
abbrev pub opener_gone : Tree OneItem → Tree OneItem
opener_gone (EnclosedTree l w) = EnclosedTree (bare_opener l) w
opener_gone w = w

-- a list that has lost its own indicator alone
abbrev pub headless : {k : Bracketed} → Tree (Inside k) → Tree (Inside k)
headless (EmptyTree i s) = EmptyTree None s
headless (FullTree h s m) = FullTree NoIndicator (first_space h s) m
