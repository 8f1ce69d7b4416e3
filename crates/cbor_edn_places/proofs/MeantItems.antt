-- Where all items of a sequence mean values, the sequence does.
use Prim.Native.Nat.{zero}
use Rattle.std.proofs.Common.{◌≢◌, suc, Option, Some, None, refl}
use Rattle.cbor_edn_model.specs.access.Paths.{items_in}
use Rattle.cbor_edn_model.specs.cbor.Meaning.{means, one_more, no_entries, ◌>>=◌}
use Rattle.cbor_edn_model.specs.tree.Items.{Elements}
use Rattle.cbor_edn_model.specs.tree.Trees.{Tree, Rest, Seq, ElementTree, LastTree, MoreTree, NothingTree, SequenceTree, items}
use Rattle.cbor_edn_places.specs.Places.{AllMean}

both : {A B C : Type 0} (o : Option A) (p : Option B) (f : A → B → C) → o ≢ None → p ≢ None → (o >>= λ x. p >>= λ y. Some (f x y)) ≢ None
both None p f some more = absurd (some refl)
both (Some x) None f some more = absurd (more refl)
both (Some x) (Some y) f some more = λ e. cc

row_means : (m : Tree (Rest Elements)) → AllMean (items_in m) → means (items m) ≢ None
unfolding means items
row_means (LastTree (ElementTree w) s) all = both (means (items w)) (Some (no_entries Elements)) (one_more Elements) (all zero w refl) (λ e. cc)
row_means (MoreTree (ElementTree w) s m) all = both (means (items w)) (means (items m)) (one_more Elements) (all zero w refl) (row_means m (λ j y got. all (suc j) y got))

pub all_mean : (w : Tree Seq) → AllMean (items_in w) → means (items w) ≢ None
unfolding means items
all_mean (NothingTree s) all = λ e. cc
all_mean (SequenceTree s m) all = row_means m all
