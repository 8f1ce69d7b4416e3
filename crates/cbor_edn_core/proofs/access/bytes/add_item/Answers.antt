use Rattle.std.proofs.Common.{◌≡◌, ℕ, List, [], ◌∷◌, Option, None, Some, append-nil, refl, sym, ap, subst}
use Rattle.cbor_edn_parts.specs.Leaves.{literal_bytes}
use Rattle.cbor_edn_parts.specs.internal.ContentReading.{literal_content}
use Rattle.cbor_edn_core.specs.declared.access.TypeMismatch.TheVariants.{Bytes}
use Rattle.cbor_edn_core.proofs.lemmas.tree.Views.{view_stream_is, view_string_at}
use Rattle.cbor_edn_model.specs.access.Accessed.{all_joined, item_bytes, only_bytes}
use Rattle.cbor_edn_model.specs.cbor.Meaning.{means}
use Rattle.cbor_edn_model.specs.tree.Trees.{items}
use Rattle.cbor_edn_model.specs.tree.TreeLeaves.{texts}
use Rattle.cbor_edn_model.specs.internal.Adding.{Adds}
use Rattle.cbor_edn_core.proofs.access.bytes.add_item.Goals as goal

alone : (o : Option (List ℕ)) → o ≡ all_joined (o ∷ [])
alone None = refl
alone (Some bs) = ap Some (sym (append-nil bs))

pub returns-in-Literal : goal.returns-in-Literal
unfolding items means
returns-in-Literal c =
    rw c.in-Literal.is (subst (λ o. Adds Bytes o c.args.out.now.items c.add_literal.new.out.items c.add_literal.result) (alone (only_bytes (literal_content (literal_bytes c.in-Literal.literal)))) c.add_literal.ensures)

pub returns-in-String : goal.returns-in-String
returns-in-String c =
    subst (λ w. Adds Bytes (item_bytes w) c.args.out.now.items c.add_string.new.out.items c.add_string.result)
    (sym (view_string_at texts c.args.item.now.inner c.in-String.string c.deref.result.now c.in-String.is c.deref.ensures)) c.add_string.ensures

pub returns-in-Stream : goal.returns-in-Stream
returns-in-Stream c = rw (c.in-Stream.is, ← c.deref-in-Stream.ensures, view_stream_is texts c.deref-in-Stream.result.now) c.add_strings.ensures
