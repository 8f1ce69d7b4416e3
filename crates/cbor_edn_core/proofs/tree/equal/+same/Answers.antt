use Rattle.std.proofs.Common.{refl, sym, ◌∙◌, inl, inr}
use Rattle.cbor_edn_parts.specs.Leaves.{literal_bytes}
use Rattle.cbor_edn_model.specs.internal.Same.{same_tree, same_laws}
use Rattle.cbor_edn_model.specs.tree.TreeLeaves.{texts}
use Rattle.cbor_edn_model.specs.tree.Trees.{Tree, OneString, LastPieceTree, LiteralTree}
use Rattle.cbor_edn_core.specs.tree.View.{view_inner, view_string}
use Rattle.cbor_edn_core.proofs.lemmas.tree.Forms.{Number, NonFinite, Named, Enclosed, Array, Map, String, Stream, no_other}
use Rattle.cbor_edn_core.proofs.lemmas.tree.Views.{view_string_at, view_stream_is}
use Rattle.cbor_edn_core.proofs.tree.equal.+same.Goals as goal

pub same_item-returns-in-String-String : goal.same_item-returns-in-String-String
same_item-returns-in-String-String t c =
    let a = view_string_at texts c.args.a.now.inner c.in-String-String.x c.deref-in-String-String.result.now c.in-String-String.is-0 c.deref-in-String-String.ensures in
    let b = view_string_at texts c.args.b.now.inner c.in-String-String.y c.deref-in-String-String-2.result.now c.in-String-String.is-1 c.deref-in-String-String-2.ensures in
    c.same_string.ensures ∙ (λ i. same_tree (sym a i) (sym b i))

pub same_item-returns-in-String-Literal : goal.same_item-returns-in-String-Literal
same_item-returns-in-String-Literal t c =
    let a = view_string_at texts c.args.a.now.inner c.in-String-Literal.x c.deref-in-String-Literal.result.now c.in-String-Literal.is-0 c.deref-in-String-Literal.ensures in
    c.is_literal-in-String-Literal.ensures ∙ (λ i. same_tree (sym a i) (view_inner texts (sym c.in-String-Literal.is-1 i)))

pub same_item-returns-in-Literal-String : goal.same_item-returns-in-Literal-String
same_item-returns-in-Literal-String t c =
    let b = view_string_at texts c.args.b.now.inner c.in-Literal-String.y c.deref-in-Literal-String.result.now c.in-Literal-String.is-1 c.deref-in-Literal-String.ensures in
    c.is_literal.ensures ∙ (same_laws (λ (w : Tree OneString). w)).symm (view_string texts c.deref-in-Literal-String.result.now) (LastPieceTree (LiteralTree (literal_bytes c.in-Literal-String.x) c.in-Literal-String.i)) ∙ (λ i. same_tree (view_inner texts (sym c.in-Literal-String.is-0 i)) (sym b i))

-- ---- items of two forms

pub same_item-returns-in_default : goal.same_item-returns-in_default
same_item-returns-in_default t c = no_other texts Number c.args.a.now.inner c.args.b.now.inner (rw c.in_default.is-0 refl) (λ w. c.in_default.not-Number-1 w.0 w.1 w.2)

pub same_item-returns-in_default-2 : goal.same_item-returns-in_default-2
same_item-returns-in_default-2 t c = no_other texts NonFinite c.args.a.now.inner c.args.b.now.inner (rw c.in_default.is-0 refl) (λ w. c.in_default.not-NonFinite-1 w.0 w.1 w.2)

pub same_item-returns-in_default-3 : goal.same_item-returns-in_default-3
same_item-returns-in_default-3 t c = no_other texts Named c.args.a.now.inner c.args.b.now.inner (rw c.in_default.is-0 refl) (λ w. c.in_default.not-Named-1 w.0 w.1)

pub same_item-returns-in_default-4 : goal.same_item-returns-in_default-4
same_item-returns-in_default-4 t c = no_other texts Enclosed c.args.a.now.inner c.args.b.now.inner (rw c.in_default.is-0 refl) (λ w. c.in_default.not-Enclosed-1 w.0 w.1 w.2)

pub same_item-returns-in_default-5 : goal.same_item-returns-in_default-5
same_item-returns-in_default-5 t c = no_other texts Array c.args.a.now.inner c.args.b.now.inner (rw c.in_default.is-0 refl) (λ w. c.in_default.not-Array-1 w.0 w.1)

pub same_item-returns-in_default-6 : goal.same_item-returns-in_default-6
same_item-returns-in_default-6 t c = no_other texts Map c.args.a.now.inner c.args.b.now.inner (rw c.in_default.is-0 refl) (λ w. c.in_default.not-Map-1 w.0 w.1)

pub same_item-returns-in_default-7 : goal.same_item-returns-in_default-7
same_item-returns-in_default-7 t c = no_other texts String c.args.a.now.inner c.args.b.now.inner (rw c.in_default.is-0 refl) (λ w. elim w [ inl l ↦ c.in_default.not-Literal-1 l.0 l.1 l.2 | inr b ↦ c.in_default.not-String-1 b.0 b.1 ])

pub same_item-returns-in_default-8 : goal.same_item-returns-in_default-8
same_item-returns-in_default-8 t c = no_other texts String c.args.a.now.inner c.args.b.now.inner (rw c.in_default.is-0 refl) (λ w. elim w [ inl l ↦ c.in_default.not-Literal-1 l.0 l.1 l.2 | inr b ↦ c.in_default.not-String-1 b.0 b.1 ])

pub same_item-returns-in_default-9 : goal.same_item-returns-in_default-9
same_item-returns-in_default-9 t c = no_other texts Stream c.args.a.now.inner c.args.b.now.inner (rw (c.in_default.is-0, view_stream_is texts c.in_default.field-0-0.value) refl) (λ w. c.in_default.not-Stream-1 w.0 w.1)
