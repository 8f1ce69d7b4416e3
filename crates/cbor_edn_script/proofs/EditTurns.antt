-- One edit more, in front of others.
use Rattle.std.proofs.Common.{◌≡◌, ℕ, zero, suc, ◌+◌, List, ◌∷◌, sym, subst, arith}
use Rattle.cbor_edn_model.specs.tree.Trees.{Tree, Seq}
use Rattle.cbor_edn_script.specs.Edits.{IsEdited, IsBegun, AreEdited, AreBegun}
use Rattle.cbor_edn_script.specs.declared.script.Edit.{Edit}

module _ {xs es : List Edit} {e : Edit} (is : xs ≡ e ∷ es) where
  pub edited_first : (w u v : Tree Seq) → IsEdited e w u → AreEdited es u v → AreEdited xs w v
  edited_first w u v one rest = subst (λ xs. AreEdited xs w v) (sym is) (u, one, rest)

  pub begun_later : (all : List Edit) (done n : ℕ) (w u v z : Tree Seq) → IsEdited e w u → AreBegun es n u v → (AreBegun xs (suc n) w v → AreBegun all (done + suc n) z v) → AreBegun all (done + 1 + n) z v
  begun_later all done n w u v z one rest known =
      let same : done + suc n ≡ done + 1 + n = omega arith in
      subst (λ m. AreBegun all m z v) same (known (subst (λ xs. AreBegun xs (suc n) w v) (sym is) (u, one, rest)))

  pub begun_first : (all : List Edit) (done : ℕ) (w v z : Tree Seq) → IsBegun e w v → (AreBegun xs zero w v → AreBegun all (done + 0) z v) → AreBegun all done z v
  begun_first all done w v z one known =
      let same : done + 0 ≡ done = omega arith in
      subst (λ m. AreBegun all m z v) same (known (subst (λ xs. AreBegun xs zero w v) (sym is) one))
