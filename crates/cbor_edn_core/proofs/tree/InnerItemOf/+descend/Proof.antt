-- `descend` walks down by calls, and the loans compose. By induction on a bound of the numbers that are left.
use Rattle.std.proofs.Common.{◌≡◌, ℕ, zero, suc, ◌<◌, ◌-◌, ◌+◌, length, drop as rest_of, Bool, true, ◌↔◌, ◌^◌, List, [], ◌∷◌, Some, refl, sym, subst, ap, ◌∙◌, lit<, w64, MutBor, arith}
use Rattle.std.proofs.raw_atomic.Walks.{proved}
use base.Logic.{id⊢, sep, emp, via, mono_l, mono_r, emp∗}
use base.Fml.{ftrue, flft, Lft}
use seplogic.Ra.Ura.{Ura}
use mir.Syntax.{Fn, Args, Dict, dcons, dnil, named, a_type}
use mir.MapTy.{inst_fn}
use mir.Val.{Val, vptr, of_list}
use mathlib.Core.Option as maybe
use prog.Model.{Model}
use prog.Wired.{Wired}
use contract.BorrowLft.{◌⊑◌}
use contract.Monad.{fact, fact_i}
use contract.Running.{Running, tables}
use types.Logic.{Logic}
use types.Kit.{Item, ‵, raw, ◌⊛◌, some, later, prop, at_ret, Sq, ◌$◌, ◌∵◌, !, qed, done, move, drop, use0, use1, use2, split, join, fsplit, fsplit3, fjoin, fjoin3, feq_i, feq_l, pick, await, rewrite, suffices, frame}
use types.Match.{live}
use types.Part.{agg}
use types.Run.{enter, of_opd, lit, bin, addr, stop, no_more, and_then, first, branches, skips, exec, returns, returns_within}
use types.ByLocal.{alloc_all, pass_all, free_all, look_at, get, through, sets, lands_as, env}
use denote.Builtin.{SliceRefOf, usize, bool}
use denote.Exit.{yes, no}
use denote.Follow.{follows, follows_so}
use denote.Laws.{shows}
use denote.Param.{param, bounded}
use denote.Param.Glue as glue
use denote.Param.Laws.{Laws, param_laws, of_field, row_shared}
use denote.Param.Shared.{mut_ref_shared}
use denote.Plain.{uint_vals, uint_Tells, uint_Makes, uint_row_laws}
use denote.RattleType.{RattleType, owns}
use denote.Ref.{NamedLft, MutRef, mut_vals, mut_Tells}
use denote.Signature.{Slot, plain, mut_ref_to, types_at}
use denote.Slice.{ShrSlice, shr_slice_vals, shr_slice_Tells, shr_slice_Lawful, shr_slice_copy}
use denote.Steps.{nothing, heard, only, owned, peeks}
use denote.Struct.Field.{mut_ref_field}
use denote.Struct.Laws.{mut_ref_laws}
use denote.Triple.Call.{calls_at}
use denote.Triple.Clauses.{Ended, Clauses, closing, Lasts, lasts}
use denote.Triple.Entry.{on_entry}
use denote.Triple.Spec.{Meets, triple_of}
use denote.Triple.Table.{framed}
use denote.Triple.Walked.{Stays, walk_of, says, stay_dropped, Goes-dropped, Goes-spent_ref, ends_at}
use Rattle.std.proofs.VecSteps.Element.{Some-of}
use Rattle.std.proofs.VecSteps.Shapes.{after}
use Rattle.std.proofs.option.Option.TheLaws.{the_row_laws as option-laws}
use Rattle.std.specs.contracts.option.Option as OP
use Rattle.std.specs.List.{slice_get, slice_index}
use Rattle.std.specs.Option.{IsSome}
use Rattle.std.specs.Prelude.{option_map}
use Rattle.cbor_edn_model.specs.tree.TreeLeaves.{Ghosts}
use Rattle.cbor_edn_model.specs.access.Paths.{items_in, at as at_path, with_item, with_at}
use Rattle.cbor_edn_model.proofs.lemmas.access.ReplacedItems.{child_there, some_mapped, last_value, last_with, more_there, more_value, more_with}
use Rattle.cbor_edn_core.specs.access.Lent.{LendsOfInner as LendsItem, LendsBelow}
use Rattle.cbor_edn_core.specs.tree.View.{view_inner, view_item}
use Rattle.cbor_edn_core.specs.contracts.tree.ItemOf as item
use Rattle.cbor_edn_core.specs.contracts.tree.InnerItemOf as inner
use Rattle.cbor_edn_core.specs.contracts.tree.InnerItemOf.descend as f
use Rattle.cbor_edn_core.specs.contracts.tree.InnerItemOf.descend.Key.{name as #self}
use Rattle.cbor_edn_core.specs.contracts.tree.InnerItemOf.child_at as g
use Rattle.cbor_edn_core.specs.contracts.access.path.is_last as e
use Rattle.cbor_edn_core.specs.contracts.access.path.there as sure
use Rattle.cbor_edn_core.specs.contracts.tree.ItemOf.inner_mut as h
use Rattle.cbor_edn_core.proofs.tree.InnerItemOf.child_at.Met as g-thm
use Rattle.cbor_edn_core.proofs.tree.ItemOf.inner_mut.Met as h-thm
use Rattle.cbor_edn_core.proofs.access.path.is_last.Met as e-thm
use Rattle.cbor_edn_core.proofs.access.path.there.Met as l-thm
use Rattle.cbor_edn_core.proofs.tree.ItemOf.TheLaws.{the_row_laws as item-laws}
use Rattle.cbor_edn_core.proofs.tree.InnerItemOf.+descend.{statement}
use Rattle.cbor_edn_core.proofs.tree.InnerItemOf.+descend.Code as code
use Rattle.cbor_edn_model.proofs.lemmas.access.Ties.{so_weaker, so_follow, so_so, is_true, is_false, next_in, next_few}

module _ (T0 T1 T2 T3 T4 T5 T6 : RattleType) (T0d T1d T2d T3d T4d T5d T6d : Dict) where
  abbrev args : Args
  args = bounded (a_type ∷ a_type ∷ a_type ∷ a_type ∷ a_type ∷ a_type ∷ a_type ∷ []) (T0, (T1, (T2, (T3, (T4, (T5, (T6, tt))))))) (dcons T0d (dcons T1d (dcons T2d (dcons T3d (dcons T4d (dcons T5d (dcons T6d dnil)))))))

  abbrev fn : Fn
  fn = inst_fn args code.descend-function

  abbrev I : RattleType
  I = inner.the_row (param 0 T0) (param 1 T1) (param 2 T2) (param 3 T3) (param 4 T4) (param 5 T5) (param 6 T6)

  abbrev J : RattleType
  J = item.the_row (param 0 T0) (param 1 T1) (param 2 T2) (param 3 T3) (param 4 T4) (param 5 T5) (param 6 T6)

  abbrev end : Ended
  end = f.ended T0 T1 T2 T3 T4 T5 T6 T0d T1d T2d T3d T4d T5d T6d

  abbrev way : Slot 9
  way = SliceRefOf (1 ∷ []) tt (plain (λ _. usize)) (λ _. tt)

  abbrev stayed : Stays end.signature.params end.kept
  stayed = (stay_dropped (mut_ref_to (0 ∷ []) tt (plain (λ _. I))) no, (stay_dropped way yes, (stay_dropped (plain (λ _. usize)) yes, tt)))

  abbrev OfAll : Type 0
  OfAll = Ghosts T0.Denot T1.Denot T2.Denot T3.Denot T4.Denot T5.Denot T6.Denot

  plainest : OfAll
  plainest = record { space = λ _. []; mandatory = λ _. []; separator = λ _. []; end = λ _. []; number = λ _. []; literal = λ _. []; ellipsis = λ _. [] }

  pub ref_laws : (κ : Lft) → Laws T0 → Laws T1 → Laws T2 → Laws T3 → Laws T4 → Laws T5 → Laws T6 → Laws (MutRef (named 0) κ J)
  ref_laws κ L0 L1 L2 L3 L4 L5 L6 = let a : NamedLft = record { mir = named 0; lft = κ } in of_field (mut_ref_field a J tt) (mut_ref_laws a J tt) refl (mut_ref_shared a J tt (row_shared J (item-laws (param 0 T0) (param 1 T1) (param 2 T2) (param 3 T3) (param 4 T4) (param 5 T5) (param 6 T6) (param_laws 0 T0 L0) (param_laws 1 T1 L1) (param_laws 2 T2 L2) (param_laws 3 T3 L3) (param_laws 4 T4 L4) (param_laws 5 T5 L5) (param_laws 6 T6 L6))))

  module _ {M : Type 1} (𝓤 : Ura M) (𝓛 : Logic 𝓤) (𝓜 : Model 𝓤 𝓛.H) (𝓡 : Running 𝓤 𝓛.H 𝓜) (wired : Wired 𝓡.env code.code) (L0 : Laws T0) (L1 : Laws T1) (L2 : Laws T2) (L3 : Laws T3) (L4 : Laws T4) (L5 : Laws T5) (L6 : Laws T6)
      (m0 : glue.Met 𝓛 𝓜 𝓡 𝓡.env T0 T0d) (m1 : glue.Met 𝓛 𝓜 𝓡 𝓡.env T1 T1d) (m2 : glue.Met 𝓛 𝓜 𝓡 𝓡.env T2 T2d) (m3 : glue.Met 𝓛 𝓜 𝓡 𝓡.env T3 T3d) (m4 : glue.Met 𝓛 𝓜 𝓡 𝓡.env T4 T4d) (m5 : glue.Met 𝓛 𝓜 𝓡 𝓡.env T5 T5d) (m6 : glue.Met 𝓛 𝓜 𝓡 𝓡.env T6 T6d) where
    abbrev c : Clauses 𝓤 end
    c = f.clauses T0 T1 T2 T3 T4 T5 T6 T0d T1d T2d T3d T4d T5d T6d 𝓛 𝓜.mem 𝓡.returns

    -- the contract where fewer than n numbers are left
    abbrev fewer : ℕ → Clauses 𝓤 end
    fewer n κs a = record { ghost = Unit {0}; requires = λ x. sep 𝓤 (fact 𝓤 (length a.1.0.now - suc a.1.1.0 < n)) ((c κs a).requires x); ensures = (c κs a).ensures }

    meets : (n : ℕ) → Meets 𝓛 end.signature ((tables 𝓤 𝓛.H 𝓜 𝓡 𝓡.env).C (#self args)) (closing 𝓛 end (fewer n))
    meets zero =
        proved 𝓛 end stayed (fewer zero) 𝓜 𝓡 (Goes-spent_ref 𝓛 9 (0 ∷ []) tt (plain (λ _. I)), (Goes-dropped 𝓛 9 way yes (λ κs x w. refl), (Goes-dropped 𝓛 9 (plain (λ _. usize)) yes (λ κs x w. refl), tt)))
        (#self args) fn (code.descend-unfolded 𝓤 𝓛.H 𝓜 𝓡 wired (T0, (T1, (T2, (T3, (T4, (T5, (T6, tt))))))) T0d T1d T2d T3d T4d T5d T6d)
        (λ κs. (mut_vals, (shr_slice_vals, (uint_vals w64, tt)))) (λ κs. (mut_Tells (named 0) κs.0 I, (shr_slice_Tells (named 1) κs.1.0 usize, (uint_Tells w64, tt)))) (λ κs qs bounds a x are.
        let few = length a.1.0.now - suc a.1.1.0 < 0 in
        qed 𝓛 (raw (on_entry 𝓛 end.signature κs qs a (mut_vals a.0, (shr_slice_vals a.1.0, (uint_vals w64 a.1.1.0, tt)))) ∷ (raw (fact 𝓤 few) ⊛ raw ((c κs a).requires tt)) ∷ []) ∵ move ! (1 ∷ []) $ split ! $ heard ! few (λ never. absurd (omega (arith, never))))
    meets (suc n) =
        let 𝓣 = tables 𝓤 𝓛.H 𝓜 𝓡 𝓡.env in let W = walk_of 𝓛 end stayed (fewer (suc n)) in
        proved 𝓛 end stayed (fewer (suc n)) 𝓜 𝓡 (Goes-spent_ref 𝓛 9 (0 ∷ []) tt (plain (λ _. I)), (Goes-dropped 𝓛 9 way yes (λ κs x w. refl), (Goes-dropped 𝓛 9 (plain (λ _. usize)) yes (λ κs x w. refl), tt)))
        (#self args) fn (code.descend-unfolded 𝓤 𝓛.H 𝓜 𝓡 wired (T0, (T1, (T2, (T3, (T4, (T5, (T6, tt))))))) T0d T1d T2d T3d T4d T5d T6d)
        (λ κs. (mut_vals, (shr_slice_vals, (uint_vals w64, tt)))) (λ κs. (mut_Tells (named 0) κs.0 I, (shr_slice_Tells (named 1) κs.1.0 usize, (uint_Tells w64, tt)))) (λ κs qs bounds a x are.
        let κ = κs.0 in let r = a.0 in let path = a.1.0 in let k = a.1.1.0 in let m = length path.now in
        let y : W.Ghost = ((κs, qs, bounds, a, (mut_vals r, (shr_slice_vals path, (uint_vals w64 k, tt)))), tt) in
        let Toks = ‵ (flft κ qs.0) ⊛ ‵ (flft κs.1.0 qs.1.0) ⊛ ‵ (flft κs.1.1.0 qs.1.1.0) ⊛ ‵ (flft κs.1.1.1.0 qs.1.1.1.0) ⊛ ‵ (flft κs.1.1.1.1.0 qs.1.1.1.1.0) ⊛ ‵ (flft κs.1.1.1.1.1.0 qs.1.1.1.1.1.0) ⊛ ‵ (flft κs.1.1.1.1.1.1.0 qs.1.1.1.1.1.1.0) ⊛ ‵ (flft κs.1.1.1.1.1.1.1.0 qs.1.1.1.1.1.1.1.0) ⊛ ‵ (flft κs.1.1.1.1.1.1.1.1.0 qs.1.1.1.1.1.1.1.1.0) ⊛ ‵ ftrue in
        let Own : (R : RattleType) → MutBor R.Denot → List Val → Item 𝓤 = λ R p vs. ‵ ((MutRef (named 0) κ R).own_val p vs) in
        let Opt = OP.the_row (MutRef (named 0) κ J) in
        let Path : Item 𝓤 = ‵ ((ShrSlice (named 1) κs.1.0 usize).own_val path (shr_slice_vals path)) in
        let Within0 = κs.1.1.0 ⊑ T0.lives in
        let Within1 = κs.1.1.1.0 ⊑ T1.lives in
        let Within2 = κs.1.1.1.1.0 ⊑ T2.lives in
        let Within3 = κs.1.1.1.1.1.0 ⊑ T3.lives in
        let Within4 = κs.1.1.1.1.1.1.0 ⊑ T4.lives in
        let Within5 = κs.1.1.1.1.1.1.1.0 ⊑ T5.lives in
        let Within6 = κs.1.1.1.1.1.1.1.1.0 ⊑ T6.lives in
        let Toks' = ‵ (flft κ qs.0) ⊛ ‵ (flft κs.1.1.0 qs.1.1.0) ⊛ ‵ (flft κs.1.1.1.0 qs.1.1.1.0) ⊛ ‵ (flft κs.1.1.1.1.0 qs.1.1.1.1.0) ⊛ ‵ (flft κs.1.1.1.1.1.0 qs.1.1.1.1.1.0) ⊛ ‵ (flft κs.1.1.1.1.1.1.0 qs.1.1.1.1.1.1.0) ⊛ ‵ (flft κs.1.1.1.1.1.1.1.0 qs.1.1.1.1.1.1.1.0) ⊛ ‵ (flft κs.1.1.1.1.1.1.1.1.0 qs.1.1.1.1.1.1.1.1.0) ⊛ ‵ ftrue in
        let There = (v : OfAll) → IsSome (at_path (rest_of k path.now) (view_inner v r.now)) in
        let i = slice_index path.now k in
        let fk : k < 2 ^ 64 = are.1.1.0.1 in
        let left = m - suc k in
        let exits : (d : Opt.Denot) (v : Val) → ((w : OfAll) → option_map (λ (b : MutBor J.Denot). view_item w b.now) d ≡ at_path (rest_of k path.now) (view_inner w r.now)) → Sq 𝓛 (‵ (Opt.own_val d (v ∷ [])) ∷ Toks ∷ ‵ (LendsBelow (param 0 T0) (param 1 T1) (param 2 T2) (param 3 T3) (param 4 T4) (param 5 T5) (param 6 T6) r (rest_of k path.now) d) ∷ []) (prop (W.post y v)) = λ d v val.
        suffices ! _ (ends_at 𝓛 end stayed (fewer (suc n)) y v d (tt, (tt, (tt, tt))) (tt, (tt, (tt, tt)))) $
        nothing ! $ nothing ! $ fjoin ! $ nothing ! $ fjoin ! $ nothing ! $ fjoin ! $ join ! $ move ! (1 ∷ 0 ∷ []) $ join ! $ frame ! $ says ! val $ done ! in
        qed 𝓛 (((Toks ⊛ ‵ (owns (types_at end.signature.params κs) a y.0.4))) ∷ (raw (fact 𝓤 (left < suc n)) ⊛ raw (fact 𝓤 Within0) ⊛ raw (fact 𝓤 Within1) ⊛ raw (fact 𝓤 Within2) ⊛ raw (fact 𝓤 Within3) ⊛ raw (fact 𝓤 Within4) ⊛ raw (fact 𝓤 Within5) ⊛ raw (fact 𝓤 Within6) ⊛ raw (fact 𝓤 (There × (k < m)))) ∷ []) ∵
        move ! (1 ∷ []) $ split ! $ heard ! _ (λ few. split ! $ heard ! _ (λ within0. split ! $ heard ! _ (λ within1. split ! $ heard ! _ (λ within2. split ! $ heard ! _ (λ within3. split ! $ heard ! _ (λ within4. split ! $ heard ! _ (λ within5. split ! $ heard ! _ (λ within6. heard ! _ (λ there.
        split ! $ move ! (1 ∷ []) $ fsplit ! $ move ! (1 ∷ []) $ fsplit ! $ move ! (1 ∷ []) $ drop ! $
        -- [the path; self; the tokens]
        enter ! _ _ _ _ _ $ alloc_all ! (λ l. pass_all ! refl ((tt, tt), (((shr_slice_Lawful 𝓛 (named 1) κs.1.0 usize).typed path (shr_slice_vals path) are.1.0).0, ((tt, record { fits = fk }), tt))) $
        sets ! (addr ! (through ! refl (stop !))) refl (tt, tt) $
        use1 𝓛 (Path ⊛ Path) ((shr_slice_copy 𝓛 (named 1) κs.1.0 usize (uint_row_laws w64)).twice path (shr_slice_vals path)) $ split ! $
        use1 𝓛 (Path ⊛ Path) ((shr_slice_copy 𝓛 (named 1) κs.1.0 usize (uint_row_laws w64)).twice path (shr_slice_vals path)) $ split ! $
        let G = triple_of 𝓛 (g.signature T0 T1 T2 T3 T4 T5 T6) (g.spec T0 T1 T2 T3 T4 T5 T6 T0d T1d T2d T3d T4d T5d T6d 𝓛 𝓜.mem 𝓡.returns) in
        let z : G.Ghost = ((κs, qs, bounds, (r, (path, (k, tt))), (mut_vals r, (shr_slice_vals path, (uint_vals w64 k, tt)))), tt) in
        nothing ! $ owned ! usize _ (uint_Makes 𝓛 w64) k _ (refl, fk) $ join ! $ move ! (1 ∷ 0 ∷ []) $ join ! $ move ! (3 ∷ 0 ∷ []) $ join ! $ move ! (3 ∷ 0 ∷ []) $ join ! $
        use0 𝓛 (raw (fact 𝓤 (k < m))) (fact_i 𝓤 (k < m) (emp 𝓤) there.1) $ use0 𝓛 (raw (fact 𝓤 Within6)) (fact_i 𝓤 Within6 (emp 𝓤) within6) $ join ! $ use0 𝓛 (raw (fact 𝓤 Within5)) (fact_i 𝓤 Within5 (emp 𝓤) within5) $ join ! $ use0 𝓛 (raw (fact 𝓤 Within4)) (fact_i 𝓤 Within4 (emp 𝓤) within4) $ join ! $ use0 𝓛 (raw (fact 𝓤 Within3)) (fact_i 𝓤 Within3 (emp 𝓤) within3) $ join ! $ use0 𝓛 (raw (fact 𝓤 Within2)) (fact_i 𝓤 Within2 (emp 𝓤) within2) $ join ! $ use0 𝓛 (raw (fact 𝓤 Within1)) (fact_i 𝓤 Within1 (emp 𝓤) within1) $ join ! $ use0 𝓛 (raw (fact 𝓤 Within0)) (fact_i 𝓤 Within0 (emp 𝓤) within0) $ join ! $
        move ! (1 ∷ 0 ∷ []) $ use2 𝓛 (raw (G.pre z)) (id⊢ 𝓤 _) $
        calls_at ! (framed 𝓤 𝓛.H 𝓜 𝓣) G (g-thm.met 𝓤 𝓛 𝓜 𝓡 (code.calls-cbor_edn_core::tree::InnerItemOf::child_at 𝓡.env wired) T0 T1 T2 T3 T4 T5 T6 L0 L1 L2 L3 L4 L5 L6 T0d T1d T2d T3d T4d T5d T6d m0 m1 m2 m3 m4 m5 m6) z (and_then ! (get ! refl) (and_then ! (get ! refl) (and_then ! (get ! refl) (no_more !)))) (λ v.
        use1 𝓛 (later (some (λ (d : Opt.Denot). (Toks ⊛ ‵ (Opt.own_val d (v ∷ []))) ⊛ some (λ (ws : Unit {0} × (Unit {0} × (Unit {0} × Unit {0}))). ‵ (lasts (g.ended T0 T1 T2 T3 T4 T5 T6 T0d T1d T2d T3d T4d T5d T6d) κs z.0.3 ws) ⊛ ‵ (LendsItem (param 0 T0) (param 1 T1) (param 2 T2) (param 3 T3) (param 4 T4) (param 5 T5) (param 6 T6) r i d) ⊛ raw (fact 𝓤 ((w : OfAll) → option_map (λ (b : MutBor J.Denot). view_item w b.now) d ≡ slice_get (items_in (view_inner w r.now)) i)))))) (id⊢ 𝓤 _) $
        await ! tt $ pick ! (λ d. split ! $ split ! $ move ! (1 ∷ []) $ peeks ! Opt _ (shows 𝓛 Opt) d (v ∷ []) (λ is.
        lands_as ! refl refl (((option-laws (MutRef (named 0) κ J) (ref_laws κ L0 L1 L2 L3 L4 L5 L6)).lawful 𝓛).typed d (v ∷ []) is).0 $
        move ! (2 ∷ []) $ pick ! (λ ws. split ! $ drop ! $ split ! $ move ! (1 ∷ []) $ heard ! _ (λ val.
        -- [the loan's tie; what is lent; the tokens; the path, twice]
        let there_is : IsSome d = child_there path.now k there.1 (view_inner plainest r.now) (λ (b : MutBor J.Denot). view_item plainest b.now) d (there.0 plainest) (val plainest) in
        sets ! (of_opd ! (get ! refl)) refl (((option-laws (MutRef (named 0) κ J) (ref_laws κ L0 L1 L2 L3 L4 L5 L6)).lawful 𝓛).typed d (v ∷ []) is).0 $
        let Some₁ = triple_of 𝓛 (sure.signature T0 T1 T2 T3 T4 T5 T6) (sure.spec T0 T1 T2 T3 T4 T5 T6 T0d T1d T2d T3d T4d T5d T6d 𝓛 𝓜.mem 𝓡.returns) in
        let z₁ : Some₁.Ghost = (((κs.0, (κs.1.1.0, (κs.1.1.1.0, (κs.1.1.1.1.0, (κs.1.1.1.1.1.0, (κs.1.1.1.1.1.1.0, (κs.1.1.1.1.1.1.1.0, (κs.1.1.1.1.1.1.1.1.0, tt)))))))), (qs.0, (qs.1.1.0, (qs.1.1.1.0, (qs.1.1.1.1.0, (qs.1.1.1.1.1.0, (qs.1.1.1.1.1.1.0, (qs.1.1.1.1.1.1.1.0, (qs.1.1.1.1.1.1.1.1.0, tt)))))))), bounds, (d, tt), (v ∷ [], tt)), tt) in
        move ! (2 ∷ []) $ split ! $ move ! (1 ∷ []) $ split ! $ move ! (2 ∷ 1 ∷ []) $ join ! $
        -- [the tokens; the path's token; the loan's tie; what is lent; the path, twice]
        nothing ! $ move ! (4 ∷ 0 ∷ []) $ join ! $ move ! (1 ∷ 0 ∷ []) $ join ! $
        use0 𝓛 (raw (fact 𝓤 (IsSome d))) (fact_i 𝓤 (IsSome d) (emp 𝓤) there_is) $ use0 𝓛 (raw (fact 𝓤 Within6)) (fact_i 𝓤 Within6 (emp 𝓤) within6) $ join ! $ use0 𝓛 (raw (fact 𝓤 Within5)) (fact_i 𝓤 Within5 (emp 𝓤) within5) $ join ! $ use0 𝓛 (raw (fact 𝓤 Within4)) (fact_i 𝓤 Within4 (emp 𝓤) within4) $ join ! $ use0 𝓛 (raw (fact 𝓤 Within3)) (fact_i 𝓤 Within3 (emp 𝓤) within3) $ join ! $ use0 𝓛 (raw (fact 𝓤 Within2)) (fact_i 𝓤 Within2 (emp 𝓤) within2) $ join ! $ use0 𝓛 (raw (fact 𝓤 Within1)) (fact_i 𝓤 Within1 (emp 𝓤) within1) $ join ! $ use0 𝓛 (raw (fact 𝓤 Within0)) (fact_i 𝓤 Within0 (emp 𝓤) within0) $ join ! $
        move ! (1 ∷ 0 ∷ []) $ use2 𝓛 (raw (Some₁.pre z₁)) (id⊢ 𝓤 _) $
        calls_at ! (framed 𝓤 𝓛.H 𝓜 𝓣) Some₁ (l-thm.met 𝓤 𝓛 𝓜 𝓡 (code.calls-cbor_edn_core::access::path::there 𝓡.env wired) T0 T1 T2 T3 T4 T5 T6 L0 L1 L2 L3 L4 L5 L6 T0d T1d T2d T3d T4d T5d T6d m0 m1 m2 m3 m4 m5 m6) z₁ (and_then ! (get ! refl) (no_more !)) (λ v₁.
        use1 𝓛 (later (some (λ (p : MutBor J.Denot). (Toks' ⊛ Own J p (v₁ ∷ [])) ⊛ some (λ (ws : Lasts (sure.ended T0 T1 T2 T3 T4 T5 T6 T0d T1d T2d T3d T4d T5d T6d) z₁.0.0 (d, tt)). ‵ (lasts (sure.ended T0 T1 T2 T3 T4 T5 T6 T0d T1d T2d T3d T4d T5d T6d) z₁.0.0 (d, tt) ws) ⊛ raw (fact 𝓤 (d ≡ Some p)))))) (id⊢ 𝓤 _) $
        await ! tt $ pick ! (λ p. split ! $ split ! $ move ! (1 ∷ []) $ fsplit3 ! $ feq_l ! (λ is₁. feq_i ! (List Val) (mut_vals p) (mut_vals p) refl $ fjoin3 ! $
        lands_as ! (ap only is₁) refl (tt, tt) $
        move ! (2 ∷ []) $ pick ! (λ ws₁. split ! $ drop ! $ heard ! _ (λ got.
        rewrite ! 3 (λ (o : Opt.Denot). ‵ (LendsItem (param 0 T0) (param 1 T1) (param 2 T2) (param 3 T3) (param 4 T4) (param 5 T5) (param 6 T6) r i o)) got refl $
        let value : (w : OfAll) → Some (view_item w p.now) ≡ slice_get (items_in (view_inner w r.now)) i = λ w. sym (ap (option_map (λ (b : MutBor J.Denot). view_item w b.now)) got) ∙ val w in
        -- [the part; the tokens; the path's token; the loan's tie; the path, twice]
        move ! (3 ∷ 2 ∷ []) $ move ! (1 ∷ []) $ nothing ! $ move ! (1 ∷ 0 ∷ []) $ join ! $
        nothing ! $ owned ! usize _ (uint_Makes 𝓛 w64) k _ (refl, fk) $ join ! $ move ! (5 ∷ 0 ∷ []) $ join ! $ move ! (1 ∷ 0 ∷ []) $ join ! $
        use0 𝓛 (raw (fact 𝓤 (k < m))) (fact_i 𝓤 (k < m) (emp 𝓤) there.1) $ move ! (1 ∷ 0 ∷ []) $
        let Last = triple_of 𝓛 e.signature (e.spec 𝓛 𝓜.mem 𝓡.returns) in
        let z₂ : Last.Ghost = (((κs.1.0, tt), (qs.1.0, tt), tt, (path, (k, tt)), (shr_slice_vals path, (uint_vals w64 k, tt))), tt) in
        use2 𝓛 (raw (Last.pre z₂)) (id⊢ 𝓤 _) $
        calls_at ! (framed 𝓤 𝓛.H 𝓜 𝓣) Last (e-thm.met 𝓤 𝓛 𝓜 𝓡 (code.calls-cbor_edn_core::access::path::is_last 𝓡.env wired)) z₂ (and_then ! (get ! refl) (and_then ! (get ! refl) (no_more !))) (λ v₂.
        use1 𝓛 (later (some (λ (t : Bool). ((‵ (flft κs.1.0 qs.1.0) ⊛ ‵ ftrue) ⊛ ‵ (bool.own_val t (v₂ ∷ []))) ⊛ some (λ (ws : Unit {0} × (Unit {0} × Unit {0})). ‵ (lasts e.ended (κs.1.0, tt) z₂.0.3 ws) ⊛ raw (fact 𝓤 ((t ≡ true) ↔ (suc k ≡ m))))))) (id⊢ 𝓤 _) $
        await ! tt $ pick ! (λ last. split ! $ split ! $ move ! (1 ∷ []) $ feq_l ! (λ is₂. lands_as ! (ap only is₂) refl (tt, tt) $
        split ! $ move ! (1 ∷ []) $ drop ! $ move ! (1 ∷ []) $ pick ! (λ ws₂. split ! $ drop ! $ heard ! _ (λ when.
        -- [the path's token; the loan's tie; the part; the tokens; the path]
        move ! (3 ∷ []) $ split ! $ move ! (2 ∷ 1 ∷ []) $ join ! $ move ! (1 ∷ 0 ∷ []) $ join ! $
        -- [the tokens; the loan's tie; the part; the path]
        first ! $ branches ! (get ! refl)
        (λ t. let ends : suc k ≡ m = when.0 (is_true last t) in
        sets ! (addr ! (through ! refl (stop !))) refl (tt, tt) $
        sets ! (agg ! (and_then ! (lit ! tt) (and_then ! (get ! refl) (no_more !)))) refl (tt, (record { fits = lit< tt }, (tt, tt))) $
        returns_within ! (W.post y) refl (look_at ! 0 refl) $ free_all ! refl $ move ! (3 ∷ []) $ drop ! $ move ! (2 ∷ []) $
        use1 𝓛 (‵ (Opt.own_val (Some p) (live 1 (of_list (mut_vals p)) ∷ []))) (Some-of 𝓛 (MutRef (named 0) κ J) p (vptr p.ref_ptr.0 p.ref_ptr.1)) $
        move ! (2 ∷ []) $ use1 𝓛 (‵ (LendsBelow (param 0 T0) (param 1 T1) (param 2 T2) (param 3 T3) (param 4 T4) (param 5 T5) (param 6 T6) r (rest_of k path.now) (Some p)))
        (so_weaker 𝓛 I J r.ghost_name (λ w x. (g : OfAll) → view_inner g x ≡ with_item i (view_item g w) (view_inner g r.now)) (λ w x. (g : OfAll) → view_inner g x ≡ with_at (rest_of k path.now) (view_item g w) (view_inner g r.now)) (λ x. (g : OfAll) → view_inner g x ≡ view_inner g r.now) (maybe.some p.ghost_name)
        (λ w x h g. last_with path.now k there.1 (view_inner g r.now) (view_item g p.now) (value g) ends (view_item g w) (view_inner g x) (h g))) $
        move ! (1 ∷ 2 ∷ []) $ exits (Some p) (live 1 (of_list (mut_vals p))) (λ g. last_value path.now k there.1 (view_inner g r.now) (view_item g p.now) (value g) ends))
        (λ t. let onward : suc k ≡ m → ⊥ = λ ends. is_false last t (when.1 ends) in
        skips ! $ exec ! 𝓣.C 𝓣.Λ (env fn.locals l) (after 6 fn.body) (at_ret _ (W.post y)) $
        sets ! (addr ! (through ! refl (stop !))) refl (tt, tt) $
        let Inner = triple_of 𝓛 (h.signature T0 T1 T2 T3 T4 T5 T6) (h.spec T0 T1 T2 T3 T4 T5 T6 T0d T1d T2d T3d T4d T5d T6d 𝓛 𝓜.mem 𝓡.returns) in
        let z₃ : Inner.Ghost = (((κs.0, (κs.1.1.0, (κs.1.1.1.0, (κs.1.1.1.1.0, (κs.1.1.1.1.1.0, (κs.1.1.1.1.1.1.0, (κs.1.1.1.1.1.1.1.0, (κs.1.1.1.1.1.1.1.1.0, tt)))))))), (qs.0, (qs.1.1.0, (qs.1.1.1.0, (qs.1.1.1.1.0, (qs.1.1.1.1.1.0, (qs.1.1.1.1.1.1.0, (qs.1.1.1.1.1.1.1.0, (qs.1.1.1.1.1.1.1.1.0, tt)))))))), bounds, (p, tt), (mut_vals p, tt)), tt) in
        -- the path's token stays behind
        split ! $ move ! (1 ∷ []) $ split ! $ move ! (1 ∷ 2 ∷ []) $ move ! (1 ∷ 0 ∷ []) $ join ! $
        nothing ! $ move ! (4 ∷ 0 ∷ []) $ join ! $ move ! (1 ∷ 0 ∷ []) $ join ! $
        nothing ! $ use0 𝓛 (raw (fact 𝓤 Within6)) (fact_i 𝓤 Within6 (emp 𝓤) within6) $ join ! $ use0 𝓛 (raw (fact 𝓤 Within5)) (fact_i 𝓤 Within5 (emp 𝓤) within5) $ join ! $ use0 𝓛 (raw (fact 𝓤 Within4)) (fact_i 𝓤 Within4 (emp 𝓤) within4) $ join ! $ use0 𝓛 (raw (fact 𝓤 Within3)) (fact_i 𝓤 Within3 (emp 𝓤) within3) $ join ! $ use0 𝓛 (raw (fact 𝓤 Within2)) (fact_i 𝓤 Within2 (emp 𝓤) within2) $ join ! $ use0 𝓛 (raw (fact 𝓤 Within1)) (fact_i 𝓤 Within1 (emp 𝓤) within1) $ join ! $ use0 𝓛 (raw (fact 𝓤 Within0)) (fact_i 𝓤 Within0 (emp 𝓤) within0) $ join ! $
        move ! (1 ∷ 0 ∷ []) $ use2 𝓛 (raw (Inner.pre z₃)) (id⊢ 𝓤 _) $
        calls_at ! (framed 𝓤 𝓛.H 𝓜 𝓣) Inner (h-thm.met 𝓤 𝓛 𝓜 𝓡 (code.calls-cbor_edn_core::tree::ItemOf::inner_mut 𝓡.env wired) T0 T1 T2 T3 T4 T5 T6 L0 L1 L2 L3 L4 L5 L6 T0d T1d T2d T3d T4d T5d T6d m0 m1 m2 m3 m4 m5 m6) z₃ (and_then ! (get ! refl) (no_more !)) (λ v₃.
        use1 𝓛 (later (some (λ (u : MutBor I.Denot). (Toks' ⊛ Own I u (v₃ ∷ [])) ⊛ some (λ (ws : Unit {0} × Unit {0}). ‵ (lasts (h.ended T0 T1 T2 T3 T4 T5 T6 T0d T1d T2d T3d T4d T5d T6d) z₃.0.0 (p, tt) ws) ⊛ ‵ (follows J I p.ghost_name u.ghost_name (λ w. record { inner = w })) ⊛ raw (fact 𝓤 (u.now ≡ p.now.inner)))))) (id⊢ 𝓤 _) $
        await ! tt $ pick ! (λ u. split ! $ split ! $ move ! (1 ∷ []) $ fsplit3 ! $ feq_l ! (λ is₃. feq_i ! (List Val) (mut_vals u) (mut_vals u) refl $ fjoin3 ! $
        lands_as ! (ap only is₃) refl (tt, tt) $
        move ! (2 ∷ []) $ pick ! (λ ws₃. split ! $ drop ! $ split ! $ move ! (1 ∷ []) $ heard ! _ (λ below_is.
        -- [the second tie; what it lends; the tokens; the path's token; the first tie; the path]
        move ! (4 ∷ 0 ∷ []) $ use2 𝓛 (‵ (follows_so I I r.ghost_name (maybe.some u.ghost_name) (λ w x. (g : OfAll) → view_inner g x ≡ with_item i (view_inner g w) (view_inner g r.now)) (λ x. (g : OfAll) → view_inner g x ≡ view_inner g r.now)))
        (so_follow 𝓛 I J I r.ghost_name p.ghost_name (λ w x. (g : OfAll) → view_inner g x ≡ with_item i (view_item g w) (view_inner g r.now)) (λ x. (g : OfAll) → view_inner g x ≡ view_inner g r.now) u.ghost_name (λ w. record { inner = w })) $
        let within_path : k + 1 < m = next_in k m there.1 onward in
        let long : m < 2 ^ 64 = are.1.0.0.1.0 in
        let small : k + 1 < 2 ^ 64 = omega (arith, within_path, long) in
        sets ! (addr ! (through ! refl (stop !))) refl (tt, tt) $
        sets ! (bin ! (get ! refl) (lit ! tt) (record { fits = small })) refl (tt, record { fits = small }) $
        let Self = triple_of 𝓛 end.signature (closing 𝓛 end (fewer n)) in
        let z₄ : Self.Ghost = ((κs, qs, bounds, (u, (path, (k + 1, tt))), (mut_vals u, (shr_slice_vals path, (uint_vals w64 (k + 1), tt)))), tt) in
        move ! (2 ∷ []) $ split ! $ move ! (4 ∷ 1 ∷ []) $ join ! $ move ! (1 ∷ 0 ∷ []) $ join ! $
        -- [the tokens; the tie; what is lent; the path]
        nothing ! $ owned ! usize _ (uint_Makes 𝓛 w64) (k + 1) _ (refl, small) $ join ! $ move ! (4 ∷ 0 ∷ []) $ join ! $ move ! (3 ∷ 0 ∷ []) $ join ! $ move ! (1 ∷ 0 ∷ []) $ join ! $
        let below_value : (w : OfAll) → Some (view_inner w u.now) ≡ slice_get (items_in (view_inner w r.now)) i = λ w. ap (λ b. Some (view_inner w b)) below_is ∙ value w in
        let Next = ((w : OfAll) → IsSome (at_path (rest_of (k + 1) path.now) (view_inner w u.now))) × (k + 1 < m) in
        let next : Next = ((λ w. more_there path.now k there.1 (view_inner w r.now) (view_inner w u.now) (below_value w) (there.0 w)), within_path) in
        let later_left = m - suc (k + 1) in
        use0 𝓛 (raw (fact 𝓤 Next)) (fact_i 𝓤 Next (emp 𝓤) next) $ use0 𝓛 (raw (fact 𝓤 Within6)) (fact_i 𝓤 Within6 (emp 𝓤) within6) $ join ! $ use0 𝓛 (raw (fact 𝓤 Within5)) (fact_i 𝓤 Within5 (emp 𝓤) within5) $ join ! $ use0 𝓛 (raw (fact 𝓤 Within4)) (fact_i 𝓤 Within4 (emp 𝓤) within4) $ join ! $ use0 𝓛 (raw (fact 𝓤 Within3)) (fact_i 𝓤 Within3 (emp 𝓤) within3) $ join ! $ use0 𝓛 (raw (fact 𝓤 Within2)) (fact_i 𝓤 Within2 (emp 𝓤) within2) $ join ! $ use0 𝓛 (raw (fact 𝓤 Within1)) (fact_i 𝓤 Within1 (emp 𝓤) within1) $ join ! $ use0 𝓛 (raw (fact 𝓤 Within0)) (fact_i 𝓤 Within0 (emp 𝓤) within0) $ join ! $
        use0 𝓛 (raw (fact 𝓤 (later_left < n))) (fact_i 𝓤 (later_left < n) (emp 𝓤) (next_few k m n there.1 few onward)) $ join ! $
        move ! (1 ∷ 0 ∷ []) $ use2 𝓛 (raw (Self.pre z₄)) (id⊢ 𝓤 _) $
        calls_at ! (framed 𝓤 𝓛.H 𝓜 𝓣) Self (meets n) z₄ (and_then ! (get ! refl) (and_then ! (get ! refl) (and_then ! (get ! refl) (no_more !)))) (λ v₄.
        use1 𝓛 (later (some (λ (d₁ : Opt.Denot). (Toks ⊛ ‵ (Opt.own_val d₁ (v₄ ∷ []))) ⊛ some (λ (ws : Unit {0} × (Unit {0} × (Unit {0} × Unit {0}))). ‵ (lasts end κs z₄.0.3 ws) ⊛ ‵ (LendsBelow (param 0 T0) (param 1 T1) (param 2 T2) (param 3 T3) (param 4 T4) (param 5 T5) (param 6 T6) u (rest_of (k + 1) path.now) d₁) ⊛ raw (fact 𝓤 ((w : OfAll) → option_map (λ (b : MutBor J.Denot). view_item w b.now) d₁ ≡ at_path (rest_of (k + 1) path.now) (view_inner w u.now))))))) (id⊢ 𝓤 _) $
        await ! tt $ pick ! (λ d₁. split ! $ split ! $ move ! (1 ∷ []) $ peeks ! Opt _ (shows 𝓛 Opt) d₁ (v₄ ∷ []) (λ is₄.
        lands_as ! refl refl (((option-laws (MutRef (named 0) κ J) (ref_laws κ L0 L1 L2 L3 L4 L5 L6)).lawful 𝓛).typed d₁ (v₄ ∷ []) is₄).0 $
        move ! (2 ∷ []) $ pick ! (λ ws₄. split ! $ drop ! $ split ! $ move ! (1 ∷ []) $ heard ! _ (λ val₁.
        -- [the loan below; what it lends; the tokens; the tie]
        let found : IsSome d₁ = some_mapped (λ (b : MutBor J.Denot). view_item plainest b.now) d₁ (subst IsSome (sym (val₁ plainest)) (next.0 plainest)) in
        move ! (3 ∷ 0 ∷ []) $ use2 𝓛 (‵ (LendsBelow (param 0 T0) (param 1 T1) (param 2 T2) (param 3 T3) (param 4 T4) (param 5 T5) (param 6 T6) r (rest_of k path.now) d₁))
        (so_so 𝓛 I I J r.ghost_name u.ghost_name (λ w x. (g : OfAll) → view_inner g x ≡ with_item i (view_inner g w) (view_inner g r.now)) (λ x. (g : OfAll) → view_inner g x ≡ view_inner g r.now)
        (λ w x. (g : OfAll) → view_inner g x ≡ with_at (rest_of (k + 1) path.now) (view_item g w) (view_inner g u.now)) (λ x. (g : OfAll) → view_inner g x ≡ view_inner g u.now) (λ w x. (g : OfAll) → view_inner g x ≡ with_at (rest_of k path.now) (view_item g w) (view_inner g r.now))
        (λ w b x inner outer g. more_with path.now k there.1 (view_inner g r.now) (view_inner g u.now) (below_value g) (view_item g w) (view_inner g b) (view_inner g x) (inner g) (outer g)) d₁ found) $
        returns ! (look_at ! 0 refl) $ free_all ! refl $ move ! (1 ∷ 2 ∷ []) $ exits d₁ v₄ (λ g. val₁ g ∙ more_value path.now k there.1 (view_inner g r.now) (view_inner g u.now) (below_value g)))))))))))))))))))))))))))))))))))))))

pub +descend_spec : {M : Type 1} → statement M
+descend_spec 𝓤 𝓛 𝓜 𝓡 w T0 T1 T2 T3 T4 T5 T6 L0 L1 L2 L3 L4 L5 L6 T0d T1d T2d T3d T4d T5d T6d m0 m1 m2 m3 m4 m5 m6 y =
    let k = length y.0.3.1.0.now - suc y.0.3.1.1.0 in let P = on_entry 𝓛 (end T0 T1 T2 T3 T4 T5 T6 T0d T1d T2d T3d T4d T5d T6d).signature y.0.0 y.0.1 y.0.3 y.0.4 in let R = (c T0 T1 T2 T3 T4 T5 T6 T0d T1d T2d T3d T4d T5d T6d 𝓤 𝓛 𝓜 𝓡 w L0 L1 L2 L3 L4 L5 L6 m0 m1 m2 m3 m4 m5 m6 y.0.0 y.0.3).requires y.1 in
    via 𝓤 (sep 𝓤 P (sep 𝓤 (fact 𝓤 (k < suc k)) R)) (mono_r 𝓤 P (via 𝓤 (sep 𝓤 (emp 𝓤) R) (emp∗ 𝓤 R) (mono_l 𝓤 R (fact_i 𝓤 (k < suc k) (emp 𝓤) (omega arith))))) (meets T0 T1 T2 T3 T4 T5 T6 T0d T1d T2d T3d T4d T5d T6d 𝓤 𝓛 𝓜 𝓡 w L0 L1 L2 L3 L4 L5 L6 m0 m1 m2 m3 m4 m5 m6 (suc k) y)
