-- The item itself, or what `below_mut` lends of its form.
use Rattle.std.proofs.Common.{◌≡◌, ◌<◌, length, Bool, true, ◌↔◌, List, [], ◌∷◌, Some, refl, ap, ◌∙◌, lit<, w64, MutBor, arith}
use Rattle.std.proofs.raw_atomic.Walks.{proved}
use base.Logic.{id⊢, emp}
use base.Fml.{ftrue, flft, Lft}
use seplogic.Ra.Ura.{Ura}
use mir.Syntax.{Fn, Args, Dict, dcons, dnil, named, a_type}
use mir.MapTy.{inst_fn}
use mir.Val.{Val, vptr, of_list}
use prog.Model.{Model}
use prog.Wired.{Wired}
use contract.BorrowLft.{◌⊑◌}
use contract.Monad.{fact, fact_i}
use contract.Running.{Running, tables}
use types.Logic.{Logic}
use types.Kit.{Item, ‵, raw, ◌⊛◌, some, later, prop, at_ret, Sq, ◌$◌, ◌∵◌, !, qed, done, move, drop, use0, use1, use2, split, join, fsplit, fsplit3, fjoin, fjoin3, feq_i, feq_l, pick, await, suffices, frame}
use types.Match.{live}
use types.Part.{agg}
use types.Run.{enter, lit, addr, stop, no_more, and_then, first, branches, skips, exec, returns, returns_within}
use types.ByLocal.{alloc_all, pass_all, free_all, look_at, get, through, sets, lands_as, env}
use denote.Builtin.{SliceRefOf, usize, bool}
use denote.Exit.{yes, no}
use denote.Follow.{follows}
use denote.Laws.{shows}
use denote.Param.{param, bounded}
use denote.Param.Glue as glue
use denote.Param.Laws.{Laws, param_laws, of_field, row_shared}
use denote.Param.Shared.{mut_ref_shared}
use denote.Plain.{uint_vals, uint_Makes, uint_row_laws}
use denote.RattleType.{RattleType, owns}
use denote.Ref.{NamedLft, MutRef, mut_vals, mut_Tells}
use denote.Signature.{Slot, plain, mut_ref_to, types_at}
use denote.Slice.{ShrSlice, shr_slice_vals, shr_slice_Tells, shr_slice_Lawful, shr_slice_copy}
use denote.Steps.{nothing, heard, only, owned, peeks}
use denote.Struct.Field.{mut_ref_field}
use denote.Struct.Laws.{mut_ref_laws}
use denote.Triple.Call.{calls_at}
use denote.Triple.Clauses.{Ended, Clauses, closing, lasts}
use denote.Triple.Spec.{Meets, triple_of}
use denote.Triple.Table.{framed}
use denote.Triple.Walked.{Stays, walk_of, says, stay_dropped, Goes-dropped, Goes-spent_ref, ends_at}
use Rattle.std.proofs.VecSteps.Element.{Some-of}
use Rattle.std.proofs.VecSteps.Shapes.{after}
use Rattle.std.proofs.option.Option.TheLaws.{the_row_laws as option-laws}
use Rattle.std.specs.contracts.option.Option as OP
use Rattle.std.specs.Option.{OnSome, ghost_name_of}
use Rattle.std.specs.Prelude.{option_map}
use Rattle.cbor_edn_model.specs.tree.TreeLeaves.{Ghosts}
use Rattle.cbor_edn_model.specs.access.Paths.{at as at_path, with_at}
use Rattle.cbor_edn_model.proofs.lemmas.access.ReplacedItems.{itself_value, itself_with}
use Rattle.cbor_edn_core.specs.access.Lent.{LendsBelow, LendsAt}
use Rattle.cbor_edn_core.specs.tree.View.{view_inner, view_item}
use Rattle.cbor_edn_core.specs.contracts.tree.ItemOf as item
use Rattle.cbor_edn_core.specs.contracts.tree.InnerItemOf as inner
use Rattle.cbor_edn_core.specs.contracts.tree.ItemOf.at_mut as f
use Rattle.cbor_edn_core.specs.contracts.tree.ItemOf.at_mut.Key.{name as #self}
use Rattle.cbor_edn_core.specs.contracts.tree.InnerItemOf.below_mut as b
use Rattle.cbor_edn_core.specs.contracts.access.path.is_empty as e
use Rattle.cbor_edn_core.specs.contracts.tree.ItemOf.inner_mut as h
use Rattle.cbor_edn_core.proofs.tree.InnerItemOf.below_mut.Met as b-thm
use Rattle.cbor_edn_core.proofs.tree.ItemOf.inner_mut.Met as h-thm
use Rattle.cbor_edn_core.proofs.access.path.is_empty.Met as e-thm
use Rattle.cbor_edn_core.proofs.tree.ItemOf.TheLaws.{the_row_laws as item-laws}
use Rattle.cbor_edn_core.proofs.tree.ItemOf.at_mut.Statement.{statement}
use Rattle.cbor_edn_core.proofs.tree.ItemOf.at_mut.Code as code
use Rattle.cbor_edn_core.proofs.lemmas.access.Replaced.{on_some}
use Rattle.cbor_edn_model.proofs.lemmas.access.Ties.{itself, related, so_then, is_true, is_false}

module _ (T0 T1 T2 T3 T4 T5 T6 : RattleType) (T0d T1d T2d T3d T4d T5d T6d : Dict) where
  abbrev args : Args
  args = bounded (a_type ∷ a_type ∷ a_type ∷ a_type ∷ a_type ∷ a_type ∷ a_type ∷ []) (T0, (T1, (T2, (T3, (T4, (T5, (T6, tt))))))) (dcons T0d (dcons T1d (dcons T2d (dcons T3d (dcons T4d (dcons T5d (dcons T6d dnil)))))))

  abbrev fn : Fn
  fn = inst_fn args code.function

  abbrev I : RattleType
  I = inner.the_row (param 0 T0) (param 1 T1) (param 2 T2) (param 3 T3) (param 4 T4) (param 5 T5) (param 6 T6)

  abbrev J : RattleType
  J = item.the_row (param 0 T0) (param 1 T1) (param 2 T2) (param 3 T3) (param 4 T4) (param 5 T5) (param 6 T6)

  abbrev end : Ended
  end = f.ended T0 T1 T2 T3 T4 T5 T6 T0d T1d T2d T3d T4d T5d T6d

  abbrev way : Slot 9
  way = SliceRefOf (1 ∷ []) tt (plain (λ _. usize)) (λ _. tt)

  abbrev stayed : Stays end.signature.params end.kept
  stayed = (stay_dropped (mut_ref_to (0 ∷ []) tt (plain (λ _. J))) no, (stay_dropped way yes, tt))

  abbrev OfAll : Type 0
  OfAll = Ghosts T0.Denot T1.Denot T2.Denot T3.Denot T4.Denot T5.Denot T6.Denot

  pub ref_laws : (κ : Lft) → Laws T0 → Laws T1 → Laws T2 → Laws T3 → Laws T4 → Laws T5 → Laws T6 → Laws (MutRef (named 0) κ J)
  ref_laws κ L0 L1 L2 L3 L4 L5 L6 = let a : NamedLft = record { mir = named 0; lft = κ } in of_field (mut_ref_field a J tt) (mut_ref_laws a J tt) refl (mut_ref_shared a J tt (row_shared J (item-laws (param 0 T0) (param 1 T1) (param 2 T2) (param 3 T3) (param 4 T4) (param 5 T5) (param 6 T6) (param_laws 0 T0 L0) (param_laws 1 T1 L1) (param_laws 2 T2 L2) (param_laws 3 T3 L3) (param_laws 4 T4 L4) (param_laws 5 T5 L5) (param_laws 6 T6 L6))))

  module _ {M : Type 1} (𝓤 : Ura M) (𝓛 : Logic 𝓤) (𝓜 : Model 𝓤 𝓛.H) (𝓡 : Running 𝓤 𝓛.H 𝓜) (wired : Wired 𝓡.env code.code) (L0 : Laws T0) (L1 : Laws T1) (L2 : Laws T2) (L3 : Laws T3) (L4 : Laws T4) (L5 : Laws T5) (L6 : Laws T6)
      (m0 : glue.Met 𝓛 𝓜 𝓡 𝓡.env T0 T0d) (m1 : glue.Met 𝓛 𝓜 𝓡 𝓡.env T1 T1d) (m2 : glue.Met 𝓛 𝓜 𝓡 𝓡.env T2 T2d) (m3 : glue.Met 𝓛 𝓜 𝓡 𝓡.env T3 T3d) (m4 : glue.Met 𝓛 𝓜 𝓡 𝓡.env T4 T4d) (m5 : glue.Met 𝓛 𝓜 𝓡 𝓡.env T5 T5d) (m6 : glue.Met 𝓛 𝓜 𝓡 𝓡.env T6 T6d) where
    abbrev c : Clauses 𝓤 end
    c = f.clauses T0 T1 T2 T3 T4 T5 T6 T0d T1d T2d T3d T4d T5d T6d 𝓛 𝓜.mem 𝓡.returns

    meets : Meets 𝓛 end.signature ((tables 𝓤 𝓛.H 𝓜 𝓡 𝓡.env).C (#self args)) (closing 𝓛 end c)
    meets =
        let 𝓣 = tables 𝓤 𝓛.H 𝓜 𝓡 𝓡.env in let W = walk_of 𝓛 end stayed c in
        proved 𝓛 end stayed c 𝓜 𝓡 (Goes-spent_ref 𝓛 9 (0 ∷ []) tt (plain (λ _. J)), (Goes-dropped 𝓛 9 way yes (λ κs x w. refl), tt))
        (#self args) fn (code.unfolded 𝓤 𝓛.H 𝓜 𝓡 wired (T0, (T1, (T2, (T3, (T4, (T5, (T6, tt))))))) T0d T1d T2d T3d T4d T5d T6d)
        (λ κs. (mut_vals, (shr_slice_vals, tt))) (λ κs. (mut_Tells (named 0) κs.0 J, (shr_slice_Tells (named 1) κs.1.0 usize, tt))) (λ κs qs bounds a x are.
        let κ = κs.0 in let r = a.0 in let path = a.1.0 in let m = length path.now in
        let y : W.Ghost = ((κs, qs, bounds, a, (mut_vals r, (shr_slice_vals path, tt))), tt) in
        let Toks = ‵ (flft κ qs.0) ⊛ ‵ (flft κs.1.0 qs.1.0) ⊛ ‵ (flft κs.1.1.0 qs.1.1.0) ⊛ ‵ (flft κs.1.1.1.0 qs.1.1.1.0) ⊛ ‵ (flft κs.1.1.1.1.0 qs.1.1.1.1.0) ⊛ ‵ (flft κs.1.1.1.1.1.0 qs.1.1.1.1.1.0) ⊛ ‵ (flft κs.1.1.1.1.1.1.0 qs.1.1.1.1.1.1.0) ⊛ ‵ (flft κs.1.1.1.1.1.1.1.0 qs.1.1.1.1.1.1.1.0) ⊛ ‵ (flft κs.1.1.1.1.1.1.1.1.0 qs.1.1.1.1.1.1.1.1.0) ⊛ ‵ ftrue in
        let Own : (R : RattleType) → MutBor R.Denot → List Val → Item 𝓤 = λ R p vs. ‵ ((MutRef (named 0) κ R).own_val p vs) in
        let Opt = OP.the_row (MutRef (named 0) κ J) in
        let Path : Item 𝓤 = ‵ ((ShrSlice (named 1) κs.1.0 usize).own_val path (shr_slice_vals path)) in
        let Within0 = κs.1.1.0 ⊑ T0.lives in
        let Within1 = κs.1.1.1.0 ⊑ T1.lives in
        let Within2 = κs.1.1.1.1.0 ⊑ T2.lives in
        let Within3 = κs.1.1.1.1.1.0 ⊑ T3.lives in
        let Within4 = κs.1.1.1.1.1.1.0 ⊑ T4.lives in
        let Within5 = κs.1.1.1.1.1.1.1.0 ⊑ T5.lives in
        let Within6 = κs.1.1.1.1.1.1.1.1.0 ⊑ T6.lives in
        let Toks' = ‵ (flft κ qs.0) ⊛ ‵ (flft κs.1.1.0 qs.1.1.0) ⊛ ‵ (flft κs.1.1.1.0 qs.1.1.1.0) ⊛ ‵ (flft κs.1.1.1.1.0 qs.1.1.1.1.0) ⊛ ‵ (flft κs.1.1.1.1.1.0 qs.1.1.1.1.1.0) ⊛ ‵ (flft κs.1.1.1.1.1.1.0 qs.1.1.1.1.1.1.0) ⊛ ‵ (flft κs.1.1.1.1.1.1.1.0 qs.1.1.1.1.1.1.1.0) ⊛ ‵ (flft κs.1.1.1.1.1.1.1.1.0 qs.1.1.1.1.1.1.1.1.0) ⊛ ‵ ftrue in
        let exits : (d : Opt.Denot) (v : Val) → ((w : OfAll) → option_map (λ (b : MutBor J.Denot). view_item w b.now) d ≡ at_path path.now (view_item w r.now)) → Sq 𝓛 (‵ (Opt.own_val d (v ∷ [])) ∷ Toks ∷ ‵ (LendsAt (param 0 T0) (param 1 T1) (param 2 T2) (param 3 T3) (param 4 T4) (param 5 T5) (param 6 T6) r path.now d) ∷ []) (prop (W.post y v)) = λ d v val.
        suffices ! _ (ends_at 𝓛 end stayed c y v d (tt, (tt, tt)) (tt, (tt, tt))) $
        nothing ! $ nothing ! $ fjoin ! $ nothing ! $ fjoin ! $ join ! $ move ! (1 ∷ 0 ∷ []) $ join ! $ frame ! $ says ! val $ done ! in
        qed 𝓛 (((Toks ⊛ ‵ (owns (types_at end.signature.params κs) a y.0.4))) ∷ (raw (fact 𝓤 Within0) ⊛ raw (fact 𝓤 Within1) ⊛ raw (fact 𝓤 Within2) ⊛ raw (fact 𝓤 Within3) ⊛ raw (fact 𝓤 Within4) ⊛ raw (fact 𝓤 Within5) ⊛ raw (fact 𝓤 Within6) ⊛ raw (emp 𝓤)) ∷ []) ∵
        move ! (1 ∷ []) $ split ! $ heard ! _ (λ within0. split ! $ heard ! _ (λ within1. split ! $ heard ! _ (λ within2. split ! $ heard ! _ (λ within3. split ! $ heard ! _ (λ within4. split ! $ heard ! _ (λ within5. split ! $ heard ! _ (λ within6. drop ! $
        split ! $ move ! (1 ∷ []) $ fsplit ! $ move ! (1 ∷ []) $ fsplit ! $ move ! (1 ∷ []) $ drop ! $
        -- [the path; self; the tokens]
        enter ! _ _ _ _ _ $ alloc_all ! (λ l. pass_all ! refl ((tt, tt), (((shr_slice_Lawful 𝓛 (named 1) κs.1.0 usize).typed path (shr_slice_vals path) are.1.0).0, tt)) $
        use1 𝓛 (Path ⊛ Path) ((shr_slice_copy 𝓛 (named 1) κs.1.0 usize (uint_row_laws w64)).twice path (shr_slice_vals path)) $ split ! $
        move ! (3 ∷ []) $ split ! $ move ! (1 ∷ []) $ split ! $ move ! (2 ∷ 1 ∷ []) $ join ! $
        -- [the other tokens; the path's token; the path, twice; self]
        move ! (1 ∷ []) $ nothing ! $ move ! (1 ∷ 0 ∷ []) $ join ! $
        nothing ! $ move ! (3 ∷ 0 ∷ []) $ join ! $ move ! (1 ∷ 0 ∷ []) $ join ! $
        nothing ! $ move ! (1 ∷ 0 ∷ []) $
        let Empty = triple_of 𝓛 e.signature (e.spec 𝓛 𝓜.mem 𝓡.returns) in
        let z₁ : Empty.Ghost = (((κs.1.0, tt), (qs.1.0, tt), tt, (path, tt), (shr_slice_vals path, tt)), tt) in
        use2 𝓛 (raw (Empty.pre z₁)) (id⊢ 𝓤 _) $
        calls_at ! (framed 𝓤 𝓛.H 𝓜 𝓣) Empty (e-thm.met 𝓤 𝓛 𝓜 𝓡 (code.calls-cbor_edn_core::access::path::is_empty 𝓡.env wired)) z₁ (and_then ! (get ! refl) (no_more !)) (λ v₁.
        use1 𝓛 (later (some (λ (t : Bool). ((‵ (flft κs.1.0 qs.1.0) ⊛ ‵ ftrue) ⊛ ‵ (bool.own_val t (v₁ ∷ []))) ⊛ some (λ (ws : Unit {0} × Unit {0}). ‵ (lasts e.ended (κs.1.0, tt) z₁.0.3 ws) ⊛ raw (fact 𝓤 ((t ≡ true) ↔ (m ≡ 0))))))) (id⊢ 𝓤 _) $
        await ! tt $ pick ! (λ empty. split ! $ split ! $ move ! (1 ∷ []) $ feq_l ! (λ is₁. lands_as ! (ap only is₁) refl (tt, tt) $
        split ! $ move ! (1 ∷ []) $ drop ! $ move ! (1 ∷ []) $ pick ! (λ ws₁. split ! $ drop ! $ heard ! _ (λ when.
        -- [the path's token; the other tokens; the path; self]
        move ! (1 ∷ []) $ split ! $ move ! (2 ∷ 1 ∷ []) $ join ! $ move ! (1 ∷ 0 ∷ []) $ join ! $
        -- [the tokens; the path; self]
        first ! $ branches ! (get ! refl)
        (λ t. let ends : m ≡ 0 = when.0 (is_true empty t) in
        sets ! (addr ! (through ! refl (stop !))) refl (tt, tt) $
        sets ! (agg ! (and_then ! (lit ! tt) (and_then ! (get ! refl) (no_more !)))) refl (tt, (record { fits = lit< tt }, (tt, tt))) $
        returns_within ! (W.post y) refl (look_at ! 0 refl) $ free_all ! refl $ move ! (1 ∷ []) $ drop ! $ move ! (1 ∷ []) $
        use1 𝓛 (‵ (Opt.own_val (Some r) (live 1 (of_list (mut_vals r)) ∷ []))) (Some-of 𝓛 (MutRef (named 0) κ J) r (vptr r.ref_ptr.0 r.ref_ptr.1)) $
        use0 𝓛 (‵ (follows J J r.ghost_name r.ghost_name (λ w. w))) (itself 𝓛 J r.ghost_name) $
        use1 𝓛 (‵ (LendsAt (param 0 T0) (param 1 T1) (param 2 T2) (param 3 T3) (param 4 T4) (param 5 T5) (param 6 T6) r path.now (Some r)))
        (related 𝓛 J J r.ghost_name r.ghost_name (λ w. w) (λ w n. OnSome (Some r) ((g : OfAll) → view_item g n ≡ with_at path.now (view_item g w) (view_item g r.now))) (λ n. (g : OfAll) → view_item g n ≡ view_item g r.now) r.now
        (λ w g. itself_with path.now ends (view_item g w) (view_item g r.now)) (λ g. refl)) $
        move ! (1 ∷ 2 ∷ []) $ exits (Some r) (live 1 (of_list (mut_vals r))) (λ g. itself_value path.now ends (view_item g r.now)))
        (λ t. let more : m ≡ 0 → ⊥ = λ ends. is_false empty t (when.1 ends) in
        let within : 0 < m = omega (arith, more) in
        skips ! $ exec ! 𝓣.C 𝓣.Λ (env fn.locals l) (after 2 fn.body) (at_ret _ (W.post y)) $
        sets ! (addr ! (through ! refl (stop !))) refl (tt, tt) $
        let Inner = triple_of 𝓛 (h.signature T0 T1 T2 T3 T4 T5 T6) (h.spec T0 T1 T2 T3 T4 T5 T6 T0d T1d T2d T3d T4d T5d T6d 𝓛 𝓜.mem 𝓡.returns) in
        let z₂ : Inner.Ghost = (((κs.0, (κs.1.1.0, (κs.1.1.1.0, (κs.1.1.1.1.0, (κs.1.1.1.1.1.0, (κs.1.1.1.1.1.1.0, (κs.1.1.1.1.1.1.1.0, (κs.1.1.1.1.1.1.1.1.0, tt)))))))), (qs.0, (qs.1.1.0, (qs.1.1.1.0, (qs.1.1.1.1.0, (qs.1.1.1.1.1.0, (qs.1.1.1.1.1.1.0, (qs.1.1.1.1.1.1.1.0, (qs.1.1.1.1.1.1.1.1.0, tt)))))))), bounds, (r, tt), (mut_vals r, tt)), tt) in
        -- the path's token stays behind
        split ! $ move ! (1 ∷ []) $ split ! $ move ! (1 ∷ 2 ∷ []) $ move ! (1 ∷ 0 ∷ []) $ join ! $
        nothing ! $ move ! (4 ∷ 0 ∷ []) $ join ! $ move ! (1 ∷ 0 ∷ []) $ join ! $
        nothing ! $ use0 𝓛 (raw (fact 𝓤 Within6)) (fact_i 𝓤 Within6 (emp 𝓤) within6) $ join ! $ use0 𝓛 (raw (fact 𝓤 Within5)) (fact_i 𝓤 Within5 (emp 𝓤) within5) $ join ! $ use0 𝓛 (raw (fact 𝓤 Within4)) (fact_i 𝓤 Within4 (emp 𝓤) within4) $ join ! $ use0 𝓛 (raw (fact 𝓤 Within3)) (fact_i 𝓤 Within3 (emp 𝓤) within3) $ join ! $ use0 𝓛 (raw (fact 𝓤 Within2)) (fact_i 𝓤 Within2 (emp 𝓤) within2) $ join ! $ use0 𝓛 (raw (fact 𝓤 Within1)) (fact_i 𝓤 Within1 (emp 𝓤) within1) $ join ! $ use0 𝓛 (raw (fact 𝓤 Within0)) (fact_i 𝓤 Within0 (emp 𝓤) within0) $ join ! $
        move ! (1 ∷ 0 ∷ []) $ use2 𝓛 (raw (Inner.pre z₂)) (id⊢ 𝓤 _) $
        calls_at ! (framed 𝓤 𝓛.H 𝓜 𝓣) Inner (h-thm.met 𝓤 𝓛 𝓜 𝓡 (code.calls-cbor_edn_core::tree::ItemOf::inner_mut 𝓡.env wired) T0 T1 T2 T3 T4 T5 T6 L0 L1 L2 L3 L4 L5 L6 T0d T1d T2d T3d T4d T5d T6d m0 m1 m2 m3 m4 m5 m6) z₂ (and_then ! (get ! refl) (no_more !)) (λ v₂.
        use1 𝓛 (later (some (λ (u : MutBor I.Denot). (Toks' ⊛ Own I u (v₂ ∷ [])) ⊛ some (λ (ws : Unit {0} × Unit {0}). ‵ (lasts (h.ended T0 T1 T2 T3 T4 T5 T6 T0d T1d T2d T3d T4d T5d T6d) z₂.0.0 (r, tt) ws) ⊛ ‵ (follows J I r.ghost_name u.ghost_name (λ w. record { inner = w })) ⊛ raw (fact 𝓤 (u.now ≡ r.now.inner)))))) (id⊢ 𝓤 _) $
        await ! tt $ pick ! (λ u. split ! $ split ! $ move ! (1 ∷ []) $ fsplit3 ! $ feq_l ! (λ is₂. feq_i ! (List Val) (mut_vals u) (mut_vals u) refl $ fjoin3 ! $
        lands_as ! (ap only is₂) refl (tt, tt) $
        move ! (2 ∷ []) $ pick ! (λ ws₂. split ! $ drop ! $ split ! $ move ! (1 ∷ []) $ heard ! _ (λ below_is.
        -- [the tie; what it lends; the tokens; the path's token; the path]
        sets ! (addr ! (through ! refl (stop !))) refl (tt, tt) $
        let Below = triple_of 𝓛 (b.signature T0 T1 T2 T3 T4 T5 T6) (b.spec T0 T1 T2 T3 T4 T5 T6 T0d T1d T2d T3d T4d T5d T6d 𝓛 𝓜.mem 𝓡.returns) in
        let z₃ : Below.Ghost = ((κs, qs, bounds, (u, (path, (0, tt))), (mut_vals u, (shr_slice_vals path, (uint_vals w64 0, tt)))), tt) in
        move ! (2 ∷ []) $ split ! $ move ! (4 ∷ 1 ∷ []) $ join ! $ move ! (1 ∷ 0 ∷ []) $ join ! $
        -- [the tokens; the tie; what is lent; the path]
        nothing ! $ owned ! usize _ (uint_Makes 𝓛 w64) 0 _ (refl, lit< tt) $ join ! $ move ! (4 ∷ 0 ∷ []) $ join ! $ move ! (3 ∷ 0 ∷ []) $ join ! $ move ! (1 ∷ 0 ∷ []) $ join ! $
        use0 𝓛 (raw (fact 𝓤 (0 < m))) (fact_i 𝓤 (0 < m) (emp 𝓤) within) $ use0 𝓛 (raw (fact 𝓤 Within6)) (fact_i 𝓤 Within6 (emp 𝓤) within6) $ join ! $ use0 𝓛 (raw (fact 𝓤 Within5)) (fact_i 𝓤 Within5 (emp 𝓤) within5) $ join ! $ use0 𝓛 (raw (fact 𝓤 Within4)) (fact_i 𝓤 Within4 (emp 𝓤) within4) $ join ! $ use0 𝓛 (raw (fact 𝓤 Within3)) (fact_i 𝓤 Within3 (emp 𝓤) within3) $ join ! $ use0 𝓛 (raw (fact 𝓤 Within2)) (fact_i 𝓤 Within2 (emp 𝓤) within2) $ join ! $ use0 𝓛 (raw (fact 𝓤 Within1)) (fact_i 𝓤 Within1 (emp 𝓤) within1) $ join ! $ use0 𝓛 (raw (fact 𝓤 Within0)) (fact_i 𝓤 Within0 (emp 𝓤) within0) $ join ! $
        move ! (1 ∷ 0 ∷ []) $ use2 𝓛 (raw (Below.pre z₃)) (id⊢ 𝓤 _) $
        calls_at ! (framed 𝓤 𝓛.H 𝓜 𝓣) Below (b-thm.met 𝓤 𝓛 𝓜 𝓡 (code.calls-cbor_edn_core::tree::InnerItemOf::below_mut 𝓡.env wired) T0 T1 T2 T3 T4 T5 T6 L0 L1 L2 L3 L4 L5 L6 T0d T1d T2d T3d T4d T5d T6d m0 m1 m2 m3 m4 m5 m6) z₃ (and_then ! (get ! refl) (and_then ! (get ! refl) (and_then ! (lit ! tt) (no_more !)))) (λ v₃.
        use1 𝓛 (later (some (λ (d : Opt.Denot). (Toks ⊛ ‵ (Opt.own_val d (v₃ ∷ []))) ⊛ some (λ (ws : Unit {0} × (Unit {0} × (Unit {0} × Unit {0}))). ‵ (lasts (b.ended T0 T1 T2 T3 T4 T5 T6 T0d T1d T2d T3d T4d T5d T6d) κs z₃.0.3 ws) ⊛ ‵ (LendsBelow (param 0 T0) (param 1 T1) (param 2 T2) (param 3 T3) (param 4 T4) (param 5 T5) (param 6 T6) u path.now d) ⊛ raw (fact 𝓤 ((w : OfAll) → option_map (λ (b : MutBor J.Denot). view_item w b.now) d ≡ at_path path.now (view_inner w u.now))))))) (id⊢ 𝓤 _) $
        await ! tt $ pick ! (λ d. split ! $ split ! $ move ! (1 ∷ []) $ peeks ! Opt _ (shows 𝓛 Opt) d (v₃ ∷ []) (λ is₃.
        lands_as ! refl refl (((option-laws (MutRef (named 0) κ J) (ref_laws κ L0 L1 L2 L3 L4 L5 L6)).lawful 𝓛).typed d (v₃ ∷ []) is₃).0 $
        move ! (2 ∷ []) $ pick ! (λ ws₃. split ! $ drop ! $ split ! $ move ! (1 ∷ []) $ heard ! _ (λ val.
        -- [the loan below; what it lends; the tokens; the tie]
        move ! (3 ∷ 0 ∷ []) $ use2 𝓛 (‵ (LendsAt (param 0 T0) (param 1 T1) (param 2 T2) (param 3 T3) (param 4 T4) (param 5 T5) (param 6 T6) r path.now d))
        (so_then 𝓛 J I J r.ghost_name u.ghost_name (λ w. record { inner = w }) (λ w n. OnSome d ((g : OfAll) → view_inner g n ≡ with_at path.now (view_item g w) (view_inner g u.now))) (λ n. (g : OfAll) → view_inner g n ≡ view_inner g u.now)
        (λ w n. OnSome d ((g : OfAll) → view_item g n ≡ with_at path.now (view_item g w) (view_item g r.now))) (λ n. (g : OfAll) → view_item g n ≡ view_item g r.now)
        (ghost_name_of d) (λ w n. on_some d (λ at_end g. at_end g ∙ ap (λ i. with_at path.now (view_item g w) (view_inner g i)) below_is)) (λ n at_end g. at_end g ∙ ap (view_inner g) below_is)) $
        returns ! (look_at ! 0 refl) $ free_all ! refl $ move ! (1 ∷ 2 ∷ []) $ exits d v₃ (λ g. val g ∙ ap (λ i. at_path path.now (view_inner g i)) below_is))))))))))))))))))))))))))

pub at_mut_spec : {M : Type 1} → statement M
at_mut_spec 𝓤 𝓛 𝓜 𝓡 w T0 T1 T2 T3 T4 T5 T6 L0 L1 L2 L3 L4 L5 L6 T0d T1d T2d T3d T4d T5d T6d m0 m1 m2 m3 m4 m5 m6 = meets T0 T1 T2 T3 T4 T5 T6 T0d T1d T2d T3d T4d T5d T6d 𝓤 𝓛 𝓜 𝓡 w L0 L1 L2 L3 L4 L5 L6 m0 m1 m2 m3 m4 m5 m6
