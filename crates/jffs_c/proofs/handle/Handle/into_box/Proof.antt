-- `into_box` makes the box again.
use Rattle.std.proofs.Common.{◌≡◌, List, [], ◌∷◌, ◌++◌, refl, sym, ap, subst}
use mir.Syntax.{impl, tcons, tnil, dnil, Dict}
use mir.Val.{Val, vptr}
use base.Fraction.{full_share}
use base.Logic.{SProp, ent, emp, id⊢}
use base.Fml.{ftrue, flft, Incl-refl}
use prog.Wp.{WpFn}
use types.Kit.{‵, raw, ◌⊛◌, some, later, at_ret, ◌$◌, ◌∵◌, !, qed, by, move, keep, drop, use0, use1, split, split3, join, fsplit, fjoin, feq_i, pick, suffices, await, rewrite}
use types.Part.{whole, sub}
use types.Run.{stop, fld, of_opd, no_more, and_then, first, blocks, exec, returns, enter}
use types.ByLocal.{alloc_all, pass_all, free_all, look_at, get, get_in, sets, lands_last, env}
use contract.Monad.{fact, fact_i}
use contract.BorrowLft.{◌⊑◌}
use contract.Running.{tables}
use denote.Exit.{yes, no, rest}
use denote.RattleType.{RattleType, owns}
use denote.RawPtr.{block_ptr}
use denote.Signature.{plain}
use denote.Steps.{nothing, only}
use mir.Raw.{raw as bare}
use denote.Param.{layout, arg}
use denote.Param.Laws.{Laws, arg_laws}
use denote.Param.NoDrop.{glues}
use denote.Triple.Clauses.{Lasts, lasts}
use denote.Triple.Spec.{triple_of}
use denote.Triple.Call.{calls_at_last}
use denote.Triple.Walked.{Stays, stay_dropped, walk_of, Goes-dropped}
use Rattle.core.proofs.alloc.Calls.{handle_tells}
use Rattle.core.proofs.atomic.Steps.{fm}
use Rattle.core.proofs.cell.Inside.{Good}
use Rattle.std.proofs.raw_atomic.Walks.{proved_at, leaves}
use Rattle.std.proofs.VecSteps.Shapes.{after}
use Rattle.std.specs.contracts.alloc.Global as heap
use Rattle.std.proofs.alloc.Global.TheLaws as heap_laws
use Rattle.std.specs.contracts.impls.GlobalAllocator.TheImpl.{ghosts, dict}
use Rattle.std.proofs.impls.GlobalAllocator.TheImpl.Met.{passed}
use Rattle.std_alloc.proofs.BoxSteps.Form as box
use Rattle.std_alloc.proofs.BoxSteps.Steps.{box_out, box_in}
use Rattle.std_alloc.specs.contracts.boxed.Box.from_raw as callee
use Rattle.std_alloc.proofs.boxed.Box.from_raw.Met.{met}
use Rattle.jffs_c.proofs.Handles.{R, X, word, handle_out}
use Rattle.jffs_c.proofs.volume.Volume.TheLaws as value_laws
use Rattle.jffs_c.specs.contracts.handle.Handle.into_box as f
use Rattle.jffs_c.proofs.Destruct++none.drop.Code as no_drop
use Rattle.jffs_c.proofs.handle.Handle.into_box.Statement.{statement}
use Rattle.jffs_c.proofs.handle.Handle.into_box.Code as code

abbrev G : RattleType
G = heap.the_row

-- the value and the allocator as arguments of a call
abbrev V : RattleType
V = arg (bare (layout X)) no X

abbrev Z : RattleType
Z = arg (bare (layout G)) no G

abbrev V_laws : Laws V
V_laws = arg_laws (bare (layout X)) no X value_laws.the_row_laws refl

abbrev Z_laws : Laws Z
Z_laws = arg_laws (bare (layout G)) no G heap_laws.the_row_laws refl

abbrev dropped : Dict
dropped = impl ("jffs_c::Destruct++none::drop" ∷ []) (tcons (layout Z) tnil) dnil

abbrev E : box.Bx
E = record { row = V; laws = V_laws; al = record { row = Z; laws = Z_laws; g = ghosts; d = dict; drops = dropped } }

abbrev stayed : Stays f.ended.signature.params f.ended.kept
stayed = (stay_dropped (plain (λ _. R)) yes, (stay_dropped (plain (λ _. G)) yes, tt))

pub into_box_spec : {M : Type 1} → statement M
unfolding no_drop.code
into_box_spec {M} 𝓤 𝓛 𝓜 𝓡 wired =
    let H = 𝓛.H in let 𝓣 = tables 𝓤 H 𝓜 𝓡 𝓡.env in let c = f.clauses 𝓛 𝓜.mem 𝓡.returns in
    let k = triple_of 𝓛 (callee.signature V Z ghosts dict dropped) (callee.spec V Z ghosts dict dropped 𝓛 𝓜.mem 𝓡.returns) in let Ce = callee.ended V Z ghosts dict dropped in
    let known = met 𝓤 𝓛 𝓜 𝓡 (code.calls-std_alloc::boxed::Box::from_raw 𝓡.env wired) V Z V_laws Z_laws ghosts dict dropped
    (passed 𝓡.env (code.calls-std_heap::GlobalAllocator::allocate 𝓡.env wired) (code.calls-std_heap::GlobalAllocator::deallocate 𝓡.env wired) (code.calls-std_heap::GlobalAllocator::grow 𝓡.env wired) (code.calls-std_heap::GlobalAllocator::shrink 𝓡.env wired) M 𝓤 𝓛 𝓜 𝓡)
    (glues "jffs_c::Destruct++none::drop" 𝓡.env (code.calls-jffs_c::Destruct++none::drop 𝓡.env wired) Z Z_laws M 𝓤 𝓛 𝓜 𝓡) in
    proved_at 𝓛 f.ended stayed c 𝓜 𝓡 (Goes-dropped 𝓛 0 (plain (λ _. R)) yes (λ κs x w. refl), (Goes-dropped 𝓛 0 (plain (λ _. G)) yes (λ κs x w. refl), tt))
    f.Key.name code.function (code.unfolded 𝓤 H 𝓜 𝓡 wired) (λ z are.
    let v = z.0.3.0 in let a = z.0.3.1.0 in let Post : Val → SProp 𝓤 = (walk_of 𝓛 f.ended stayed c).post z in let Run : List Val → SProp 𝓤 = λ ws. WpFn 𝓤 H 𝓣.C 𝓣.Λ code.function ws Post in
    let toks = ‵ (flft [] full_share) ⊛ ‵ (flft [] full_share) ⊛ ‵ ftrue in
    qed 𝓛 ((‵ ftrue ⊛ ‵ (owns (R ∷ G ∷ []) z.0.3 z.0.4)) ∷ raw (emp 𝓤) ∷ []) ∵ split ! $ drop ! $ fsplit ! $ handle_out ! v z.0.4.0 (λ b o at_b ws.
    fjoin ! $ move ! (1 ∷ []) $ fsplit ! $ handle_tells E.al ! a z.0.4.1.0 (λ hv eh fits.
    let w : Val = word b o in let y : k.Ghost = ((([], ([], tt)), (full_share, (full_share, tt)), tt, (a, (block_ptr b o, tt)), (hv ∷ [], (vptr b o ∷ [], tt))), v.value) in let B : RattleType = box.B E in
    move ! (2 ∷ []) $ use0 𝓛 (raw (fact 𝓤 ([] ⊑ Z.lives))) (fact_i 𝓤 ([] ⊑ Z.lives) (emp 𝓤) (Incl-refl [])) $ join ! $ use0 𝓛 (raw (fact 𝓤 ([] ⊑ V.lives))) (fact_i 𝓤 ([] ⊑ V.lives) (emp 𝓤) (Incl-refl [])) $ join ! $
    nothing ! $ feq_i ! (List Val) (vptr b o ∷ []) (vptr b o ∷ []) refl $ fjoin ! $ move ! (2 ∷ 0 ∷ []) $ fjoin ! $
    nothing ! $ use0 𝓛 (‵ (flft [] full_share)) (𝓛.lfts.lft-nil full_share) $ join ! $ use0 𝓛 (‵ (flft [] full_share)) (𝓛.lfts.lft-nil full_share) $ join ! $
    join ! $ join ! $ use1 𝓛 (raw (k.pre y)) (id⊢ 𝓤 _) $
    suffices ! (Run (w ∷ hv ∷ [])) (subst (λ (us : List Val). ent 𝓤 (Run (w ∷ hv ∷ [])) (Run us)) (sym (λ i. ws i ++ (eh i ++ []))) (id⊢ 𝓤 (Run (w ∷ hv ∷ [])))) $
    enter ! 𝓣.C 𝓣.Λ code.function (w ∷ hv ∷ []) Post $ alloc_all ! (λ l. pass_all ! refl ((tt, (tt, tt)), (fits, tt)) $
    sets ! (of_opd ! (get_in ! (fld ! refl (stop !)) (sub ! 0 refl (whole !)))) refl (tt, tt) $ first ! $ blocks ! $
    calls_at_last ! (fm 𝓛 𝓜 𝓡) k known y (and_then ! (get ! refl) (and_then ! (get ! refl) (no_more !))) (λ u.
    use1 𝓛 (later (some (λ (r : B.Denot). (toks ⊛ ‵ (B.own_val r (u ∷ []))) ⊛ some (λ (ls : Lasts Ce y.0.0 y.0.3). ‵ (lasts Ce y.0.0 y.0.3 ls) ⊛ (raw (fact 𝓤 (r.value ≡ v.value)) ⊛ raw (fact 𝓤 (r.alloc ≡ a))))))) (id⊢ 𝓤 (k.post y u)) $
    await ! tt $ pick ! (λ r. split ! $ move ! (1 ∷ []) $ pick ! (λ _. split3 ! $ drop ! $ move ! (2 ∷ []) $ split ! $ move ! (1 ∷ []) $
    box_out E ! r (u ∷ []) (λ b' o' h' e' us fits'. box_in E ! r b' o' r.value e' refl $ rewrite ! 0 (λ (xs : List Val). ‵ (B.own_val r xs)) (sym us) refl $
    let good : Good (layout B) u = subst (Good (layout B)) (sym (ap only us)) (box.box_typed E h' b' o' fits') in
    lands_last ! refl good $ exec ! 𝓣.C 𝓣.Λ (env code.Mir.locals l) (after 2 (code.function).body) (at_ret (env code.Mir.locals l) Post) $ sets ! (of_opd ! (get ! refl)) refl good $
    returns ! (look_at ! 0 refl) $ free_all ! refl $ nothing ! $ nothing ! $ fjoin ! $ nothing ! $ fjoin ! $ nothing ! $ keep ! (0 ∷ 1 ∷ 2 ∷ 4 ∷ []) $
    by ! (leaves 𝓛 f.ended stayed c z u r (rest (R.exit yes) v, (rest (G.exit yes) a, tt)) (tt, (tt, tt)))))))))))
