-- `handle_in` hands over what the slot owns.
use Rattle.std.proofs.Common.{◌≡◌, List, [], ◌∷◌, ◌++◌, ◌≢◌, Option, Some, None, refl, sym, subst}
use mir.Raw.{raw as bare}
use mir.Val.{Val, vptr, vstruct, of_list}
use base.Logic.{SProp, ent, emp, never, id⊢, fst∗}
use base.Fml.{ftrue}
use prog.Wp.{WpFn}
use types.Logic.{sem}
use types.Kit.{‵, raw, ◌⊛◌, ◌$◌, ◌∵◌, !, qed, by, move, keep, drop, split, fsplit, fjoin, fpick, fpack, feq_i, feq_l, suffices, use0, rewrite}
use types.Run.{stop, fld, of_opd, no_more, and_then, returns, enter}
use types.ByLocal.{alloc_all, pass_all, free_all, look_at, get, get_in, sets}
use types.Part.{agg, sub, whole}
use contract.Monad.{fact, fact_i}
use contract.Running.{tables}
use denote.Exit.{yes, rest}
use denote.RattleType.{RattleType, Valss, owns}
use denote.Signature.{plain}
use denote.Builtin.{RawPtr}
use denote.Memory.{lone}
use denote.RawPtr.{Ptr, block_ptr, null_ptr, ptr_val, in_a_block}
use denote.Steps.{nothing, heard}
use denote.Struct.Struct.{within}
use denote.Struct.Owning.{shape}
use denote.Triple.Walked.{Stays, stay_dropped, walk_of, Goes-dropped}
use Rattle.std.proofs.raw_atomic.Walks.{proved_at, leaves}
use Rattle.std_alloc.specs.Box.Ownership.{box_owns}
use Rattle.jffs_c.specs.Heap.{chunk}
use Rattle.jffs_c.proofs.Handles.{X, word}
use Rattle.jffs_c.specs.contracts.handle.Handle as handle
use Rattle.jffs_c.specs.contracts.handle.Slot as slot
use Rattle.jffs_c.specs.declared.volume.Volume.{Volume}
use Rattle.jffs_c.specs.Handle.{slot_owns}
use Rattle.jffs_c.specs.contracts.tests.handles.handle_in as f
use Rattle.jffs_c.proofs.tests.handles.handle_in.Statement.{statement}
use Rattle.jffs_c.proofs.tests.handles.handle_in.Code as code

abbrev S : RattleType
S = slot.the_row

-- what is there is some volume
some_of : (held : Option Volume) → held ≢ None → (volume : Volume) × (held ≡ Some volume)
some_of None there = absurd (there refl)
some_of (Some volume) there = (volume, refl)

pub handle_in_spec : {M : Type 1} → statement M
handle_in_spec {M} 𝓤 𝓛 𝓜 𝓡 wired =
    let H = 𝓛.H in let 𝓣 = tables 𝓤 H 𝓜 𝓡 𝓡.env in let c = f.clauses 𝓛 𝓜.mem 𝓡.returns in let En = f.ended in
    let hs : Stays En.signature.params En.kept = (stay_dropped (plain (λ _. S)) yes, tt) in
    proved_at 𝓛 En hs c 𝓜 𝓡 (Goes-dropped 𝓛 0 (plain (λ _. S)) yes (λ κs x w. refl), tt) f.Key.name code.function (code.unfolded 𝓤 H 𝓜 𝓡 wired) (λ z are.
    let v = z.0.3.0 in let Post : Val → SProp 𝓤 = (walk_of 𝓛 En hs c).post z in let Run : List Val → SProp 𝓤 = λ ws. WpFn 𝓤 H 𝓣.C 𝓣.Λ code.function ws Post in
    qed 𝓛 ((‵ ftrue ⊛ ‵ (owns (S ∷ []) z.0.3 z.0.4)) ∷ raw (fact 𝓤 (v.held ≢ None)) ∷ []) ∵ move ! (1 ∷ []) $ heard ! (v.held ≢ None) (λ there. let x = (some_of v.held there).0 in let is_x = (some_of v.held there).1 in
    split ! $ drop ! $ fsplit ! $ fsplit ! $ fpick ! (λ vss. fsplit ! $ feq_l ! (λ ev. fsplit ! $ feq_l ! (λ ep. drop ! $ rewrite ! 0 (λ (h : Option Volume). ‵ (slot_owns v.at h)) is_x refl $
    in_a_block ! v.at (λ p. box_owns chunk X p x) (fst∗ 𝓤 (never 𝓤) (sem 𝓛 (chunk (bare (lone X.mir)) null_ptr))) (λ b o e.
    let w : Val = word b o in
    let is : z.0.4.0 ≡ w ∷ [] = subst (λ (p : Ptr). z.0.4.0 ≡ vstruct (of_list (ptr_val p ∷ [])) ∷ []) e (subst (λ (ps : List Val). z.0.4.0 ≡ vstruct (of_list (ps ++ [])) ∷ []) ep ev) in
    suffices ! (Run (w ∷ [])) (subst (λ (us : List Val). ent 𝓤 (Run (w ∷ [])) (Run us)) (sym (λ i. is i ++ [])) (id⊢ 𝓤 (Run (w ∷ [])))) $
    enter ! 𝓣.C 𝓣.Λ code.function (w ∷ []) Post $ alloc_all ! (λ l. pass_all ! refl ((tt, (tt, tt)), tt) $
    sets ! (of_opd ! (get_in ! (fld ! refl (stop !)) (sub ! 0 refl (whole !)))) refl (tt, tt) $
    sets ! (agg ! (and_then ! (get ! refl) (no_more !))) refl (tt, (tt, tt)) $
    returns ! (look_at ! 0 refl) $ free_all ! refl $
    nothing ! $ feq_i ! (List Val) (vptr b o ∷ []) (vptr b o ∷ []) refl $ fjoin ! $ feq_i ! (List Val) (word b o ∷ []) (word b o ∷ []) refl $ fjoin ! $
    fpack ! (Valss (RawPtr ∷ [])) (within (shape handle.the_type) (block_ptr b o, tt) (word b o ∷ [])) (vptr b o ∷ [], tt) $ fjoin ! $
    use0 𝓛 (raw (fact 𝓤 (v.held ≡ Some x))) (fact_i 𝓤 (v.held ≡ Some x) (emp 𝓤) is_x) $ nothing ! $ nothing ! $ fjoin ! $ nothing ! $ keep ! (0 ∷ 1 ∷ 3 ∷ 2 ∷ []) $
    by ! (leaves 𝓛 En hs c z w (record { at = block_ptr b o; value = x }) (rest (S.exit yes) v, tt) (tt, tt)))))))))
