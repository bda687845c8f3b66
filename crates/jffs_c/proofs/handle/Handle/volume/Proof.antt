-- `volume` lends what is behind the pointer, and the handle follows it.
use Rattle.std.proofs.Common.{◌≡◌, ℕ, List, [], ◌∷◌, refl, sym}
use seplogic.Ra.Ura.{Ura}
use base.Fraction.{full_share}
use mir.Syntax.{named}
use mir.Raw.{raw as bare}
use mir.Val.{Val, vptr}
use base.Logic.{ent, sep, id⊢}
use base.Fml.{GName, Fml, ftrue, fsep, flft}
use types.Logic.{Logic, sem}
use types.Kit.{‵, raw, ◌⊛◌, some, later, at_ret, ◌$◌, ◌∵◌, !, qed, done, move, keep, use1, split, split3, join, fsplit, fsplit3, fjoin, fpack, pick, await, rewrite, suffices, frame, group}
use types.Part.{whole, sub, look_in}
use types.Run.{enter, of_opd, addr, load, stop, fld, first, blocks, exec, returns}
use types.ByLocal.{alloc_all, pass_all, free_all, look_at, get, through, sets, sets_last, env}
use contract.Running.{tables}
use denote.Exit.{no}
use denote.Memory.{part_at, part_of, mem, cell_at, lone}
use denote.RawPtr.{block_ptr, Ptr}
use denote.Ref.{MutBor, MutRef, mut_vals, mut_Tells}
use denote.Signature.{plain, mut_ref_to}
use denote.Steps.{nothing, opens}
use denote.Follow.{Part, lends_Part}
use denote.Triple.Walked.{Stays, walk_of, says, stay_dropped, Goes-spent_ref, ends_at}
use Rattle.std.proofs.raw_atomic.Walks.{proved}
use Rattle.std.proofs.VecSteps.Shapes.{after}
use Rattle.jffs_c.specs.Heap.{chunk}
use Rattle.jffs_c.specs.Handle.{with_value, handle_follows}
use Rattle.jffs_c.proofs.Handles.{R, X, word, handle_out, handle_in}
use Rattle.jffs_c.specs.contracts.handle.Handle.volume as f
use Rattle.jffs_c.proofs.handle.Handle.volume.Statement.{statement}
use Rattle.jffs_c.proofs.handle.Handle.volume.Code as code

abbrev stayed : Stays f.ended.signature.params f.ended.kept
stayed = (stay_dropped (mut_ref_to (0 ∷ []) tt (plain (λ _. R))) no, tt)

-- all of the handle but its value
abbrev Rest : ℕ → ℕ → ℕ → ℕ → Fml
Rest rb ro b o = fsep (chunk (bare (lone X.mir)) (block_ptr b o)) (cell_at full_share R.mir (word b o ∷ []) rb ro)

back : {M : Type 1} {𝓤 : Ura M} (𝓛 : Logic 𝓤) (h : R.Denot) (rb ro b o : ℕ) → h.at ≡ block_ptr b o → (w : X.Denot)
    → ent 𝓤 (sep 𝓤 (sem 𝓛 ((mem X).own_at w b o)) (sem 𝓛 (Rest rb ro b o))) (sem 𝓛 ((mem R).own_at (with_value h w) rb ro))
unfolding part_of
back {𝓤 = 𝓤} 𝓛 h rb ro b o at_b w =
    qed 𝓛 (‵ (part_at X full_share w b o) ∷ ‵ (Rest rb ro b o) ∷ []) ∵ move ! (1 ∷ []) $ fsplit ! $ move ! (2 ∷ 0 ∷ []) $ fjoin ! $
    handle_in ! b o w $ rewrite ! 0 (λ (p : Ptr). ‵ (R.own_val (record { at = p; value = w }) (word b o ∷ []))) (sym at_b) refl $ move ! (1 ∷ 0 ∷ []) $ fjoin ! $
    fpack ! (List Val) (λ us. fsep (cell_at full_share R.mir us rb ro) (R.own_val (with_value h w) us)) (word b o ∷ []) $ done !

pub volume_spec : {M : Type 1} → statement M
volume_spec 𝓤 𝓛 𝓜 𝓡 wired =
    let c = f.clauses 𝓛 𝓜.mem 𝓡.returns in let W = walk_of 𝓛 f.ended stayed c in let 𝓣 = tables 𝓤 𝓛.H 𝓜 𝓡 𝓡.env in
    proved 𝓛 f.ended stayed c 𝓜 𝓡 (Goes-spent_ref 𝓛 1 (0 ∷ []) tt (plain (λ _. R)), tt)
    f.Key.name code.function (code.unfolded 𝓤 𝓛.H 𝓜 𝓡 wired)
    (λ κs. (mut_vals, tt)) (λ κs. (mut_Tells (named 0) κs.0 R, tt)) (λ κs qs bounds a _ are.
    let κ = κs.0 in let q = qs.0 in let rb = a.0.ref_ptr.0 in let ro = a.0.ref_ptr.1 in let γ = a.0.ghost_name in let h = a.0.now in let vs = mut_vals a.0 in
    let y : W.Ghost = ((κs, qs, bounds, a, (vs, tt)), tt) in
    qed 𝓛 (((‵ (flft κ q) ⊛ ‵ ftrue) ⊛ ‵ ((MutRef (named 0) κ R).own_val a.0 vs) ⊛ ‵ ftrue) ∷ ‵ ftrue ∷ []) ∵
    split ! $ split ! $ move ! (2 ∷ []) $ split ! $ keep ! (0 ∷ 2 ∷ []) $
    enter ! _ _ _ _ _ $ alloc_all ! (λ l. pass_all ! refl ((tt, tt), tt) $
    fsplit3 ! $ move ! (1 ∷ 2 ∷ 3 ∷ []) $ opens ! tt R rb ro (λ us.
    move ! (1 ∷ []) $ handle_out ! h us (λ b o at_b is.
    rewrite ! 2 (λ (ws : List Val). ‵ (cell_at full_share R.mir ws rb ro)) is refl $
    first ! $ blocks ! $
    sets ! (of_opd ! (load ! (through ! refl (fld ! refl (stop !))) (look_in ! 2 (sub ! 0 refl (whole !))))) refl (tt, tt) $
    sets_last ! (addr ! (through ! refl (stop !))) refl (tt, tt) $
    exec ! 𝓣.C 𝓣.Λ (env code.Mir.locals l) (after 1 (code.function).body) (at_ret _ (W.post y)) $
    sets ! (of_opd ! (get ! refl)) refl (tt, tt) $
    move ! (1 ∷ 2 ∷ []) $ fjoin ! $ move ! (2 ∷ 3 ∷ 4 ∷ 1 ∷ 0 ∷ []) $ group ! 5 $
    use1 𝓛 (later (some (λ (γ' : GName). raw (Part 𝓛 R X (with_value h) (named 0) κ q rb ro b o γ (sem 𝓛 (Rest rb ro b o)) (back 𝓛 h rb ro b o at_b) h.value γ'))))
    (lends_Part 𝓛 R X (with_value h) (named 0) κ q rb ro b o γ (sem 𝓛 (Rest rb ro b o)) (back 𝓛 h rb ro b o at_b) (R.coded.code h) (R.coded.code h) h.value) $ await ! tt $ pick ! (λ γ'.
    let r : MutBor X.Denot = record { ref_ptr = (b, o); ghost_name = γ'; now = h.value } in
    returns ! (look_at ! 0 refl) $ free_all ! refl $ keep ! (0 ∷ []) $
    use1 𝓛 (‵ ((MutRef (named 0) κ X).own_val r (vptr b o ∷ [])) ⊛ ‵ (flft κ q) ⊛ ‵ (handle_follows a.0 r)) (id⊢ 𝓤 _) $ split3 ! $
    suffices ! _ (ends_at 𝓛 f.ended stayed c y (vptr b o) r (tt, tt) (tt, tt)) $
    nothing ! $ nothing ! $ fjoin ! $ join ! $ nothing ! $ move ! (2 ∷ 0 ∷ []) $ join ! $ join ! $ frame ! $ says ! refl $ done !)))))
