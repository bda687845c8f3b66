-- `empty_slot` makes a slot of no pointer.
use Rattle.std.proofs.Common.{◌≡◌, List, [], ◌∷◌, refl, lit<}
use Rattle.std.specs.Prelude.{Option, None}
use mir.Val.{Val, vstruct, vcons, vnil}
use base.Logic.{SProp, emp}
use base.Fml.{ftrue}
use types.Kit.{‵, raw, ◌⊛◌, ◌$◌, ◌∵◌, !, qed, by, keep, split, fjoin, fpack, feq_i, use0}
use types.Run.{lit, and_then, no_more, returns, enter}
use types.ByLocal.{alloc_all, pass_all, free_all, look_at, sets}
use types.Part.{agg}
use contract.Monad.{fact, fact_i}
use contract.Running.{tables}
use denote.RattleType.{Valss}
use denote.Builtin.{RawPtr}
use denote.RawPtr.{null_ptr, ptr_val}
use denote.Steps.{nothing}
use denote.Struct.Struct.{within}
use denote.Struct.Owning.{shape}
use denote.Triple.Entry.{alive}
use denote.Triple.Walked.{walk_of}
use Rattle.std.proofs.raw_atomic.Walks.{proved, leaves}
use Rattle.jffs_c.specs.declared.volume.Volume.{Volume}
use Rattle.jffs_c.specs.contracts.handle.Slot as slot
use Rattle.jffs_c.specs.contracts.tests.handles.empty_slot as f
use Rattle.jffs_c.proofs.tests.handles.empty_slot.Statement.{statement}
use Rattle.jffs_c.proofs.tests.handles.empty_slot.Code as code

abbrev word : Val
word = vstruct (vcons (ptr_val null_ptr) vnil)

pub empty_slot_spec : {M : Type 1} → statement M
empty_slot_spec 𝓤 𝓛 𝓜 𝓡 wired =
    let H = 𝓛.H in let 𝓣 = tables 𝓤 H 𝓜 𝓡 𝓡.env in let En = f.ended in let c = f.clauses 𝓛 𝓜.mem 𝓡.returns in
    proved 𝓛 En tt c 𝓜 𝓡 tt f.Key.name code.function (code.unfolded 𝓤 H 𝓜 𝓡 wired) (λ κs. tt) (λ κs. tt) (λ κs qs bounds a gh are.
    let y : (walk_of 𝓛 En tt c).Ghost = ((κs, qs, bounds, a, tt), gh) in let Post : Val → SProp 𝓤 = (walk_of 𝓛 En tt c).post y in let none : Option Volume = None in let Is : Type 0 = none ≡ none in
    qed 𝓛 ((raw (alive 𝓛 En.signature κs qs) ⊛ ‵ ftrue) ∷ raw ((c κs a).requires gh) ∷ []) ∵ split ! $ keep ! (0 ∷ []) $
    enter ! 𝓣.C 𝓣.Λ code.function [] Post $ alloc_all ! (λ l. pass_all ! refl tt $
    sets ! (agg ! (and_then ! (lit ! tt) (no_more !))) refl (tt, (record { fits = lit< tt }, tt)) $
    returns ! (look_at ! 0 refl) $ free_all ! refl $
    nothing ! $ nothing ! $ feq_i ! (List Val) (ptr_val null_ptr ∷ []) (ptr_val null_ptr ∷ []) refl $ fjoin ! $ feq_i ! (List Val) (word ∷ []) (word ∷ []) refl $ fjoin ! $
    fpack ! (Valss (RawPtr ∷ [])) (within (shape slot.the_type) (null_ptr, tt) (word ∷ [])) (ptr_val null_ptr ∷ [], tt) $ fjoin ! $
    use0 𝓛 (raw (fact 𝓤 Is)) (fact_i 𝓤 Is (emp 𝓤) refl) $ nothing ! $ keep ! (3 ∷ 0 ∷ 2 ∷ 1 ∷ []) $
    by ! (leaves 𝓛 En tt c y word (record { at = null_ptr; held = None }) tt tt)))
