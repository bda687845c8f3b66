-- Lemmas on what a fault hands back.
use Rattle.std.proofs.Common.{◌≡◌, ◌≢◌, ◌⊎◌, inl, inr, refl, sym, subst, Some, List}
use Rattle.std.specs.Global.{Vec}
use Rattle.jffs_flash.specs.declared.flash.Flash as Flash
use Rattle.jffs_core.specs.declared.answer.Answer.{Answer}
use Rattle.jffs_run.specs.declared.fault.RunFault.{RunFault}
use Rattle.jffs_run.specs.declared.fault.RunWhy.{RunWhy}
use Rattle.jffs_run.specs.declared.fault.RunWhy.TheVariants.{Mount, Line, Index, Settle, Memory}
use Rattle.jffs_run.specs.Faults.{GivesBack, Rest}
use Rattle.jffs_run.specs.Why.{IsOfThreads}

module _ {F : Type 0} (g : Flash.Ghosts F) where
  -- what a fault with this device and these answers hands back
  abbrev pub rest_of : F → List Answer → Rest
  rest_of flash answers = record { device = g.device flash; wear = g.wear flash; answers = answers }

  -- a fault with the device
  pub gives_back :
      (IsSo : RunWhy → Rest → Type 0) (why : RunWhy) (flash : F) (answers : Vec Answer) (fault : RunFault F)
      → fault ≡ record { why = why; flash = Some flash; answers = answers } → IsSo why (rest_of flash answers.items) → GivesBack g IsSo fault
  gives_back IsSo why flash answers fault is so =
      subst (λ (f : RunFault F). GivesBack g IsSo f) (sym is) (record { flash = flash; back = refl; so = so })

  -- what is handed back may be said otherwise
  pub gives_back_so :
      (IsSo IsThus : RunWhy → Rest → Type 0) (fault : RunFault F) → ((why : RunWhy) (rest : Rest) → IsSo why rest → IsThus why rest)
      → GivesBack g IsSo fault → GivesBack g IsThus fault
  gives_back_so IsSo IsThus fault weaker given =
      record { flash = given.flash; back = given.back; so = weaker fault.why (rest_of given.flash fault.answers.items) given.so }

-- a name that is neither Mount nor Index nor Line
pub record IsLater (why : RunWhy) : Type 0 where
  pub mounted : why ≢ Mount
  pub opened : (why ≡ Index) ⊎ (why ≡ Line) → ⊥

-- no name of another fault is Mount
pub line_mounted : Line ≢ Mount
line_mounted mount = cc

pub index_mounted : (why : RunWhy) → (why ≡ Index) ⊎ (why ≡ Memory) → why ≢ Mount
index_mounted why named mount = elim named [
  | inl index ↦ cc
  | inr memory ↦ cc
]

-- so are the names of what may go wrong once threads are started
pub threads_later : (why : RunWhy) → IsOfThreads why ⊎ (why ≡ Settle) → IsLater why
threads_later why (inl (inl spawn)) = record { mounted = λ is. cc; opened = λ is. elim is [ inl index ↦ cc | inr line ↦ cc ] }
threads_later why (inl (inr (inl numbers))) = record { mounted = λ is. cc; opened = λ is. elim is [ inl index ↦ cc | inr line ↦ cc ] }
threads_later why (inl (inr (inr memory))) = record { mounted = λ is. cc; opened = λ is. elim is [ inl index ↦ cc | inr line ↦ cc ] }
threads_later why (inr settle) = record { mounted = λ is. cc; opened = λ is. elim is [ inl index ↦ cc | inr line ↦ cc ] }
