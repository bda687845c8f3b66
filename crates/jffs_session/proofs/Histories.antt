-- What a mounted core represents after each call.
use Rattle.std.proofs.Common.{◌≡◌, inl, inr, ℕ, List, [], sym, subst}
use Rattle.jffs_node.specs.declared.node.Node.{Node}
use Rattle.jffs_flash.specs.Device.{Device}
use Rattle.jffs_line.specs.declared.request.Request.{Request}
use Rattle.jffs_tree.specs.declared.wish.Wish.{Wish}
use Rattle.jffs_tree.specs.declared.wish.Cause.{Cause}
use Rattle.jffs_tree.specs.declared.wish.Outcome.{Outcome}
use Rattle.jffs_core.specs.declared.answer.Answer.{Answer}
use Rattle.jffs_core.specs.declared.cleaning.Cleaned.{Cleaned}
use Rattle.jffs_core.specs.CoreState.{CoreState, IsSameButCapacity}
use Rattle.jffs_core.specs.Past.{Represents, IsFresh}
use Rattle.jffs_core.specs.Asking.{IsAsked}
use Rattle.jffs_core.specs.Answering.{Answers}
use Rattle.jffs_core.specs.Cleaning.{Cleans, Stops, ErasesDead, ErasingStopped}
use Rattle.jffs_session.specs.Session.{IsMounted}
use Rattle.jffs_session.specs.Told.{Asks}

-- what is said of a core but its answers and their capacity stays
renewed : (mounted past : List Node) (c : CoreState) (answers : List Answer) (capacity : ℕ) → Represents mounted past c
    → Represents mounted past (record c { answers = answers; capacity = capacity })
renewed mounted past c answers capacity r =
    let s = r.stands in
    record {
      grown = r.grown;
      stands = record {
        working = λ w. s.working w;
        broken = λ f. let h = s.broken f in record { clean = h.clean; tree = h.tree; left = h.left; erasing = h.erasing };
      };
    }

pub but_capacity : (mounted past : List Node) (old new : CoreState) → IsSameButCapacity old new → Represents mounted past old → Represents mounted past new
but_capacity mounted past old new same r = subst (Represents mounted past) (sym same) (renewed mounted past old old.answers new.capacity r)

but_answers : (mounted past : List Node) (old new : CoreState) → new ≡ record old { answers = [] } → Represents mounted past old → Represents mounted past new
but_answers mounted past old new same r = subst (Represents mounted past) (sym same) (renewed mounted past old [] old.capacity r)

pub fresh_mounted : (device : Device) (c : CoreState) → IsFresh device c → IsMounted c
fresh_mounted device c f = record { mounted = _; past = _; represents = f.stands }

-- how a request was answered, of the history that there was
pub answered : (q : Request) (o : Outcome) (old new : CoreState) (a : IsAsked q o old new) (mounted past : List Node) → Represents mounted past old
    → Answers mounted past a.reserved a.answered q o
answered q o old new a mounted past r = a.step mounted past (but_capacity mounted past old a.reserved a.room r)

asked_mounted : (q : Request) (o : Outcome) (old new : CoreState) → IsAsked q o old new → IsMounted old → IsMounted new
asked_mounted q o old new a m =
    let s = answered q o old new a m.mounted m.past m.represents in
    record { mounted = m.mounted; past = s.after; represents = but_answers m.mounted s.after a.answered new a.let_go s.stands }

pub asks_mounted : (wish : Wish) (o : Outcome) (old new : CoreState) → Asks wish o old new → IsMounted old → IsMounted new
asks_mounted wish o old new (inl asked) m = asked_mounted asked.0 o old new asked.2 m
asks_mounted wish o old new (inr unasked) m =
    record { mounted = m.mounted; past = m.past; represents = but_capacity m.mounted m.past old new unasked.1 m.represents }

pub erased_mounted : (old new : CoreState) (count : ℕ) → ((mounted past : List Node) → Represents mounted past old → ErasesDead mounted past count old new) → IsMounted old → IsMounted new
erased_mounted old new count h m = let e = h m.mounted m.past m.represents in record { mounted = m.mounted; past = m.past; represents = e.stands }

pub unerased_mounted : (old new : CoreState) (cause : Cause) → ErasingStopped cause old new → IsMounted old → IsMounted new
unerased_mounted old new cause h m = record { mounted = m.mounted; past = m.past; represents = (h.history m.mounted m.past m.represents).0 }

pub cleaned_mounted : (old new : CoreState) (done : Cleaned) → ((mounted past : List Node) → Represents mounted past old → Cleans mounted past done old new) → IsMounted old → IsMounted new
cleaned_mounted old new done h m = let c = h m.mounted m.past m.represents in record { mounted = m.mounted; past = c.after; represents = c.stands }

pub uncleaned_mounted : (old new : CoreState) (cause : Cause) → ((mounted past : List Node) → Represents mounted past old → Stops mounted past cause old new) → IsMounted old → IsMounted new
uncleaned_mounted old new cause h m = let s = h m.mounted m.past m.represents in record { mounted = m.mounted; past = s.after; represents = s.stands }
