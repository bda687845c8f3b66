-- What the threads of a run are given, and what comes back.
use Rattle.std.specs.Prelude.{◌≡◌, ℕ, ◌≤◌, ◌⊎◌, List, [], ◌∷◌, ◌++◌, map, vec_len, vec_capacity}
use Rattle.std.specs.Prelude.{Vec, length, Option, None, IfSome}
use Rattle.std.specs.List.{All}
use Rattle.jffs_tree.specs.declared.wish.Wish.TheVariants.{Unmount}
use Rattle.jffs_line.specs.Line.{End, senders}
use Rattle.jffs_line.specs.declared.request.Request.{Request}
use Rattle.jffs_line.specs.Requests.{request}
use Rattle.jffs_line.specs.declared.hand.Hand as Hand
use Rattle.jffs_line.specs.declared.hand.Hands.{Hands}
use Rattle.jffs_line.specs.declared.hand.Taker as Taker
use Rattle.jffs_line.specs.Settling.{all_hands}
use Rattle.jffs_index.specs.declared.rule.Index.{Index}
use Rattle.jffs_index.specs.declared.rule.History.{History}
use Rattle.jffs_index.specs.Ends.{index_of, published}
use Rattle.jffs_serve.specs.Serving.{HasServed}
use Rattle.jffs_text.specs.declared.script.Script.{Script}
use Rattle.jffs_text.specs.declared.script.Writer.{Writer}
use Rattle.jffs_run.specs.declared.crew.Crew.{Crew}
use Rattle.jffs_run.specs.declared.crew.Finished.{Finished}
use Rattle.jffs_run.specs.declared.promise.LogSide.{LogSide}
use Rattle.jffs_run.specs.Why.{IsOfThreads}
use Rattle.jffs_run.specs.Ends.{EachFrom, AskForCopies, end_of, HandedIn, HandedInAll}
use Rattle.jffs_run.specs.Looking.{HaveSeen, IsWhole}
use Rattle.jffs_text.specs.declared.script.TheConstants.{WRITERS_MAX}

module _ {H : Type 0} (g : Hand.Ghosts H) where
  -- all hands of a crew: those of the writers in order, the cleaner's and the control's
  abbrev pub crew_hands : Crew H → List H
  crew_hands crew = crew.writers.items ++ crew.cleaner.hand ∷ crew.control.hand ∷ []

  -- a hand for each of so many writers, at most 8, and none has handed anything in
  pub record AreNew {A : Type 0} (writers : ℕ) (hands : Vec H A) : Type 0 where
    pub fresh : All (λ hand. g.accepted hand ≡ []) hands.items
    pub count : vec_len hands ≡ writers
    pub eight : vec_len hands ≤ WRITERS_MAX

  -- the crew has a hand for each writer of the script, at most 8, and a reader of this index for
  -- each of its readers, and no hand has handed anything in
  pub record IsFit (script : Script) (crew : Crew H) (index : Index) : Type 0 where
    pub writers : AreNew (vec_len script.writers) crew.writers
    pub unused : g.accepted crew.cleaner.hand ≡ []
    pub idle : g.accepted crew.control.hand ≡ []
    pub readers : vec_len crew.readers ≡ vec_len script.readers
    pub looking : All (λ reader. index_of reader ≡ index) crew.readers.items

  -- the hands are those of the crew. Each writer's handed in the first of its commands; the
  -- cleaner's asked for copies alone, and for nothing without rounds, and the control's for one
  -- Unmount at most
  pub record HasHandedIn (script : List Writer) (rounds : Option ℕ) (crew : Crew H)
      (hands : Hands H) : Type 0 where
    pub ends : map (end_of g) (all_hands hands) ≡ map (end_of g) (crew_hands crew)
    pub first : EachFrom (HandedIn g script) 0 hands.writers.items
    pub cleaner : AskForCopies rounds (g.accepted hands.cleaner)
    pub control : (g.accepted hands.control.hand ≡ [])
        ⊎ (g.accepted hands.control.hand ≡ request (g.sender hands.control.hand) 1 Unmount ∷ [])

  -- the control asked for nothing, or each writer's hand handed in all of its commands
  abbrev pub UnmountsLast : List Writer → Hands H → Type 0
  UnmountsLast script hands = (g.accepted hands.control.hand ≡ [])
      ⊎ EachFrom (HandedInAll g script) 0 hands.writers.items

module _ {H T : Type 0} (hand : Hand.Ghosts H) (taker : Taker.Ghosts T) where
  -- All threads came back: the hands handed in what the script says, the taker has the ends that it
  -- had, and the log thread served. Where nothing went wrong with threads, the Unmount came last,
  -- and each reader saw a beginning of the whole history.
  pub record HasFinished {F W : Type 0} (script : Script) (crew : Crew H) (side : LogSide F T W)
      (finished : Finished H F T W) : Type 0 where
    pub hands : HasHandedIn hand script.writers.items script.cleaner crew finished.hands
    pub whole : finished.fault ≡ None → UnmountsLast hand script.writers.items finished.hands
    pub readers : finished.fault ≡ None → (history : History)
        → IsWhole (published finished.log.side.publisher)
        (length finished.log.side.session.core.answers) history
        → HaveSeen history script.readers.items finished.readers.items
    pub named : IfSome finished.fault IsOfThreads
    pub ends : taker.ends finished.log.side.taker ≡ taker.ends side.taker
    pub served : HasServed side.session side.publisher (taker.taken side.taker)
        finished.log.side.session finished.log.side.publisher (taker.taken finished.log.side.taker)
        finished.log.served

module _ {H : Type 0} (g : Hand.Ghosts H) where
  -- the ends of a line for `writers` writers, from which nothing was handed in and nothing taken
  pub record IsNewLine (ends : List End) (taken : ℕ → List Request) (hands : Hands H)
      (writers : ℕ) : Type 0 where
    pub ends_are : ends ≡ map (end_of g) (all_hands hands)
    pub numbers : map g.sender (all_hands hands) ≡ senders writers
    pub fresh : All (λ hand. g.accepted hand ≡ []) (all_hands hands)
    pub untaken : (sender : ℕ) → taken sender ≡ []
    pub eight : writers ≤ WRITERS_MAX

-- an empty vector that takes `count` elements without memory
abbrev pub HasRoom : {X A : Type 0} → ℕ → Vec X A → Type 0
HasRoom count reserved = (reserved.items ≡ []) × (count ≤ vec_capacity reserved)
