-- What a session has answered since some moment, and what it has sent of it.
use Rattle.std.specs.Prelude.{◌≡◌, ◌≤◌, ◌+◌, ◌*◌, ◌||◌, ℕ, true}
use Rattle.std.specs.Prelude.{false, List, ◌++◌, length, map, Option}
use Rattle.std.specs.List.{AllByRecursion}
use Rattle.jffs_line.specs.declared.request.Request.{Request}
use Rattle.jffs_line.specs.Requests.{of}
use Rattle.jffs_index.specs.declared.step.Step.{Step}
use Rattle.jffs_node.specs.declared.node.Node.{Node}
use Rattle.jffs_log.specs.LogIndex.{HasSizes}
use Rattle.jffs_core.specs.CoreState.{CoreState}
use Rattle.jffs_core.specs.Past.{Represents}
use Rattle.jffs_serve.specs.declared.session.PendingStep.{PendingStep}
use Rattle.jffs_serve.specs.declared.session.Served.{Served}
use Rattle.jffs_serve.specs.declared.session.Session.{Session}
use Rattle.jffs_serve.specs.PendingStep.{unput}
use Rattle.jffs_serve.specs.Stopping.{owed, ending_in, StopsAt}
use Rattle.jffs_serve.specs.Replies.{Reply, Replies, answer_in, any_closed}
use Rattle.jffs_serve.specs.Chain.{KeepsHistory, RunsTo}

-- What stood at that moment: the requests taken of each sender, the core, and the steps put, with
-- the one that was still to be put.
pub record Start : Type 0 where
  pub taken : ℕ → List Request
  pub core : CoreState
  pub put : List Step

-- the moment at which a session was so
abbrev pub start_of : {F : Type 0} → Session F → List Step → (ℕ → List Request) → Start
start_of session put taken =
    record { taken = taken; core = session.core; put = put ++ unput session.unsent }

-- No more sectors were erased since the start than held the log then, and for each answer as many
-- as there are. While the core works, those that hold the log now are counted in.
pub record ErasesSince (start : CoreState) (answers : ℕ) (core : CoreState) : Type 0 where
  pub erases : core.index.erases
      ≤ start.index.erases + start.index.held + answers * start.index.sectors
  pub held : core.failed ≡ false
      → core.index.erases + core.index.held
      ≤ start.index.erases + start.index.held + answers * start.index.sectors

-- These replies were made since: all that was taken, each of them once; and each is put, or unsent,
-- in order. A core that had failed stays as it was. From whatever history the core represented, the
-- replies are the turns of a chain.
pub record HasReplied (start : Start) (core : CoreState) (unsent : Option PendingStep)
    (put : List Step) (taken : ℕ → List Request) (replies : List Reply) : Type 0 where
  pub all_taken : (w : ℕ) → taken w ≡ start.taken w ++ of w (map (λ (r : Reply). r.request) replies)
  pub answered : core.answers ≡ start.core.answers ++ map answer_in replies
  pub sent : put ++ unput unsent ≡ start.put ++ map (λ (r : Reply). r.step) replies
  pub reply : AllByRecursion Replies replies
  pub closed : core.closed ≡ (start.core.closed || any_closed (map answer_in replies))
  pub failed : start.core.failed ≡ true
      → (core.failed ≡ true) × (core.index ≡ start.core.index)
  pub sizes : HasSizes start.core.index.sectors start.core.index.sector_size core.index
  pub erases : ErasesSince start.core (length replies) core
  pub lawful : (mounted past : List Node) → Represents mounted past start.core
      → RunsTo start.core core mounted past replies

-- What was replied up to some moment, and then what was replied from there on, was replied since
-- the start.
abbrev pub SessionsGoOn : Type 0
SessionsGoOn =
    (start : Start) (old new : CoreState) (unsent unsent' : Option PendingStep)
    (put put' : List Step) (taken taken' : ℕ → List Request) (first second : List Reply)
    → HasReplied start old unsent put taken first
    → HasReplied (record { taken = taken; core = old; put = put ++ unput unsent }) new unsent' put'
    taken' second
    → HasReplied start new unsent' put' taken' (first ++ second)

module _ {F : Type 0} where
  -- From one moment of a session to a later one more replies were made, up to the first by which
  -- serving has to end; and where it ends, it ends as they say.
  abbrev pub RepliesMore : Session F → List Step → (ℕ → List Request) → Session F → List Step
      → (ℕ → List Request) → Option Served → Type 0
  RepliesMore old put_before taken_before new put_now taken_now ending =
      (replies : List Reply)
      × HasReplied (start_of old put_before taken_before) new.core new.unsent put_now taken_now
      replies
      × StopsAt (owed old.core old.unsent) replies (ending_in ending new.core new.unsent)

  -- the same replies, the same left to be sent, and the same history
  abbrev pub HasSameReplies : Session F → Session F → Type 0
  HasSameReplies old new = (new.core.answers ≡ old.core.answers)
      × (new.core.closed ≡ old.core.closed) × (new.unsent ≡ old.unsent)
      × KeepsHistory old.core new.core
