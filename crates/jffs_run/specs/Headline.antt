-- What a run promises.
use Rattle.std.specs.Prelude.{◌≡◌, ◌≢◌, ℕ, ◌+◌, ◌<◌, ◌⊎◌, List, [], ◌∷◌, ◌++◌, length, take, map}
use Rattle.std.specs.Prelude.{cond, eqb}
use Rattle.std.specs.List.{range_with_len}
use Rattle.jffs_tree.specs.declared.wish.Wish.TheVariants.{Unmount}
use Rattle.jffs_line.specs.declared.request.Request.{Request}
use Rattle.jffs_line.specs.Requests.{of, request}
use Rattle.jffs_node.specs.declared.node.Node.{Node}
use Rattle.jffs_core.specs.CoreState.{CoreState}
use Rattle.jffs_core.specs.Past.{Represents}
use Rattle.jffs_core.specs.declared.answer.Answer.{Answer}
use Rattle.jffs_log.specs.LogIndex.{HasSizes}
use Rattle.jffs_serve.specs.Chain.{RunsTo}
use Rattle.jffs_serve.specs.Answered.{ErasesSince}
use Rattle.jffs_serve.specs.Replies.{Reply, AllReply, answer_in, any_closed, FitsServed}
use Rattle.jffs_serve.specs.Stopping.{EndsAs}
use Rattle.jffs_text.specs.Wishes.{wishes_of}
use Rattle.jffs_run.specs.Numbered.{numbered}
use Rattle.jffs_run.specs.Ends.{commands_at, AskForCopies}
use Rattle.jffs_run.specs.Looking.{HaveSeen}
use Rattle.jffs_core.specs.Past.{IsLeftBy}
use Rattle.jffs_run.specs.Account.{Account}
use Rattle.jffs_line.specs.declared.hand.TheConstants.{CLEANER, CONTROL}

-- the requests that were answered, in order
abbrev pub requests_in : List Reply → List Request
requests_in replies = map (λ (r : Reply). r.request) replies

-- the numbers of a sender's answers, in order
abbrev pub numbers_of : ℕ → List Answer → List ℕ
numbers_of sender [] = []
numbers_of sender (answer ∷ answers) =
    cond (eqb answer.writer sender) (answer.seq ∷ numbers_of sender answers)
    (numbers_of sender answers)

-- Some order of the accepted requests was answered, each once, and what each sender has waiting is
-- what it had accepted beyond that, so that its answers are numbered 1, 2, 3, ..
-- Of each writer the first of its commands were accepted, and every one if an Unmount was; of the
-- control one Unmount at most, of the cleaner copies alone, if the script has one, and no others.
-- From whatever history the core represented at the start, these requests were answered in a chain
-- of turns, to the core at the end, which left the device as it is, of the same sizes, with so many
-- erases at most.
-- How serving ended is what the answers say, of which the first that answers an Unmount is the
-- last. There is an end for each reader's statement: it saw what its path reads after a beginning
-- of the answers, from the tree at the start on, or counts as one that saw nothing.
pub record IsRun (start : CoreState) (account : Account) : Type 0 where
  pub replies : List Reply
  pub each_replies : AllReply replies
  pub answers_are : account.answers ≡ map answer_in replies
  pub each : (sender : ℕ)
      → of sender (requests_in replies) ++ of sender account.waiting ≡ account.accepted sender
  pub numbers : (sender : ℕ)
      → numbers_of sender account.answers
      ≡ range_with_len 1 (length (of sender (requests_in replies)))
  pub writers : (slot : ℕ) → slot < length account.script
      → account.accepted (slot + 1)
      ≡ numbered (slot + 1) 1
      (take (length (account.accepted (slot + 1))) (wishes_of (commands_at account.script slot)))
  pub offered : (account.accepted CONTROL ≡ [])
      ⊎ ((slot : ℕ) → slot < length account.script
      → length (account.accepted (slot + 1)) ≡ length (commands_at account.script slot))
  pub control : (account.accepted CONTROL ≡ [])
      ⊎ (account.accepted CONTROL ≡ request CONTROL 1 Unmount ∷ [])
  pub cleaner : AskForCopies account.cleaner (account.accepted CLEANER)
  pub others : (sender : ℕ) → ((slot : ℕ) → slot < length account.script → sender ≢ slot + 1)
      → sender ≢ CLEANER → sender ≢ CONTROL → account.accepted sender ≡ []
  pub core : CoreState
  pub left : IsLeftBy core account.device
  pub worn : account.wear ≡ core.wear
  pub sizes : HasSizes start.index.sectors start.index.sector_size core.index
  pub erases : ErasesSince start (length replies) core
  pub lawful : (mounted past : List Node) → Represents mounted past start
      → RunsTo start core mounted past replies
  pub ending : FitsServed account.served (any_closed account.answers) replies
  pub ends : EndsAs account.served replies
  pub seen : HaveSeen (record { opening = start.tree; steps = map (λ (r : Reply). r.step) replies })
      account.statements account.ends
