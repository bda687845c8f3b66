-- What the end of a run says of what was accepted.
use Rattle.std.specs.Prelude.{◌≡◌, ℕ, ◌+◌, ◌<◌, ◌⊎◌, List, [], ◌∷◌, length}
use Rattle.jffs_tree.specs.declared.wish.Wish.TheVariants.{Unmount}
use Rattle.jffs_tree.specs.declared.wish.Outcome.{Outcome}
use Rattle.jffs_tree.specs.declared.wish.Outcome.TheVariants.{Closed, Refused}
use Rattle.jffs_line.specs.declared.request.Request.{Request}
use Rattle.jffs_line.specs.Requests.{request}
use Rattle.jffs_core.specs.CoreState.{CoreState}
use Rattle.jffs_serve.specs.declared.session.Served.{Served}
use Rattle.jffs_serve.specs.declared.session.Served.TheVariants as served
use Rattle.jffs_serve.specs.Replies.{Reply}
use Rattle.jffs_text.specs.declared.script.Writer.{Writer}
use Rattle.jffs_text.specs.Wishes.{wishes_of}
use Rattle.jffs_run.specs.Numbered.{numbered}
use Rattle.jffs_run.specs.Ends.{commands_at}
use Rattle.jffs_flash.specs.Device.{Device}
use Rattle.jffs_core.specs.Past.{IsFresh}
use Rattle.jffs_run.specs.Account.{Account}
use Rattle.jffs_run.specs.Headline.{IsRun}
use Rattle.jffs_line.specs.declared.hand.TheConstants.{CONTROL}

-- all commands of every writer were accepted
abbrev pub TookAll : List Writer → (ℕ → List Request) → Type 0
TookAll script accepted =
    (slot : ℕ) → slot < length script
    → accepted (slot + 1) ≡ numbered (slot + 1) 1 (wishes_of (commands_at script slot))

-- the control's Unmount was answered so
abbrev pub AnswersUnmount : List Reply → Outcome → Type 0
AnswersUnmount [] outcome = ⊥
AnswersUnmount (r ∷ replies) outcome =
    ((r.request ≡ request CONTROL 1 Unmount) × (r.step.outcome ≡ outcome))
    ⊎ AnswersUnmount replies outcome

-- where Closed or NotClosed was served, the Unmount was answered so, and all commands were accepted
abbrev pub FitsEnd : Served → List Writer → (ℕ → List Request) → List Reply → Type 0
FitsEnd served.Closed script accepted replies =
    AnswersUnmount replies Closed × TookAll script accepted
FitsEnd (served.NotClosed cause) script accepted replies =
    AnswersUnmount replies (Refused cause) × TookAll script accepted
FitsEnd served.Ended script accepted replies = Unit {0}
FitsEnd served.Memory script accepted replies = Unit {0}

-- Each run from a mount on ends so.
abbrev pub RunsEndUnmounted : Type 0
RunsEndUnmounted = (before : Device) (start : CoreState) (account : Account)
    (fresh : IsFresh before start) (run : IsRun start account)
    → FitsEnd account.served account.script account.accepted run.replies
