-- What a reader of a run saw besides the answer that it waited for.
use Rattle.std.specs.Prelude.{◌≡◌, ◌⊎◌, ℕ, List, ◌∷◌, ◌++◌, map}
use Rattle.jffs_inodes.specs.Inodes.{Tree}
use Rattle.jffs_index.specs.declared.rule.History.{History}
use Rattle.jffs_index.specs.Histories.{view_of}
use Rattle.jffs_core.specs.CoreState.{CoreState}
use Rattle.jffs_serve.specs.Replies.{Reply}
use Rattle.jffs_text.specs.declared.script.ReaderStatement.{ReaderStatement}
use Rattle.jffs_run.specs.declared.reader.ReaderEnd.{ReaderEnd}
use Rattle.jffs_run.specs.declared.reader.ReaderEnd.TheVariants.{NotSeen}
use Rattle.jffs_run.specs.Account.{Account}
use Rattle.jffs_run.specs.Ends.{EachFrom, HasAt}
use Rattle.jffs_run.specs.Looking.{FitsPath}
use Rattle.jffs_run.specs.Headline.{IsRun}

-- the steps of these replies, over this tree
abbrev pub history_of : Tree → List Reply → History
history_of tree replies =
    record { opening = tree; steps = map (λ (r : Reply). r.step) replies }

-- The awaited answer is one of these replies. The path was read in the tree that this reply, all
-- before it and some after it made.
pub record SawReply (opening : Tree) (replies : List Reply) (statement : ReaderStatement)
    (end : ReaderEnd) : Type 0 where
  pub before : List Reply
  pub reply : Reply
  pub after : List Reply
  pub rest : List Reply
  pub replies_are : replies ≡ (before ++ reply ∷ after) ++ rest
  pub writer_is : reply.step.writer ≡ statement.writer
  pub number_is : reply.step.seq ≡ statement.seq
  pub read : FitsPath (view_of (history_of opening (before ++ reply ∷ after))) statement.path end

-- so was it by the reader of the statement at this slot, unless it saw nothing
abbrev pub SawReplyOrNone : Tree → List Reply → List ReaderStatement → ℕ → ReaderEnd → Type 0
SawReplyOrNone opening replies statements slot end = (end ≡ NotSeen)
    ⊎ ((statement : ReaderStatement) × HasAt statements slot statement
    × SawReply opening replies statement end)

-- Each reader that saw anything saw all that the awaited request and those before it did.
abbrev pub ReadersSeeAnswers : Type 0
ReadersSeeAnswers = (start : CoreState) (account : Account) (run : IsRun start account)
    → EachFrom (SawReplyOrNone start.tree run.replies account.statements) 0 account.ends
