-- The threads that were started.
use Rattle.std.specs.Prelude.{◌≡◌, ◌≢◌, ℕ, false, List, [], Option, None, IsTrue, map, vec_len}
use Rattle.std.specs.declared.thread.PromisedHandle.{PromisedHandle}
use Rattle.jffs_line.specs.Line.{End}
use Rattle.jffs_line.specs.declared.hand.Hand as Hand
use Rattle.jffs_text.specs.declared.command.Command.{Command}
use Rattle.jffs_text.specs.declared.script.Writer.{Writer}
use Rattle.jffs_text.specs.declared.script.ReaderStatement.{ReaderStatement}
use Rattle.jffs_index.specs.declared.rule.Index.{Index}
use Rattle.jffs_index.specs.Ends.{index_of, publisher_index}
use Rattle.jffs_run.specs.declared.reader.ReaderStop.{ReaderStop}
use Rattle.jffs_run.specs.declared.promise.Looks.{Looks}
use Rattle.jffs_run.specs.declared.joining.Stops.{Stops}
use Rattle.jffs_run.specs.declared.promise.Writing.{Writing}
use Rattle.jffs_run.specs.declared.promise.Writing.TheVariants as writing
use Rattle.jffs_run.specs.declared.promise.Cleaning.{Cleaning}
use Rattle.jffs_run.specs.declared.promise.Cleaning.TheVariants.{Thread, Rest, Refused}
use Rattle.jffs_run.specs.declared.threads.Reserved.{Reserved}
use Rattle.jffs_run.specs.declared.threads.Running.{Running}
use Rattle.jffs_run.specs.Ends.{EachFrom, HasAt, AskForCopies, commands_at, end_of}
use Rattle.jffs_run.specs.Numbered.{Wrote}
use Rattle.jffs_run.specs.Crew.{HasRoom}

-- the thread of the reader at this slot, which looks at this index for its statement
abbrev pub IsLooking : Index → List ReaderStatement → ℕ → PromisedHandle ReaderStop Looks → Type 0
IsLooking index statements slot handle = (index_of handle.promise.reader.value ≡ index)
    × HasAt statements slot handle.promise.statement.now

-- no writer's thread stopped before its script's end, but for the log thread's end
abbrev pub IsCalm : Stops → Type 0
IsCalm stops = (stops.refused ≡ false) × (stops.memory ≡ false) × (stops.spent ≡ false)

-- room for the threads of so many writers and readers, and for what they give back
pub record IsReserved {H : Type 0} (writers readers : ℕ) (reserved : Reserved H) : Type 0 where
  pub writers_fit : HasRoom writers reserved.writers
  pub hands_fit : HasRoom writers reserved.hands
  pub readers_fit : HasRoom readers reserved.readers
  pub ends_fit : HasRoom readers reserved.ends

module _ {H : Type 0} (g : Hand.Ghosts H) where
  -- the end of the hand that a writer was given
  abbrev pub end_given : Writing H → End
  end_given (writing.Thread handle) = end_of g handle.promise.hand.value
  end_given (writing.Refused end) = end_of g end.hand

  -- these are the commands that a writer hands in, or of which it handed in the first
  abbrev pub HasWriting : List Command → Writing H → Type 0
  HasWriting commands (writing.Thread handle) = handle.promise.commands.now ≡ commands
  HasWriting commands (writing.Refused end) =
      Wrote (g.sender end.hand) commands (g.accepted end.hand) end.stop

  -- the writer at this slot, which hands in its commands
  abbrev pub IsStarted : List Writer → ℕ → Writing H → Type 0
  IsStarted script slot one = HasWriting (commands_at script slot) one

  -- the cleaner's hand, which has handed nothing in: here, or in a thread, where it is given
  -- rounds; or back from one that couldn't be made
  abbrev pub IsCleaning : Option ℕ → H → Cleaning H → Type 0
  IsCleaning rounds hand (Thread handle) = (handle.promise.hand.value ≡ hand) × (rounds ≢ None)
  IsCleaning rounds hand (Rest there) = (there ≡ hand) × (g.accepted hand ≡ [])
  IsCleaning rounds hand (Refused there) = (g.sender there ≡ g.sender hand)
      × (g.line there ≡ g.line hand) × AskForCopies rounds (g.accepted there)

  -- There is the crew's cleaner and each writer at its slot of the script, in a thread or back from
  -- one that couldn't be made. Each reader's thread is that at its slot, and where all could be
  -- made, none is left out. The control has asked for nothing so far, and there is room for what
  -- comes back.
  pub record IsRunning {F T W : Type 0} (running : Running H F T W) : Type 0 where
    pub cleaning : IsCleaning running.script.now.cleaner running.crew.value.cleaner.hand
        running.cleaning
    pub looking : EachFrom
        (IsLooking (publisher_index running.log.promise.side.value.publisher)
        running.script.now.readers.items) 0 running.looking.handles.items
    pub every : IsTrue running.looking.all
        → vec_len running.looking.handles ≡ vec_len running.script.now.readers
    pub writing : EachFrom (IsStarted running.script.now.writers.items) 0 running.writing.items
    pub given : map end_given running.writing.items
        ≡ map (end_of g) running.crew.value.writers.items
    pub control : running.control ≡ running.crew.value.control
    pub idle : g.accepted running.control.hand ≡ []
    pub hands_fit : HasRoom (vec_len running.writing) running.hands
    pub ends_fit : HasRoom (vec_len running.looking.handles) running.ends
