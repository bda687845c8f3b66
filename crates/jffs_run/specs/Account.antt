-- What a run was given, and what came of it.
use Rattle.std.specs.Prelude.{ℕ, List, Option}
use Rattle.jffs_flash.specs.declared.flash.Flash as Flash
use Rattle.jffs_line.specs.declared.request.Request.{Request}
use Rattle.jffs_core.specs.declared.answer.Answer.{Answer}
use Rattle.jffs_serve.specs.declared.session.Served.{Served}
use Rattle.jffs_text.specs.declared.script.Script.{Script}
use Rattle.jffs_text.specs.declared.script.Writer.{Writer}
use Rattle.jffs_text.specs.declared.script.ReaderStatement.{ReaderStatement}
use Rattle.jffs_run.specs.declared.outcome.Run.{Run}
use Rattle.jffs_run.specs.declared.reader.ReaderEnd.{ReaderEnd}
use Rattle.jffs_flash.specs.Device.{Device}
use Rattle.jffs_flash.specs.Wear.{Wear}

-- The writers, the cleaner's rounds and the readers' statements of a script; what each sender had
-- accepted, all answers, what waits, what became of each reader, what was served, and the device at
-- the end, with what it counts of its wear.
pub record Account : Type 0 where
  pub script : List Writer
  pub cleaner : Option ℕ
  pub statements : List ReaderStatement
  pub accepted : ℕ → List Request
  pub answers : List Answer
  pub waiting : List Request
  pub ends : List ReaderEnd
  pub served : Served
  pub device : Device
  pub wear : Wear

-- the account of a run of this script, whose senders had accepted this
abbrev pub account_of : {F A : Type 0} → Flash.Ghosts F → Script → (ℕ → List Request) → Run F A
    → Account
account_of g script accepted run = record {
  script = script.writers.items;
  cleaner = script.cleaner;
  statements = script.readers.items;
  accepted = accepted;
  answers = run.answers.items;
  waiting = run.waiting.items;
  ends = run.readers.items;
  served = run.served;
  device = g.device run.flash;
  wear = g.wear run.flash;
}
