use Rattle.std.proofs.Common.{◌≡◌, take, length}
use Rattle.jffs_text.specs.Wishes.{wishes_of}
use Rattle.jffs_run.specs.Numbered.{numbered}
use Rattle.jffs_run.proofs.writer.run_writer.Given as goal

-- as many were accepted as commands were gone through
abbrev pub invariant-loop-command : goal.invariant-loop-command
invariant-loop-command g l = record {
  sender : g.H.Hand.sender l.hand ≡ g.H.Hand.sender l.fn.hand;
  line : g.H.Hand.line l.hand ≡ g.H.Hand.line l.fn.hand;
  count : length (g.H.Hand.accepted l.hand) ≡ l.command-index;
  accepted : g.H.Hand.accepted l.hand ≡ numbered (g.H.Hand.sender l.fn.hand) 1 (take l.command-index (wishes_of l.commands));
}
