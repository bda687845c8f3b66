use Rattle.std.proofs.KnownBytes.{Appends-nil, Appends-trans}
use Rattle.jffs_program.proofs.Printed.{up_to_none, up_to_next}
use Rattle.jffs_program.proofs.printing.print_answers.Goals as goal

pub loop-before-init : goal.loop-before-init
loop-before-init g c = rw (up_to_none c.args.answers.now) (Appends-nil _)

pub loop-before-preserved : goal.loop-before-preserved
loop-before-preserved g c = rw (up_to_next c.loop-before.before c.args.answers.now) (Appends-trans _ _ _ _ _ c.loop-before.invariant c.in_ok-print_answers_of.ensures)
