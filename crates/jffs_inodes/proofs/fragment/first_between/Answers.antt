use Rattle.std.proofs.Common.{arith}
use Rattle.jffs_inodes.proofs.files.Taking.{none_from_here, first_too_late}
use Rattle.jffs_inodes.proofs.fragment.first_between.Goals as goal

pub returns-in_default-clause-none : goal.returns-in_default-clause-none
returns-in_default-clause-none c = none_from_here c.args.from c.args.to c.args.fragments.now.entries c.in_default.ensures.none

pub returns-else-first-to-clause-none : goal.returns-else-first-to-clause-none
returns-else-first-to-clause-none c = first_too_late c.args.from c.args.to c.args.fragments.now.entries c.in-Some.ensures.first.0 _ _ c.in-Some.ensures.ordered c.in-Some.ensures.first.1 c.if-first-to.false

pub returns-then-first-to-clause-least : goal.returns-then-first-to-clause-least
returns-then-first-to-clause-least c = first_too_late c.args.from c.in-Some.first c.args.fragments.now.entries c.in-Some.ensures.first.0 c.in-Some.first _ c.in-Some.ensures.ordered c.in-Some.ensures.first.1 (omega arith)
