use Rattle.std.proofs.Common.{◌≤◌, ◌+◌, length, arith}
use Rattle.jffs_node.specs.Record.{file_max}
use Rattle.jffs_inodes.proofs.files.Splitting.{LastBefore, last_before, last_fits, none_begins_before}
use Rattle.jffs_inodes.proofs.files.Reading.{none_holds_from, held_by_last}
use Rattle.jffs_inodes.proofs.piece.holding.Goals as goal
use Rattle.jffs_inodes.proofs.piece.holding.Goals.{In-Some}

pub returns-in_default-clause-none : goal.returns-in_default-clause-none
returns-in_default-clause-none c =
    none_holds_from c.args.at c.args.fragments.now.entries
    (none_begins_before (c.args.at + 1) c.args.fragments.now.entries c.in_default.ensures.none)

-- the last fragment that begins at the offset or before it
last : (c : In-Some) → LastBefore (c.args.at + 1) c.in-Some.first c.in-Some.fragment.now c.args.fragments.now.entries
last c = last_before (c.args.at + 1) c.args.fragments.now.entries c.in-Some.ensures.last.0 c.in-Some.first c.in-Some.fragment.now c.in-Some.ensures.last.1

fits : (c : In-Some) → c.in-Some.first + length c.in-Some.fragment.now.bytes ≤ file_max
fits c = last_fits file_max (c.args.at + 1) c.in-Some.first c.in-Some.fragment.now c.args.fragments.now.entries c.requires.laid (last c)

pub len-requires : goal.len-requires
len-requires c = let b = fits (goal.at.len-requires c).In-Some in omega arith

pub overflow_add-first : goal.overflow_add-first
overflow_add-first c = let b = fits (goal.at.overflow_add-first c).In-Some in omega arith

pub returns-else-at-first-clause-none : goal.returns-else-at-first-clause-none
returns-else-at-first-clause-none c =
    held_by_last file_max c.args.at c.in-Some.first c.in-Some.fragment.now c.args.fragments.now.entries c.requires.laid (last (goal.at.returns-else-at-first-clause-none c).In-Some) (omega arith)
