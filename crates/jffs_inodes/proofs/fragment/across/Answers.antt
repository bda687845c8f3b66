use Rattle.std.proofs.Common.{◌≤◌, ◌+◌, ◌∙◌, length, ⊎_elim, sym, arith}
use Rattle.jffs_inodes.proofs.files.Splitting.{LastBefore, at_or_before, last_before, last_fits, cut_by_last, cut_past, all_later, cut_if_all_from, none_begins_before}
use Rattle.jffs_inodes.proofs.fragment.across.Goals as goal
use Rattle.jffs_inodes.proofs.fragment.across.Goals.{In-Some}

pub returns-then-at-eq0-clause-none : goal.returns-then-at-eq0-clause-none
returns-then-at-eq0-clause-none c =
    let es = c.args.fragments.now.entries in
    ⊎_elim
    (λ first. cut_if_all_from c.args.at es (all_later 0 c.args.size c.args.at es c.requires.laid.0 (omega arith)))
    (λ last. cut_past 0 c.args.size c.args.at es c.requires.laid.0 last.1)
    c.then-at-eq0.either

pub returns-in_default-clause-none : goal.returns-in_default-clause-none
returns-in_default-clause-none c =
    cut_if_all_from c.args.at c.args.fragments.now.entries
    (none_begins_before c.args.at c.args.fragments.now.entries (sym (at_or_before c.args.at c.args.fragments.now.entries (omega arith)) ∙ c.in_default.ensures.none))

-- the last fragment that begins before the offset
last : (c : In-Some) → LastBefore c.args.at c.in-Some.first c.in-Some.fragment.now c.args.fragments.now.entries
last c =
    last_before c.args.at c.args.fragments.now.entries c.in-Some.ensures.last.0 c.in-Some.first c.in-Some.fragment.now
    (sym (at_or_before c.args.at c.args.fragments.now.entries (omega arith)) ∙ c.in-Some.ensures.last.1)

fits : (c : In-Some) → c.in-Some.first + length c.in-Some.fragment.now.bytes ≤ c.args.size
fits c = last_fits c.args.size c.args.at c.in-Some.first c.in-Some.fragment.now c.args.fragments.now.entries c.requires.laid.0 (last c)

pub len-requires : goal.len-requires
len-requires c = let b = fits (goal.at.len-requires c).In-Some in omega arith

pub overflow_add-first : goal.overflow_add-first
overflow_add-first c = let b = fits (goal.at.overflow_add-first c).In-Some in omega arith

pub returns-else-at-first-clause-none : goal.returns-else-at-first-clause-none
returns-else-at-first-clause-none c =
    cut_by_last c.args.size c.args.at c.in-Some.first c.in-Some.fragment.now c.args.fragments.now.entries c.requires.laid.0 (last (goal.at.returns-else-at-first-clause-none c).In-Some) (omega arith)
