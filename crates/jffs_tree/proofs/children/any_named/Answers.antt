use Rattle.jffs_tree.proofs.listing.Indexed.{low_in_directory}
use Rattle.jffs_tree.proofs.children.any_named.Goals as goal

pub returns-in-None-clause-none : goal.returns-in-None-clause-none
returns-in-None-clause-none c = λ _ q at. (c.range-rest.ensures.in_range tt).5 c.in-None.ensures.steps.0 q (low_in_directory c.args.parent q at, tt)
