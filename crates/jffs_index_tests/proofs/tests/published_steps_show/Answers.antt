use Rattle.jffs_index_tests.proofs.tests.published_steps_show.Goals as goal

pub steps_show-requires-clause-tree : goal.steps_show-requires-clause-tree
steps_show-requires-clause-tree g c = c.in_ok-source.ensures.tree
