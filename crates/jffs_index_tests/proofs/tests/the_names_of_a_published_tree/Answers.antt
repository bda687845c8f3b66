use Rattle.jffs_index_tests.proofs.tests.the_names_of_a_published_tree.Goals as goal

pub move_about-requires : goal.move_about-requires
move_about-requires g c = c.in_ok-source.ensures.tree
