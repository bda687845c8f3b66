use Rattle.jffs_index.proofs.Seen.{answers_show_their_nodes, answers_are_counted}
use Rattle.jffs_index.proofs.laws.views_show_answers.Goals as goal

pub returns-clause-shown : goal.returns-clause-shown
returns-clause-shown c = answers_show_their_nodes

pub returns-clause-counted : goal.returns-clause-counted
returns-clause-counted c = answers_are_counted
