use Rattle.jffs_core.proofs.mounted_core.Core.answer.Goals as goal

pub returns-clause-step : goal.returns-clause-step
returns-clause-step g c = λ mounted past stands. let a = c.answer_with_node.ensures.step mounted past stands in a.answers
