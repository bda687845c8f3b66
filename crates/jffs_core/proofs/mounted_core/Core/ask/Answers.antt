use Rattle.std.proofs.Common.{rules}
use Rattle.jffs_core.proofs.mounted_core.Core.ask.Goals as goal

pub returns-clause-asked : goal.returns-clause-asked
returns-clause-asked g c = record {
  reserved = c.reserve_answer.new.self;
  room = c.reserve_answer.ensures.same;
  answered = c.answer-outcome.new.self;
  kept = c.answer-outcome.ensures.kept;
  step = c.answer-outcome.ensures.step;
  bounded = c.answer-outcome.ensures.bounded;
  let_go = search rules;
}
