use Rattle.jffs_core.proofs.answers.Working.{answers_copy_little, answers_program_little, refused_add_nothing}
use Rattle.jffs_core.proofs.laws.answers_copy_little.Goals as goal

pub returns : goal.returns
returns c = record { copies = answers_copy_little; programs = answers_program_little; refused = refused_add_nothing }
