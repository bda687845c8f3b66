-- What the answers of a run copy, program and erase.
use Rattle.jffs_core.proofs.answers.Working.{answers_copy_little, answers_program_little}
use Rattle.jffs_run.specs.Work.{RunsWorkLittle}
use Rattle.jffs_run.proofs.promises.Turns.{turn_in}

pub runs_work_little : RunsWorkLittle
runs_work_little before start account fresh run first later r are =
    let turn = turn_in fresh run first r later are in
    let at = turn.within in
    let erases = at.replied.erases in
    let answers = at.replied.answer.answers in (
      turn,
      record {
        copied = answers_copy_little _ r.request r.step.outcome _ answers.step;
        programmed = answers_program_little _ _ at.was at.now r.request r.step.outcome answers;
        erased = erases.erases;
      },
    )
