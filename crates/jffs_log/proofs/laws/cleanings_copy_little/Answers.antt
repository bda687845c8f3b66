use Rattle.jffs_log.proofs.rooms.Copied.{copies_take_over, unmounts_are_dead}
use Rattle.jffs_log.proofs.rooms.Work as proof
use Rattle.jffs_log.proofs.rooms.WorkOfTurns as turns
use Rattle.jffs_log.proofs.laws.cleanings_copy_little.Goals as goal

pub returns : goal.returns
returns c = record {
  copies = proof.cleanings_copy_the_live copies_take_over;
  fits = proof.cleanings_fit_a_sector copies_take_over unmounts_are_dead;
  turn = turns.making_room_copies_little copies_take_over;
  weighs = turns.making_room_copies_the_weight copies_take_over;
  few = turns.copies_are_few;
}
