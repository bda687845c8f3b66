use Rattle.jffs_log.proofs.rooms.Copied.{copies_take_over, unmounts_are_dead}
use Rattle.jffs_log.proofs.rooms.Bound as proof
use Rattle.jffs_log.proofs.rooms.Loop.{handled_in_parts, oldest_stays}
use Rattle.jffs_log.proofs.laws.cleaning_keeps_room.Goals as goal

pub returns : goal.returns
returns c = record {
  one = proof.cleaning_has_room copies_take_over unmounts_are_dead;
  stopped = proof.cleaning_may_stop copies_take_over unmounts_are_dead;
  parts = handled_in_parts;
  oldest = oldest_stays;
  turn = proof.making_room_keeps_sound copies_take_over unmounts_are_dead;
  few = proof.cleanings_are_few copies_take_over unmounts_are_dead;
}
