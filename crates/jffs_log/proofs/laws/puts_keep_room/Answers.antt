use Rattle.jffs_log.proofs.rooms.Bound as proof
use Rattle.jffs_log.proofs.laws.puts_keep_room.Goals as goal

pub returns : goal.returns
returns c = record {
  one = proof.puts_keep_erased;
  two = proof.fresh_keeps_two;
  sound = proof.puts_keep_sound;
  erased = proof.erasing_keeps_sound;
  unmount = proof.unmount_has_room;
}
