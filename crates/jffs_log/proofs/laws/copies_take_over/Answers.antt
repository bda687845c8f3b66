use Rattle.jffs_log.proofs.rooms.Copied as proof
use Rattle.jffs_log.proofs.rooms.Bound.{copies_keep_sound, handled_are_dead}
use Rattle.jffs_log.proofs.laws.copies_take_over.Goals as goal

pub returns : goal.returns
returns c = record {
  copies = proof.copies_take_over;
  unmounts = proof.unmounts_are_dead;
  sound = copies_keep_sound proof.copies_take_over;
  dead = handled_are_dead proof.copies_take_over;
}
