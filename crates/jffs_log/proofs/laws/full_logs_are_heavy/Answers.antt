use Rattle.jffs_log.proofs.rooms.Copied.{copies_take_over, unmounts_are_dead}
use Rattle.jffs_log.proofs.rooms.Bound as proof
use Rattle.jffs_log.proofs.Parts.{logs_weigh_less, versions_follow, puts_are_newest, erased_are_oldest}
use Rattle.jffs_log.proofs.laws.full_logs_are_heavy.Goals as goal

pub returns : goal.returns
returns c = record {
  heavy = proof.full_logs_are_heavy copies_take_over unmounts_are_dead;
  filled = proof.full_logs_fill copies_take_over unmounts_are_dead;
  part = logs_weigh_less;
  newest = puts_are_newest;
  oldest = erased_are_oldest;
  versions = versions_follow;
}
