use Rattle.jffs_log.proofs.scans.MountedLog as proof
use Rattle.jffs_log.proofs.laws.mounts_are_sound.Goals as goal

pub returns : goal.returns
returns c = proof.mounts_are_sound
