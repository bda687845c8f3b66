use Rattle.jffs_core.proofs.room.RoomMade as proof
use Rattle.jffs_core.proofs.answers.Stepping.{unmounts_have_room}
use Rattle.jffs_core.proofs.laws.cleaning_is_lawful.Goals as goal

pub returns : goal.returns
returns c = record { one = proof.cleaning_only_copies; stopped = proof.stopped_only_copies; turn = proof.making_room_only_copies; none = proof.no_space_is_a_step; unmounts = unmounts_have_room }
