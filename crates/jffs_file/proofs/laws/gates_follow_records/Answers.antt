use Rattle.jffs_file.proofs.Losing.{gates_follow}
use Rattle.jffs_file.proofs.laws.gates_follow_records.Goals as goal

pub returns : goal.returns
returns c = gates_follow
