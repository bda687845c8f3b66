use Rattle.jffs_serve.proofs.Chains.{chains_split}
use Rattle.jffs_serve.proofs.ChainLaws.{chains_end_so}
use Rattle.jffs_serve.proofs.laws.sessions_are_chains.Goals as goal

pub returns : goal.returns
returns c = record { ends = chains_end_so; splits = chains_split }
