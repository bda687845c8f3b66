use Rattle.jffs_serve.proofs.ChainLaws.{replies_are_lawful}
use Rattle.jffs_serve.proofs.laws.replies_are_lawful.Goals as goal

pub returns : goal.returns
returns c = replies_are_lawful
