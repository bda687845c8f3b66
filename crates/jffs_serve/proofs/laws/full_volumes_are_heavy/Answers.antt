use Rattle.jffs_serve.proofs.ChainLaws.{no_space_is_heavy_then, unmounts_have_space_then, no_space_is_heavy, unmounts_have_space}
use Rattle.jffs_serve.proofs.laws.full_volumes_are_heavy.Goals as goal

pub returns : goal.returns
returns c = record {
  fresh_then = no_space_is_heavy_then;
  unmounts_then = unmounts_have_space_then;
  fresh = no_space_is_heavy;
  unmounts = unmounts_have_space;
}
