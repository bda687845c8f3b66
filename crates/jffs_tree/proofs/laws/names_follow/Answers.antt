use Rattle.jffs_tree.proofs.listing.Following.{listings_are_one, names_begin, names_follow}
use Rattle.jffs_tree.proofs.laws.names_follow.Goals as goal

pub returns : goal.returns
returns c = record {
  one = listings_are_one;
  begin = names_begin;
  follow = names_follow;
}
