use Rattle.std.proofs.Common.{refl, inr}
use Rattle.jffs_c.proofs.Places.{is_first, has_none, place_is}
use Rattle.jffs_c.proofs.place.first_place.Goals as goal

pub returns-in_default-clause-none : goal.returns-in_default-clause-none
returns-in_default-clause-none c = inr (refl, has_none c.args.tree.now c.args.directory c.entry_after.result c.entry_after.ensures c.in_default.is)

pub returns-clause-there : goal.returns-clause-there
returns-clause-there c =
    place_is c.args.tree.now c.args.directory 0 c.in-Some.entry.0 c.in-Some.entry.1 c.place_of.result c.place_of.ensures
    (is_first c.args.tree.now c.args.directory c.entry_after.result c.entry_after.ensures c.in-Some.entry c.in-Some.is)
