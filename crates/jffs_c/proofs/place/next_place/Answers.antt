use Rattle.std.proofs.Common.{refl, inr, ◌+◌}
use Rattle.jffs_c.proofs.Places.{is_next, has_no_next, place_is}
use Rattle.jffs_c.proofs.place.next_place.Goals as goal

pub returns-in_default-clause-none : goal.returns-in_default-clause-none
returns-in_default-clause-none c = inr (
  refl,
  has_no_next c.args.tree.now c.args.place.directory c.args.place.number c.args.place.name c.args.place.inode c.requires.place c.entry_after.result c.entry_after.ensures c.in_default.is,
)

pub returns-clause-there : goal.returns-clause-there
returns-clause-there c =
    place_is c.args.tree.now c.args.place.directory (c.args.place.number + 1) c.in-Some.entry.0 c.in-Some.entry.1 c.place_of.result c.place_of.ensures
    (is_next c.args.tree.now c.args.place.directory c.args.place.number c.args.place.name c.args.place.inode c.requires.place c.entry_after.result c.entry_after.ensures c.in-Some.entry c.in-Some.is)
