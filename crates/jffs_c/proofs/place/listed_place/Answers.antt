use Rattle.std.proofs.Common.{refl, sym, inr, length}
use Rattle.std.proofs.lemmas.Bool.{ltb-false}
use Rattle.std.proofs.lemmas.Option.{slice_get_read}
use Rattle.jffs_c.proofs.Places.{listed_at, listed_fewer, place_is}
use Rattle.jffs_c.proofs.place.listed_place.Goals as goal

pub returns-in_default-get-clause-none : goal.returns-in_default-get-clause-none
returns-in_default-get-clause-none c = inr (
  refl,
  listed_fewer c.args.tree.now c.args.directory c.args.number c.in-Ok.names.items c.deref.result.now c.deref.ensures.value c.in-Ok.ensures.all
      (ltb-false c.args.number (length c.deref.result.now) (sym c.in_default-get.ensures.lookup.0)),
)

pub returns-clause-there : goal.returns-clause-there
returns-clause-there c =
    place_is c.args.tree.now c.args.directory c.args.number c.in-Some.entry.now.0 c.in-Some.entry.now.1 c.place_of.result c.place_of.ensures
    (listed_at c.args.tree.now c.args.directory c.args.number c.in-Ok.names.items c.deref.result.now c.deref.ensures.value c.in-Ok.ensures.all
    c.in-Some.entry.now c.in-Ok.ensures.ordered
    (slice_get_read c.deref.result.now (length c.deref.result.now) c.args.number c.in-Some.entry.now refl c.in-Some.ensures.lookup.3.0
    (c.in-Some.ensures.lookup.3.1 c.in-Some.entry.now)))
