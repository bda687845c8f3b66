use Rattle.std.proofs.Common.{◌∙◌}
use Rattle.jffs_line.proofs.Ringing.{within, numbers_kept, ends_kept, taken_kept}
use Rattle.jffs_line.proofs.rings.RingTaker.look_at.Goals as goal

pub invariant_of-self : goal.invariant_of-self
invariant_of-self c = record {
  some = c.args.self.now.some;
  few = c.args.self.now.few;
  near = c.args.self.now.near;
  known = numbers_kept _ c.args.index c.index_mut-ring.result.now c.look.new.self (within c.args.self.now c.args.index c.requires) c.index_mut-ring.ensures.value c.look.ensures.end ∙ c.args.self.now.known;
}

pub returns-clause-ends : goal.returns-clause-ends
returns-clause-ends c =
    ends_kept _ c.args.index c.index_mut-ring.result.now c.look.new.self (within c.args.self.now c.args.index c.requires) c.index_mut-ring.ensures.value c.look.ensures.end

pub returns-clause-taken : goal.returns-clause-taken
returns-clause-taken c =
    taken_kept c.args.self.now.rings.items c.args.index c.index_mut-ring.result.now c.look.new.self (within c.args.self.now c.args.index c.requires) c.index_mut-ring.ensures.value c.look.ensures.end c.look.ensures.taken
