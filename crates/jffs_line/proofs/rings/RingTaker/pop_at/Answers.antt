use Rattle.std.proofs.Common.{◌≡◌, ℕ, set, ◌∙◌}
use Rattle.std.proofs.lemmas.Option.{IfSome_then}
use Rattle.jffs_line.specs.Rings.{ring_taken, taken_in}
use Rattle.jffs_line.proofs.Ringing.{within, apart, numbers_kept, ends_kept, taken_kept, taken_more, if_none}
use Rattle.jffs_line.proofs.rings.RingTaker.pop_at.Goals as goal

pub invariant_of-self : goal.invariant_of-self
invariant_of-self c = record {
  some = c.args.self.now.some;
  few = c.args.self.now.few;
  near = c.args.self.now.near;
  known = numbers_kept _ c.args.index c.index_mut-ring.result.now c.pop.new.self (within c.args.self.now c.args.index c.requires) c.index_mut-ring.ensures.value c.pop.ensures.end ∙ c.args.self.now.known;
}

pub returns-clause-ends : goal.returns-clause-ends
returns-clause-ends c =
    ends_kept _ c.args.index c.index_mut-ring.result.now c.pop.new.self (within c.args.self.now c.args.index c.requires) c.index_mut-ring.ensures.value c.pop.ensures.end

pub returns-clause-some : goal.returns-clause-some
returns-clause-some c =
    let old = c.index_mut-ring.result.now in
    let rs = c.args.self.now.rings.items in
    IfSome_then c.pop.result c.pop.ensures.some
    (λ r h. taken_more rs c.args.index old c.pop.new.self r (apart c.args.self.now) (within c.args.self.now c.args.index c.requires) c.index_mut-ring.ensures.value c.pop.ensures.end h.0 h.1)

pub returns-clause-none : goal.returns-clause-none
returns-clause-none c =
    let old = c.index_mut-ring.result.now in
    let rs = c.args.self.now.rings.items in
    if_none (ring_taken c.pop.new.self ≡ ring_taken old) ((w : ℕ) → taken_in w (set rs c.args.index c.pop.new.self) ≡ taken_in w rs) c.pop.result
    (λ h. taken_kept rs c.args.index old c.pop.new.self (within c.args.self.now c.args.index c.requires) c.index_mut-ring.ensures.value c.pop.ensures.end h) c.pop.ensures.none
