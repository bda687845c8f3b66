-- A part more.
use Rattle.std.proofs.Common.{arith, ◌-◌, Bool, subst}
use Rattle.jffs_protocol.specs.Hearing.{TakesBytes}
use Rattle.jffs_protocol.proofs.Taking.{count_none, count_more, count_few}
use Rattle.jffs_protocol.proofs.hearing.skip.Goals as goal

pub loop-left-init : goal.loop-left-init
loop-left-init g c = record {
  in_range = omega arith;
  taken = count_none (g.R.Read.remaining c.args.input.now) (c.args.count - c.args.count) (omega arith);
}

pub loop-left-preserved : goal.loop-left-preserved
loop-left-preserved g c =
    let h = subst (λ (all : Bool). TakesBytes all (g.R.Read.remaining c.loop-left.input) (g.R.Read.remaining c.fill.new.input) c.min-part.result c.fill.new.bytes.items) c.if-not-branch.false c.in_ok-fill.ensures in
    let inside = c.loop-left.invariant.in_range in
    let part = c.min-part.ensures in
    record {
      in_range = omega (arith, inside);
      taken = count_more _ _ _ (c.args.count - c.loop-left.left) (c.args.count - (c.loop-left.left - c.min-part.result)) _ c.loop-left.invariant.taken h.1 (omega (arith, h.0, inside, part));
    }

pub returns-then-not-branch : goal.returns-then-not-branch
returns-then-not-branch g c =
    let h = subst (λ (all : Bool). TakesBytes all (g.R.Read.remaining c.loop-left.input) (g.R.Read.remaining c.fill.new.input) c.min-part.result c.fill.new.bytes.items) c.if-not-branch.true c.in_ok-fill.ensures in
    let inside = c.loop-left.invariant.in_range in
    let part = c.min-part.ensures in
    count_few _ _ _ (c.args.count - c.loop-left.left) c.min-part.result c.args.count c.loop-left.invariant.taken h (omega (arith, inside, part))
