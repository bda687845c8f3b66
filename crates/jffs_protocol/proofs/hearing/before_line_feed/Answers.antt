-- No line feed stands before the first one.
use Rattle.std.proofs.Common.{eq-eqb, arith}
use Rattle.jffs_protocol.proofs.Blocks.{none_before}
use Rattle.jffs_protocol.proofs.hearing.before_line_feed.Goals as goal

pub returns-in-Some-clause-one : goal.returns-in-Some-clause-one
returns-in-Some-clause-one c =
    let found = c.in-Some.ensures in
    none_before c.args.block.now c.in-Some.count (omega (arith, found.0.high))
    (λ k l e. found.0.before k (omega arith) l (eq-eqb _ _ e))

pub returns-in-None-clause-one : goal.returns-in-None-clause-one
returns-in-None-clause-one c =
    none_before c.args.block.now _ (omega arith) (λ k l e. c.in-None.ensures k (omega arith) l (eq-eqb _ _ e))
